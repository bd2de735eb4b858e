use Rattle.desk.specs.Labels.{nowhere}
use Rattle.desk.proofs.screen.AnnouncingScreen.stands_at.Goals as goal

pub returns-in_default : goal.returns-in_default
returns-in_default c = nowhere c.args.self.now c.args.program _ c.in_default.ensures
