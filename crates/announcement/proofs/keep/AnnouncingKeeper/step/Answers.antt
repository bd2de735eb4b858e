use Rattle.announcement.specs.Exact.{good}
use Rattle.announcement.proofs.Says.{step_says}
use Rattle.announcement.proofs.keep.AnnouncingKeeper.step.Goals as goal

pub returns-clause-says : goal.returns-clause-says
returns-clause-says c = step_says _ (good c.args.self.now) c.args.program _ _ c.take_step.ensures.after c.take_step.ensures.value
