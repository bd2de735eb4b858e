use Rattle.announcement.specs.Exact.{good}
use Rattle.announcement.proofs.Says.{open_says}
use Rattle.announcement.proofs.keep.AnnouncingKeeper.open.Goals as goal

pub returns-clause-says : goal.returns-clause-says
returns-clause-says c = open_says _ (good c.args.self.now) c.args.program _ _ c.begin_open.ensures.after c.begin_open.ensures.value
