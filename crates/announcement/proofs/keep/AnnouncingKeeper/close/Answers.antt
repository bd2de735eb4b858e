use Rattle.announcement.specs.Exact.{good}
use Rattle.announcement.proofs.Says.{close_says}
use Rattle.announcement.proofs.keep.AnnouncingKeeper.close.Goals as goal

pub returns-clause-says : goal.returns-clause-says
returns-clause-says c = close_says _ (good c.args.self.now) c.args.program _ _ c.begin_close.ensures.after c.begin_close.ensures.value
