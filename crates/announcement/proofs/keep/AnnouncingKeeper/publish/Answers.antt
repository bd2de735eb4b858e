use Rattle.announcement.specs.Exact.{good}
use Rattle.announcement.proofs.Says.{publish_says}
use Rattle.announcement.proofs.keep.AnnouncingKeeper.publish.Goals as goal

pub returns-clause-says : goal.returns-clause-says
returns-clause-says c = publish_says _ (good c.args.self.now) c.args.program c.args.root _ _ c.begin_publish.ensures.after c.begin_publish.ensures.value
