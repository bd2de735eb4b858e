use Rattle.announcement.specs.Exact.{root_says}
use Rattle.announcement.proofs.keep.AnnouncingEnquiry.root.Goals as goal

pub returns-in-Some : goal.returns-in-Some
returns-in-Some c = root_says c.args.self.now _ _ c.in_ok-p.ensures _ c.stage_of.ensures _ _ c.in-Some.ensures (cc)
