use Rattle.announcement.specs.Exact.{publish_kept}
use Rattle.announcement.proofs.state.Announcing.begin_publish.Goals as goal

pub invariant_of-self : goal.invariant_of-self
invariant_of-self c = record {
  always = publish_kept c.args.self.now _ _ c.in_ok-p.ensures _ c.stage_of.ensures _ c.args.root _ c.in_ok-may_publish.ensures c.if-self.false c.publish.ensures;
}
