-- What always holds has one proof at most, so it may be kept as a truncated fact and used in full.
use mathlib.Core.Logic.{∥∥₁_elim}
use std.HLevel.{Π_prop}
use denote.Struct.Props.{props}
use Rattle.announcement_theory.specs.State.{State}
use Rattle.announcement_theory.specs.Invariant.{Sized, Reached, Ranged, Local, Since, Seen, Fresh, Current, Own, Apart, Distinct, Held, Valid, Replaced, Pended, Single, Helped, Froze, Swept, Wanted, Passed, Steady, Searched, Limited, Good, Always}

module _ (s : State) where
  sized_prop : IsProp (Sized s)
  sized_prop = hlevel props

  reached_prop : IsProp (Reached s)
  reached_prop = hlevel props

  ranged_prop : IsProp (Ranged s)
  ranged_prop = hlevel props

  local_prop : IsProp (Local s)
  local_prop = hlevel props

  since_prop : IsProp (Since s)
  since_prop = hlevel props

  seen_prop : IsProp (Seen s)
  seen_prop = hlevel props

  fresh_prop : IsProp (Fresh s)
  fresh_prop = hlevel props

  current_prop : IsProp (Current s)
  current_prop = hlevel props

  own_prop : IsProp (Own s)
  own_prop = Π_prop (λ z. Π_prop (λ r. Π_prop (λ over. Π_prop (λ i. Π_prop (λ f. Π_prop (λ e. hlevel props))))))

  apart_prop : IsProp (Apart s)
  apart_prop = hlevel props

  distinct_prop : IsProp (Distinct s)
  distinct_prop = hlevel props

  held_prop : IsProp (Held s)
  held_prop = hlevel props

  valid_prop : IsProp (Valid s)
  valid_prop = hlevel props

  replaced_prop : IsProp (Replaced s)
  replaced_prop = hlevel props

  pended_prop : IsProp (Pended s)
  pended_prop = hlevel props

  single_prop : IsProp (Single s)
  single_prop = Π_prop (λ z. Π_prop (λ y. Π_prop (λ v. Π_prop (λ a. Π_prop (λ b. Π_prop (λ e. Π_prop (λ f. hlevel props)))))))

  helped_prop : IsProp (Helped s)
  helped_prop = Π_prop (λ q. Π_prop (λ z. Π_prop (λ v. Π_prop (λ a. Π_prop (λ o. Π_prop (λ e. Π_prop (λ c. hlevel props)))))))

  froze_prop : IsProp (Froze s)
  froze_prop = hlevel props

  swept_prop : IsProp (Swept s)
  swept_prop = hlevel props

  wanted_prop : IsProp (Wanted s)
  wanted_prop = hlevel props

  passed_prop : IsProp (Passed s)
  passed_prop = Π_prop (λ q. Π_prop (λ z. Π_prop
      (λ r. Π_prop (λ over. Π_prop (λ i. Π_prop (λ f. Π_prop (λ a. Π_prop (λ e. Π_prop (λ c. Π_prop (λ l. hlevel props))))))))))

  steady_prop : IsProp (Steady s)
  steady_prop = hlevel props

  searched_prop : IsProp (Searched s)
  searched_prop = hlevel props

  limited_prop : IsProp (Limited s)
  limited_prop = hlevel props

  pub good_prop : IsProp (Good s)
  good_prop a b = λ i. record {
    sized = sized_prop a.sized b.sized i;
    reached = reached_prop a.reached b.reached i;
    ranged = ranged_prop a.ranged b.ranged i;
    local = local_prop a.local b.local i;
    since = since_prop a.since b.since i;
    seen = seen_prop a.seen b.seen i;
    fresh = fresh_prop a.fresh b.fresh i;
    current = current_prop a.current b.current i;
    own = own_prop a.own b.own i;
    apart = apart_prop a.apart b.apart i;
    distinct = distinct_prop a.distinct b.distinct i;
    held = held_prop a.held b.held i;
    valid = valid_prop a.valid b.valid i;
    replaced = replaced_prop a.replaced b.replaced i;
    pended = pended_prop a.pended b.pended i;
    single = single_prop a.single b.single i;
    helped = helped_prop a.helped b.helped i;
    froze = froze_prop a.froze b.froze i;
    swept = swept_prop a.swept b.swept i;
    wanted = wanted_prop a.wanted b.wanted i;
    passed = passed_prop a.passed b.passed i;
    steady = steady_prop a.steady b.steady i;
    searched = searched_prop a.searched b.searched i;
    limited = limited_prop a.limited b.limited i;
  }

  -- the fact in full
  pub surely : Always s → Good s
  surely t = ∥∥₁_elim t good_prop (λ g. g)

  pub always : Good s → Always s
  always g = ∣ g ∣₁
