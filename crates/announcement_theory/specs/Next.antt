-- What each call does to the state, exactly: the beginnings of the three operations, and the step of each label.
use Rattle.std.specs.Prelude.{ℕ, ◌+◌, ◌*◌, cond, Some, None, Option, ◌==◌, nat_lt, slice_set}
use Rattle.keeper.specs.declared.outcome.Outcome.{Outcome}
use Rattle.keeper.specs.declared.outcome.Outcome.TheVariants.{GoesOn, Opened, Accepted, Stale, Nothing, HandedOut}
use Rattle.announcement_theory.specs.declared.mark.Mark.{Mark}
use Rattle.announcement_theory.specs.declared.slot.Status.{Status}
use Rattle.announcement_theory.specs.declared.slot.Status.TheVariants.{Usable, Pending, Frozen}
use Rattle.announcement_theory.specs.declared.slot.Stored.{Stored}
use Rattle.announcement_theory.specs.declared.announcement.Announcement.{Announcement}
use Rattle.announcement_theory.specs.declared.announcement.Announcement.TheVariants as announcement
use Rattle.announcement_theory.specs.declared.position.Round.{Round}
use Rattle.announcement_theory.specs.declared.position.Round.TheVariants.{First, Second}
use Rattle.announcement_theory.specs.declared.position.Position.{Position}
use Rattle.announcement_theory.specs.declared.position.Position.TheVariants.{Idle, Opening, Open, Offering, Offered, Closing}
use Rattle.announcement_theory.specs.declared.position.OpenLabel.TheVariants.{O1, O2, O3, O4, O5, O6}
use Rattle.announcement_theory.specs.declared.position.OfferLabel.TheVariants.{F1, F2, F3}
use Rattle.announcement_theory.specs.declared.position.CloseLabel.TheVariants.{C1, C2, C3, C4, C5, C6, C7}
use Rattle.announcement_theory.specs.declared.seat.Seat.{Seat}
use Rattle.announcement_theory.specs.State.{State, mark, seat, stored, slot_at, position_at, announced_at, offer, attempt}
use Rattle.announcement_theory.specs.Views.{about}
use Rattle.announcement_theory.specs.Tests.{is_mark, asks, bears, flagged, version_in, serial_in, restated}

-- a state after a step, and what the step answers
pub record Stepped : Type 0 where
  pub after : State
  pub outcome : Outcome

-- the two together
abbrev pub stepped : State → Outcome → Stepped
stepped s o = record { after = s; outcome = o }

-- program p takes another seat
abbrev pub put : State → ℕ → Seat → State
put s p x = record {
  programs = s.programs;
  last = s.last;
  current = s.current;
  slots = s.slots;
  seats = slice_set s.seats p x;
}

-- slot j becomes another
abbrev pub fill : State → ℕ → Option Stored → State
fill s j x = record {
  programs = s.programs;
  last = s.last;
  current = s.current;
  slots = slice_set s.slots j x;
  seats = s.seats;
}

-- v becomes current
abbrev pub advance : State → Mark → State
advance s v = record {
  programs = s.programs;
  last = s.last;
  current = v;
  slots = s.slots;
  seats = s.seats;
}

-- program p goes to another label, with the announcement that it has
abbrev pub go_to : State → ℕ → Position → State
go_to s p at = put s p (seat at (announced_at s p))

-- program x gets another announcement where it stands
abbrev pub announce : State → ℕ → Announcement → State
announce s x a = put s x (seat (position_at s x) a)

-- the operation goes on at another label
abbrev pub goes : State → ℕ → Position → Stepped
goes s p at = stepped (go_to s p at) GoesOn

-- an open ends on the version that the announcement a has
abbrev pub opens_on : State → ℕ → Announcement → Stepped
opens_on s p a = stepped (put s p (seat (Open (version_in a)) a)) (Opened (version_in a).serial)

-- the operation goes on, over the next program, or after the last one at another label
abbrev pub next_or : {A : Type 0} → ℕ → ℕ → A → A → A
next_or programs x next last = cond (nat_lt (x + 1) programs) next last

-- an offer gives up: its own slot i is emptied
abbrev pub stales : State → ℕ → Mark → ℕ → Stepped
stales s p over i = stepped (go_to (fill s i None) p (Offered over)) Stale

-- F1 at slot i, which holds the last argument
abbrev pub searches : State → ℕ → ℕ → Mark → ℕ → Option Stored → Stepped
searches s p r over i None = goes (fill s i (Some (stored (s.current.serial + 1) r Usable))) p (Offering (offer r over i) (F2 0))
searches s p r over i (Some x) =
    cond (nat_lt i (3 * s.programs)) (goes s p (Offering (offer r over (i + 1)) F1)) (stepped (go_to s p (Offered over)) Stale)

-- C3 at the slot of v, which holds version n with root r, in the status of the last argument
abbrev pub looks_on : State → ℕ → Mark → ℕ → ℕ → Status → Stepped
looks_on s p v n r Usable =
    cond (n == v.serial) (goes (fill s v.slot (Some (stored n r Pending))) p (Closing v (C4 0))) (stepped (go_to s p Idle) Nothing)
looks_on s p v n r Pending = stepped (go_to s p Idle) Nothing
looks_on s p v n r Frozen = cond (n == v.serial) (goes s p (Closing v (C6 0))) (stepped (go_to s p Idle) Nothing)

-- C3 at the slot of v, which holds the last argument
abbrev pub looks : State → ℕ → Mark → Option Stored → Stepped
looks s p v None = stepped (go_to s p Idle) Nothing
looks s p v (Some x) = looks_on s p v x.serial x.root x.status

-- C7 at the slot of v, which holds version n in the status of the last argument
abbrev pub hands_on : State → ℕ → Mark → ℕ → Status → Stepped
hands_on s p v n Usable = stepped (go_to s p Idle) Nothing
hands_on s p v n Pending = stepped (go_to s p Idle) Nothing
hands_on s p v n Frozen =
    cond (n == v.serial) (stepped (go_to (fill s v.slot None) p Idle) (HandedOut v.serial)) (stepped (go_to s p Idle) Nothing)

-- C7 at the slot of v, which holds the last argument
abbrev pub hands : State → ℕ → Mark → Option Stored → Stepped
hands s p v None = stepped (go_to s p Idle) Nothing
hands s p v (Some x) = hands_on s p v x.serial x.status

-- O6 when u is no longer current: a second round, and after that the end
abbrev pub again : State → ℕ → ℕ → Mark → Round → Stepped
again s p since u First = goes s p (Opening (attempt since u) (O4 Second))
again s p since u Second = opens_on s p (announced_at s p)

-- a step of program p at each label; at the others no step is allowed, and nothing happens
abbrev pub step_at : State → ℕ → Position → Stepped
step_at s p Idle = stepped s GoesOn
step_at s p (Opening t O1) = stepped (put s p (seat (Opening t O2) (announcement.Help t.u))) GoesOn
step_at s p (Opening t O2) = cond (is_mark s.current t.u) (goes s p (Opening t O3)) (goes s p (Opening t (O4 First)))
step_at s p (Opening t O3) =
    cond (asks t.u (announced_at s p)) (opens_on s p (announcement.Plain t.u)) (opens_on s p (announced_at s p))
step_at s p (Opening t (O4 round)) = goes s p (Opening t (O5 s.current round))
step_at s p (Opening t (O5 w round)) =
    cond (asks t.u (announced_at s p))
    (stepped (put s p (seat (Opening (attempt t.since w) (O6 round)) (announcement.Help w))) GoesOn)
    (opens_on s p (announced_at s p))
step_at s p (Opening t (O6 round)) = cond (is_mark s.current t.u) (goes s p (Opening t O3)) (again s p t.since t.u round)
step_at s p (Open v) = stepped s GoesOn
step_at s p (Offering o F1) = searches s p o.root o.over o.slot (slot_at s o.slot)
step_at s p (Offering o (F2 x)) =
    cond (flagged (announced_at s x))
    (cond (is_mark s.current o.over)
    (goes (announce s x (announcement.Plain o.over)) p (Offering o (next_or s.programs x (F2 (x + 1)) F3)))
    (stales s p o.over o.slot))
    (goes s p (Offering o (next_or s.programs x (F2 (x + 1)) F3)))
step_at s p (Offering o F3) =
    cond (is_mark s.current o.over)
    (stepped (go_to (advance s (mark (serial_in (slot_at s o.slot)) o.slot)) p (Offered o.over)) (Accepted (serial_in (slot_at s o.slot))))
    (stales s p o.over o.slot)
step_at s p (Offered v) = stepped s GoesOn
step_at s p (Closing v C1) = stepped (put s p (seat (Closing v C2) announcement.Empty)) GoesOn
step_at s p (Closing v C2) = cond (is_mark s.current v) (stepped (go_to s p Idle) Nothing) (goes s p (Closing v C3))
step_at s p (Closing v C3) = looks s p v (slot_at s v.slot)
step_at s p (Closing v (C4 x)) =
    cond (asks v (announced_at s x))
    (goes (announce s x (announcement.Plain v)) p (Closing v (next_or s.programs x (C4 (x + 1)) C5)))
    (goes s p (Closing v (next_or s.programs x (C4 (x + 1)) C5)))
step_at s p (Closing v C5) = goes (fill s v.slot (restated Frozen (slot_at s v.slot))) p (Closing v (C6 0))
step_at s p (Closing v (C6 x)) =
    cond (bears v (announced_at s x))
    (stepped (go_to s p Idle) Nothing)
    (goes s p (Closing v (next_or s.programs x (C6 (x + 1)) C7)))
step_at s p (Closing v C7) = hands s p v (slot_at s v.slot)

-- a step of program p where it stands
abbrev pub step : State → ℕ → Stepped
step s p = step_at s p (position_at s p)

-- the version, where there is one
abbrev pub version_or : Option Mark → Mark
version_or None = mark 0 0
version_or (Some v) = v

-- the version that a program is about: at open and offered the one that it has
abbrev pub version_had : Position → Mark
version_had at = version_or (about at)

-- open begins with u the current version
abbrev pub opens : State → ℕ → State
opens s p = go_to s p (Opening (attempt s.current.serial s.current) O1)

-- publish begins at slot 0
abbrev pub publishes : State → ℕ → ℕ → State
publishes s p r = go_to s p (Offering (offer r (version_had (position_at s p)) 0) F1)

-- close begins with the own announcement still there
abbrev pub closes : State → ℕ → State
closes s p = go_to s p (Closing (version_had (position_at s p)) C1)
