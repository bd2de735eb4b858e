-- What a state means as a keeper of versions.
use Rattle.std.specs.Prelude.{ℕ, zero, suc, ◌+◌, ◌-◌, ◌*◌, Bool, true, false, cond, List, [], ◌∷◌, map, Some, None, Option, ◌==◌}
use Rattle.keeper.specs.declared.version.Version.{Version}
use Rattle.keeper.specs.declared.stage.Stage.{Stage}
use Rattle.keeper.specs.declared.stage.Stage.TheVariants as stage
use Rattle.keeper.specs.Totals.{total}
use Rattle.keeper.specs.Meaning.{Meaning, version}
use Rattle.announcement_theory.specs.declared.slot.Stored.{Stored}
use Rattle.announcement_theory.specs.declared.announcement.Announcement.{Announcement}
use Rattle.announcement_theory.specs.declared.announcement.Announcement.TheVariants as announcement
use Rattle.announcement_theory.specs.declared.position.Round.{Round}
use Rattle.announcement_theory.specs.declared.position.Round.TheVariants.{First, Second}
use Rattle.announcement_theory.specs.declared.position.Label.{Label}
use Rattle.announcement_theory.specs.declared.position.Label.TheVariants as label
use Rattle.announcement_theory.specs.declared.position.Position.{Position}
use Rattle.announcement_theory.specs.declared.position.Position.TheVariants.{Idle, Opening, Open, Offering, Offered, Closing}
use Rattle.announcement_theory.specs.declared.position.OpenLabel.{OpenLabel}
use Rattle.announcement_theory.specs.declared.position.OpenLabel.TheVariants.{O1, O2, O3, O4, O5, O6}
use Rattle.announcement_theory.specs.declared.position.OfferLabel.{OfferLabel}
use Rattle.announcement_theory.specs.declared.position.OfferLabel.TheVariants.{F1, F2, F3}
use Rattle.announcement_theory.specs.declared.position.CloseLabel.{CloseLabel}
use Rattle.announcement_theory.specs.declared.position.CloseLabel.TheVariants.{C1, C2, C3, C4, C5, C6, C7}
use Rattle.announcement_theory.specs.declared.seat.Seat.{Seat}
use Rattle.announcement_theory.specs.State.{State, slot_at}
use Rattle.announcement_theory.specs.Tests.{root_in}
use Rattle.announcement_theory.specs.Views.{owned}

-- the serial that an opening program is bound to: that of an announcement without help
abbrev pub bound : Announcement → Option ℕ
bound announcement.Empty = None
bound (announcement.Plain v) = Some v.serial
bound (announcement.Help v) = None

-- the stage of a program at each label
abbrev pub stage_from : Announcement → Position → Stage
stage_from a Idle = stage.Idle
stage_from a (Opening t at) = stage.Opening t.since (bound a)
stage_from a (Open v) = stage.Open v.serial
stage_from a (Offering o at) = stage.Offering o.root o.over.serial
stage_from a (Offered v) = stage.Offered v.serial
stage_from a (Closing v at) = stage.Closing v.serial

-- the stage of a program by its seat
abbrev pub stage_in : Seat → Stage
stage_in x = stage_from x.announced x.position

-- the first number in round 1, the second in round 2
abbrev pub in_round : Round → ℕ → ℕ → ℕ
in_round First a b = a
in_round Second a b = b

-- the steps of the longest way to an end, where there are `all` programs
abbrev pub left_at : ℕ → Position → ℕ
left_at all Idle = 0
left_at all (Opening t O1) = 9
left_at all (Opening t O2) = 8
left_at all (Opening t O3) = 1
left_at all (Opening t (O4 round)) = in_round round 7 4
left_at all (Opening t (O5 w round)) = in_round round 6 3
left_at all (Opening t (O6 round)) = in_round round 5 2
left_at all (Open v) = 0
left_at all (Offering o F1) = 4 * all + 2 - o.slot
left_at all (Offering o (F2 x)) = all + 1 - x
left_at all (Offering o F3) = 1
left_at all (Offered v) = 0
left_at all (Closing v C1) = 2 * all + 5
left_at all (Closing v C2) = 2 * all + 4
left_at all (Closing v C3) = 2 * all + 3
left_at all (Closing v (C4 x)) = 2 * all + 2 - x
left_at all (Closing v C5) = all + 2
left_at all (Closing v (C6 x)) = all + 1 - x
left_at all (Closing v C7) = 1

-- the labels of an open, of an offer and of a close, by their names alone
abbrev pub open_label : OpenLabel → Label
open_label O1 = label.O1
open_label O2 = label.O2
open_label O3 = label.O3
open_label (O4 round) = label.O4
open_label (O5 w round) = label.O5
open_label (O6 round) = label.O6

abbrev pub offer_label : OfferLabel → Label
offer_label F1 = label.F1
offer_label (F2 x) = label.F2
offer_label F3 = label.F3

abbrev pub close_label : CloseLabel → Label
close_label C1 = label.C1
close_label C2 = label.C2
close_label C3 = label.C3
close_label (C4 x) = label.C4
close_label C5 = label.C5
close_label (C6 x) = label.C6
close_label C7 = label.C7

-- the label of an operation under way
abbrev pub label_of : Position → Option Label
label_of Idle = None
label_of (Opening t at) = Some (open_label at)
label_of (Open v) = None
label_of (Offering o at) = Some (offer_label at)
label_of (Offered v) = None
label_of (Closing v at) = Some (close_label at)

-- 1 where the slot is j
abbrev pub is_slot : ℕ → Option ℕ → ℕ
is_slot j None = 0
is_slot j (Some i) = cond (i == j) 1 0

-- how many programs own slot j
abbrev pub owners : State → ℕ → ℕ
owners s j = total (λ (x : Seat). is_slot j (owned x.position)) s.seats

-- the version in a slot, if no one owns it
abbrev pub entry_in : Option Stored → Bool → Option Version
entry_in None free = None
entry_in (Some x) true = Some (version x.serial x.root)
entry_in (Some x) false = None

-- the version that slot j keeps: that of a program still offering is not kept
abbrev pub entry_at : State → ℕ → Option Version
entry_at s j = entry_in (slot_at s j) (owners s j == 0)

-- one more in front, where there is one
abbrev pub ahead : Option Version → List Version → List Version
ahead None vs = vs
ahead (Some v) vs = v ∷ vs

-- what f has from i on, for n places
abbrev pub gathered : (ℕ → Option Version) → ℕ → ℕ → List Version
gathered f i zero = []
gathered f i (suc n) = ahead (f i) (gathered f (suc i) n)

-- the kept versions, in the order of their slots
abbrev pub kept_of : State → List Version
kept_of s = gathered (entry_at s) 0 (3 * s.programs + 1)

-- the meaning of a state: the kept versions are those in slots, an opening program is bound by an announcement without help
abbrev pub meaning_of : State → Meaning
meaning_of s = record {
  programs = s.programs;
  last = s.last;
  current = version s.current.serial (root_in (slot_at s s.current.slot));
  kept = kept_of s;
  stages = map stage_in s.seats;
  left = map (λ (x : Seat). left_at s.programs x.position) s.seats;
  declared = record { opening = 9; offering = 4 * s.programs + 2; closing = 2 * s.programs + 5 };
}
