-- The state of the announcement keeper.
use Rattle.std.specs.Prelude.{ℕ, ◌+◌, ◌*◌, List, ◌∷◌, take, replicate, slice_index_or, Some, None, Option}
use Rattle.announcement_theory.specs.declared.mark.Mark.{Mark}
use Rattle.announcement_theory.specs.declared.slot.Status.{Status}
use Rattle.announcement_theory.specs.declared.slot.Status.TheVariants.{Usable}
use Rattle.announcement_theory.specs.declared.slot.Stored.{Stored}
use Rattle.announcement_theory.specs.declared.announcement.Announcement.{Announcement}
use Rattle.announcement_theory.specs.declared.announcement.Announcement.TheVariants as announcement
use Rattle.announcement_theory.specs.declared.position.Attempt.{Attempt}
use Rattle.announcement_theory.specs.declared.position.Offer.{Offer}
use Rattle.announcement_theory.specs.declared.position.Position.{Position}
use Rattle.announcement_theory.specs.declared.position.Position.TheVariants.{Idle}
use Rattle.announcement_theory.specs.declared.seat.Seat.{Seat}

-- the version with serial n in slot j
abbrev pub mark : ℕ → ℕ → Mark
mark n j = record { serial = n; slot = j }

-- an open that began when serial n was current, and announced u last
abbrev pub attempt : ℕ → Mark → Attempt
attempt n u = record { since = n; u = u }

-- an offer of root r over a version, by slot i
abbrev pub offer : ℕ → Mark → ℕ → Offer
offer r over i = record { root = r; over = over; slot = i }

-- the place of a program that stands at a position and has an announcement
abbrev pub seat : Position → Announcement → Seat
seat at a = record { position = at; announced = a }

-- what a slot holds: the version with serial n and root r, in a status
abbrev pub stored : ℕ → ℕ → Status → Stored
stored n r st = record { serial = n; root = r; status = st }

-- nobody's place: idle, and announcing nothing
abbrev pub unseated : Seat
unseated = seat Idle announcement.Empty

-- P and L; the current version; the slots, 3 P + 1 of them; a seat for each program
pub record State : Type 0 where
  pub programs : ℕ
  pub last : ℕ
  pub current : Mark
  pub slots : List (Option Stored)
  pub seats : List Seat

-- of arrays that may be longer, the first 3 P + 1 slots and the first P seats
abbrev pub view : ℕ → ℕ → Mark → List (Option Stored) → List Seat → State
view p l c slots seats = record {
  programs = p;
  last = l;
  current = c;
  slots = take (3 * p + 1) slots;
  seats = take p seats;
}

-- slot j; beyond the last one nothing is held
abbrev pub slot_at : State → ℕ → Option Stored
slot_at s j = slice_index_or s.slots j None

-- the seat of program q; beyond the last program it is nobody's
abbrev pub seat_at : State → ℕ → Seat
seat_at s q = slice_index_or s.seats q unseated

-- where program q stands
abbrev pub position_at : State → ℕ → Position
position_at s q = (seat_at s q).position

-- what program q announces
abbrev pub announced_at : State → ℕ → Announcement
announced_at s q = (seat_at s q).announced

-- just made: slot 0 holds version 0 with root 0, usable; all else is empty, and every program is idle
abbrev pub fresh : ℕ → ℕ → State
fresh p l = record {
  programs = p;
  last = l;
  current = mark 0 0;
  slots = Some (stored 0 0 Usable) ∷ replicate (3 * p) None;
  seats = replicate p unseated;
}
