-- What always holds of the announcement keeper's state. Each part speaks of the state, one program, two programs, or slots.
use Rattle.std.specs.Prelude.{◌≡◌, ℕ, ◌+◌, ◌*◌, ◌<◌, ◌≤◌, Bool, true, false, cond, ◌||◌, length, Some, Option, ◌≢◌}
use Rattle.announcement_theory.specs.declared.mark.Mark.{Mark}
use Rattle.announcement_theory.specs.declared.slot.Stored.{Stored}
use Rattle.announcement_theory.specs.declared.announcement.Announcement.{Announcement}
use Rattle.announcement_theory.specs.declared.announcement.Announcement.TheVariants as announcement
use Rattle.announcement_theory.specs.declared.seat.Seat.{Seat}
use Rattle.announcement_theory.specs.State.{State, mark, slot_at, seat_at, position_at, announced_at}
use Rattle.announcement_theory.specs.Tests.{is_mark, bears, flagged, filled, serial_in, root_in, holds, usable, pending, frozen}
use Rattle.announcement_theory.specs.Views.{manner, fits, Mentions, since, opener, ready, settled, steady, offerer, owns, seeks, over_in, owned, Closer, closer, stays, checks, past, pends, sweeps, ranged}
use Rattle.announcement_theory.specs.Shares.{accounted}

-- the version v is in its slot
abbrev pub Holds : State → Mark → Type 0
Holds s v = holds v (slot_at s v.slot) ≡ true

-- slot j is filled, and no program owns it
abbrev pub Kept : State → ℕ → Type 0
Kept s j = (filled (slot_at s j) ≡ true) × ((z : ℕ) → owned (position_at s z) ≢ Some j)

-- a close of v is at the look for programs to help
abbrev pub pends_on : Mark → Closer → Bool
pends_on v stays = false
pends_on v (checks w) = false
pends_on v (past w) = false
pends_on v (pends w a) = is_mark v w
pends_on v (sweeps w b) = false

-- a close of v is elsewhere on its way
abbrev pub leaves_on : Mark → Closer → Bool
leaves_on v stays = false
leaves_on v (checks w) = is_mark v w
leaves_on v (past w) = is_mark v w
leaves_on v (pends w a) = false
leaves_on v (sweeps w b) = is_mark v w

-- a program waits for the version v in a slot, so that it will not be forgotten there: in a pending slot the program that made it so,
-- in any other one that has v or is closing it
abbrev pub waits_on : Option Stored → Mark → Announcement → Closer → Bool
waits_on x v a c = cond (pending x) (pends_on v c) (bears v a || leaves_on v c)

-- a program in the seat x waits for the version in slot j
abbrev pub waits : State → ℕ → Seat → Bool
waits s j x = waits_on (slot_at s j) (mark (serial_in (slot_at s j)) j) x.announced (closer s.programs x.position)

-- 1 to 8 programs, three slots for each and one more, a seat for each; the last serial leaves room in 32 bits
abbrev pub Sized : State → Type 0
Sized s =
    (1 ≤ s.programs) × (s.programs ≤ 8) × (length s.slots ≡ 3 * s.programs + 1) × (length s.seats ≡ s.programs)
    × (s.last ≤ 4000000000)

-- the current serial is at most the last
abbrev pub Reached : State → Type 0
Reached s = s.current.serial ≤ s.last

-- slots and programs that a position names are there
abbrev pub Ranged : State → Type 0
Ranged s = (q : ℕ) → ranged s.programs (position_at s q) ≡ true

-- only a program itself puts up its flag, with its u; others only take a flag down, and never touch another announcement
abbrev pub Local : State → Type 0
Local s = (q : ℕ) → fits (manner (position_at s q)) (announced_at s q) ≡ true

-- what an opening program mentions was current when it began, or later
abbrev pub Since : State → Type 0
Since s = (q : ℕ) (v : Mark) → Mentions (seat_at s q) v → since (position_at s q) ≤ v.serial

-- what a program mentions was current once
abbrev pub Seen : State → Type 0
Seen s = (q : ℕ) (v : Mark) → Mentions (seat_at s q) v → (v.serial ≤ s.current.serial) × (v.slot ≤ 3 * s.programs)

-- no one knows the version in a slot that a program still owns
abbrev pub Fresh : State → Type 0
Fresh s = (q z : ℕ) (v : Mark) → Mentions (seat_at s q) v → owned (position_at s z) ≡ Some v.slot → Holds s v → ⊥

-- the current version is in its slot, usable, and no one owns the slot
abbrev pub Current : State → Type 0
Current s =
    (s.current.slot ≤ 3 * s.programs) × (usable (slot_at s s.current.slot) ≡ true)
    × (serial_in (slot_at s s.current.slot) ≡ s.current.serial) × ((z : ℕ) → owned (position_at s z) ≢ Some s.current.slot)

-- an owned slot is usable and has the offered root; over the current version it has the next serial
abbrev pub Own : State → Type 0
Own s =
    (z r : ℕ) (over : Mark) (i f : ℕ) → offerer s.programs (position_at s z) ≡ owns r over i f
    → (usable (slot_at s i) ≡ true) × (root_in (slot_at s i) ≡ r) × (is_mark over s.current ≡ true → serial_in (slot_at s i) ≡ s.current.serial + 1)

-- no two programs own one slot
abbrev pub Apart : State → Type 0
Apart s = (z y i : ℕ) → owned (position_at s z) ≡ Some i → owned (position_at s y) ≡ Some i → z ≡ y

-- no serial is kept twice
abbrev pub Distinct : State → Type 0
Distinct s = (j h : ℕ) → Kept s j → Kept s h → serial_in (slot_at s j) ≡ serial_in (slot_at s h) → j ≡ h

-- a version that is announced without help stays in its slot
abbrev pub Held : State → Type 0
Held s = (q : ℕ) (v : Mark) → announced_at s q ≡ announcement.Plain v → Holds s v

-- the flag that a program is about to take off is on a version that is not frozen
abbrev pub Valid : State → Type 0
Valid s =
    (q : ℕ) (v : Mark) → opener (position_at s q) ≡ ready → announced_at s q ≡ announcement.Help v
    → (holds v (slot_at s v.slot) ≡ true) × (frozen (slot_at s v.slot) ≡ false)

-- a close past its look at V closes an old version
abbrev pub Replaced : State → Type 0
Replaced s = (q : ℕ) (v : Mark) → closer s.programs (position_at s q) ≡ past v → is_mark v s.current ≡ false

-- while a close helps programs, its version is in its slot, pending
abbrev pub Pended : State → Type 0
Pended s =
    (z : ℕ) (v : Mark) (a : ℕ) → closer s.programs (position_at s z) ≡ pends v a
    → (holds v (slot_at s v.slot) ≡ true) × (pending (slot_at s v.slot) ≡ true)

-- one program at most helps with one version
abbrev pub Single : State → Type 0
Single s =
    (z y : ℕ) (v : Mark) (a b : ℕ) → closer s.programs (position_at s z) ≡ pends v a
    → closer s.programs (position_at s y) ≡ pends v b → z ≡ y

-- a close that helps programs leaves no flag behind that is about to be taken off
abbrev pub Helped : State → Type 0
Helped s =
    (q z : ℕ) (v : Mark) (a : ℕ) → opener (position_at s q) ≡ ready → announced_at s q ≡ announcement.Help v
    → closer s.programs (position_at s z) ≡ pends v a → a ≤ q

-- a close that looks for programs has its version frozen, if it is still in its slot
abbrev pub Froze : State → Type 0
Froze s =
    (z : ℕ) (v : Mark) (b : ℕ) → closer s.programs (position_at s z) ≡ sweeps v b → Holds s v → frozen (slot_at s v.slot) ≡ true

-- those whom it has passed do not have its version
abbrev pub Swept : State → Type 0
Swept s =
    (q z : ℕ) (v : Mark) (b : ℕ) → announced_at s q ≡ announcement.Plain v → closer s.programs (position_at s z) ≡ sweeps v b → b ≤ q

-- a kept version that no one waits for is the current one
abbrev pub Wanted : State → Type 0
Wanted s = (j : ℕ) → Kept s j → ((q : ℕ) → waits s j (seat_at s q) ≢ true) → j ≡ s.current.slot

-- whom an offer over the current version has passed and not helped, has not seen the current version change since it read it
abbrev pub Passed : State → Type 0
Passed s =
    (q z r : ℕ) (over : Mark) (i f : ℕ) → flagged (announced_at s q) ≡ true → offerer s.programs (position_at s z) ≡ owns r over i f
    → is_mark over s.current ≡ true → q < f → settled s.current (opener (position_at s q)) ≡ true

-- in its second round the current version does not change while a program asks for help
abbrev pub Steady : State → Type 0
Steady s = (q : ℕ) → flagged (announced_at s q) ≡ true → steady s.current (opener (position_at s q)) ≡ true

-- the slots that a search over the current version has found filled are accounted for
abbrev pub Searched : State → Type 0
Searched s =
    (q : ℕ) (over : Mark) (i : ℕ) → offerer s.programs (position_at s q) ≡ seeks over i → is_mark over s.current ≡ true → i ≤ accounted s i

-- an offer is over a serial below the last
abbrev pub Limited : State → Type 0
Limited s = (q : ℕ) (over : Mark) → over_in (offerer s.programs (position_at s q)) ≡ Some over → over.serial < s.last

-- all of it
pub record Good (s : State) : Type 0 where
  pub sized : Sized s
  pub reached : Reached s
  pub ranged : Ranged s
  pub local : Local s
  pub since : Since s
  pub seen : Seen s
  pub fresh : Fresh s
  pub current : Current s
  pub own : Own s
  pub apart : Apart s
  pub distinct : Distinct s
  pub held : Held s
  pub valid : Valid s
  pub replaced : Replaced s
  pub pended : Pended s
  pub single : Single s
  pub helped : Helped s
  pub froze : Froze s
  pub swept : Swept s
  pub wanted : Wanted s
  pub passed : Passed s
  pub steady : Steady s
  pub searched : Searched s
  pub limited : Limited s

-- the same as a fact that antt sees to have one proof at most, so that it can be kept beside the state
abbrev pub Always : State → Type 0
Always s = ∥ Good s ∥₁
