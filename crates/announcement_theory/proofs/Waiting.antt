-- Who waits for a version mentions it, so no kept serial is beyond the current one.
use Rattle.std.proofs.Common.{◌≡◌, ℕ, ◌<◌, ◌≤◌, Bool, true, false, cond, ◌||◌, ◌⊎◌, Some, Option, sym, ap, ◌∙◌, inl, inr, ⊎_elim, arith}
use Rattle.std.proofs.lemmas.Bool.{cases_lt, or_cases}
use Rattle.announcement_theory.specs.declared.mark.Mark.{Mark}
use Rattle.announcement_theory.specs.declared.slot.Stored.{Stored}
use Rattle.announcement_theory.specs.declared.announcement.Announcement.{Announcement}
use Rattle.announcement_theory.specs.declared.announcement.Announcement.TheVariants as announcement
use Rattle.announcement_theory.specs.State.{State, mark, slot_at, seat_at, position_at, announced_at}
use Rattle.announcement_theory.specs.Tests.{bears, serial_in, pending}
use Rattle.announcement_theory.specs.Views.{Mentions, Closer, stays, checks, past, pends, sweeps, closer}
use Rattle.announcement_theory.specs.Invariant.{Holds, Kept, pends_on, leaves_on, waits_on, waits, Good}
use Rattle.announcement_theory.proofs.Basics.{false_true, mark_same, holds_filled, holds_serial, serial_holds, usable_filled, bears_plain}
use Rattle.announcement_theory.proofs.Roles.{closed, closing_about}
use Rattle.announcement_theory.proofs.Fillings.{says_mentions}

pub pends_closed : (v : Mark) (c : Closer) → pends_on v c ≡ true → closed c ≡ Some v
pends_closed v stays e = false_true e
pends_closed v (checks w) e = false_true e
pends_closed v (past w) e = false_true e
pends_closed v (pends w a) e = ap {B = Option Mark} Some (sym (mark_same v w e))
pends_closed v (sweeps w b) e = false_true e

pub leaves_closed : (v : Mark) (c : Closer) → leaves_on v c ≡ true → closed c ≡ Some v
leaves_closed v stays e = false_true e
leaves_closed v (checks w) e = ap {B = Option Mark} Some (sym (mark_same v w e))
leaves_closed v (past w) e = ap {B = Option Mark} Some (sym (mark_same v w e))
leaves_closed v (pends w a) e = false_true e
leaves_closed v (sweeps w b) e = ap {B = Option Mark} Some (sym (mark_same v w e))

-- who waits for v announces it without help, or is closing it
pub waits_how : (x : Option Stored) (v : Mark) (a : Announcement) (c : Closer) → waits_on x v a c ≡ true → (a ≡ announcement.Plain v) ⊎ (closed c ≡ Some v)
waits_how x v a c e = go (pending x) e
  where
    go : (b : Bool) → cond b (pends_on v c) (bears v a || leaves_on v c) ≡ true → (a ≡ announcement.Plain v) ⊎ (closed c ≡ Some v)
    go true f = inr (pends_closed v c f)
    go false f = ⊎_elim
        (λ (l : bears v a ≡ true). inl (bears_plain v a l))
        (λ (r : leaves_on v c ≡ true). inr (leaves_closed v c r))
        (or_cases (bears v a) (leaves_on v c) f)

module _ (s : State) (g : Good s) where
  pub waits_mentions : (j q : ℕ) → waits s j (seat_at s q) ≡ true → Mentions (seat_at s q) (mark (serial_in (slot_at s j)) j)
  waits_mentions j q e =
      let v = mark (serial_in (slot_at s j)) j in
      ⊎_elim
      (λ (l : announced_at s q ≡ announcement.Plain v). says_mentions s q v l)
      (λ (r : closed (closer s.programs (position_at s q)) ≡ Some v). inl (closing_about s.programs (position_at s q) v r))
      (waits_how (slot_at s j) v (announced_at s q) (closer s.programs (position_at s q)) e)

  pub kept_seen : (j : ℕ) → Kept s j → serial_in (slot_at s j) ≤ s.current.serial
  kept_seen j k = ⊎_elim
      (λ (l : s.current.serial < serial_in (slot_at s j)).
      let is : j ≡ s.current.slot = g.wanted j k (λ q e. omega (arith, (g.seen q (mark (serial_in (slot_at s j)) j) (waits_mentions j q e)).0)) in
      omega (arith, ap (λ n. serial_in (slot_at s n)) is, g.current.2))
      (λ (m : serial_in (slot_at s j) ≤ s.current.serial). m)
      (cases_lt s.current.serial (serial_in (slot_at s j)))

  -- the current version is in its slot
  pub current_stands : Holds s s.current
  current_stands = serial_holds s.current (slot_at s s.current.slot) (usable_filled (slot_at s s.current.slot) g.current.1)
      g.current.2

  -- a version that is mentioned and in its slot is kept
  pub mentioned_kept : (q : ℕ) (v : Mark) → Mentions (seat_at s q) v → Holds s v → Kept s v.slot
  mentioned_kept q v m t = (holds_filled v (slot_at s v.slot) t, λ z e. g.fresh q z v m e t)

  pub current_kept : Kept s s.current.slot
  current_kept = (usable_filled (slot_at s s.current.slot) g.current.1, g.current.3)

  -- of such versions the one with the current serial is the current one
  pub current_only : (q : ℕ) (v : Mark) → Mentions (seat_at s q) v → Holds s v → v.serial ≡ s.current.serial → v ≡ s.current
  current_only q v m t e =
      let j : v.slot ≡ s.current.slot = g.distinct v.slot s.current.slot (mentioned_kept q v m t) current_kept
      (holds_serial v (slot_at s v.slot) t ∙ e ∙ sym g.current.2) in
      ap (λ k. mark k v.slot) e ∙ ap (mark s.current.serial) j
