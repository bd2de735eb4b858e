-- A new keeper is good.
use Rattle.std.proofs.Common.{◌≡◌, ℕ, zero, suc, ◌+◌, ◌*◌, ◌<◌, ◌≤◌, true, false, ◌&&◌, leb, replicate, Some, None, Option, sym, refl, ap, ◌∙◌, subst, inl, inr, ⊎_elim, arith}
use Rattle.keeper.specs.Refusals.{limits}
use Rattle.std.proofs.lemmas.Bool.{and_parts, leb-true, cases_lt}
use Rattle.std.proofs.lemmas.List.{get_or_past, get_or-replicate, length-replicate}
use Rattle.announcement_theory.specs.declared.mark.Mark.{Mark}
use Rattle.announcement_theory.specs.declared.slot.Stored.{Stored}
use Rattle.announcement_theory.specs.declared.announcement.Announcement.TheVariants as announcement
use Rattle.announcement_theory.specs.declared.seat.Seat.{Seat}
use Rattle.announcement_theory.specs.State.{State, unseated, slot_at, seat_at, position_at, fresh}
use Rattle.announcement_theory.specs.Tests.{is_mark, flagged, filled, serial_in, root_in, holds, usable, pending, frozen}
use Rattle.announcement_theory.specs.Views.{manner, fits, Mentions, since, ready, opener, settled, steady, seeks, owns, offerer, owned, over_in, past, pends, sweeps, closer, ranged}
use Rattle.announcement_theory.specs.Shares.{accounted}
use Rattle.announcement_theory.specs.Invariant.{Holds, Good}
use Rattle.announcement_theory.proofs.Basics.{false_true, none_some}

none_mentioned : {A : Type 0} (v : Mark) → Mentions unseated v → A
none_mentioned v (inl e) = none_some v e
none_mentioned v (inr (inl e)) = none_some v e
none_mentioned v (inr (inr e)) = none_some v e

module _ (p l : ℕ) (few : (1 ≤ p) × (p ≤ 8)) (most : l ≤ 4000000000) where
  abbrev s : State
  s = fresh p l

  empty_seat : (q : ℕ) → seat_at s q ≡ unseated
  empty_seat q = ⊎_elim
      (λ (h : q < p). get_or-replicate p q unseated unseated h)
      (λ (h : p ≤ q). get_or_past (replicate p unseated) q unseated (omega (arith, length-replicate p unseated)))
      (cases_lt q p)

  empty_slot : (j : ℕ) → slot_at s (suc j) ≡ None
  empty_slot j = ⊎_elim
      (λ (h : j < 3 * p). get_or-replicate (3 * p) j None None h)
      (λ (h : 3 * p ≤ j). get_or_past (replicate (3 * p) None) j None (omega (arith, length-replicate {A = Option Stored} (3 * p) None)))
      (cases_lt j (3 * p))

  only_first : (j : ℕ) → filled (slot_at s j) ≡ true → j ≡ 0
  only_first zero e = refl
  only_first (suc j) e = false_true (sym (ap filled (empty_slot j)) ∙ e)

  -- a fact of an empty seat is a fact of every seat
  each : (Q : Seat → Type 0) → Q unseated → (q : ℕ) → Q (seat_at s q)
  each Q h q = subst Q (sym (empty_seat q)) h

  pub fresh_good : Good (fresh p l)
  fresh_good = record {
    sized = (few.0, few.1, omega (arith, length-replicate {A = Option Stored} (3 * p) None), length-replicate p unseated, most);
    reached = omega arith;
    ranged = each (λ x. ranged p x.position ≡ true) refl;
    local = each (λ x. fits (manner x.position) x.announced ≡ true) refl;
    since = each (λ x. (v : Mark) → Mentions x v → since x.position ≤ v.serial) (λ v m. none_mentioned v m);
    seen = each (λ x. (v : Mark) → Mentions x v → (v.serial ≤ 0) × (v.slot ≤ 3 * p)) (λ v m. none_mentioned v m);
    fresh = λ q z v. each (λ x. Mentions x v → owned (position_at s z) ≡ Some v.slot → Holds s v → ⊥) (λ m. none_mentioned v m) q;
    current = (omega arith, refl, refl, each (λ x. owned x.position ≡ Some 0 → ⊥) (λ e. none_some 0 e));
    own = each (λ x. (r : ℕ) (over : Mark) (i f : ℕ) → offerer p x.position ≡ owns r over i f
        → (usable (slot_at s i) ≡ true) × (root_in (slot_at s i) ≡ r) ×
        (is_mark over s.current ≡ true → serial_in (slot_at s i) ≡ s.current.serial + 1))
        (λ r over i f e. let z : ◌≡◌ {A = ℕ} 0 1 = cc in absurd (omega arith));
    apart = λ z y i. each (λ x. owned x.position ≡ Some i → owned (position_at s y) ≡ Some i → z ≡ y) (λ e f. none_some i e) z;
    distinct = λ j k a b e. only_first j a.0 ∙ sym (only_first k b.0);
    held = each (λ x. (v : Mark) → x.announced ≡ announcement.Plain v → Holds s v) (λ v e. let z : ◌≡◌ {A = ℕ} 0 1 = cc in absurd (omega arith));
    valid = each (λ x. (v : Mark) → opener x.position ≡ ready → x.announced ≡ announcement.Help v
        → (holds v (slot_at s v.slot) ≡ true) × (frozen (slot_at s v.slot) ≡ false))
        (λ v o e. let z : ◌≡◌ {A = ℕ} 0 1 = cc in absurd (omega arith));
    replaced = each (λ x. (v : Mark) → closer p x.position ≡ past v → is_mark v s.current ≡ false)
        (λ v e. let z : ◌≡◌ {A = ℕ} 0 1 = cc in absurd (omega arith));
    pended = each (λ x. (v : Mark) (a : ℕ) → closer p x.position ≡ pends v a → (holds v (slot_at s v.slot) ≡ true) ×
        (pending (slot_at s v.slot) ≡ true))
        (λ v a e. let z : ◌≡◌ {A = ℕ} 0 1 = cc in absurd (omega arith));
    single = λ z y v a b. each (λ x. closer p x.position ≡ pends v a → closer p (position_at s y) ≡ pends v b → z ≡ y)
        (λ e f. let z : ◌≡◌ {A = ℕ} 0 1 = cc (e) in absurd (omega arith)) z;
    helped = λ q z v a. each (λ x. opener x.position ≡ ready → x.announced ≡ announcement.Help v → closer p (position_at s z) ≡ pends v a → a ≤ q)
        (λ o e c. let z : ◌≡◌ {A = ℕ} 0 1 = cc (o) in absurd (omega arith)) q;
    froze = each (λ x. (v : Mark) (b : ℕ) → closer p x.position ≡ sweeps v b → Holds s v → frozen (slot_at s v.slot) ≡ true)
        (λ v b e. let z : ◌≡◌ {A = ℕ} 0 1 = cc in absurd (omega arith));
    swept = λ q z v b. each (λ x. x.announced ≡ announcement.Plain v → closer p (position_at s z) ≡ sweeps v b → b ≤ q)
        (λ e c. let z : ◌≡◌ {A = ℕ} 0 1 = cc (e) in absurd (omega arith)) q;
    wanted = λ j k none. only_first j k.0;
    passed = λ q z r over i f. each (λ x. flagged x.announced ≡ true → offerer p (position_at s z) ≡ owns r over i f
        → is_mark over s.current ≡ true → q < f → settled s.current (opener x.position) ≡ true) (λ a. false_true a) q;
    steady = each (λ x. flagged x.announced ≡ true → steady s.current (opener x.position) ≡ true) (λ a. false_true a);
    searched = λ q over i. each (λ x. offerer p x.position ≡ seeks over i → is_mark over s.current ≡ true → i ≤ accounted s i)
        (λ e. let z : ◌≡◌ {A = ℕ} 0 1 = cc in absurd (omega arith)) q;
    limited = λ q over. each (λ x. over_in (offerer p x.position) ≡ Some over → over.serial < s.last) (λ e. none_some over e) q;
  }

-- the same, within the limits of a making
pub made_good : (p l : ℕ) → limits p l ≡ true → Good (fresh p l)
made_good p l e =
    let a = and_parts (leb 1 p && leb p 8) (leb 1 l && leb l 4000000000) e in
    let b = and_parts (leb 1 p) (leb p 8) a.0 in
    let c = and_parts (leb 1 l) (leb l 4000000000) a.1 in
    fresh_good p l (leb-true 1 p b.0, leb-true p 8 b.1) (leb-true l 4000000000 c.1)
