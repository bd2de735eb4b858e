-- Which slots give a kept version.
use Rattle.std.proofs.Common.{◌≡◌, ℕ, suc, ◌+◌, ◌*◌, ◌<◌, ◌≤◌, Bool, true, false, cond, eqb, List, [], ◌∷◌, length, get_or, Some, None, Option, sym, refl, ap, ◌∙◌, ⊎_elim, arith}
use Rattle.std.proofs.lemmas.Bool.{cases_lt, eq-eqb, ne_eqb, eqb-true}
use Rattle.std.proofs.lemmas.List.{get_or_past}
use Rattle.std.proofs.lemmas.Option.{same_Some}
use Rattle.keeper.specs.Totals.{total}
use Rattle.keeper.proofs.Totals.{total_at}
use Rattle.announcement_theory.specs.declared.slot.Stored.{Stored}
use Rattle.announcement_theory.specs.declared.seat.Seat.{Seat}
use Rattle.announcement_theory.specs.State.{State, unseated, slot_at, position_at}
use Rattle.announcement_theory.specs.Tests.{filled, serial_in, root_in}
use Rattle.announcement_theory.specs.Views.{owned}
use Rattle.announcement_theory.specs.Invariant.{Kept, Good}
use Rattle.announcement_theory.proofs.Basics.{false_true, true_false, none_some, beyond}
use Rattle.keeper.specs.declared.version.Version.{Version}
use Rattle.keeper.specs.Meaning.{version}
use Rattle.announcement_theory.specs.Means.{is_slot, owners, entry_in, entry_at}

total_zero : {A : Type 0} (f : A → ℕ) (xs : List A) (d : A) → ((q : ℕ) → f (get_or xs q d) ≡ 0) → total f xs ≡ 0
total_zero f [] d h = refl
total_zero f (x ∷ xs) d h = omega (arith, h 0, total_zero f xs d (λ q. h (suc q)))

abbrev owns_one : ℕ → Seat → ℕ
owns_one j x = is_slot j (owned x.position)

slot_none : (j : ℕ) (o : Option ℕ) → (o ≡ Some j → ⊥) → is_slot j o ≡ 0
slot_none j None h = refl
slot_none j (Some i) h = ap {B = ℕ} (λ b. cond b 1 0) (ne_eqb i j (λ (e : i ≡ j). h (ap {B = Option ℕ} Some e)))

pub slot_one : (j : ℕ) (o : Option ℕ) → o ≡ Some j → is_slot j o ≡ 1
slot_one j o e = ap (is_slot j) e ∙ ap {B = ℕ} (λ b. cond b 1 0) (eq-eqb j j refl)

module _ (s : State) where
  pub unowned_free : (j : ℕ) → ((z : ℕ) → owned (position_at s z) ≡ Some j → ⊥) → owners s j ≡ 0
  unowned_free j h = total_zero (owns_one j) s.seats unseated (λ q. slot_none j (owned (position_at s q)) (h q))

  pub owned_taken : (j z : ℕ) → owned (position_at s z) ≡ Some j → 0 < owners s j
  owned_taken j z e = ⊎_elim
      (λ (l : z < length s.seats). omega (arith, slot_one j (owned (position_at s z)) e, total_at (owns_one j) s.seats z unseated l))
      (λ (m : length s.seats ≤ z). none_some j (sym (ap (λ x. owned x.position) (beyond s z m)) ∙ e))
      (cases_lt z (length s.seats))

  entry_free : (x : Option Stored) → filled x ≡ true → entry_in x true ≡ Some (version (serial_in x) (root_in x))
  entry_free None e = false_true e
  entry_free (Some x) e = refl

  -- a kept slot gives its version
  pub entry_kept : (j : ℕ) → Kept s j → entry_at s j ≡ Some (version (serial_in (slot_at s j)) (root_in (slot_at s j)))
  entry_kept j k = ap (entry_in (slot_at s j)) (eq-eqb (owners s j) 0 (unowned_free j k.1)) ∙ entry_free (slot_at s j) k.0

  -- a slot that gives a version is kept
  entry_is : (x : Option Stored) (b : Bool) (v : Version) → entry_in x b ≡ Some v → (filled x ≡ true) × (b ≡ true) × (v ≡ version (serial_in x) (root_in x))
  entry_is None b v e = none_some v e
  entry_is (Some x) true v e = (refl, refl, sym (same_Some (version x.serial x.root) v e))
  entry_is (Some x) false v e = none_some v e

  pub kept_entry : (j : ℕ) (v : Version) → entry_at s j ≡ Some v → Kept s j × (v ≡ version (serial_in (slot_at s j)) (root_in (slot_at s j)))
  kept_entry j v e =
      let m = entry_is (slot_at s j) (eqb (owners s j) 0) v e in
      ((m.0, λ z o. omega (arith, eqb-true (owners s j) 0 m.1, owned_taken j z o)), m.2)

  -- no version from an owned slot, nor from an empty one
  pub entry_taken : (j : ℕ) → 0 < owners s j → entry_at s j ≡ None
  entry_taken j h = go (slot_at s j) (eqb (owners s j) 0) (ne_eqb (owners s j) 0 (λ (e : owners s j ≡ 0). omega arith))
    where
      go : (x : Option Stored) (b : Bool) → b ≡ false → entry_in x b ≡ None
      go None b e = refl
      go (Some x) true e = true_false e
      go (Some x) false e = refl

  pub entry_empty : (j : ℕ) → slot_at s j ≡ None → entry_at s j ≡ None
  entry_empty j e = ap (λ x. entry_in x (eqb (owners s j) 0)) e

  pub kept_in_range : Good s → (j : ℕ) → Kept s j → j < 0 + (3 * s.programs + 1)
  kept_in_range g j k = ⊎_elim
      (λ (l : j < length s.slots). omega (arith, g.sized.2))
      (λ (m : length s.slots ≤ j). false_true (sym (ap filled (get_or_past s.slots j None m)) ∙ k.0))
      (cases_lt j (length s.slots))
