-- Equal versions, options and slots, and what a change of one seat leaves.
use Rattle.std.proofs.Common.{◌≡◌, ℕ, ◌<◌, ◌≤◌, Bool, true, false, eqb, length, Some, None, Option, sym, refl, ap, ◌∙◌, subst, ⊎_elim, arith, get_or-set_other, get_or-set_same}
use Rattle.std.proofs.lemmas.Bool.{cases_eq, eq-eqb, eqb-true, and_parts, and_from, false≢true, true≢false}
use Rattle.std.proofs.lemmas.List.{get_or_past}
use Rattle.std.proofs.lemmas.Bool.Decides.{nat_tests}
use Rattle.std.proofs.lemmas.Option.{none-some, same_Some}
use Rattle.announcement_theory.specs.declared.mark.Mark.{Mark}
use Rattle.announcement_theory.specs.declared.slot.Status.{Status}
use Rattle.announcement_theory.specs.declared.slot.Status.TheVariants.{Usable, Pending, Frozen}
use Rattle.announcement_theory.specs.declared.slot.Stored.{Stored}
use Rattle.announcement_theory.specs.declared.announcement.Announcement.{Announcement}
use Rattle.announcement_theory.specs.declared.announcement.Announcement.TheVariants as announcement
use Rattle.announcement_theory.specs.declared.position.Position.{Position}
use Rattle.announcement_theory.specs.declared.position.Position.TheVariants.{Offering}
use Rattle.announcement_theory.specs.declared.position.OfferLabel.TheVariants.{F1, F2, F3}
use Rattle.announcement_theory.specs.declared.seat.Seat.{Seat}
use Rattle.announcement_theory.specs.State.{State, mark, unseated, seat_at}
use Rattle.announcement_theory.specs.Tests.{is_mark, asks, bears, filled, serial_in, holds, is_usable, is_pending, is_frozen, usable, pending, frozen}
use Rattle.announcement_theory.specs.Next.{put}
use Rattle.announcement_theory.specs.Views.{Manner, silent, asking, holding, fits, offerer, owns, owned_in, owned, Offerer, aside, seeks}

pub false_true : {A : Type 0} → false ≡ true → A
false_true e = absurd (false≢true e)

pub true_false : {A : Type 0} → true ≡ false → A
true_false e = absurd (true≢false e)

pub clash : {A : Type 0} (b : Bool) → b ≡ true → b ≡ false → A
clash b e f = false_true (sym f ∙ e)

pub none_some : {A B : Type 0} (a : A) → ◌≡◌ {A = Option A} None (Some a) → B
none_some a e = absurd (none-some a e)

pub mark_same : (v w : Mark) → is_mark v w ≡ true → v ≡ w
mark_same v w e =
    let b = and_parts (eqb v.serial w.serial) (eqb v.slot w.slot) e in
    let n = eqb-true v.serial w.serial b.0 in
    let j = eqb-true v.slot w.slot b.1 in
    ap (λ k. mark k v.slot) n ∙ ap (mark w.serial) j

pub mark_self : (v : Mark) → is_mark v v ≡ true
mark_self v = and_from (eqb v.serial v.serial) (eqb v.slot v.slot) (eq-eqb v.serial v.serial refl) (eq-eqb v.slot v.slot refl)

pub same_mark : (v w : Mark) → v ≡ w → is_mark v w ≡ true
same_mark v w e = subst (λ x. is_mark v x ≡ true) e (mark_self v)

pub mark_flip : (v w : Mark) → is_mark v w ≡ is_mark w v
mark_flip v w = grind (arith, nat_tests)

-- a version in its slot, and other facts of slots
pub holds_filled : (v : Mark) (x : Option Stored) → holds v x ≡ true → filled x ≡ true
holds_filled v None e = e
holds_filled v (Some x) e = refl

pub holds_serial : (v : Mark) (x : Option Stored) → holds v x ≡ true → serial_in x ≡ v.serial
holds_serial v None e = false_true e
holds_serial v (Some x) e = eqb-true x.serial v.serial e

pub serial_holds : (v : Mark) (x : Option Stored) → filled x ≡ true → serial_in x ≡ v.serial → holds v x ≡ true
serial_holds v None f e = f
serial_holds v (Some x) f e = eq-eqb x.serial v.serial e

pub usable_filled : (x : Option Stored) → usable x ≡ true → filled x ≡ true
usable_filled None e = e
usable_filled (Some x) e = refl

-- what is usable is not pending and not frozen, and what is pending is not frozen
only_usable : (st : Status) → is_usable st ≡ true → (is_pending st ≡ false) × (is_frozen st ≡ false)
only_usable Usable e = (refl, refl)
only_usable Pending e = false_true e
only_usable Frozen e = false_true e

only_pending : (st : Status) → is_pending st ≡ true → is_frozen st ≡ false
only_pending Usable e = refl
only_pending Pending e = refl
only_pending Frozen e = false_true e

pub usable_pending : (x : Option Stored) → usable x ≡ true → pending x ≡ false
usable_pending None e = refl
usable_pending (Some x) e = (only_usable x.status e).0

pub usable_frozen : (x : Option Stored) → usable x ≡ true → frozen x ≡ false
usable_frozen None e = refl
usable_frozen (Some x) e = (only_usable x.status e).1

pub pending_frozen : (x : Option Stored) → pending x ≡ true → frozen x ≡ false
pending_frozen None e = refl
pending_frozen (Some x) e = only_pending x.status e

-- the slot of an owner, whatever number of programs it counts with
pub owned_is : (all : ℕ) (at : Position) → owned_in (offerer all at) ≡ owned at
owned_is all (Offering o F1) = refl
owned_is all (Offering o (F2 x)) = refl
owned_is all (Offering o F3) = refl
owned_is all _ = refl

pub owner_owns : (all : ℕ) (at : Position) (r : ℕ) (over : Mark) (i f : ℕ) → offerer all at ≡ owns r over i f → owned at ≡ Some i
owner_owns all at r over i f e = sym (owned_is all at) ∙ ap owned_in e

-- what is behind an owned slot
pub record Owner (o : Offerer) (i : ℕ) : Type 0 where
  pub root : ℕ
  pub over : Mark
  pub passed : ℕ
  pub «is» : o ≡ owns root over i passed

owner_in : (o : Offerer) (i : ℕ) → owned_in o ≡ Some i → Owner o i
owner_in aside i e = none_some i e
owner_in (seeks over j) i e = none_some i e
owner_in (owns r over j f) i e = record { root = r; over = over; passed = f; is = ap (λ k. owns r over k f) (same_Some j i e) }

pub owner_of : (all : ℕ) (at : Position) (i : ℕ) → owned at ≡ Some i → Owner (offerer all at) i
owner_of all at i e = owner_in (offerer all at) i (owned_is all at ∙ e)

-- a flag is on the u of an opening program
pub flag_asks : (m : Manner) (v : Mark) → fits m (announcement.Help v) ≡ true → m ≡ asking v
flag_asks silent v e = false_true e
flag_asks (asking u) v e = ap asking (mark_same u v e)
flag_asks (holding u) v e = false_true e

pub holding_plain : (u : Mark) (a : Announcement) → fits (holding u) a ≡ true → a ≡ announcement.Plain u
holding_plain u announcement.Empty e = false_true e
holding_plain u (announcement.Plain v) e = ap announcement.Plain (sym (mark_same u v e))
holding_plain u (announcement.Help v) e = false_true e

pub silent_empty : (a : Announcement) → fits silent a ≡ true → a ≡ announcement.Empty
silent_empty announcement.Empty e = refl
silent_empty (announcement.Plain v) e = false_true e
silent_empty (announcement.Help v) e = false_true e

pub asks_help : (v : Mark) (a : Announcement) → asks v a ≡ true → a ≡ announcement.Help v
asks_help v announcement.Empty e = false_true e
asks_help v (announcement.Plain w) e = false_true e
asks_help v (announcement.Help w) e = ap announcement.Help (sym (mark_same v w e))

pub bears_plain : (v : Mark) (a : Announcement) → bears v a ≡ true → a ≡ announcement.Plain v
bears_plain v announcement.Empty e = false_true e
bears_plain v (announcement.Plain w) e = ap announcement.Plain (sym (mark_same v w e))
bears_plain v (announcement.Help w) e = false_true e

-- an asking program that does not ask for u is bound
pub asking_bound : (u : Mark) (a : Announcement) → fits (asking u) a ≡ true → asks u a ≡ false → (v : Mark) × (a ≡ announcement.Plain v)
asking_bound u announcement.Empty e f = false_true e
asking_bound u (announcement.Plain v) e f = (v, refl)
asking_bound u (announcement.Help v) e f = clash (is_mark u v) e f

-- what a change of the seat of p leaves
module _ (s : State) (p : ℕ) (x : Seat) (here : p < length s.seats) where
  pub at_same : seat_at (put s p x) p ≡ x
  at_same = get_or-set_same s.seats p x unseated here

  pub at_other : (q : ℕ) → (q ≡ p → ⊥) → seat_at (put s p x) q ≡ seat_at s q
  at_other q ne = get_or-set_other s.seats p q x unseated ne

  -- a fact of each seat
  pub at_each : (Q : ℕ → Seat → Type 0) → Q p x → ((q : ℕ) → (q ≡ p → ⊥) → Q q (seat_at s q)) → (q : ℕ) → Q q (seat_at (put s p x) q)
  at_each Q new old q = ⊎_elim
      (λ (e : q ≡ p). subst (λ k. Q k (seat_at (put s p x) k)) (sym e) (subst (Q p) (sym at_same) new))
      (λ (ne : q ≡ p → ⊥). subst (Q q) (sym (at_other q ne)) (old q ne))
      (cases_eq q p)

  -- a fact of each two seats
  pub at_two : (Q : ℕ → Seat → ℕ → Seat → Type 0) → Q p x p x → ((z : ℕ) → (z ≡ p → ⊥) → Q p x z (seat_at s z))
      → ((q : ℕ) → (q ≡ p → ⊥) → Q q (seat_at s q) p x)
      → ((q z : ℕ) → (q ≡ p → ⊥) → (z ≡ p → ⊥) → Q q (seat_at s q) z (seat_at s z))
      → (q z : ℕ) → Q q (seat_at (put s p x) q) z (seat_at (put s p x) z)
  at_two Q self new_old old_new old q = at_each (λ q y. (z : ℕ) → Q q y z (seat_at (put s p x) z))
      (at_each (Q p x) self new_old)
      (λ q ne. at_each (Q q (seat_at s q)) (old_new q ne) (λ z zn. old q z ne zn)) q

-- a seat that is not there is nobody's
pub beyond : (s : State) (q : ℕ) → length s.seats ≤ q → seat_at s q ≡ unseated
beyond s q h = get_or_past s.seats q unseated h
