-- What a write to one slot leaves of the other programs.
use Rattle.std.proofs.Common.{◌≡◌, ℕ, ◌+◌, ◌<◌, true, false, length, Some, Option, None, sym, ap, ◌∙◌, subst, ⊎_elim, length-set, get_or-set_other, get_or-set_same}
use Rattle.std.proofs.lemmas.Bool.{cases_eq}
use Rattle.announcement_theory.specs.declared.mark.Mark.{Mark}
use Rattle.announcement_theory.specs.declared.slot.Stored.{Stored}
use Rattle.announcement_theory.specs.declared.announcement.Announcement.TheVariants as announcement
use Rattle.announcement_theory.specs.State.{State, slot_at, seat_at, position_at, announced_at}
use Rattle.announcement_theory.specs.Tests.{is_mark, serial_in, root_in, holds, usable, pending, frozen}
use Rattle.announcement_theory.specs.Next.{fill}
use Rattle.announcement_theory.specs.Views.{Mentions, ready, opener, owns, offerer, owned, pends, sweeps, closer}
use Rattle.announcement_theory.specs.Invariant.{Good}
use Rattle.announcement_theory.proofs.Good.{Other, Rest}

-- a program other than p keeps what it has where slot j becomes y
pub record Written (s : State) (p j : ℕ) (y : Option Stored) : Type 0 where
  pub fresh : (q z : ℕ) → Other p q → Other p z → (v : Mark) → v.slot ≡ j → Mentions (seat_at s q) v → owned (position_at s z) ≡ Some j
      → holds v y ≡ true → ⊥
  pub current : s.current.slot ≡ j → (usable y ≡ true) × (serial_in y ≡ s.current.serial)
  pub own :
      (z : ℕ) → Other p z → (r : ℕ) (over : Mark) (f : ℕ) → offerer s.programs (position_at s z) ≡ owns r over j f
      → (usable y ≡ true) × (root_in y ≡ r) × (is_mark over s.current ≡ true → serial_in y ≡ s.current.serial + 1)
  pub held : (q : ℕ) → Other p q → (v : Mark) → v.slot ≡ j → announced_at s q ≡ announcement.Plain v → holds v y ≡ true
  pub valid :
      (q : ℕ) → Other p q → (v : Mark) → v.slot ≡ j → opener (position_at s q) ≡ ready → announced_at s q ≡ announcement.Help v
      → (holds v y ≡ true) × (frozen y ≡ false)
  pub pended :
      (z : ℕ) → Other p z → (v : Mark) (a : ℕ) → v.slot ≡ j → closer s.programs (position_at s z) ≡ pends v a
      → (holds v y ≡ true) × (pending y ≡ true)
  pub froze : (z : ℕ) → Other p z → (v : Mark) (b : ℕ) → v.slot ≡ j → closer s.programs (position_at s z) ≡ sweeps v b → holds v y ≡ true
      → frozen y ≡ true

module _ (s : State) (j : ℕ) (y : Option Stored) (here : j < length s.slots) where
  pub slot_same : slot_at (fill s j y) j ≡ y
  slot_same = get_or-set_same s.slots j y None here

  pub slot_other : (h : ℕ) → (h ≡ j → ⊥) → slot_at (fill s j y) h ≡ slot_at s h
  slot_other h ne = get_or-set_other s.slots j h y None ne

  -- a fact of slot h, which is j or not
  pub slot_each : (Q : Option Stored → Type 0) (h : ℕ) → (h ≡ j → Q y) → ((h ≡ j → ⊥) → Q (slot_at s h)) → Q (slot_at (fill s j y) h)
  slot_each Q h new old = ⊎_elim
      (λ (e : h ≡ j). subst (λ k. Q (slot_at (fill s j y) k)) (sym e) (subst Q (sym slot_same) (new e)))
      (λ (ne : h ≡ j → ⊥). subst Q (sym (slot_other h ne)) (old ne))
      (cases_eq h j)

  -- the same, read back
  pub slot_back : (Q : Option Stored → Type 0) (R : Type 0) (h : ℕ) → Q (slot_at (fill s j y) h) → (h ≡ j → Q y → R) → ((h ≡ j → ⊥) → Q (slot_at s h) → R) → R
  slot_back Q R h q new old = ⊎_elim
      (λ (e : h ≡ j). new e (subst Q slot_same (subst (λ k. Q (slot_at (fill s j y) k)) e q)))
      (λ (ne : h ≡ j → ⊥). old ne (subst Q (slot_other h ne) q))
      (cases_eq h j)

  pub written : (g : Good s) (p : ℕ) → Written s p j y → Rest (fill s j y) p
  written g p w = record {
    sized = simp length-set g.sized;
    reached = g.reached;
    ranged = λ q ne. g.ranged q;
    local = λ q ne. g.local q;
    since = λ q ne. g.since q;
    seen = λ q ne. g.seen q;
    fresh = λ q z ne zn v m e t. slot_back (λ x. holds v x ≡ true) ⊥ v.slot t
        (λ k u. w.fresh q z ne zn v k m (e ∙ ap {B = Option ℕ} Some k) u)
        (λ _ u. g.fresh q z v m e u);
    current = (
      g.current.0,
      slot_each (λ x. usable x ≡ true) s.current.slot (λ e. (w.current e).0) (λ _. g.current.1),
      slot_each (λ x. serial_in x ≡ s.current.serial) s.current.slot (λ e. (w.current e).1) (λ _. g.current.2),
      λ z ne. g.current.3 z,
    );
    own = λ z ne r over i f e. slot_each
        (λ x. (usable x ≡ true) × (root_in x ≡ r) × (is_mark over s.current ≡ true → serial_in x ≡ s.current.serial + 1)) i
        (λ k. w.own z ne r over f (e ∙ ap (λ n. owns r over n f) k))
        (λ _. g.own z r over i f e);
    apart = λ z u ne un. g.apart z u;
    held = λ q ne v e. slot_each (λ x. holds v x ≡ true) v.slot (λ k. w.held q ne v k e) (λ _. g.held q v e);
    valid = λ q ne v o e. slot_each (λ x. (holds v x ≡ true) × (frozen x ≡ false)) v.slot (λ k. w.valid q ne v k o e) (λ _. g.valid q v o e);
    replaced = λ q ne. g.replaced q;
    pended = λ z ne v a e. slot_each (λ x. (holds v x ≡ true) × (pending x ≡ true)) v.slot (λ k. w.pended z ne v a k e) (λ _. g.pended z v a e);
    single = λ z u ne un. g.single z u;
    helped = λ q z ne zn. g.helped q z;
    froze = λ z ne v b e t. slot_each (λ x. holds v x ≡ true → frozen x ≡ true) v.slot (λ k. w.froze z ne v b k e) (λ _. g.froze z v b e) t;
    swept = λ q z ne zn. g.swept q z;
    passed = λ q z ne zn. g.passed q z;
    steady = λ q ne. g.steady q;
    limited = λ q ne. g.limited q;
  }
