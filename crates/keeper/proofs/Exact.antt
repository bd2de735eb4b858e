-- From the exact state and answer of a call to what the interface says of it; and a call that is refused or carried out.
-- S is the state of some keeper, of which `meaning` tells what it means.
use Rattle.std.proofs.Common.{◌≡◌, Some, None, Ok, Err, Option, Result, sym, refl, ap, subst}
use Rattle.keeper.specs.declared.fault.Fault.{Fault}
use Rattle.keeper.specs.Meaning.{Meaning}
use Rattle.keeper.specs.Effects.{Acts, answer, settled}

-- a call with the fault x, if any, that else leads to w and answers a
pub refused_state : {S : Type 0} (x : Option Fault) (f : Fault) (v w : S) → x ≡ Some f → v ≡ settled x v w
refused_state x f v w e = sym (ap (λ y. settled y v w) e)

pub refused_answer : {A : Type 0} (x : Option Fault) (f : Fault) (a : A) → x ≡ Some f → Err f ≡ answer x a
refused_answer x f a e = sym (ap (λ y. answer y a) e)

pub done_state : {S : Type 0} (x : Option Fault) (v w : S) → x ≡ None → w ≡ settled x v w
done_state x v w e = sym (ap (λ y. settled y v w) e)

pub done_answer : {A : Type 0} (x : Option Fault) (a : A) → x ≡ None → Ok a ≡ answer x a
done_answer x a e = sym (ap (λ y. answer y a) e)

-- it acts, as the interface says, if what it leads to is right where it is not refused
pub acts : {S A : Type 0} (meaning : S → Meaning) (x : Option Fault) (v w after : S) (a : A) (r : Result A Fault) (Done : Meaning → A → Type 0)
    → after ≡ settled x v w → r ≡ answer x a → (x ≡ None → Done (meaning w) a) → Acts x (meaning v) (meaning after) (Done (meaning after)) r
acts {S = S} {A = A} meaning x v w after a r Done e f done =
    subst (λ (s : S). Acts x (meaning v) (meaning s) (Done (meaning s)) r) (sym e)
    (subst (λ (y : Result A Fault). Acts x (meaning v) (meaning (settled x v w)) (Done (meaning (settled x v w))) y) (sym f) (go x refl done))
  where
    go : (y : Option Fault) → x ≡ y → (x ≡ None → Done (meaning w) a) → Acts x (meaning v) (meaning (settled y v w)) (Done (meaning (settled y v w))) (answer y a)
    go None e done = (e, done e)
    go (Some f) e done = (e, refl)
