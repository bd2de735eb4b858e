-- What is known of a call that was accepted, and the cases of a call's answer.
use Rattle.std.proofs.Common.{◌≡◌, ℕ, ◌<◌, Bool, true, false, ltb, Some, None, Ok, Err, Option, Result, refl, subst}
use Rattle.std.proofs.lemmas.Bool.{ltb-true}
use Rattle.keeper.specs.declared.outcome.Outcome.{Outcome}
use Rattle.keeper.specs.declared.fault.Refusal.{Refusal}
use Rattle.keeper.specs.declared.fault.Refusal.TheVariants.{NoProgram, WrongMemory, OutOfRange, StageForbids}
use Rattle.keeper.specs.declared.fault.Fault.{Fault}
use Rattle.keeper.specs.Refusals.{unless}
use Rattle.keeper.specs.Meaning.{stage_of}
use Rattle.cells_theory.specs.declared.shown.Shown.{Shown}
use Rattle.exchange_theory.specs.declared.column.Column.{Column}
use Rattle.exchange_theory.specs.declared.calls.Call.{Call}
use Rattle.exchange_theory.specs.declared.calls.Call.TheVariants.{Step}
use Rattle.exchange_theory.specs.declared.calls.Answer.{Answer}
use Rattle.exchange_theory.specs.declared.calls.Answer.TheVariants as answer
use Rattle.exchange_theory.specs.World.{World}
use Rattle.exchange_theory.specs.Table.{allows}
use Rattle.exchange_theory.specs.Order.{refuse, sized, admits, passing}
use Rattle.exchange_theory.specs.Keeping.{Steps}
use Rattle.exchange_theory.specs.Did.{AsBegun, AsStepped, AsDone, AsShown, AsSwept, Did}

-- nothing is refused: the test holds, and nothing after it refuses
pub refuse_none : (b : Bool) (r : Refusal) (rest : Option Fault) → refuse b r rest ≡ None → (b ≡ true) × (rest ≡ None)
refuse_none true r rest e = (refl, e)
refuse_none false r rest e = absurd cc

pub unless_none : (b : Bool) (r : Refusal) (rest : Option Fault) → unless b r rest ≡ None → (b ≡ true) × (rest ≡ None)
unless_none true r rest e = (refl, e)
unless_none false r rest e = absurd cc

pub passing_none : (o rest : Option Fault) → passing o rest ≡ None → (o ≡ None) × (rest ≡ None)
passing_none None rest e = (refl, e)
passing_none (Some f) rest e = absurd cc

-- what holds where a call on a program is not refused
pub record Admitted {T : Type 0} (w : World T) (p : ℕ) (ranged : Bool) (c : Column) (rest : Option Fault) : Type 0 where
  pub program : p < w.programs
  pub fits : sized w ≡ true
  pub range : ranged ≡ true
  pub seat : p < w.keeper.programs
  pub allowed : allows (stage_of w.keeper p) c ≡ true
  pub onward : rest ≡ None

pub admitted : {T : Type 0} (w : World T) (p : ℕ) (ranged : Bool) (c : Column) (rest : Option Fault) → admits w p ranged c rest ≡ None → Admitted w p ranged c rest
admitted w p ranged c rest e =
    let a = refuse_none (ltb p w.programs) NoProgram _ e in
    let b = refuse_none (sized w) WrongMemory _ a.1 in
    let d = refuse_none ranged OutOfRange _ b.1 in
    let k = unless_none (ltb p w.keeper.programs) NoProgram _ d.1 in
    let s = refuse_none (allows (stage_of w.keeper p) c) StageForbids rest k.1 in
    record {
      program = ltb-true p w.programs a.0;
      fits = b.0;
      range = d.0;
      seat = ltb-true p w.keeper.programs k.0;
      allowed = s.0;
      onward = s.1;
    }

-- the cases of an answer, for each kind of call
pub by_begun : {T : Type 0} (P : Result (Unit {0}) Fault → Type 0) (Q : Result (Answer T) Fault → Type 0) (r : Result (Answer T) Fault) → AsBegun P r
    → ((a : Answer T) → P (Ok tt) → Q (Ok a)) → ((f : Fault) → P (Err f) → Q (Err f)) → Q r
by_begun P Q (Ok answer.Begun) d ok err = ok answer.Begun d
by_begun P Q (Err f) d ok err = err f d
by_begun P Q (Ok a) d ok err = absurd d

pub by_stepped : {T : Type 0} (P : Result Outcome Fault → Type 0) (Q : Result (Answer T) Fault → Type 0) (r : Result (Answer T) Fault) → AsStepped P r
    → ((o : Outcome) → P (Ok o) → Q (Ok (answer.Stepped o))) → ((f : Fault) → P (Err f) → Q (Err f)) → Q r
by_stepped P Q (Ok (answer.Stepped o)) d ok err = ok o d
by_stepped P Q (Err f) d ok err = err f d
by_stepped P Q (Ok a) d ok err = absurd d

pub by_done : {T : Type 0} (P : Result (Unit {0}) Fault → Type 0) (Q : Result (Answer T) Fault → Type 0) (r : Result (Answer T) Fault) → AsDone P r
    → ((a : Answer T) → P (Ok tt) → Q (Ok a)) → ((f : Fault) → P (Err f) → Q (Err f)) → Q r
by_done P Q (Ok answer.Done) d ok err = ok answer.Done d
by_done P Q (Err f) d ok err = err f d
by_done P Q (Ok a) d ok err = absurd d

pub by_shown : {T : Type 0} (P : Result (Shown T) Fault → Type 0) (Q : Result (Answer T) Fault → Type 0) (r : Result (Answer T) Fault) → AsShown P r
    → ((a : Answer T) (s : Shown T) → P (Ok s) → Q (Ok a)) → ((f : Fault) → P (Err f) → Q (Err f)) → Q r
by_shown P Q (Ok (answer.Shown s)) d ok err = ok (answer.Shown s) s d
by_shown P Q (Err f) d ok err = err f d
by_shown P Q (Ok a) d ok err = absurd d

pub by_swept : {T : Type 0} (P : Result Bool Fault → Type 0) (Q : Result (Answer T) Fault → Type 0) (r : Result (Answer T) Fault) → AsSwept P r
    → ((a : Answer T) (b : Bool) → P (Ok b) → Q (Ok a)) → ((f : Fault) → P (Err f) → Q (Err f)) → Q r
by_swept P Q (Ok answer.Swept) d ok err = ok answer.Swept true d
by_swept P Q (Ok answer.Unswept) d ok err = ok answer.Unswept false d
by_swept P Q (Err f) d ok err = err f d
by_swept P Q (Ok a) d ok err = absurd d

-- what a step that came to o did
pub step_from : {T : Type 0} (c : Call T) (r : Result (Answer T) Fault) (w v : World T) (p : ℕ) (o : Outcome) → Did c r w v → c ≡ Step p → r ≡ Ok (answer.Stepped o) → Steps p (Ok o) w v
step_from {T} c r w v p o d e g = subst (λ (x : Result (Answer T) Fault). Did (Step p) x w v) g (subst (λ (x : Call T). Did x r w v) e d)
