-- Refusals in their order, and what a call says: it is refused with the first that applies, and then alters nothing.
use Rattle.std.specs.Prelude.{◌≡◌, ℕ, ◌<◌, Bool, true, false, ◌&&◌, length, Some, None, Ok, Err, Option, Result, ◌==◌, nat_lt}
use Rattle.keeper.specs.declared.fault.Refusal.{Refusal}
use Rattle.keeper.specs.declared.fault.Refusal.TheVariants.{NoProgram, WrongMemory, OutOfRange, StageForbids, PlaceEmpty}
use Rattle.keeper.specs.declared.fault.Layer.TheVariants as layer
use Rattle.keeper.specs.declared.fault.Fault.{Fault}
use Rattle.keeper.specs.Refusals.{fault_by, unless}
use Rattle.keeper.specs.Meaning.{stage_of}
use Rattle.exchange_theory.specs.declared.column.Column.{Column}
use Rattle.exchange_theory.specs.World.{World}
use Rattle.exchange_theory.specs.Table.{allows}

-- a refusal that the exchange finds itself
abbrev pub own_fault : Refusal → Fault
own_fault r = fault_by layer.Exchange r

-- where the test fails the exchange refuses with r, before anything that is tried after it
abbrev pub refuse : Bool → Refusal → Option Fault → Option Fault
refuse true r rest = rest
refuse false r rest = Some (own_fault r)

-- a fault of a layer below, if there is one, is passed on as it came
abbrev pub passing : Option Fault → Option Fault → Option Fault
passing None rest = rest
passing (Some f) rest = Some f

-- the fault of an answer, if it is refused
abbrev pub fault_of : {A : Type 0} → Result A Fault → Option Fault
fault_of (Ok a) = None
fault_of (Err f) = Some f

-- refused 12 where a named place is empty
abbrev pub filled : Option ℕ → Option Fault → Option Fault
filled None rest = Some (own_fault PlaceEmpty)
filled (Some c) rest = rest

-- the cells and leaves lent are as many as at the making
abbrev pub sized : {T : Type 0} → World T → Bool
sized w = length w.cells == w.size && length w.leaves == w.size

-- what each call on a program is tried for first: 1 a program of P or more, 2 other memory than that of the making, 3 a place above 7
-- or a field above 3; then the stage is asked for, and a keeper for fewer programs refuses that; 11 the stage forbids the call
abbrev pub admits : {T : Type 0} → World T → ℕ → Bool → Column → Option Fault → Option Fault
admits w p ranged c rest =
    refuse (nat_lt p w.programs) NoProgram
    (refuse (sized w) WrongMemory
    (refuse ranged OutOfRange
    (unless (nat_lt p w.keeper.programs) NoProgram
    (refuse (allows (stage_of w.keeper p) c) StageForbids rest))))

-- a call on a program comes past these tests: whatever is tried after them decides
pub record Passes {T : Type 0} (w : World T) (p : ℕ) (ranged : Bool) (c : Column) : Type 0 where
  pub program : p < w.programs
  pub cells : length w.cells ≡ w.size
  pub leaves : length w.leaves ≡ w.size
  pub range : ranged ≡ true
  pub onward : (rest : Option Fault) → admits w p ranged c rest ≡ rest

-- whether it does; where not, these tests decide
abbrev pub Admits : {T : Type 0} → World T → ℕ → Bool → Column → Result (Unit {0}) Fault → Type 0
Admits w p ranged c (Ok u) = Passes w p ranged c
Admits w p ranged c (Err f) = (rest : Option Fault) → admits w p ranged c rest ≡ Some f

-- a call from w to v refuses exactly where `refusal` names a fault, and then alters nothing; else `Accepted` holds of its answer
abbrev pub Turns : {T A : Type 0} → Option Fault → World T → World T → (A → Type 0) → Result A Fault → Type 0
Turns refusal w v Accepted (Ok a) = (refusal ≡ None) × Accepted a
Turns refusal w v Accepted (Err f) = (refusal ≡ Some f) × (v ≡ w)
