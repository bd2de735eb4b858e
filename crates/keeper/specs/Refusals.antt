-- Refusals: the number of each, the layer, and which stage or number is turned down with which.
use Rattle.std.specs.Prelude.{◌≡◌, ℕ, ◌<◌, ◌≤◌, Bool, true, false, ◌&&◌, Some, Ok, Err, Option, Result, nat_le}
use Rattle.keeper.specs.declared.stage.Stage.{Stage}
use Rattle.keeper.specs.declared.stage.Stage.TheVariants.{Open}
use Rattle.keeper.specs.declared.fault.Refusal.{Refusal}
use Rattle.keeper.specs.declared.fault.Refusal.TheVariants.{NoProgram, WrongMemory, OutOfRange, Limits, StageForbids, PlaceEmpty, NoCell, NoFreeCell, LastSerial, Damaged}
use Rattle.keeper.specs.declared.fault.Layer.{Layer}
use Rattle.keeper.specs.declared.fault.Layer.TheVariants.{Keeper}
use Rattle.keeper.specs.declared.fault.Fault.{Fault}
use Rattle.keeper.specs.Stages.{has, idle, opened, closable, moving}

-- the number of each refusal
abbrev pub number_of : Refusal → ℕ
number_of NoProgram = 1
number_of WrongMemory = 2
number_of OutOfRange = 3
number_of Limits = 4
number_of StageForbids = 11
number_of PlaceEmpty = 12
number_of NoCell = 13
number_of NoFreeCell = 14
number_of LastSerial = 15
number_of Damaged = 16

-- a refusal found by a layer
abbrev pub fault_by : Layer → Refusal → Fault
fault_by l r = record { refusal = r; layer = l }

-- a refusal found by a keeper, which names itself
abbrev pub fault : Refusal → Fault
fault r = fault_by Keeper r

-- where the test fails the refusal r comes, before any that is tried after it
abbrev pub unless : Bool → Refusal → Option Fault → Option Fault
unless true r rest = rest
unless false r rest = Some (fault r)

-- 1 to 8 programs, and a last serial of 1 to 4,000,000,000
abbrev pub limits : ℕ → ℕ → Bool
limits p l = (nat_le 1 p && nat_le p 8) && (nat_le 1 l && nat_le l 4000000000)

-- a keeper can be made within the limits, and is refused 4 outside them
abbrev pub MayMake : ℕ → ℕ → Result (Unit {0}) Fault → Type 0
MayMake p l (Ok a) = limits p l ≡ true
MayMake p l (Err f) = (limits p l ≡ false) × (f ≡ fault Limits)

-- what a stage allows, with the serial that is offered over or closed
abbrev pub MayOpen : Stage → Result (Unit {0}) Fault → Type 0
MayOpen st (Ok a) = idle st ≡ true
MayOpen st (Err f) = (idle st ≡ false) × (f ≡ fault StageForbids)

abbrev pub MayPublish : Stage → Result ℕ Fault → Type 0
MayPublish st (Ok s) = st ≡ Open s
MayPublish st (Err f) = (opened st ≡ false) × (f ≡ fault StageForbids)

abbrev pub MayClose : Stage → Result ℕ Fault → Type 0
MayClose st (Ok s) = (closable st ≡ true) × (has st ≡ Some s)
MayClose st (Err f) = (closable st ≡ false) × (f ≡ fault StageForbids)

abbrev pub MayStep : Stage → Result (Unit {0}) Fault → Type 0
MayStep st (Ok a) = moving st ≡ true
MayStep st (Err f) = (moving st ≡ false) × (f ≡ fault StageForbids)

-- the place of program p among n
abbrev pub Seated : ℕ → ℕ → Result ℕ Fault → Type 0
Seated n p (Ok i) = (i ≡ p) × (p < n)
Seated n p (Err f) = (n ≤ p) × (f ≡ fault NoProgram)
