-- Calls of several programs, one after the other, and what an open among them comes to.
use Rattle.std.specs.Prelude.{◌≡◌, ℕ, zero, suc, ◌<◌, ◌≤◌, cond, List, [], ◌∷◌, ◌++◌, map, Some, Ok, Err, Result, ◌==◌, ◌≢◌, slice_index_or}
use Rattle.std.specs.Borrow.{Bor}
use Rattle.keeper.specs.declared.stage.Stage.TheVariants.{Open as OpenOn}
use Rattle.keeper.specs.declared.outcome.Outcome.{Outcome}
use Rattle.keeper.specs.declared.fault.Fault.{Fault}
use Rattle.keeper.specs.declared.client.Action.{Action}
use Rattle.keeper.specs.declared.client.Action.TheVariants.{Open, Publish, Close, Step}
use Rattle.keeper.specs.declared.client.Opened.{Opened}
use Rattle.keeper.specs.Meaning.{Meaning, Laws, stage_of, copies}
use Rattle.keeper.specs.Effects.{open_fault, OpenDone, OpenSays, PublishSays, CloseSays, StepSays}

-- the program that makes a call
abbrev pub actor : Action → ℕ
actor (Open p) = p
actor (Publish p r) = p
actor (Close p) = p
actor (Step p) = p

-- the call leads from m to n, with some answer
abbrev pub Made : Action → Meaning → Meaning → Type 0
Made (Open p) m n = (r : Result (Unit {0}) Fault) × OpenSays m p n r
Made (Publish p root) m n = (r : Result (Unit {0}) Fault) × PublishSays m p root n r
Made (Close p) m n = (r : Result (Unit {0}) Fault) × CloseSays m p n r
Made (Step p) m n = (r : Result Outcome Fault) × StepSays m p n r

-- the calls, the latest first, lead from m to n; each meaning on the way is a moment
pub data Course : List Action → Meaning → Meaning → Type 0 where
  here : {m : Meaning} → Laws m → Course [] m m
  after : {cs : List Action} {m n o : Meaning} (a : Action) → Course cs m n → Made a n o → Laws o → Course (a ∷ cs) m o

-- the same, and no call is program p's own
pub data MadeByOthers (p : ℕ) : List Action → Meaning → Meaning → Type 0 where
  none : {m : Meaning} → Laws m → MadeByOthers p [] m m
  more : {cs : List Action} {m n o : Meaning} (a : Action) → MadeByOthers p cs m n → (actor a ≢ p) → Made a n o → Laws o → MadeByOthers p (a ∷ cs) m o

-- those of the calls that are not p's own, the latest first, before earlier ones
abbrev pub others_of : ℕ → List Action → List Action → List Action
others_of p [] earlier = earlier
others_of p (a ∷ cs) earlier = others_of p cs (cond (actor a == p) earlier (a ∷ earlier))

-- what a list of lent lists holds
abbrev pub calls_in : List (Bor (List Action)) → List (List Action)
calls_in rs = map (λ r. r.now) rs

-- the calls of the first k turns, the latest first: in a turn the others make theirs, then p makes a step
abbrev pub turns : ℕ → List (List Action) → ℕ → List Action
turns p others zero = []
turns p others (suc k) = Step p ∷ (others_of p (slice_index_or others k []) [] ++ turns p others k)

-- from m, program p's open ended in n on a version that was current at a moment since its call and that is kept,
-- after at most the declared number of p's own steps, whatever the others did
pub record EndsOpen (m : Meaning) (p : ℕ) (others : List (List Action)) (n : Meaning) (v : Opened) : Type 0 where
  -- the moment after the call of open, and the one at which the version was current
  pub called : Meaning
  pub moment : Meaning
  pub earlier : List Action
  pub later : List Action
  pub begins : OpenDone m p called
  pub calls : turns p others v.steps ≡ later ++ earlier
  pub before : Course earlier called moment
  pub onward : Course later moment n
  pub current : moment.current ≡ v.version
  pub stage : stage_of n p ≡ OpenOn v.version.serial
  pub kept : 0 < copies v.version n.kept
  pub steps : v.steps ≤ m.declared.opening

-- an open among the calls of others: refused as `open` is, and then nothing is altered; else it ends as above
abbrev pub OpenedAmong : Meaning → ℕ → List (List Action) → Meaning → Result Opened Fault → Type 0
OpenedAmong m p others n (Ok v) = EndsOpen m p others n v
OpenedAmong m p others n (Err f) = (open_fault m p ≡ Some f) × (n ≡ m)
