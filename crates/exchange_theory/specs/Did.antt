-- What a call did, with its answer: the relation of its own function, at the answer that this function gave.
use Rattle.std.specs.Prelude.{Bool, true, false, Ok, Err, Result}
use Rattle.keeper.specs.declared.outcome.Outcome.{Outcome}
use Rattle.keeper.specs.declared.fault.Fault.{Fault}
use Rattle.cells_theory.specs.declared.shown.Shown.{Shown}
use Rattle.exchange_theory.specs.declared.calls.Call.{Call}
use Rattle.exchange_theory.specs.declared.calls.Call.TheVariants.{Open, Publish, Close, Step, Root, Down, Look, Build, Sweep}
use Rattle.exchange_theory.specs.declared.calls.Answer.{Answer}
use Rattle.exchange_theory.specs.declared.calls.Answer.TheVariants as answer
use Rattle.exchange_theory.specs.World.{World}
use Rattle.exchange_theory.specs.Keeping.{Opens, Publishes, Closes, Steps}
use Rattle.exchange_theory.specs.Reading.{Roots, Downs, Looks}
use Rattle.exchange_theory.specs.Building.{Builds, Sweeps}

-- an open, a publish or a close answers that it has begun
abbrev pub AsBegun : {T : Type 0} → (Result (Unit {0}) Fault → Type 0) → Result (Answer T) Fault → Type 0
AsBegun P (Ok answer.Begun) = P (Ok tt)
AsBegun P (Ok a) = ⊥
AsBegun P (Err f) = P (Err f)

-- a step answers what it came to
abbrev pub AsStepped : {T : Type 0} → (Result Outcome Fault → Type 0) → Result (Answer T) Fault → Type 0
AsStepped P (Ok (answer.Stepped o)) = P (Ok o)
AsStepped P (Ok a) = ⊥
AsStepped P (Err f) = P (Err f)

-- a root, a down or a build answers that it is done
abbrev pub AsDone : {T : Type 0} → (Result (Unit {0}) Fault → Type 0) → Result (Answer T) Fault → Type 0
AsDone P (Ok answer.Done) = P (Ok tt)
AsDone P (Ok a) = ⊥
AsDone P (Err f) = P (Err f)

-- a look answers what is shown
abbrev pub AsShown : {T : Type 0} → (Result (Shown T) Fault → Type 0) → Result (Answer T) Fault → Type 0
AsShown P (Ok (answer.Shown s)) = P (Ok s)
AsShown P (Ok a) = ⊥
AsShown P (Err f) = P (Err f)

-- a sweep answers whether it swept a cell
abbrev pub AsSwept : {T : Type 0} → (Result Bool Fault → Type 0) → Result (Answer T) Fault → Type 0
AsSwept P (Ok answer.Swept) = P (Ok true)
AsSwept P (Ok answer.Unswept) = P (Ok false)
AsSwept P (Ok a) = ⊥
AsSwept P (Err f) = P (Err f)

-- the call c with the answer r led from the world w to the world v
abbrev pub Did : {T : Type 0} → Call T → Result (Answer T) Fault → World T → World T → Type 0
Did (Open p) r w v = AsBegun (λ x. Opens p x w v) r
Did (Publish p b) r w v = AsBegun (λ x. Publishes p b x w v) r
Did (Close p) r w v = AsBegun (λ x. Closes p x w v) r
Did (Step p) r w v = AsStepped (λ x. Steps p x w v) r
Did (Root p a) r w v = AsDone (λ x. Roots p a x w v) r
Did (Down p a k b) r w v = AsDone (λ x. Downs p a k b x w v) r
Did (Look p a) r w v = AsShown (λ x. Looks p a x w v) r
Did (Build p b ss leaf) r w v = AsDone (λ x. Builds p b ss leaf x w v) r
Did Sweep r w v = AsSwept (λ x. Sweeps x w v) r
