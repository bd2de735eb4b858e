-- What a test of a stage says of it.
use Rattle.std.proofs.Common.{◌≡◌, true, refl}
use Rattle.keeper.specs.declared.stage.Stage.{Stage}
use Rattle.keeper.specs.declared.stage.Stage.TheVariants.{Idle}
use Rattle.keeper.specs.Stages.{idle}

pub idle_is : (st : Stage) → idle st ≡ true → st ≡ Idle
idle_is Idle e = refl
idle_is st e = absurd cc
