-- Pieces that are read one after another.
use Rattle.std.proofs.Common.{◌≡◌, Some, None, Option, refl}
use Rattle.std.proofs.lemmas.Option.{none-some}
use Rattle.schedule.specs.Pieces.{and_then}

-- what is read after a first piece was read after that piece
pub after_step : {A B : Type 0} (o : Option A) (f : A → Option B) (b : B) (Goal : Type 0) → and_then o f ≡ Some b → ((a : A) → o ≡ Some a → f a ≡ Some b → Goal) → Goal
after_step None f b Goal e k = absurd (none-some b e)
after_step (Some a) f b Goal e k = k a refl e
