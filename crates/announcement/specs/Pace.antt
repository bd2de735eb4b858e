-- The declared steps are the steps of the longest way from the first label of an operation to an end.
use Rattle.std.specs.Prelude.{◌≡◌, ℕ}
use Rattle.keeper.specs.declared.version.Declared.{Declared}
use Rattle.announcement_theory.specs.declared.mark.Mark.{Mark}
use Rattle.announcement_theory.specs.declared.position.Position.TheVariants.{Opening, Offering, Closing}
use Rattle.announcement_theory.specs.declared.position.OpenLabel.TheVariants.{O1}
use Rattle.announcement_theory.specs.declared.position.OfferLabel.TheVariants.{F1}
use Rattle.announcement_theory.specs.declared.position.CloseLabel.TheVariants.{C1}
use Rattle.announcement_theory.specs.State.{attempt, offer}
use Rattle.announcement_theory.specs.Means.{left_at}
use Rattle.announcement_theory.specs.Longest.{Leads, Reaches, Longest, Ended}

-- d is declared where there are `all` programs
pub record Paces (all : ℕ) (d : Declared) : Type 0 where
  -- what is declared is what is left at the first label
  pub opening : (since : ℕ) (u : Mark) → left_at all (Opening (attempt since u) O1) ≡ d.opening
  pub offering : (r : ℕ) (over : Mark) → left_at all (Offering (offer r over 0) F1) ≡ d.offering
  pub closing : (v : Mark) → left_at all (Closing v C1) ≡ d.closing
  -- at each label the steps left are one more than the largest number of a label that a step can lead to
  pub leads : Leads
  pub reaches : Reaches
  pub longest : Longest
  pub ended : Ended
