-- Steps left are the steps of the longest way to an end: where a step can lead, and the number that follows from it.
use Rattle.std.specs.Prelude.{◌≡◌, ℕ, ◌+◌, ◌*◌, ◌<◌, max, true, false, cond, ◌⊎◌, List, [], ◌∷◌, map, length, is_some, nat_lt}
use Rattle.keeper.specs.declared.outcome.Outcome.TheVariants.{GoesOn}
use Rattle.announcement_theory.specs.declared.mark.Mark.{Mark}
use Rattle.announcement_theory.specs.declared.position.Round.{Round}
use Rattle.announcement_theory.specs.declared.position.Round.TheVariants.{First, Second}
use Rattle.announcement_theory.specs.declared.position.Position.{Position}
use Rattle.announcement_theory.specs.declared.position.Position.TheVariants.{Opening, Offering, Closing}
use Rattle.announcement_theory.specs.declared.position.OpenLabel.TheVariants.{O1, O2, O3, O4, O5, O6}
use Rattle.announcement_theory.specs.declared.position.OfferLabel.TheVariants.{F1, F2, F3}
use Rattle.announcement_theory.specs.declared.position.CloseLabel.TheVariants.{C1, C2, C3, C4, C5, C6, C7}
use Rattle.announcement_theory.specs.State.{State, position_at, attempt, offer}
use Rattle.announcement_theory.specs.Next.{step, next_or}
use Rattle.announcement_theory.specs.Views.{ranged}
use Rattle.announcement_theory.specs.Means.{left_at, label_of}

-- after O6 a second round, if this is the first
abbrev pub rounds : ℕ → Mark → Round → List Position
rounds n u First = Opening (attempt n u) O3 ∷ Opening (attempt n u) (O4 Second) ∷ []
rounds n u Second = Opening (attempt n u) O3 ∷ []

-- where a step at each label can lead, if it does not end the operation, with `all` programs and c the current version
abbrev pub successors : ℕ → Mark → Position → List Position
successors all c (Opening t O1) = Opening t O2 ∷ []
successors all c (Opening t O2) = Opening t O3 ∷ Opening t (O4 First) ∷ []
successors all c (Opening t (O4 r)) = Opening t (O5 c r) ∷ []
successors all c (Opening t (O5 w r)) = Opening (attempt t.since w) (O6 r) ∷ []
successors all c (Opening t (O6 r)) = rounds t.since t.u r
successors all c (Offering o F1) = Offering o (F2 0) ∷ cond (nat_lt o.slot (3 * all)) (Offering (offer o.root o.over (o.slot + 1)) F1 ∷ []) []
successors all c (Offering o (F2 x)) = Offering o (next_or all x (F2 (x + 1)) F3) ∷ []
successors all c (Closing v C1) = Closing v C2 ∷ []
successors all c (Closing v C2) = Closing v C3 ∷ []
successors all c (Closing v C3) = Closing v (C4 0) ∷ Closing v (C6 0) ∷ []
successors all c (Closing v (C4 x)) = Closing v (next_or all x (C4 (x + 1)) C5) ∷ []
successors all c (Closing v C5) = Closing v (C6 0) ∷ []
successors all c (Closing v (C6 x)) = Closing v (next_or all x (C6 (x + 1)) C7) ∷ []
successors all c _ = []

-- the position is one of a list
abbrev pub Among : Position → List Position → Type 0
Among x [] = ⊥
Among x (y ∷ ys) = (x ≡ y) ⊎ Among x ys

-- the largest of some numbers, 0 of none
abbrev pub largest : List ℕ → ℕ
largest [] = 0
largest (n ∷ ns) = max n (largest ns)

-- a step that goes on leads to one of the successors
abbrev pub Leads : Type 0
Leads =
    (s : State) (p : ℕ) → p < length s.seats → is_some (label_of (position_at s p)) ≡ true → (step s p).outcome ≡ GoesOn
    → Among (position_at (step s p).after p) (successors s.programs s.current (position_at s p))

-- a state with `all` programs in which a step leads from one position to another
pub record Way (all : ℕ) (from to : Position) : Type 0 where
  pub state : State
  pub programs : state.programs ≡ all
  pub stands : position_at state 0 ≡ from
  pub goes : (step state 0).outcome ≡ GoesOn
  pub leads : position_at (step state 0).after 0 ≡ to

-- each successor is one that some step leads to
abbrev pub Reaches : Type 0
Reaches = (all : ℕ) (c : Mark) (at to : Position) → Among to (successors all c at) → Way all at to

-- at each label the steps left are one more than the largest number of a successor, and 1 where the operation can only end
abbrev pub Longest : Type 0
Longest =
    (all : ℕ) (c : Mark) (at : Position) → ranged all at ≡ true → is_some (label_of at) ≡ true
    → left_at all at ≡ 1 + largest (map (left_at all) (successors all c at))

-- and elsewhere none are left
abbrev pub Ended : Type 0
Ended = (all : ℕ) (at : Position) → is_some (label_of at) ≡ false → left_at all at ≡ 0
