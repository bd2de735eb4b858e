-- What each call promises of a sound memory, beside its exact effect: m is the memory before it and n after it.
use Rattle.std.specs.Prelude.{◌≡◌, ℕ, ◌+◌, ◌*◌, ◌<◌, ◌≤◌, ◌⊎◌, List, [], ◌∷◌, length, Some, None, Ok, Err, Option, Result, ◌≢◌}
use Rattle.keeper.specs.declared.fault.Fault.{Fault}
use Rattle.cells_theory.specs.declared.cell.Cell.{Cell}
use Rattle.cells_theory.specs.declared.cell.Heads.{Heads}
use Rattle.cells_theory.specs.declared.cell.Field.{Field}
use Rattle.cells_theory.specs.declared.cell.Field.TheVariants as field
use Rattle.cells_theory.specs.declared.shown.Part.{Part}
use Rattle.cells_theory.specs.declared.shown.Part.TheVariants as part
use Rattle.cells_theory.specs.declared.shown.Shown.{Shown}
use Rattle.cells_theory.specs.Memory.{Memory, memory, none, count_at, fields_at, field_at, nth, same, names_in, no_free_cell}
use Rattle.cells_theory.specs.Trees.{Tree, empty, number, node, Stands, Reaches}
use Rattle.cells_theory.specs.Sound.{times, Sound, Free, Waits, Used}

-- making, with a cell at least, a leaf for it, and no cell that has the number of none: the outside names cell 0 once, and it stands
-- for the leaf with four empty fields
pub record MakeKeeps {T : Type 0} (leaf : T) (n : Memory) (ms : List T) : Type 0 where
  pub sound : Sound n (0 ∷ [])
  pub stands : Stands n.cells ms (field.Cell 0) (node leaf empty empty empty empty)

abbrev pub MakePromises : {T : Type 0} → T → Memory → List T → Type 0
MakePromises leaf n ms = 0 < length n.cells → length n.cells ≤ none → 0 < length ms → MakeKeeps leaf n ms

-- `names` has what `rest` has, in any order, and c once more
abbrev pub OneMore : ℕ → List ℕ → List ℕ → Type 0
OneMore c rest names = (d : ℕ) → times d names ≡ times d rest + same d c

-- letting go of a cell that the outside names: it is named once less. No field changes, nor does a leaf, so every cell stands for
-- what it stood for and reaches what it reached
pub record LetGoPromises (c : ℕ) (m n : Memory) : Type 0 where
  pub sound : (names rest : List ℕ) → OneMore c rest names → Sound m names → Sound n rest
  pub fields : (d : ℕ) → fields_at n.cells d ≡ fields_at m.cells d
  pub reaches : (d e : ℕ) → Reaches m.cells d e → Reaches n.cells d e

-- an accepted build, in any memory: every other cell's count rose by one for each field that names it
abbrev pub BuildCounts : List Field → Memory → Result ℕ Fault → Memory → Type 0
BuildCounts fs m (Ok c) n = (d : ℕ) → (d ≢ c) → count_at n.cells d ≡ count_at m.cells d + names_in d fs
BuildCounts fs m (Err f) n = Unit {0}

-- a live cell: one that a field or the outside names
abbrev pub Live : Memory → ℕ → Type 0
Live m c = (c < length m.cells) × (0 < count_at m.cells c)

abbrev pub LiveFields : Memory → List Field → Type 0
LiveFields m fs = (k c : ℕ) → k < 4 → nth fs k ≡ field.Cell c → Live m c

-- a build with live cells in its fields: the outside names the new cell too, which was free; used cells stand for what they stood for
-- and reach what they reached; the new cell stands for the leaf and the trees of its fields
pub record BuildKeeps {T : Type 0} (fs : List Field) (leaf : T) (m n : Memory) (ls ms : List T) (c : ℕ) (names : List ℕ) : Type 0 where
  pub sound : Sound n (c ∷ names)
  pub was_free : Free m c
  pub stands : (d : ℕ) (t : Tree T) → Used m d → Stands m.cells ls (field.Cell d) t → Stands n.cells ms (field.Cell d) t
  pub reaches : (d e : ℕ) → Used m d → Reaches m.cells d e → Reaches n.cells d e
  pub new : (t₀ t₁ t₂ t₃ : Tree T) → Stands m.cells ls (nth fs 0) t₀ → Stands m.cells ls (nth fs 1) t₁ → Stands m.cells ls (nth fs 2) t₂ → Stands m.cells ls (nth fs 3) t₃ → Stands n.cells ms (field.Cell c) (node leaf t₀ t₁ t₂ t₃)

-- a build that is refused, where there is a leaf for each cell and all fields and outside names together are at most 999,990: no cell
-- is free. So 16 does not come
abbrev pub BuildPromises : {T : Type 0} → List Field → T → Memory → List T → Result ℕ Fault → Memory → List T → Type 0
BuildPromises fs leaf m ls (Ok c) n ms = (names : List ℕ) → Sound m names → LiveFields m fs → BuildKeeps fs leaf m n ls ms c names
BuildPromises fs leaf m ls (Err f) n ms =
    (names : List ℕ) → Sound m names → LiveFields m fs → length m.cells ≤ length ls → 4 * length m.cells + length names ≤ 999990 → f ≡ no_free_cell

-- a sweep of w: the outside names what it named. w waited and no outside name reached it; it is free now; every other cell
-- stands for what it stood for and reaches what it reached
pub record SweepKeeps {T : Type 0} (m n : Memory) (ls : List T) (w : ℕ) (names : List ℕ) : Type 0 where
  pub sound : Sound n names
  pub waited : Waits m w
  pub «is_free» : Free n w
  pub unreached : (e : ℕ) → 0 < times e names → Reaches m.cells e w → ⊥
  pub stands : (d : ℕ) (t : Tree T) → (d ≢ w) → Stands m.cells ls (field.Cell d) t → Stands n.cells ls (field.Cell d) t
  pub reaches : (d e : ℕ) → (d ≢ w) → Reaches m.cells d e → Reaches n.cells d e

-- a sweep answers none only where no cell waits, and is never refused where there is a leaf for each cell
abbrev pub SweepPromises : {T : Type 0} → Memory → List T → Result (Option ℕ) Fault → Memory → Type 0
SweepPromises m ls (Ok None) n = (names : List ℕ) → Sound m names → (e : ℕ) → Waits m e → ⊥
SweepPromises m ls (Ok (Some w)) n = (names : List ℕ) → Sound m names → SweepKeeps m n ls w names
SweepPromises m ls (Err f) n = (names : List ℕ) → Sound m names → length m.cells ≤ length ls → ⊥

-- following a field of a cell is never refused in a sound memory; and what it gives can be reached from the cell
pub record FieldPromises (cs : List Cell) (c k : ℕ) (r : Result Field Fault) : Type 0 where
  pub answered : (h : Heads) (names : List ℕ) → Sound (memory h cs) names → c < length cs → k < 4 → r ≡ Ok (field_at cs c k)
  pub reached : (d : ℕ) → r ≡ Ok (field.Cell d) → Reaches cs c d

-- what is shown of a tree: of a node only that it is a cell
abbrev pub shown_tree : {T : Type 0} → Tree T → Part
shown_tree empty = part.Empty
shown_tree (number n) = part.Number n
shown_tree (node t x₀ x₁ x₂ x₃) = part.Cell

-- a look at a cell that stands for a node shows its leaf and its trees; and in a sound memory every cell stands for a tree
pub record LookPromises {T : Type 0} (cs : List Cell) (ls : List T) (c : ℕ) (r : Result (Shown T) Fault) : Type 0 where
  pub shows : (t : T) (x₀ x₁ x₂ x₃ : Tree T) → c < length cs → c < length ls → Stands cs ls (field.Cell c) (node t x₀ x₁ x₂ x₃)
      → r ≡ Ok (record { leaf = t; parts = shown_tree x₀ ∷ shown_tree x₁ ∷ shown_tree x₂ ∷ shown_tree x₃ ∷ [] })
  pub stands : (h : Heads) (names : List ℕ) → Sound (memory h cs) names → length cs ≤ length ls → c < length cs → T → (x : Tree T) × Stands cs ls (field.Cell c) x

-- cell c can be reached from an outside name or from a waiting cell
pub record Reachable (m : Memory) (names : List ℕ) (c : ℕ) : Type 0 where
  pub start : ℕ
  pub from : (0 < times start names) ⊎ Waits m start
  pub path : Reaches m.cells start c

-- a cell that an outside name reaches is used, does not wait, and has a positive count n; a cell is used exactly when it is
-- reachable; a count is at most the number of all fields and outside names
pub record CountPromises (m : Memory) (names : List ℕ) (c n : ℕ) : Type 0 where
  pub used : (e : ℕ) → 0 < times e names → Reaches m.cells e c → Used m c
  pub waits_not : (e : ℕ) → 0 < times e names → Reaches m.cells e c → Waits m c → ⊥
  pub positive : (e : ℕ) → 0 < times e names → Reaches m.cells e c → 0 < n
  pub used_reachable : Used m c → Reachable m names c
  pub reachable_used : Reachable m names c → Used m c
  pub bound : n ≤ 4 * length m.cells + length names
