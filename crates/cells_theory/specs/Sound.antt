-- What a sound memory is. `names` is the list of cells by which the memory is named from outside, with one entry for each naming.
use Rattle.std.specs.Prelude.{◌≡◌, ℕ, ◌+◌, ◌<◌, ◌≤◌, List, [], ◌∷◌, length}
use Rattle.keeper.specs.Totals.{total}
use Rattle.cells_theory.specs.declared.cell.Cell.{Cell}
use Rattle.cells_theory.specs.declared.cell.Field.TheVariants as field
use Rattle.cells_theory.specs.Memory.{Memory, none, four_empty, count_at, link_at, fields_at, field_at, same, names_in}

-- how often cell c stands in a list; it is in the list where that is above 0
abbrev pub times : ℕ → List ℕ → ℕ
times c xs = total (same c) xs

-- how many fields of a cell name cell c
abbrev pub names_from : ℕ → Cell → ℕ
names_from c x = names_in c x.fields

-- how many fields of all cells name cell c
abbrev pub naming : ℕ → List Cell → ℕ
naming c cs = total (names_from c) cs

-- the cells of the chain that starts at h, in order: each cell's link is the next cell, and the last has none
abbrev pub Chain : List Cell → ℕ → List ℕ → Type 0
Chain cs h [] = h ≡ none
Chain cs h (c ∷ rest) = (h ≡ c) × (c < none) × (c < length cs) × Chain cs (link_at cs c) rest

-- a sound memory that the outside names by `names`
pub record Sound (m : Memory) (names : List ℕ) : Type 0 where
  -- no cell has the number that means none
  pub few : length m.cells ≤ none
  -- the cells of the two chains; no cell stands twice in them
  pub free : List ℕ
  pub waiting : List ℕ
  pub free_chain : Chain m.cells m.heads.free free
  pub waiting_chain : Chain m.cells m.heads.waiting waiting
  pub distinct : (c : ℕ) → times c free + times c waiting ≤ 1
  -- a free cell has count 0 and four empty fields
  pub blank : (c : ℕ) → 0 < times c free → (count_at m.cells c ≡ 0) × (fields_at m.cells c ≡ four_empty)
  -- what a field or the outside names is a cell
  pub within : (c k d : ℕ) → k < 4 → field_at m.cells c k ≡ field.Cell d → d < length m.cells
  pub named : (c : ℕ) → 0 < times c names → c < length m.cells
  -- the count of a cell is the number of fields that name it (those of used cells, since a free cell's are empty), and of its
  -- namings from outside
  pub counted : (c : ℕ) → c < length m.cells → count_at m.cells c ≡ naming c m.cells + times c names
  -- a cell that is not free has count 0 exactly when it waits
  pub idle : (c : ℕ) → 0 < times c waiting → count_at m.cells c ≡ 0
  pub waits : (c : ℕ) → c < length m.cells → count_at m.cells c ≡ 0 → 0 < times c free + times c waiting
  -- no cell is below itself: a cell ranks above those that its fields name
  pub rank : ℕ → ℕ
  pub falls : (c k d : ℕ) → k < 4 → field_at m.cells c k ≡ field.Cell d → rank d < rank c

-- cell c is in the chain that starts at h
pub record InChain (cs : List Cell) (h c : ℕ) : Type 0 where
  pub members : List ℕ
  pub chain : Chain cs h members
  pub in_it : 0 < times c members

abbrev pub Free : Memory → ℕ → Type 0
Free m c = InChain m.cells m.heads.free c

abbrev pub Waits : Memory → ℕ → Type 0
Waits m c = InChain m.cells m.heads.waiting c

-- a cell is used unless it is free
abbrev pub Used : Memory → ℕ → Type 0
Used m c = (c < length m.cells) × (Free m c → ⊥)
