-- Making an exchange over a keeper and lent memory.
use Rattle.std.specs.Prelude.{◌≡◌, ℕ, zero, suc, Bool, true, ◌&&◌, List, length, replicate, Some, None, Ok, Err, Option, Result, ◌==◌, nat_le}
use Rattle.keeper.specs.declared.fault.Refusal.TheVariants.{Limits}
use Rattle.keeper.specs.declared.fault.Fault.{Fault}
use Rattle.keeper.specs.Stages.{idle}
use Rattle.keeper.specs.Refusals.{limits}
use Rattle.keeper.specs.Meaning.{Meaning, stage_of}
use Rattle.cells_theory.specs.declared.cell.Cell.{Cell}
use Rattle.cells_theory.specs.Make.{Fresh as FreshCells, fresh_heads, fresh_leaves}
use Rattle.exchange_theory.specs.World.{World, emptied}
use Rattle.exchange_theory.specs.Order.{refuse}

-- the first n programs are idle
abbrev pub idle_below : Meaning → ℕ → Bool
idle_below m zero = true
idle_below m (suc n) = idle_below m n && idle (stage_of m n)

-- a new keeper: its current version is 0 with root 0, and every program is idle
abbrev pub new_keeper : Meaning → Bool
new_keeper m = m.current.serial == 0 && (m.current.root == 0 && idle_below m m.programs)

-- 1 to 65,536 cells, and as many leaves
abbrev pub new_memory : ℕ → ℕ → Bool
new_memory n leaves = nat_le 1 n && (nat_le n 65536 && leaves == n)

-- an exchange can be made: 1 to 8 programs, a last serial of 1 to 4,000,000,000, such memory, and a new keeper
abbrev pub makeable : Meaning → ℕ → ℕ → Bool
makeable m n leaves = limits m.programs m.last && (new_memory n leaves && new_keeper m)

abbrev pub make_refusal : Meaning → ℕ → ℕ → Option Fault
make_refusal m n leaves = refuse (makeable m n leaves) Limits None

-- a new world, whose cell 0 has the leaf; ls are the leaves as they were lent
pub record Fresh {T : Type 0} (leaf : T) (ls : List T) (w : World T) : Type 0 where
  pub within : makeable w.keeper (length w.cells) (length ls) ≡ true
  pub programs : w.programs ≡ w.keeper.programs
  pub size : w.size ≡ length w.cells
  pub heads : w.heads ≡ fresh_heads (length w.cells)
  pub cells : FreshCells w.cells
  pub leaves : w.leaves ≡ fresh_leaves (length w.cells) leaf ls
  pub rows : w.rows ≡ replicate 8 (emptied 0 0)

-- making over a keeper of meaning m, cells cs and leaves ls, which leaves ds and ms in memory: what is made has a new world, in which
-- the keeper is as it was; a refusal (4) alters nothing
abbrev pub Makes : {X T : Type 0} → T → Meaning → List Cell → List T → (X → World T) → List Cell → List T → Result X Fault → Type 0
Makes leaf m cs ls seen ds ms (Ok x) = (make_refusal m (length cs) (length ls) ≡ None) × ((seen x).keeper ≡ m) × (length ds ≡ length cs) × Fresh leaf ls (seen x)
Makes leaf m cs ls seen ds ms (Err f) = (make_refusal m (length cs) (length ls) ≡ Some f) × (ds ≡ cs) × (ms ≡ ls)
