-- Soundness after a call, whatever its answer, as a caller uses it.
use Rattle.std.proofs.Common.{◌≡◌, ℕ, List, ◌∷◌, Some, None, Ok, Err, Option, Result, sym, subst}
use Rattle.keeper.specs.declared.fault.Fault.{Fault}
use Rattle.cells_theory.specs.declared.cell.Field.{Field}
use Rattle.cells_theory.specs.Memory.{Memory}
use Rattle.cells_theory.specs.Build.{build_memory}
use Rattle.cells_theory.specs.Sweep.{sweep_memory}
use Rattle.cells_theory.specs.Sound.{Sound}
use Rattle.cells_theory.specs.Promises.{LiveFields, BuildPromises, SweepPromises}

-- the outside names what it named, and the new cell if there is one
abbrev pub built : Result ℕ Fault → List ℕ → List ℕ
built (Ok c) names = c ∷ names
built (Err f) names = names

pub after_build : {T : Type 0} (fs : List Field) (leaf : T) (m : Memory) (ls : List T) (r : Result ℕ Fault) (n : Memory) (ms : List T) (names : List ℕ)
    → BuildPromises fs leaf m ls r n ms → n ≡ build_memory r fs m → LiveFields m fs → Sound m names → Sound n (built r names)
after_build fs leaf m ls (Ok c) n ms names p e live s = (p names s live).sound
after_build fs leaf m ls (Err f) n ms names p e live s = subst (λ (v : Memory). Sound v names) (sym e) s

pub after_sweep : {T : Type 0} (m : Memory) (ls : List T) (r : Result (Option ℕ) Fault) (n : Memory) (names : List ℕ)
    → SweepPromises m ls r n → n ≡ sweep_memory r m → Sound m names → Sound n names
after_sweep m ls (Ok None) n names p e s = subst (λ (v : Memory). Sound v names) (sym e) s
after_sweep m ls (Ok (Some w)) n names p e s = (p names s).sound
after_sweep m ls (Err f) n names p e s = subst (λ (v : Memory). Sound v names) (sym e) s
