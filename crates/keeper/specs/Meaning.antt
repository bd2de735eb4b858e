-- What a keeper of versions means, and the laws that hold of every keeper at every moment.
use Rattle.std.specs.Prelude.{◌≡◌, ℕ, ◌<◌, ◌≤◌, cond, ◌&&◌, List, [], ◌∷◌, length, Some, ◌==◌, ◌≢◌, slice_index, slice_index_or}
use Rattle.keeper.specs.declared.version.Version.{Version}
use Rattle.keeper.specs.declared.version.Declared.{Declared}
use Rattle.keeper.specs.declared.stage.Stage.{Stage}
use Rattle.keeper.specs.declared.stage.Stage.TheVariants.{Idle, Opening, Open, Offering, Offered, Closing}
use Rattle.keeper.specs.Totals.{total}
use Rattle.keeper.specs.Stages.{has, uses}

-- P and L; the current and the kept versions; a stage and a number of steps left for each program; the declared steps.
-- The order of the kept versions is the keeper's own affair.
pub record Meaning : Type 0 where
  pub programs : ℕ
  pub last : ℕ
  pub current : Version
  pub kept : List Version
  pub stages : List Stage
  pub left : List ℕ
  pub declared : Declared

abbrev pub version : ℕ → ℕ → Version
version s r = record { serial = s; root = r }

abbrev pub stage_of : Meaning → ℕ → Stage
stage_of m p = slice_index_or m.stages p Idle

abbrev pub left_of : Meaning → ℕ → ℕ
left_of m p = slice_index m.left p

-- 1 where the version has serial s
abbrev pub is_serial : ℕ → Version → ℕ
is_serial s v = cond (s == v.serial) 1 0

-- 1 where the two are one version
abbrev pub same : Version → Version → ℕ
same v w = cond (v.serial == w.serial && v.root == w.root) 1 0

-- how often the serial s is kept
abbrev pub times : ℕ → List Version → ℕ
times s kept = total (is_serial s) kept

-- how often the version v is kept
abbrev pub copies : Version → List Version → ℕ
copies v kept = total (same v) kept

-- the root of the first kept version with serial s
abbrev pub root_at : ℕ → List Version → ℕ
root_at s [] = 0
root_at s (v ∷ vs) = cond (s == v.serial) v.root (root_at s vs)

-- steps are left in opening, offering and closing, and none otherwise
abbrev pub Paced : Stage → ℕ → Type 0
Paced Idle n = n ≡ 0
Paced (Opening since bound) n = 0 < n
Paced (Open s) n = n ≡ 0
Paced (Offering r s) n = 0 < n
Paced (Offered s) n = n ≡ 0
Paced (Closing s) n = 0 < n

pub record Laws (m : Meaning) : Type 0 where
  -- there is a stage and a number of steps for each program
  pub staged : length m.stages ≡ m.programs
  pub timed : length m.left ≡ m.programs
  -- the current version is kept, and no serial is kept twice
  pub current : 0 < copies m.current m.kept
  pub once : (s : ℕ) → times s m.kept ≤ 1
  -- every serial that a program has is kept
  pub had : (p s : ℕ) → has (stage_of m p) ≡ Some s → 0 < times s m.kept
  -- every kept serial but the current one is had, or is being closed, by some program
  pub used : (s : ℕ) → 0 < times s m.kept → (s ≢ m.current.serial) → 0 < total (uses s) m.stages
  -- steps left are above 0 in opening, offering and closing, and 0 otherwise
  pub paced : (p : ℕ) → Paced (stage_of m p) (left_of m p)
