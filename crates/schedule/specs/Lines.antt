-- How numbers and calls are written, and what reading a text gives.
use Rattle.std.specs.Prelude.{◌≡◌, ℕ, ◌^◌, ◌<◌, ◌≤◌, List, ◌++◌, Some, None, codes, decimal, Option, ◌≢◌}
use Rattle.schedule.specs.declared.call.Call.{Call}
use Rattle.schedule.specs.declared.call.Call.TheVariants.{Keeper, Open, Publish, Step, Close, Root, Stage, Current, Declared, Show}
use Rattle.schedule.specs.declared.call.Kind.{Kind}
use Rattle.schedule.specs.declared.call.Kind.TheVariants.{Announcement, Counting}

-- a text is read as a number, at most `most`, just where it is the number's decimal form
abbrev pub Numbered : ℕ → List ℕ → Option ℕ → Type 0
Numbered most text (Some n) = (text ≡ decimal n) × (n ≤ most)
Numbered most text None = (n : ℕ) → n ≤ most → text ≢ decimal n

abbrev pub named : Kind → List ℕ
named Announcement = codes "announcement"
named Counting = codes "counting"

-- the line of a call: its word, then for each operand a blank and the operand
abbrev pub written : Call → List ℕ
written (Keeper kind programs last) = codes "keeper " ++ (named kind ++ (codes " " ++ (decimal programs ++ (codes " " ++ decimal last))))
written (Open p) = codes "open " ++ decimal p
written (Publish p r) = codes "publish " ++ (decimal p ++ (codes " " ++ decimal r))
written (Step p) = codes "step " ++ decimal p
written (Close p) = codes "close " ++ decimal p
written (Root p) = codes "root " ++ decimal p
written (Stage p) = codes "stage " ++ decimal p
written Current = codes "current"
written Declared = codes "declared"
written Show = codes "show"

-- each number of a call has at most 32 bits
abbrev pub Fit : Call → Type 0
Fit (Keeper kind programs last) = (programs < 2 ^ 32) × (last < 2 ^ 32)
Fit (Open p) = p < 2 ^ 32
Fit (Publish p r) = (p < 2 ^ 32) × (r < 2 ^ 32)
Fit (Step p) = p < 2 ^ 32
Fit (Close p) = p < 2 ^ 32
Fit (Root p) = p < 2 ^ 32
Fit (Stage p) = p < 2 ^ 32
Fit Current = Unit {0}
Fit Declared = Unit {0}
Fit Show = Unit {0}

-- a line is read as a call just where it is how the call is written
abbrev pub Reads : List ℕ → Option Call → Type 0
Reads line (Some c) = line ≡ written c
Reads line None = (c : Call) → Fit c → line ≢ written c
