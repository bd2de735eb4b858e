-- How the lines of a schedule are counted.
use Rattle.std.specs.Prelude.{ℕ, ◌+◌, min}
use Rattle.desk.specs.declared.answer.Answer.{Answer}
use Rattle.desk.specs.declared.answer.Answer.TheVariants.{Made, Begun, Stepped, Root, Stage as Staged, Current, Declared, Show, Refused, Unreadable}
use Rattle.desk.specs.declared.tally.Tally.{Tally}

-- one more, up to the largest number of 64 bits
abbrev pub up : ℕ → ℕ
up n = min (n + 1) 18446744073709551615

abbrev pub a_call : Tally → Tally
a_call t = record { calls = up t.calls; refused = t.refused; unreadable = t.unreadable }

-- a readable line is a call, refused or not; any other is unreadable
abbrev pub noted : Tally → Answer → Tally
noted t Made = a_call t
noted t Begun = a_call t
noted t (Stepped l o) = a_call t
noted t (Root r) = a_call t
noted t (Staged st) = a_call t
noted t (Current v) = a_call t
noted t (Declared d) = a_call t
noted t Show = a_call t
noted t (Refused f) = record { calls = up t.calls; refused = up t.refused; unreadable = t.unreadable }
noted t Unreadable = record { calls = t.calls; refused = t.refused; unreadable = up t.unreadable }
