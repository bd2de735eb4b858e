-- How a line is read, word by word.
use Rattle.std.specs.Prelude.{ℕ, cond, List, Some, None, codes, Option}
use Rattle.std.specs.Str.{bytes_eq}
use Rattle.schedule.specs.declared.call.Call.{Call}
use Rattle.schedule.specs.declared.call.Call.TheVariants as call
use Rattle.schedule.specs.declared.call.Kind.{Kind}
use Rattle.schedule.specs.declared.call.Kind.TheVariants.{Announcement, Counting}
use Rattle.schedule.specs.declared.line.Word.{Word}
use Rattle.schedule.specs.declared.line.Word.TheVariants as word
use Rattle.schedule.specs.Pieces.{and_then, cut_at, lead_in, number_in}

abbrev pub word_of : List ℕ → Option Word
word_of text = cond (bytes_eq text (codes "keeper")) (Some word.Keeper)
    (cond (bytes_eq text (codes "open")) (Some word.Open)
    (cond (bytes_eq text (codes "publish")) (Some word.Publish)
    (cond (bytes_eq text (codes "step")) (Some word.Step)
    (cond (bytes_eq text (codes "close")) (Some word.Close)
    (cond (bytes_eq text (codes "root")) (Some word.Root)
    (cond (bytes_eq text (codes "stage")) (Some word.Stage)
    (cond (bytes_eq text (codes "current")) (Some word.Current)
    (cond (bytes_eq text (codes "declared")) (Some word.Declared)
    (cond (bytes_eq text (codes "show")) (Some word.Show) None)))))))))

abbrev pub kind_of : List ℕ → Option Kind
kind_of text = cond (bytes_eq text (codes "announcement")) (Some Announcement) (cond (bytes_eq text (codes "counting")) (Some Counting) None)

-- a number of 32 bits
abbrev pub wide : List ℕ → Option ℕ
wide text = number_in 4294967295 text

-- such a number and a blank in front, and the rest
abbrev pub wide_lead : List ℕ → Option (ℕ × List ℕ)
wide_lead text = lead_in 32 4294967295 text

-- a making and a publish, from what stands behind their words
abbrev pub keeper_of : List ℕ → Option Call
keeper_of rest = and_then (cut_at 32 rest) (λ a. and_then (kind_of a.0) (λ kind.
    and_then (wide_lead a.1) (λ programs. and_then (wide programs.1) (λ last. Some (call.Keeper kind programs.0 last)))))

abbrev pub publish_of : List ℕ → Option Call
publish_of rest = and_then (wide_lead rest) (λ program. and_then (wide program.1) (λ operand. Some (call.Publish program.0 operand)))

-- a line of one word, and a line of a word, a blank and the rest
abbrev pub bare_of : Word → Option Call
bare_of word.Keeper = None
bare_of word.Open = None
bare_of word.Publish = None
bare_of word.Step = None
bare_of word.Close = None
bare_of word.Root = None
bare_of word.Stage = None
bare_of word.Current = Some call.Current
bare_of word.Declared = Some call.Declared
bare_of word.Show = Some call.Show

abbrev pub called_of : Word → List ℕ → Option Call
called_of word.Keeper rest = keeper_of rest
called_of word.Open rest = and_then (wide rest) (λ p. Some (call.Open p))
called_of word.Publish rest = publish_of rest
called_of word.Step rest = and_then (wide rest) (λ p. Some (call.Step p))
called_of word.Close rest = and_then (wide rest) (λ p. Some (call.Close p))
called_of word.Root rest = and_then (wide rest) (λ p. Some (call.Root p))
called_of word.Stage rest = and_then (wide rest) (λ p. Some (call.Stage p))
called_of word.Current rest = None
called_of word.Declared rest = None
called_of word.Show rest = None

abbrev pub call_split : List ℕ → Option (List ℕ × List ℕ) → Option Call
call_split line (Some p) = and_then (word_of p.0) (λ w. called_of w p.1)
call_split line None = and_then (word_of line) bare_of

abbrev pub call_of : List ℕ → Option Call
call_of line = call_split line (cut_at 32 line)
