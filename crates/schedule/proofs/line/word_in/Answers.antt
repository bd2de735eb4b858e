use Rattle.std.proofs.Common.{sym, ap, codes, arith, rules}
use Rattle.std.proofs.lemmas.Slice.Eq.{text_from_reads}
use Rattle.schedule.specs.Words.{word_of}
use Rattle.schedule.proofs.line.word_in.Goals as goal

pub returns-in-keeper : goal.returns-in-keeper
returns-in-keeper c = ap word_of (sym (text_from_reads c.args.text.now (codes "keeper") (omega arith) (search rules)))

pub returns-in-publish : goal.returns-in-publish
returns-in-publish c = ap word_of (sym (text_from_reads c.args.text.now (codes "publish") (omega arith) (search rules)))

pub returns-in-current : goal.returns-in-current
returns-in-current c = ap word_of (sym (text_from_reads c.args.text.now (codes "current") (omega arith) (search rules)))

pub returns-in-declared : goal.returns-in-declared
returns-in-declared c = ap word_of (sym (text_from_reads c.args.text.now (codes "declared") (omega arith) (search rules)))
