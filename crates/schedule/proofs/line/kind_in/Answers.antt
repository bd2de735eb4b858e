use Rattle.std.proofs.Common.{sym, ap, codes, arith, rules}
use Rattle.std.proofs.lemmas.Slice.Eq.{text_from_reads}
use Rattle.schedule.specs.Words.{kind_of}
use Rattle.schedule.proofs.line.kind_in.Goals as goal

pub returns-in-announcement : goal.returns-in-announcement
returns-in-announcement c = ap kind_of (sym (text_from_reads c.args.text.now (codes "announcement") (omega arith) (search rules)))

pub returns-in-counting : goal.returns-in-counting
returns-in-counting c = ap kind_of (sym (text_from_reads c.args.text.now (codes "counting") (omega arith) (search rules)))
