use mathlib.Core.Path.{sym}
use borrow.Author.Rules.{rules}
use Rattle.writing.proofs.Written.{written_none, written-next}
use Rattle.writing.proofs.pieces.put_all.Goals as goal

pub loop-i-init : goal.loop-i-init
loop-i-init c = sym (written_none _ _)

pub loop-i-preserved : goal.loop-i-preserved
loop-i-preserved c = written-next c.args.at c.loop-i.i c.args.s.now c.args.buf.now c.loop-i.invariant (search rules) c.requires
