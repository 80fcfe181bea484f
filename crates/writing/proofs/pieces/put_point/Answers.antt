use mathlib.Core.Path.{sym}
use native.Mathlib.Omega.{arith}
use borrow.Author.Rules.{rules}
use Rattle.writing.proofs.Written.{written_none}
use Rattle.writing.proofs.Point.{push_left, push_point}
use Rattle.writing.proofs.pieces.put_point.Goals as goal

pub loop-i-init : goal.loop-i-init
loop-i-init c = sym (written_none _ _)

pub loop-i-preserved : goal.loop-i-preserved
loop-i-preserved c = push_left c.args.at c.loop-i.i c.args.buf.now c.loop-i.invariant (omega (arith, c.requires))

pub returns : goal.returns
returns c = push_point c.args.at c.args.before c.loop-i.i c.args.buf.now (search rules) c.loop-i.invariant c.requires
