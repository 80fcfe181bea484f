use mathlib.Core.Path.{◌≡◌, sym}
use native.Mathlib.Omega.{arith}
use lib.ListN.{length}
use borrow.Author.Rules.{rules}
use Rattle.meaning.specs.Writing.{hexes}
use Rattle.writing.proofs.Written.{written_none}
use Rattle.writing.proofs.Texts.{push_hex}
use Rattle.writing.proofs.hex.put_hexes.Goals as goal

pub loop-i-init : goal.loop-i-init
loop-i-init c = unfold hexes in sym (written_none _ _)

pub loop-i-preserved : goal.loop-i-preserved
loop-i-preserved c =
    let sixteen : length c.args.bytes ≡ 16 = search rules in
    push_hex c.args.bytes _ c.loop-i.i _ (omega arith) (omega arith) c.loop-i.invariant c.put_hex.ensures
