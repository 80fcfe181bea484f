use native.Mathlib.Omega.{arith}
use Prim.Native.Nat.{◌-◌}
use lib.ListN.{length}
use Rattle.decimal128.proofs.Frames.{text_in}
use Rattle.decimal128.proofs.framing.put_text.Goals as goal

pub returns : goal.returns
returns c =
    let w = c.write.ensures in
    text_in _ c.args.buf.now _ _ (length c.args.buf.now - 3 - 35) (omega (arith, c.requires)) w.value w.buf_after
