use native.Mathlib.Omega.{arith}
use Rattle.layout.specs.Unpacked.{meant}
use Rattle.decimal128.proofs.Frames.{was_put, record_none, record_kept, record_room}
use Rattle.decimal128.proofs.framing.accepted.Goals as goal

pub returns-then-buf-lt38 : goal.returns-then-buf-lt38
returns-then-buf-lt38 c =
    record_none (meant c.args.value) c.args.buf.now (omega (arith, c.if-buf-lt38.true))

pub returns-in_err-n : goal.returns-in_err-n
returns-in_err-n c =
    record_kept (meant c.args.value) c.args.buf.now c.put_text.result c.from_residual.result c.put_text.ensures c.in_err-n.was c.from_residual.ensures.0

pub returns : goal.returns
unfolding meant
returns c =
    let k = was_put c.put_text.ensures c.in_ok-n.was in
    record_room (meant c.args.value) c.args.buf.now _ k.0 k.1 k.2
    c.pack.ensures c.put_front.ensures c.put_two.ensures
