use mathlib.Core.Path.{ap, ◌∙◌}
use native.Mathlib.Omega.{arith}
use Rattle.limbs.specs.Value.{value}
use Rattle.decimal128.proofs.Frames.{number_small, refused_none, refused_room}
use Rattle.decimal128.proofs.framing.refused.Goals as goal

pub returns-then-buf-end : goal.returns-then-buf-end
returns-then-buf-end c =
    refused_none c.args.refused.refusal c.args.refused.place _ c.args.buf.now (ap value c.new-place.ensures ∙ c.of_u64.ensures)
    c.new-place.result.sized.count c.if-buf-end.true

pub overflow_cast-digit : goal.overflow_cast-digit
overflow_cast-digit c = omega (arith, number_small _ c.number.ensures)

pub overflow_add-digit : goal.overflow_add-digit
overflow_add-digit c = omega (arith, number_small _ c.number.ensures)

pub returns : goal.returns
returns c =
    refused_room c.args.refused.refusal c.args.refused.place _ c.args.buf.now (ap value c.new-place.ensures ∙ c.of_u64.ensures)
    c.new-place.result.sized.count c.if-buf-end.false c.number.ensures c.put_all.ensures c.put.ensures
