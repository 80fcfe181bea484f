use mathlib.Core.Path.{ap, ◌∙◌}
use Rattle.std.specs.Prelude.{Some}
use Rattle.larger.proofs.Choosing.{first_refused, second_refused, by_order}
use Rattle.larger.proofs.larger.Goals as goal

pub returns-in_default : goal.returns-in_default
returns-in_default c = c.empty_part.ensures ∙ first_refused c.args.a c.args.b c.in_default.ensures

pub returns-in_default-read : goal.returns-in_default-read
returns-in_default-read c = c.empty_part-in_default-read.ensures ∙ second_refused c.args.a c.args.b c.in_default-read.ensures

pub returns-in-Some-Less : goal.returns-in-Some-Less
returns-in-Some-Less c =
    let o = c.in-Some-Less in
    by_order c.args.a c.args.b c.in-Ok.ensures c.in-Ok-read.ensures c.values.ensures (o.is ∙ ap Some o.field-0-is)

pub returns-in-Some-Equal : goal.returns-in-Some-Equal
returns-in-Some-Equal c =
    let o = c.in-Some-Equal in
    by_order c.args.a c.args.b c.in-Ok.ensures c.in-Ok-read.ensures c.values.ensures (o.is ∙ ap Some o.field-0-is)

pub returns-in-Some-Greater : goal.returns-in-Some-Greater
returns-in-Some-Greater c =
    let o = c.in-Some-Greater in
    by_order c.args.a c.args.b c.in-Ok.ensures c.in-Ok-read.ensures c.values.ensures (o.is ∙ ap Some o.field-0-is)

pub returns-in-None : goal.returns-in-None
returns-in-None c =
    c.empty_part-in-None.ensures
    ∙ by_order c.args.a c.args.b c.in-Ok.ensures c.in-Ok-read.ensures c.values.ensures c.in-None.is
