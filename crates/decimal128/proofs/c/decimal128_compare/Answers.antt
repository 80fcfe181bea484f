use Rattle.decimal128.proofs.Answers.{order_given_c, none_given_c}
use Rattle.decimal128.proofs.c.decimal128_compare.Goals as goal

pub returns-in_default : goal.returns-in_default
returns-in_default c = none_given_c c.args.a.now c.args.b.now c.in_default.ensures c.number.ensures

pub returns : goal.returns
returns c = order_given_c c.args.a.now c.args.b.now c.in-Some.ordering c.in-Some.ensures
