use Rattle.decimal128.proofs.Answers.{malformed_c}
use Rattle.decimal128.proofs.c.decimal128_parse.Goals as goal

pub returns-in-Err : goal.returns-in-Err
returns-in-Err c = malformed_c c.args.bytes.now c.in-Err.ensures c.number.ensures
