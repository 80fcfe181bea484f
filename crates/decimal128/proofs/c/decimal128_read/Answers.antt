use Rattle.layout.specs.Unpacked.{meant}
use Rattle.decimal128.proofs.Answers.{value_read_c, refused_read_c}
use Rattle.decimal128.proofs.c.decimal128_read.Goals as goal

pub returns-in-Ok : goal.returns-in-Ok
unfolding meant
returns-in-Ok c = value_read_c c.args.text.now c.in-Ok.value c.in-Ok.ensures c.pack-stored.ensures

pub returns-in-Err : goal.returns-in-Err
returns-in-Err c = refused_read_c c.args.text.now c.in-Err.refused c.in-Err.ensures c.number.ensures
