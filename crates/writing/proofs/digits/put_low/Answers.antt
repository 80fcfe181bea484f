use mathlib.Core.Path.{refl, ◌∙◌}
use native.Mathlib.Omega.{arith}
use Rattle.writing.proofs.Low.{turn, tenth, done}
use Rattle.writing.proofs.digits.put_low.Goals as goal

pub digits-preserved : goal.digits-preserved
digits-preserved c =
    let l = c.digits in
    let h = c.digits-test.true in
    record {
      small = omega arith;
      above = tenth l.rest h ∙ l.invariant.above;
      gives = turn _ l.j l.rest _ _ l.buf _ h (omega arith) refl (omega arith) l.invariant.gives;
    }

pub returns-clause-buf_after : goal.returns-clause-buf_after
returns-clause-buf_after c =
    let l = c.digits in
    done _ l.j l.rest l.buf _ (omega arith) l.invariant.gives
