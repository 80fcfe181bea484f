use mathlib.Core.Path.{◌∙◌}
use borrow.Author.Rules.{rules}
use Rattle.limbs.specs.Value.{value}
use Rattle.writing.proofs.Low.{low_all}
use Rattle.writing.proofs.Nines.{few_limb}
use Rattle.writing.proofs.digits.put_digits.Goals as goal

pub returns-then-count-gt9-clause-all : goal.returns-then-count-gt9-clause-all
returns-then-count-gt9-clause-all c = λ sized. rw (← low_all c.args.count (value c.args.limbs) sized.count) c.put_chunks.ensures

pub returns-else-count-gt9 : goal.returns-else-count-gt9
returns-else-count-gt9 c =
    let last = c.put_few.ensures ∙ rw (few_limb c.args.limbs (search rules) _ c.if-count-gt9.false c.requires.below) in
    record { last = last; all = λ sized. rw (← low_all c.args.count (value c.args.limbs) sized.count) last }
