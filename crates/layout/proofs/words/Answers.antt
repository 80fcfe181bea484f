use mathlib.Core.Path.{refl}
use Rattle.layout.proofs.Laws.{upper_limbs, of_halves}
use borrow.Author.Rules.{rules}
use Rattle.layout.proofs.words.Goals as goal

pub returns : goal.returns
returns c =
    of_halves _ _ _ _ c.lower-low.ensures (upper_limbs c.args.b (search rules) (λ i. search rules) _ _ _ c.from_le_bytes.ensures c.from_le_bytes-2.ensures refl)
