use borrow.Author.Rules.{rules}
use lib.ListN.{get_or}
use Rattle.limbs.proofs.Laws.{value_four}
use Rattle.writing.proofs.Nines.{chunks_of, whole_chunks}
use Rattle.writing.proofs.digits.chunks.Goals as goal

pub returns : goal.returns
returns c =
    let d₀ = c.cut_nine-d0.ensures in
    let d₁ = c.cut_nine-d1.ensures in
    let d₂ = c.cut_nine-d2.ensures in
    chunks_of _ d₀.1 d₁.1 d₂.1 c.requires
    (rw (value_four c.args.limbs (search rules))
    (whole_chunks (get_or c.args.limbs 0 0) (get_or c.args.limbs 1 0) (get_or c.args.limbs 2 0) (get_or c.args.limbs 3 0) _ _ _ _ _ _ d₀.0 d₁.0 d₂.0))
