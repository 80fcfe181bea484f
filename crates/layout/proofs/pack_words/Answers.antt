use borrow.Author.Rules.{rules}
use mathlib.Core.Path.{sym, ap, ◌∙◌}
use Prim.Native.Nat.{ℕ, ◌*◌, ◌^◌}
use native.Mathlib.Omega.{arith}
use Rattle.meaning.specs.Decimal.Decimal.{finite}
use Rattle.meaning.specs.Layout.{encode, bit_of}
use Rattle.limbs.proofs.Laws.{value_four}
use Rattle.layout.proofs.Laws.{of_kind, limbs_range, pack_special, pack_finite}
use Rattle.layout.proofs.pack_words.Goals as goal

pub finite_top-requires : goal.finite_top-requires
finite_top-requires c = limbs_range c.args.f c.in-Finite.is c.requires (search rules)

pub returns-in-Nan : goal.returns-in-Nan
unfolding encode
returns-in-Nan c =
    pack_special (bit_of c.args.f.negative) _ _ (omega (arith, c.nan_top.ensures)) ∙ ap encode (of_kind c.args.f c.in-Nan.is)

pub returns-in-Infinity : goal.returns-in-Infinity
unfolding encode
returns-in-Infinity c =
    pack_special (bit_of c.args.f.negative) (0b11110 * 2 ^ 12) _ (omega (arith, c.infinity_top.ensures))
    ∙ ap encode (of_kind c.args.f c.in-Infinity.is)

pub returns-in-Finite : goal.returns-in-Finite
returns-in-Finite c =
    let f = c.args.f in
    pack_finite f.negative f.exponent _ _ _ _ _ c.finite_top.ensures
    ∙ ap (λ (v : ℕ). encode (finite f.negative f.exponent v)) (sym (value_four f.coefficient (search rules)))
    ∙ ap encode (of_kind f c.in-Finite.is)
