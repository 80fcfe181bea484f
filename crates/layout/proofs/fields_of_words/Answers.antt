use mathlib.Core.Path.{ap, ◌∙◌}
use Rattle.meaning.specs.Layout.{or_zero}
use Rattle.layout.proofs.Laws.{top_limb, low_bits, decode_nan, decode_infinity, decode-second, decode_first}
use borrow.Author.Rules.{rules}
use Rattle.layout.proofs.fields_of_words.Goals as goal

pub returns-then-rest-lt-SECOND_FORM : goal.returns-then-rest-lt-SECOND_FORM
returns-then-rest-lt-SECOND_FORM c =
    c.finite.ensures
    ∙ decode_first (top_limb c.args.w (search rules) (λ i. search rules)) c.if-rest-lt-SECOND_FORM.true _
    (c.or_zero.ensures ∙ ap or_zero (low_bits c.args.w (search rules) (λ i. search rules)))

pub returns-then-rest-lt-INFINITY : goal.returns-then-rest-lt-INFINITY
returns-then-rest-lt-INFINITY c =
    c.finite-then-rest-lt-INFINITY.ensures ∙ decode-second (top_limb c.args.w (search rules) (λ i. search rules)) c.if-rest-lt-INFINITY.true c.if-rest-lt-SECOND_FORM.false

pub returns-then-rest-lt-NAN : goal.returns-then-rest-lt-NAN
returns-then-rest-lt-NAN c =
    c.special.ensures ∙ decode_infinity (top_limb c.args.w (search rules) (λ i. search rules)) c.if-rest-lt-NAN.true c.if-rest-lt-INFINITY.false

pub returns : goal.returns
returns c =
    c.special-2.ensures ∙ decode_nan (top_limb c.args.w (search rules) (λ i. search rules)) c.if-rest-lt-NAN.false
