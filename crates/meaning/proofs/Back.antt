-- What writing and reading again makes of 16 stored bytes, canonical or not.
use mathlib.Core.Path.{◌≡◌, ap, ◌∙◌}
use mathlib.Core.Logic.{⊎_elim}
use Prim.Native.Nat.{ℕ, suc, ◌^◌, ◌<◌}
use native.Mathlib.Omega.{arith}
use borrow.Author.Tests.{eq-eqb, ne_eqb, lt-ltb, le-ltb}
use Rattle.meaning.specs.Decimal.{Decimal}
use Rattle.meaning.specs.Decimal.Decimal.{infinity, finite}
use Rattle.meaning.specs.Layout.{or_zero, stored, decode, encode}
use Rattle.meaning.specs.Bits.{bits, bit, comes_back_as}
use Rattle.meaning.specs.Answers.{number_given, bytes_given}
use Rattle.meaning.specs.Promises.{StoredComesBack, plain_nan}
use Rattle.meaning.proofs.Numbers.{le_or, eq_or}
use Rattle.meaning.proofs.Bytes.{sixteen_bytes_are_a_number}
use Rattle.meaning.proofs.Fields.{is_nan, is_infinity, is_second, is_first, form, decodes_nan, decodes_infinity, decodes_second, decodes_first, decodes_in_range, infinity_kept, first_kept}
use Rattle.meaning.proofs.Round.{reads_what_was_written}

abbrev again : ℕ → ℕ
again n = encode (plain_nan (decode n))

module _ (n : ℕ) (small : n < 2 ^ 128) where
  infinity_again : bits n 1 4 ≡ 0b1111 → (bits n 5 5 ≡ 1 → ⊥) → encode (infinity (bit n 0)) ≡ comes_back_as n
  unfolding comes_back_as
  infinity_again e f =
      ⊎_elim
      (λ z. infinity_kept n small e f z ∙ simp (eq-eqb _ _ e, ne_eqb _ _ f, eq-eqb (bits n 6 127) 0 z))
      (λ z. simp (eq-eqb _ _ e, ne_eqb _ _ f, ne_eqb (bits n 6 127) 0 z))
      (eq_or (bits n 6 127) 0)

  first_again : (bits n 1 4 ≡ 0b1111 → ⊥) → (bits n 1 2 ≡ 0b11 → ⊥) → encode (finite (bit n 0) (bits n 1 14) (or_zero (bits n 15 127))) ≡ comes_back_as n
  unfolding comes_back_as
  first_again e f =
      ⊎_elim
      (λ l. simp (lt-ltb (bits n 15 127) (10 ^ 34) l, ne_eqb _ _ e, ne_eqb _ _ f) (first_kept n small))
      (λ l. simp (le-ltb (bits n 15 127) (10 ^ 34) (omega arith), ne_eqb _ _ e, ne_eqb _ _ f))
      (le_or (suc (bits n 15 127)) (10 ^ 34))

  stored-again : again n ≡ comes_back_as n
  unfolding comes_back_as
  stored-again =
      elim (form n) as (λ f. again n ≡ comes_back_as n) [
        | is_nan e f ↦ ap (λ (v : Decimal). encode (plain_nan v)) (decodes_nan n e f) ∙ simp (eq-eqb _ _ e, eq-eqb _ _ f)
        | is_infinity e f ↦ ap (λ (v : Decimal). encode (plain_nan v)) (decodes_infinity n e f) ∙ infinity_again e f
        | is_second e f ↦ ap (λ (v : Decimal). encode (plain_nan v)) (decodes_second n e f) ∙ simp (ne_eqb _ _ e, eq-eqb _ _ f)
        | is_first e f ↦ ap (λ (v : Decimal). encode (plain_nan v)) (decodes_first n e f) ∙ first_again e f
      ]

pub stored_comes_back : StoredComesBack
unfolding number_given bytes_given
stored_comes_back b e h =
    let n = stored b in
    let r = reads_what_was_written (decode n) (decodes_in_range n) in
    (rw r, rw (r, stored-again n (sixteen_bytes_are_a_number b e h).0))
