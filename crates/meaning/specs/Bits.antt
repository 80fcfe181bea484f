-- The 128 bits once more, as document 01 counts them under 'The 128 bits': bit 0 is the highest, bit 127 the lowest.
use Rattle.std.specs.Prelude.{ℕ, ◌+◌, ◌-◌, ◌*◌, ◌/◌, ◌%◌, ◌^◌, Bool, false, cond, not, ◌&&◌, eqb, ltb}
use Rattle.meaning.specs.Decimal.{Decimal}
use Rattle.meaning.specs.Decimal.Decimal.{nan, infinity, finite}
use Rattle.meaning.specs.Layout.{or_zero, encode}

-- bits i to j
abbrev pub bits : ℕ → ℕ → ℕ → ℕ
bits n i j = n / 2 ^ (127 - j) % 2 ^ (j + 1 - i)

abbrev pub bit : ℕ → ℕ → Bool
bit n i = eqb (bits n i i) 1

abbrev pub special : ℕ → Bool
special n = eqb (bits n 1 4) 0b1111

abbrev pub second : ℕ → Bool
second n = eqb (bits n 1 2) 0b11

unfoldable pub decode_bits : ℕ → Decimal
decode_bits n =
    cond (special n)
    (cond (bit n 5) (nan (bit n 0) (bit n 6)) (infinity (bit n 0)))
    (cond (second n)
    (finite (bit n 0) (bits n 3 16) (or_zero (0b100 * 2 ^ 111 + bits n 17 127)))
    (finite (bit n 0) (bits n 1 14) (or_zero (bits n 15 127))))

-- a finite value with a coefficient of at most 10^34 - 1 in the first form, an infinity or a NaN with its other bits clear
unfoldable pub canonical : ℕ → Bool
canonical n =
    cond (special n)
    (cond (bit n 5) (eqb (bits n 7 127) 0) (eqb (bits n 6 127) 0))
    (not (second n) && ltb (bits n 15 127) (10 ^ 34))

-- what writing and reading again makes of stored bytes (01, the last paragraph of 'Writing text')
unfoldable pub comes_back_as : ℕ → ℕ
comes_back_as n =
    cond (special n)
    (cond (bit n 5) (encode (nan false false)) (cond (eqb (bits n 6 127) 0) n (encode (infinity (bit n 0)))))
    (cond (second n)
    (encode (finite (bit n 0) (bits n 3 16) 0))
    (cond (ltb (bits n 15 127) (10 ^ 34)) n (encode (finite (bit n 0) (bits n 1 14) 0))))
