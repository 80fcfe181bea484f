-- The refusals and their numbers: document 01, 'Numbers of the refusals', and ticket 3 of document 02.
use Rattle.std.specs.Prelude.{ℕ}

pub data Refusal : Type 0 where
  empty_exponent invalid_exponent invalid_coefficient overflow underflow inexact_rounding unparseable : Refusal
  malformed_bytes no_room line_too_long not_ordered : Refusal

-- the paper's number; 0 is no refusal's, it stands for accepted
unfoldable pub number_of : Refusal → ℕ
number_of empty_exponent = 1
number_of invalid_exponent = 2
number_of invalid_coefficient = 3
number_of overflow = 4
number_of underflow = 5
number_of inexact_rounding = 6
number_of unparseable = 7
number_of malformed_bytes = 8
number_of no_room = 9
number_of line_too_long = 10
number_of not_ordered = 11
