-- The thirteen starred rows, by computation.
use mathlib.Core.Path.{refl}
use Rattle.meaning.specs.Layout.{bytes_of, encode}
use Rattle.meaning.specs.Reading.{bytes, read_at, origin, low, high, same, all_digits, all_zeros, holds, decimal_part, before, from, number, strip_zeros, exponent, some_digits, step2, step3, step4, step5, step6, step7, step8, step9, step10, step11}
use Rattle.meaning.specs.Writing.{write_text, magnitude, decimal, digits_before, hexes}
use Rattle.meaning.specs.Answers.{bytes_given, text_given}
use Rattle.meaning.specs.Rows.{rows, row_of}
use Rattle.meaning.specs.Promises.{EveryRowHolds}

pub every_row_holds : EveryRowHolds
unfolding rows row_of bytes read_at origin low high same all_digits all_zeros holds decimal_part before from number strip_zeros exponent some_digits step2 step3 step4 step5 step6 step7 step8 step9 step10 step11 bytes_given bytes_of encode text_given write_text magnitude decimal digits_before hexes
every_row_holds = refl
