-- What a reading hands out: its number, its 16 bytes and the text that they are written as.
use Rattle.std.specs.Prelude.{ℕ, List, [], replicate}
use Rattle.meaning.specs.Refusals.{number_of}
use Rattle.meaning.specs.Layout.{bytes_of, encode}
use Rattle.meaning.specs.Reading.{Reading}
use Rattle.meaning.specs.Reading.Reading.{refused, accepted}
use Rattle.meaning.specs.Writing.{write_text}

-- 0, accepted, or the refusal's number
unfoldable pub number_given : Reading → ℕ
number_given (refused r) = number_of r
number_given (accepted v) = 0

-- the bytes of the value; a refusal carries 16 zero bytes (01, 'Numbers of the refusals')
unfoldable pub bytes_given : Reading → List ℕ
bytes_given (refused r) = replicate 16 0
bytes_given (accepted v) = bytes_of 16 (encode v)

-- nothing is written of a refusal
unfoldable pub text_given : Reading → List ℕ
text_given (refused r) = []
text_given (accepted v) = write_text v
