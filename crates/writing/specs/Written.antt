-- A text in a lent buffer, from any place on.
use Rattle.std.specs.Prelude.{List, ◌++◌, ℕ, ◌+◌, length, take, drop}

-- the buffer b with the text s from `at` on
unfoldable pub written : ℕ → List ℕ → List ℕ → List ℕ
written at s b = take at b ++ (s ++ drop (at + length s) b)
