-- The contract is tight: two answers that it allows for two texts are one slice.
use mathlib.Core.Path.{◌≡◌, sym, ◌∙◌}
use mathlib.Core.List.{List}
use Prim.Native.Nat.{ℕ}
use denote.Ref.{Bor}
use Rattle.larger.specs.Part.{slice, LargerAllows}

pub larger_is_tight : (a b r q : Bor (List ℕ)) → LargerAllows a b r → LargerAllows a b q → slice r ≡ slice q
larger_is_tight a b r q e f = e ∙ sym f
