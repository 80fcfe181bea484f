-- What is known of a coefficient with its count, and the text of an unpacked value, by its kind.
use mathlib.Core.Path.{◌≡◌}
use mathlib.Core.Bool.{Bool}
use Prim.Native.Nat.{◌^◌, ◌≤◌, ◌<◌}
use lib.ListN.{length, get_or}
use Rattle.limbs.specs.Value.{value}
use Rattle.layout.specs.Fields.{said, digits_of}
use Rattle.layout.specs.Unpacked.{meant}
use Rattle.layout.specs.declared.Kind.TheVariants.{Nan, Infinity, Finite}
use Rattle.layout.specs.declared.Unpacked.{Unpacked}
use Rattle.meaning.specs.Reading.{bytes}
use Rattle.meaning.specs.Writing.{decimal, magnitude, signed, write_text}
use Rattle.writing.specs.declared.coefficient.Coefficient.{Coefficient}
use Rattle.writing.specs.Pieces.{Sized, low}
use Rattle.writing.proofs.Low.{low_all, below_all}
use Rattle.writing.proofs.Nines.{few_limb}
use Rattle.writing.proofs.Texts.{sized}

module _ (c : Coefficient) where
  pub sized_below : value c.limbs < 10 ^ c.digits
  sized_below = below_all c.digits (value c.limbs) c.sized.below c.sized.count

  -- at most nine digits are all in the lowest limb
  pub sized_limb : length c.limbs ≡ 4 → c.digits ≤ 9 → get_or c.limbs 0 0 ≡ value c.limbs
  sized_limb four few = few_limb c.limbs four c.digits few sized_below

  pub sized_digits : low c.digits (value c.limbs) ≡ decimal (value c.limbs)
  sized_digits = low_all c.digits (value c.limbs) c.sized.count

module _ (u : Unpacked) where
  pub text_nan : (q : Bool) → u.fields.kind ≡ Nan q → write_text (meant u) ≡ bytes "NaN"
  unfolding said meant write_text
  text_nan q e = rw e

  pub text_infinity : u.fields.kind ≡ Infinity → write_text (meant u) ≡ signed u.fields.negative (bytes "Infinity")
  unfolding said meant write_text
  text_infinity e = rw e

  pub text_finite : u.fields.kind ≡ Finite → write_text (meant u) ≡ signed u.fields.negative (magnitude (decimal (value u.fields.coefficient)) u.fields.exponent)
  unfolding said meant write_text
  text_finite e = rw e

  pub finite_range : u.fields.kind ≡ Finite → u.fields.exponent ≤ 12287
  unfolding said
  finite_range e = (rw e at u.ranged).0

  pub finite_sized : u.fields.kind ≡ Finite → Sized (value u.fields.coefficient) u.digits
  unfolding said digits_of
  finite_sized e = sized _ _ (rw e at u.ranged).1 (rw e at u.counted)
