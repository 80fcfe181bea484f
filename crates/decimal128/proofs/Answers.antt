-- Laws of what a reading hands out, by the reader's result.
use mathlib.Core.Path.{◌≡◌, refl, ap, ◌∙◌}
use mathlib.Core.List.{List}
use Prim.Native.Nat.{ℕ}
use Rattle.std.specs.Prelude.{Ok, Err, Some, None, replicate}
use Rattle.std.proofs.Math.IntN.ℤ.{pos, negsuc}
use Rattle.std.specs.declared.cmp.Ordering.{Ordering}
use Rattle.std.specs.declared.cmp.Ordering.TheVariants.{Less, Equal, Greater}
use Rattle.std.specs.contracts.cmp.Ordering.{the_type}
use denote.Enum.Declared.{tag_of}
use Rattle.std.proofs.Common.{to_z, of_z, w32, ◌+ℤ◌}
use Rattle.comparing.specs.Told as comparing
use Rattle.meaning.specs.Order.{Relation, order_given, refusal_given}
use Rattle.meaning.specs.Order.Relation.{less, equal, greater, unordered}
use Rattle.meaning.specs.Refusals.{number_of}
use Rattle.meaning.specs.Refusals.Refusal.{malformed_bytes, not_ordered}
use Rattle.meaning.specs.Reading.{Located, read_at}
use Rattle.meaning.specs.Layout.{bytes_of, encode}
use Rattle.layout.specs.Unpacked.{meant}
use Rattle.layout.specs.declared.Unpacked.{Unpacked}
use Rattle.meaning.specs.Answers.{number_given, bytes_given}
use Rattle.reading.specs.declared.answer.Refused.{Refused}
use Rattle.reading.specs.Told.{named, Gives}
use Rattle.decimal128.specs.Operations.{parsed, compared_as, order_beside, ReadGives, ParseGives, CompareGives, stored_relation}
use Rattle.decimal128.specs.declared.MalformedBytes.{MalformedBytes}

-- ---- what C is told of a comparison

-- the number and the order of each order, which is its tag
pub order_given_c : (a b : List ℕ) (o : Ordering) → comparing.told (Some o) ≡ stored_relation a b →
    CompareGives a b 0 (to_z w32 (of_z w32 (to_z w32 (tag_of the_type o) +ℤ negsuc 0)))
unfolding order_given refusal_given
order_given_c a b Less h = record { is = rw (← h) refl; at = rw (← h) refl }
order_given_c a b Equal h = record { is = rw (← h) refl; at = rw (← h) refl }
order_given_c a b Greater h = record { is = rw (← h) refl; at = rw (← h) refl }

pub none_given_c : (a b : List ℕ) {n : ℕ} → comparing.told None ≡ stored_relation a b → n ≡ number_of not_ordered → CompareGives a b n (pos 0)
unfolding order_given refusal_given
none_given_c a b h e = record { is = rw (← h) e; at = rw (← h) refl }

-- the order of an answer is that of the relation, in Rattle as for C
pub order_beside_lem : (r : Relation) → order_beside (compared_as r) ≡ order_given r
unfolding order_given
order_beside_lem less = refl
order_beside_lem equal = refl
order_beside_lem greater = refl
order_beside_lem unordered = refl

-- ---- what C is told of a reading, and of a slice that is no value

pub value_read_c : (s : List ℕ) (u : Unpacked) {b : List ℕ} → Gives (read_at s) (Ok u) → b ≡ bytes_of 16 (encode (meant u)) → ReadGives s 0 b 0
unfolding number_given bytes_given
value_read_c s u g e =
    record {
      is = ap (λ (l : Located). number_given l.reading) g.tells;
      bytes = e ∙ ap (λ (l : Located). bytes_given l.reading) g.tells;
      at = ap (λ (l : Located). l.place) g.tells;
    }

pub refused_read_c : (s : List ℕ) (e : Refused) {n : ℕ} → Gives (read_at s) (Err e) → n ≡ number_of (named e.refusal) → ReadGives s n (replicate 16 0) e.place
unfolding number_given bytes_given
refused_read_c s e g f =
    record {
      is = f ∙ ap (λ (l : Located). number_given l.reading) g.tells;
      bytes = ap (λ (l : Located). bytes_given l.reading) g.tells;
      at = ap (λ (l : Located). l.place) g.tells;
    }

pub malformed_c : (s : List ℕ) {e : MalformedBytes} {n : ℕ} → Err e ≡ parsed s → n ≡ number_of malformed_bytes → ParseGives s n (replicate 16 0)
malformed_c s e f = record { is = rw (← e) f; bytes = rw (← e) refl }
