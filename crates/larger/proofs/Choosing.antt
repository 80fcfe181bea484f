-- Which of two lent texts is handed back, from what the calls say, and that it is one of three slices.
use mathlib.Core.Path.{◌≡◌, refl, sym, ap, ◌∙◌}
use mathlib.Core.Logic.{◌⊎◌, inl, inr}
use mathlib.Core.List.{List, []}
use Prim.Native.Nat.{ℕ}
use denote.Ref.{Bor}
use Rattle.meaning.specs.Refusals.{Refusal}
use Rattle.meaning.specs.Reading.{Reading, Located, read_at, read_text}
use Rattle.meaning.specs.Reading.Reading.{refused, accepted}
use Rattle.meaning.specs.Order.{Choice, relation, choice_of, chosen, larger}
use Rattle.meaning.specs.Order.Choice.{first, second, neither}
use Rattle.layout.specs.Unpacked.{meant}
use Rattle.reading.specs.Told as reading
use Rattle.reading.specs.declared.answer.Refused.{Refused}
use Rattle.layout.specs.declared.Unpacked.{Unpacked}
use Rattle.std.specs.Prelude.{Option, Ok, Err}
use Rattle.std.specs.declared.cmp.Ordering.{Ordering}
use Rattle.comparing.specs.Told.{told}
use Rattle.larger.specs.Part.{slice, named, OneOfThreeSlices}

-- ---- a text's reading, by the reader's result
module _ (text : List ℕ) where
  is_refused : {e : Refused} → reading.Gives (read_at text) (Err e) → read_text text ≡ refused (reading.named e.refusal)
  is_refused g = sym (ap (λ (a : Located). a.reading) g.tells)

  is_accepted : {u : Unpacked} → reading.Gives (read_at text) (Ok u) → read_text text ≡ accepted (meant u)
  is_accepted g = sym (ap (λ (a : Located). a.reading) g.tells)

second-chosen : (r : Reading) (q : Refusal) → chosen r (refused q) ≡ neither
second-chosen (refused r) q = refl
second-chosen (accepted v) q = refl

-- ---- what the calls say of two texts: the slice that is chosen
module _ (a b : Bor (List ℕ)) where
  picks : {c : Choice} → larger a.now b.now ≡ c → named c a b ≡ named (larger a.now b.now) a b
  picks e = ap (λ (c : Choice). named c a b) (sym e)

  pub first_refused : {e : Refused} → reading.Gives (read_at a.now) (Err e) → named neither a b ≡ named (larger a.now b.now) a b
  unfolding larger
  first_refused p = picks (ap (λ (r : Reading). chosen r (read_text b.now)) (is_refused a.now p))

  pub second_refused : {e : Refused} → reading.Gives (read_at b.now) (Err e) → named neither a b ≡ named (larger a.now b.now) a b
  unfolding larger
  second_refused {e} q =
      picks (ap (λ (r : Reading). chosen (read_text a.now) r) (is_refused b.now q) ∙ second-chosen (read_text a.now) (reading.named e.refusal))

  -- the comparison gives r, which is known to be s
  pub by_order : {u v : Unpacked} {r s : Option Ordering} → reading.Gives (read_at a.now) (Ok u) → reading.Gives (read_at b.now) (Ok v) →
      told r ≡ relation (meant u) (meant v) → r ≡ s → named (choice_of (told s)) a b ≡ named (larger a.now b.now) a b
  unfolding larger
  by_order {u} p q g e =
      picks
      (ap (λ (r : Reading). chosen r (read_text b.now)) (is_accepted a.now p)
      ∙ ap (λ (r : Reading). chosen (accepted (meant u)) r) (is_accepted b.now q)
      ∙ ap choice_of (sym g ∙ ap told e))

pub one_of_three_slices : OneOfThreeSlices
one_of_three_slices a b r k = go (larger a.now b.now) k
  where
    go : (c : Choice) → slice r ≡ named c a b → (slice r ≡ slice a) ⊎ ((slice r ≡ slice b) ⊎ (slice r ≡ (a.ref_ptr, [])))
    go first e = inl e
    go second e = inr (inl e)
    go neither e = inr (inr e)
