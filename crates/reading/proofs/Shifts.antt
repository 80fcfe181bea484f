-- Steps 3 to 6 of a text whose decimal part was scanned.
use mathlib.Core.Path.{◌≡◌, refl, sym, ap, subst, ◌∙◌}
use Rattle.std.specs.Prelude.{Ok, Err}
use mathlib.Core.Bool.{Bool, true, false, cond}
use mathlib.Core.List.{List, [], ◌∷◌, ◌++◌, map, append-nil}
use Prim.Native.Nat.{ℕ, suc, ◌+◌, ◌-◌, ◌^◌, ◌≤◌, ◌<◌}
use native.Mathlib.Nat.{le_of_lt, lt_of_lt_of_le}
use native.Mathlib.Omega.{arith}
use lib.Dec.{leb, lit≤}
use lib.ListN.{length, get_or, drop, length-drop, drop_of_length-le, length-map}
use lib.Seq.{drop-drop}
use borrow.Author.Tests.{eq-eqb, ne_eqb, le-leb, lt-leb}
use Rattle.meaning.specs.Refusals.Refusal.{underflow}
use Rattle.meaning.specs.Reading.{refused_at, origin, lower, before, from, strip_zeros, after_e, sign_length, decimal_part, exponent, Written, step3, step4, step5, step6, step7}
use Rattle.meaning.specs.Reading.Written.{written, wrong}
use Rattle.limbs.specs.Wide.{Shift, Stands, Lowered}
use Rattle.limbs.specs.declared.wide.ExponentError.{ExponentError}
use Rattle.limbs.specs.declared.wide.ExponentError.TheVariants.{Invalid, Underflow}
use Rattle.reading.specs.Told.{refusal_of}
use mathlib.Core.Logic.{inl, inr}
use Rattle.reading.specs.declared.answer.Refusal.TheVariants.{EmptyExponent, Unparseable}
use Rattle.reading.specs.declared.scan.Found.{Found}
use Rattle.reading.specs.Scan.{is_plain, decimals, Scanned}
use Rattle.reading.specs.Run.{run}
use Rattle.reading.specs.Parted.{behind}
use Rattle.reading.specs.Split.{wrong_for, Refusing, Leaving}
use Rattle.reading.proofs.Lower.{exponent-lower}
use Rattle.reading.proofs.Split.{before_split, from_split, decimals_all, points_few, decimal-points, decimal_right, wrong_after, without_first}
use Rattle.reading.proofs.Points.{fits, run_whole}
use Rattle.reading.proofs.Where.{wrong-gives, last_is, parted_at, letter_is, after_point}
use Rattle.std.proofs.lemmas.List.{drop_more}

small_origin : (f : ℕ) → f < 2 ^ 63 → f ≤ origin
unfolding origin
small_origin f h = le_of_lt (lt_of_lt_of_le h (lit≤ tt))

step3_right : (text : List ℕ) (g : Bool) (dec : List ℕ) (x : ℕ) (t : List ℕ) → (length t ≡ 0 → ⊥) → decimal_part false dec ≡ true → step3 text g dec (x ∷ t) ≡ step5 text g dec (exponent t)
unfolding step3 step4
step3_right text g dec x [] n e = absurd (n refl)
step3_right text g dec x (b ∷ t) n e = rw e

module _ (s : List ℕ) (start stop : ℕ) (found : Found) (c : Scanned s start stop found) (h : start ≤ length s) (sign : sign_length s ≡ start) where
  abbrev text : List ℕ
  text = map lower (drop start s)

  abbrev whole : List ℕ
  whole = run found.point start stop s

  abbrev dec : List ℕ
  dec = decimals (drop start s)

  rest_is : drop (length dec) (drop start s) ≡ drop stop s
  rest_is = rw (drop-drop, c.stops)

  before_is : before 101 text ≡ dec ++ before 101 (map lower (drop stop s))
  before_is = before_split (drop start s) ∙ rw rest_is

  from_is : from 101 text ≡ from 101 (map lower (drop stop s))
  from_is = from_split (drop start s) ∙ rw rest_is

  -- ---- the decimal part has a digit or has none

  no_digit : stop - start ≤ found.points → decimal_part false dec ≡ false
  no_digit e =
      let l = points_few dec in
      decimal-points dec (decimals_all (drop start s)) (omega (arith, c.stops, c.points))

  has_digit : found.points < stop - start → decimal_part false dec ≡ true
  has_digit e = decimal_right dec (decimals_all (drop start s)) (λ q. omega (arith, c.stops, c.points))

  -- ---- step 6

  step6_is : (g : Bool) (f e : ℕ) → f ≡ stop - (found.point + 1) → step6 s g dec e ≡ cond (leb f e) (step7 s g (e - f) (strip_zeros whole)) (refused_at underflow (after_e s))
  unfolding step6
  step6_is g f e q =
      let j = sym (without_first (length s) start dec (fits s start stop found c h)) ∙ sym (run_whole s start stop found c h) in
      rw (after_point s start stop found c h ∙ sym q, j)

  -- ---- a wrong decimal part

  gives_wrong : {b : List ℕ} → before 101 text ≡ b → decimal_part false b ≡ false → Refusing s start stop (wrong_for (from 101 text))
  gives_wrong e w = record { gives = λ g. rw e (wrong-gives s start sign h stop c.stops g _ w) }

  -- where what stands from the first `e` on is known
  gives_for : {t : List ℕ} → from 101 text ≡ t → Refusing s start stop (wrong_for (from 101 text)) → Refusing s start stop (wrong_for t)
  gives_for e r = subst (λ (t : List ℕ). Refusing s start stop (wrong_for t)) e r

  -- ---- nothing but the decimal part

  module _ (end : stop ≡ length s) where
    rest-none : drop stop s ≡ []
    rest-none = let l : length s ≤ stop = omega arith in drop_of_length-le s l

    end_before : before 101 text ≡ dec
    unfolding before
    end_before = before_is ∙ rw (rest-none, append-nil)

    end-from : from 101 text ≡ []
    unfolding from
    end-from = from_is ∙ rw rest-none

    pub end-wrong : stop - start ≤ found.points → Refusing s start stop Unparseable
    end-wrong e = gives_for end-from (gives_wrong end_before (no_digit e))

    pub end-gives : (f : ℕ) → found.points < stop - start → f ≡ stop - (found.point + 1) → f < 2 ^ 63 → (g : Bool) → step3 s g (before 101 text) (from 101 text) ≡ step7 s g (origin - f) (strip_zeros whole)
    unfolding step3 step4 step5
    end-gives f e q l g =
        rw (end_before, end-from, has_digit e) (step6_is g f origin q ∙ rw (le-leb f origin (small_origin f l)))

    pub end-right : (x : Shift) (f : ℕ) → found.points < stop - start → f ≡ stop - (found.point + 1) → f < 2 ^ 63 → Stands (origin - f) x → Leaving s start stop found x
    end-right x f e q l k =
        record { power = origin - f; stands = k; parted = parted_at s start sign end_before; gives = end-gives f e q l }

  -- ---- something after it

  module _ (more : stop < length s) where
    rest_some : drop stop s ≡ get_or s stop 0 ∷ drop (stop + 1) s
    rest_some = drop_more s stop 0 more

    not_plain : is_plain (get_or s stop 0) ≡ false
    not_plain = c.ended more

    pub other-wrong : (lower (get_or s stop 0) ≡ 101 → ⊥) → Refusing s start stop (wrong_for (from 101 (map lower (drop stop s))))
    other-wrong e =
        gives_for from_is (gives_wrong refl (rw (before_is, rest_some) (wrong_after dec (get_or s stop 0) (drop (stop + 1) s) not_plain e)))

    module _ (split : lower (get_or s stop 0) ≡ 101) where
      split-before : before 101 text ≡ dec
      unfolding before
      split-before = before_is ∙ rw (rest_some, eq-eqb _ 101 split) (append-nil dec)

      split_from : from 101 text ≡ lower (get_or s stop 0) ∷ map lower (drop (stop + 1) s)
      unfolding from
      split_from = from_is ∙ rw (rest_some, eq-eqb _ 101 split)

      pub split-empty : stop + 1 ≡ length s → Refusing s start stop EmptyExponent
      unfolding step3
      split-empty e =
          let l : length s ≤ stop + 1 = omega arith in
          let n = drop_of_length-le s l in
          record { gives = λ g. rw (split-before, split_from, n, last_is s start sign h (rw (split_from, n))) }

      module _ (l : stop + 1 < length s) where
        not_empty : length (map lower (drop (stop + 1) s)) ≡ 0 → ⊥
        not_empty z = omega (arith, sym (length-map (drop (stop + 1) s) lower) ∙ z, length-drop (stop + 1) s)

        unparseable-is : wrong_for (lower (get_or s stop 0) ∷ map lower (drop (stop + 1) s)) ≡ Unparseable
        unparseable-is =
            let n : suc (length (map lower (drop (stop + 1) s))) ≡ 1 → ⊥ = λ z. not_empty (omega arith) in rw (ne_eqb _ 1 n)

        pub split-wrong : stop - start ≤ found.points → Refusing s start stop Unparseable
        split-wrong e =
            subst (Refusing s start stop) unparseable-is (gives_for split_from (gives_wrong split-before (no_digit e)))

        module _ (e : found.points < stop - start) where
          split-right : (g : Bool) → step3 s g (before 101 text) (from 101 text) ≡ step5 s g dec (exponent (drop (stop + 1) s))
          split-right g =
              rw (split-before, split_from)
              (step3_right s g dec _ (map lower (drop (stop + 1) s)) not_empty (has_digit e) ∙ ap (step5 s g dec) (exponent-lower (drop (stop + 1) s)))

          -- the byte after the `e`
          after_is : after_e s ≡ behind stop s
          after_is = letter_is s start stop (parted_at s start sign split-before) c.stops

          module _ (f : ℕ) (q : f ≡ stop - (found.point + 1)) where
            pub exponent-right : (x : Shift) → Lowered (exponent (drop (stop + 1) s)) f (Ok x) → Leaving s start stop found x
            unfolding step5 Lowered
            exponent-right x k = go (exponent (drop (stop + 1) s)) refl k
              where
                go : (w : Written) → exponent (drop (stop + 1) s) ≡ w → Lowered w f (Ok x) → Leaving s start stop found x
                go wrong p m = absurd (cc)
                go (written n) p (inl m) = absurd (let z = m.1 in cc)
                go (written n) p (inr m) =
                    record {
                      power = n - f;
                      stands = m.1;
                      parted = parted_at s start sign split-before;
                      gives = λ g. split-right g ∙ rw p (step6_is g f n q ∙ rw (le-leb f n m.0));
                    }

            pub exponent-wrong : (e : ExponentError) → Lowered (exponent (drop (stop + 1) s)) f (Err e) → Refusing s start stop (refusal_of e)
            unfolding step5 Lowered
            exponent-wrong e k = go (exponent (drop (stop + 1) s)) e refl k
              where
                go : (w : Written) (e : ExponentError) → exponent (drop (stop + 1) s) ≡ w → Lowered w f (Err e) → Refusing s start stop (refusal_of e)
                go wrong Invalid p m = record { gives = λ g. split-right g ∙ rw (p, after_is) }
                go wrong Underflow p m = absurd (cc)
                go (written n) Invalid p (inl m) = absurd (let z = m.1 in cc)
                go (written n) Underflow p (inl m) =
                    record { gives = λ g. split-right g ∙ rw p (step6_is g f n q ∙ rw (lt-leb f n m.0, after_is)) }
                go (written n) e p (inr m) = absurd m.1
