-- Laws of `done` and `left`: chunks follow one another, and lines end at LF.
use Rattle.std.proofs.Common.{◌≡◌, refl, sym, ap, ◌∙◌, false, List, [], ◌∷◌, ◌++◌, append_assoc, append-nil, ℕ, zero, suc, ◌+◌, ◌≤◌, ◌<◌, arith, eqb, length, take, get_or, take_all, eqb-true, ltb-false, Bool, ◌==◌, nat_lt, Some, None, position}
use Rattle.std.specs.List.{position_or_len}
use Rattle.std.proofs.lemmas.List.{take_more}
use Rattle.std.proofs.lemmas.List.Sums.{fails_before_first}
use Rattle.std.proofs.lemmas.List.Quantifiers.{position-Some}
use Rattle.meaning.specs.Reading.{holds}
use Rattle.meaning.specs.Stream.{without_cr, records_of, lines_after}
use Rattle.meaning.proofs.Numbers.{by_test, neither_of}
use Rattle.line.specs.Feed.{done, left}

-- ---- one chunk after another

module _ (f : List ℕ → List ℕ) where
  pub records_after : (p s t : List ℕ) → done f p s ++ records_of f (lines_after (left p s) t) ≡ records_of f (lines_after p (s ++ t))
  unfolding done left lines_after records_of
  records_after p [] t = refl
  records_after p (b ∷ s) t =
      by_test (eqb b 10)
      (λ e. rw e (append_assoc (f (without_cr p)) (done f [] s) _ ∙ ap (λ (l : List ℕ). f (without_cr p) ++ l) (records_after [] s t)))
      (λ e. rw e (records_after (p ++ (b ∷ [])) s t))

  pub done-append : (p s t : List ℕ) → done f p (s ++ t) ≡ done f p s ++ done f (left p s) t
  unfolding done left
  done-append p [] t = refl
  done-append p (b ∷ s) t =
      by_test (eqb b 10)
      (λ e. rw e (ap (λ (l : List ℕ). f (without_cr p) ++ l) (done-append [] s t) ∙ sym (append_assoc (f (without_cr p)) (done f [] s) _)))
      (λ e. rw e (done-append (p ++ (b ∷ [])) s t))

pub left-append : (p s t : List ℕ) → left p (s ++ t) ≡ left (left p s) t
unfolding left
left-append p [] t = refl
left-append p (b ∷ s) t =
    by_test (eqb b 10) (λ e. rw e (left-append [] s t)) (λ e. rw e (left-append (p ++ (b ∷ [])) s t))

-- ---- a part without LF

module _ (f : List ℕ → List ℕ) where
  pub done_none : (p s : List ℕ) → holds 10 s ≡ false → done f p s ≡ []
  unfolding done holds
  done_none p [] h = refl
  done_none p (b ∷ s) h =
      let n = neither_of (eqb b 10) (holds 10 s) h in rw n.0 (done_none (p ++ (b ∷ [])) s n.1)

pub left_none : (p s : List ℕ) → holds 10 s ≡ false → left p s ≡ p ++ s
unfolding left holds
left_none p [] h = sym (append-nil p)
left_none p (b ∷ s) h =
    let n = neither_of (eqb b 10) (holds 10 s) h in
    rw n.0 (left_none (p ++ (b ∷ [])) s n.1 ∙ append_assoc p (b ∷ []) s)

-- ---- a line that LF ends

module _ (f : List ℕ → List ℕ) (p t : List ℕ) (no_lf : holds 10 t ≡ false) where
  pub done-to-lf : done f p (t ++ 10 ∷ []) ≡ f (without_cr (p ++ t))
  unfolding done
  done-to-lf =
      rw (done-append f p t (10 ∷ []), done_none f p t no_lf, left_none p t no_lf) (append-nil (f (without_cr (p ++ t))))

  pub left-to-lf : left p (t ++ 10 ∷ []) ≡ []
  unfolding left
  left-to-lf = rw (left-append p t (10 ∷ []))

-- ---- the search for LF

holds-take : (n : ℕ) (s : List ℕ) → n ≤ length s → ((k : ℕ) → k < n → eqb (get_or s k 0) 10 ≡ false) → holds 10 (take n s) ≡ false
unfolding holds
holds-take zero s h none = refl
holds-take (suc n) [] h none = absurd (omega arith)
holds-take (suc n) (b ∷ s) h none =
    rw (none 0 (omega arith), holds-take n s (omega arith) (λ k l. none (suc k) (omega arith)))

none_passes : (p : ℕ → Bool) (s : List ℕ) → position p s ≡ None → length s ≤ position_or_len p s
none_passes p s e =
    by_test (nat_lt (position_or_len p s) (length s))
    (λ passes. absurd (let some = rw passes at e in cc))
    (λ fails. ltb-false (position_or_len p s) (length s) fails)

module _ (s : List ℕ) where
  pub none_before : (n : ℕ) → position (λ b. b == 10) s ≡ Some n → holds 10 (take n s) ≡ false
  none_before n e =
      let first = position-Some (λ b. b == 10) s n 0 e in holds-take n s (omega (arith, first.0)) first.2

  pub with_lf : (n : ℕ) → position (λ b. b == 10) s ≡ Some n → take (n + 1) s ≡ take n s ++ 10 ∷ []
  with_lf n e =
      let first = position-Some (λ b. b == 10) s n 0 e in
      take_more s n 0 first.0 ∙ ap (λ (b : ℕ). take n s ++ b ∷ []) (eqb-true (get_or s n 0) 10 first.1)

  pub none_at_all : position (λ b. b == 10) s ≡ None → holds 10 s ≡ false
  none_at_all e =
      let none = none_passes (λ b. b == 10) s e in
      sym (ap (holds 10) (take_all (length s) s (omega arith)))
      ∙ holds-take (length s) s (omega arith) (λ k l. fails_before_first (λ b. b == 10) s k 0 (omega arith))
