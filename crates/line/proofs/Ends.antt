-- Laws of a line's text: the CR that belongs to the line end, and what ends a line.
use Rattle.std.proofs.Common.{ap₂, take-append-drop, ◌≡◌, refl, sym, ap, ◌∙◌, ⊎_elim, Bool, false, cond, ◌&&◌, List, [], ◌∷◌, ◌++◌, append_assoc, append-nil, ℕ, ◌+◌, ◌≤◌, arith, eqb, length, take, get_or, drop_of_length-le, length-append, ne_eqb, ◌-◌, true, drop, nat_eq, Option, Some, None, MatchOption, unwrap_or, Bor}
use Rattle.meaning.specs.Reading.{holds}
use Rattle.meaning.specs.Stream.{without_cr, lines_after}
use Rattle.meaning.proofs.Numbers.{by_test, neither_of, le_or}
use Rattle.std.proofs.lemmas.List.{drop_more}
use Rattle.std.specs.Cmp.Lexicographic.{pointwise}
use Rattle.line.specs.Ends.{CrLfEnds, LfEnds, CrEndsTheLast, LastAsItStands}

-- ---- the text of a line

-- by the last byte, x
text_of : (t : List ℕ) (x : ℕ) → without_cr (t ++ x ∷ []) ≡ cond (eqb x 13) t (t ++ x ∷ [])
unfolding without_cr
text_of [] x = refl
text_of (b ∷ []) x = by_test (eqb x 13) (λ e. rw e) (λ e. rw e)
text_of (b ∷ c ∷ s) x =
    ap (λ (l : List ℕ). b ∷ l) (text_of (c ∷ s) x) ∙ by_test (eqb x 13) (λ e. rw e) (λ e. rw e)

pub no_byte : (t : List ℕ) → length t ≡ 0 → t ≡ without_cr t
unfolding without_cr
no_byte [] e = refl
no_byte (b ∷ s) e = absurd (omega arith)

and-true : (b : Bool) → (b && true) ≡ b
and-true true = refl
and-true false = refl

-- by the last byte as the code looks for it
by_suffix : (t : List ℕ) (n : ℕ) → n + 1 ≡ length t → without_cr t ≡ cond (pointwise nat_eq (drop n t) (13 ∷ [])) (take n t) t
by_suffix t n e =
    let x = get_or t n 0 in
    let last : drop n t ≡ x ∷ [] =
    drop_more t n 0 (omega arith) ∙ ap (λ (l : List ℕ). x ∷ l) (drop_of_length-le t {i = n + 1} (omega arith)) in
    let apart : take n t ++ x ∷ [] ≡ t = ap (λ (l : List ℕ). take n t ++ l) (sym last) ∙ take-append-drop n t in
    let test : eqb x 13 ≡ pointwise nat_eq (drop n t) (13 ∷ []) =
    sym (ap (λ (l : List ℕ). pointwise nat_eq l (13 ∷ [])) last ∙ and-true (eqb x 13)) in
    ap without_cr (sym apart) ∙ text_of (take n t) x ∙ ap₂ (λ (b : Bool) (l : List ℕ). cond b (take n t) l) test apart

pub cr_stripped : (o : Option (Bor (List ℕ))) (line : Bor (List ℕ)) → MatchOption o (pointwise nat_eq (drop (length line.now - 1) line.now) (13 ∷ []) ≡ false) (λ x. (pointwise nat_eq (drop (length line.now - 1) line.now) (13 ∷ []) ≡ true) × (x.now ≡ take (length line.now - 1) line.now) × (length x.now + 1 ≡ length line.now)) → (unwrap_or o line).now ≡ without_cr line.now
cr_stripped None line none =
    ⊎_elim
    (λ l. no_byte line.now (omega arith))
    (λ l. sym (by_suffix line.now (length line.now - 1) (omega arith) ∙ rw none))
    (le_or (length line.now) 0)
cr_stripped (Some x) line (cr, is, len) =
    is ∙ sym (by_suffix line.now (length line.now - 1) (omega arith) ∙ rw cr)

-- one byte is taken off at most
pub one_off : (t : List ℕ) → length t ≤ length (without_cr t) + 1
unfolding without_cr
one_off [] = omega arith
one_off (b ∷ []) = by_test (eqb b 13) (λ e. rw e (omega arith)) (λ e. rw e (omega arith))
one_off (b ∷ c ∷ s) = omega (arith, one_off (c ∷ s))

-- ---- what ends a line

-- a part without LF belongs to the line
in_line : (p t s : List ℕ) → holds 10 t ≡ false → lines_after p (t ++ s) ≡ lines_after (p ++ t) s
unfolding lines_after holds
in_line p [] s h = rw append-nil
in_line p (b ∷ t) s h =
    let n = neither_of (eqb b 10) (holds 10 t) h in rw (n.0, in_line (p ++ (b ∷ [])) t s n.1, append_assoc)

pub cr_lf_ends : CrLfEnds
unfolding lines_after
cr_lf_ends t s h = in_line [] t (13 ∷ 10 ∷ s) h ∙ rw (text_of t 13)

pub lf_ends : LfEnds
unfolding lines_after
lf_ends t s b h n = in_line [] (t ++ b ∷ []) (10 ∷ s) h ∙ rw (text_of t b, ne_eqb b 13 n)

not_empty : (t : List ℕ) (x : ℕ) → eqb (length (t ++ x ∷ [])) 0 ≡ false
not_empty t x = ne_eqb (length (t ++ x ∷ [])) 0 (λ e. omega (arith, length-append t (x ∷ [])))

pub cr_ends_the_last : CrEndsTheLast
unfolding lines_after
cr_ends_the_last t h = in_line [] t (13 ∷ []) h ∙ rw (not_empty t 13, text_of t 13)

pub last_as_it_stands : LastAsItStands
unfolding lines_after
last_as_it_stands t b h n =
    ap (lines_after []) (sym (append-nil (t ++ b ∷ [])))
    ∙ in_line [] (t ++ b ∷ []) [] h
    ∙ rw (not_empty t b, text_of t b, ne_eqb b 13 n)
