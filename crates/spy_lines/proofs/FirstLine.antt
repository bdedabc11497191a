-- The first line of a text with its line feed, and what stands behind it.
use Rattle.std.proofs.Common.{◌≡◌, ℕ, ◌+◌, ◌-◌, ◌≤◌, ◌==◌, false, List, [], ◌∷◌, ◌++◌, length, take, drop, Some, None, refl, sym, ap, ◌∙◌, arith, length-take, length-take-le, length-drop, length-append}
use Rattle.std.specs.Prelude.{slice_get}
use Rattle.std.proofs.lemmas.Bool.{cond_both}
use Rattle.std.proofs.lemmas.List.{take_rest, take-take, drop-drop}
use Rattle.std.proofs.Math.Seq.{take-append_seam}
use Rattle.memchr.specs.Find.{IsFirstByte, is_byte}
use Rattle.spy_lines.specs.LinesOf.{with_ends, begun_by, lines_of}
use Rattle.spy_lines.proofs.Cuts.{by_bytes, first_line, no_line}

pub take_first : (bs : List ℕ) → take (length (with_ends (take 1 (lines_of bs)))) bs ≡ with_ends (take 1 (lines_of bs))
take_first = by_bytes (λ bs ls. take (length (with_ends (take 1 ls))) bs ≡ with_ends (take 1 ls)) refl (λ bs ls e. refl) (λ b bs ls ne e. begun b bs ls e)
  where
    begun : (b : ℕ) (bs : List ℕ) (ls : List (List ℕ)) → take (length (with_ends (take 1 ls))) bs ≡ with_ends (take 1 ls)
        → take (length (with_ends (take 1 (begun_by b ls)))) (b ∷ bs) ≡ with_ends (take 1 (begun_by b ls))
    begun b bs [] e = refl
    begun b bs (l ∷ ls) e = ap (λ (xs : List ℕ). b ∷ xs) e

pub first_fits : (bs : List ℕ) → length (with_ends (take 1 (lines_of bs))) ≤ length bs
first_fits bs = omega (arith, ap length (take_first bs), length-take (length (with_ends (take 1 (lines_of bs)))) bs)

behind_begun : (b : ℕ) (bs : List ℕ) (ls : List (List ℕ)) → (b == 10) ≡ false → lines_of bs ≡ ls
    → lines_of (drop (length (with_ends (take 1 ls))) bs) ≡ drop 1 ls
    → lines_of (drop (length (with_ends (take 1 (begun_by b ls)))) (b ∷ bs)) ≡ drop 1 (begun_by b ls)
behind_begun b bs [] is e behind = rw is (ap (begun_by b) e)
behind_begun b bs (l ∷ ls) is e behind = behind

pub drop_first : (bs : List ℕ) → lines_of (drop (length (with_ends (take 1 (lines_of bs)))) bs) ≡ drop 1 (lines_of bs)
drop_first [] = refl
drop_first (b ∷ bs) = cond_both (b == 10) ([] ∷ lines_of bs) (begun_by b (lines_of bs))
    (λ ls. lines_of (drop (length (with_ends (take 1 ls))) (b ∷ bs)) ≡ drop 1 ls)
    (λ is. refl) (λ is. behind_begun b bs (lines_of bs) is refl (drop_first bs))

pub len_some : (at : ℕ) (bs : List ℕ) → IsFirstByte (is_byte 10) bs (Some at) → at + 1 ≡ length (with_ends (take 1 (lines_of bs)))
len_some at bs first =
    let long : length (take at bs) ≡ at = length-take-le at bs (omega (arith, first.0.high)) in
    sym (ap (λ ls. length (with_ends (take 1 ls))) (first_line at bs first) ∙ length-append (take at bs) (10 ∷ []) ∙ ap (λ n. n + 1) long)

pub len_none : (bs : List ℕ) → IsFirstByte (is_byte 10) bs None → 0 ≡ length (with_ends (take 1 (lines_of bs)))
len_none bs none = sym (ap (λ ls. length (with_ends (take 1 ls))) (no_line bs none))

-- the line after `at` bytes, as it is found in what is left of the same text
pub next_len : (at n : ℕ) (all bs : List ℕ) → all ≡ bs → at ≤ length bs
    → n ≡ length (with_ends (take 1 (lines_of (take (length all - at) (drop at all)))))
    → (at + n ≤ length bs) × (n ≡ length (with_ends (take 1 (lines_of (drop at bs)))))
next_len at n all bs same le found =
    let rest : take (length all - at) (drop at all) ≡ drop at bs = take_rest all at ∙ ap (drop at) same in
    let here : n ≡ length (with_ends (take 1 (lines_of (drop at bs)))) = found ∙ ap (λ (xs : List ℕ). length (with_ends (take 1 (lines_of xs)))) rest in
    (omega (arith, here, first_fits (drop at bs), length-drop at bs), here)

pub lines_behind : (at n : ℕ) (bs : List ℕ) → n ≡ length (with_ends (take 1 (lines_of (drop at bs))))
    → lines_of (drop (at + n) bs) ≡ drop 1 (lines_of (drop at bs))
lines_behind at n bs is = ap lines_of (sym (drop-drop n at bs)) ∙ ap (λ k. lines_of (drop k (drop at bs))) is ∙ drop_first (drop at bs)

pub first_is : (n : ℕ) (bs : List ℕ) → n ≡ length (with_ends (take 1 (lines_of bs))) → take n bs ≡ with_ends (take 1 (lines_of bs))
first_is n bs is = ap (λ k. take k bs) is ∙ take_first bs

pub line_is : (end n : ℕ) (bs : List ℕ) → end + 1 ≡ n → n ≡ length (with_ends (take 1 (lines_of bs)))
    → Some (take end bs) ≡ slice_get (lines_of bs) 0
line_is end n bs cut is = of_lines (lines_of bs) (cut ∙ is) (take_first bs)
  where
    of_lines : (ls : List (List ℕ)) → end + 1 ≡ length (with_ends (take 1 ls)) → take (length (with_ends (take 1 ls))) bs ≡ with_ends (take 1 ls)
        → Some (take end bs) ≡ slice_get ls 0
    of_lines [] long e = absurd (omega (arith, long))
    of_lines (l ∷ ls) long e =
        let size : end ≡ length l = omega (arith, long, length-append l (10 ∷ [])) in
        let front : take end bs ≡ l = sym (take-take end (length (l ++ 10 ∷ [])) bs (omega (arith, long))) ∙ ap (take end) e
        ∙ ap (λ k. take k (l ++ 10 ∷ [])) size ∙ take-append_seam l (10 ∷ []) in
        ap Some front
