-- The lines of a text, first by bytes and then one after the other.
use Rattle.std.proofs.Common.{◌≡◌, ◌≢◌, ℕ, zero, suc, ◌+◌, ◌-◌, ◌==◌, eqb, Bool, true, cond, List, [], ◌∷◌, length, take, drop, Some, None, All, count_by, eqb-true, refl, sym, ap, subst, ◌∙◌, arith, add-one}
use Rattle.std.proofs.lemmas.Bool.{cond_both, eq-eqb, ne_eqb}
use Rattle.std.proofs.lemmas.List.{length-drop, take_all}
use Rattle.std.proofs.lemmas.List.Elements.{All-nil, All-cons}
use Rattle.std.proofs.lemmas.List.Sums.{sum_by-cons}
use Rattle.memchr.specs.Find.{IsFirstByte, is_byte}
use Rattle.spy_lines.specs.LinesOf.{with_ends, IsLine, IsUnended, begun_by, lines_of}

-- what line feeds and other bytes keep is so of a text and its lines
pub by_bytes :
    (P : List ℕ → List (List ℕ) → Type 0) → P [] []
    → ((bs : List ℕ) (ls : List (List ℕ)) → P bs ls → P (10 ∷ bs) ([] ∷ ls))
    → ((b : ℕ) (bs : List ℕ) (ls : List (List ℕ)) → b ≢ 10 → P bs ls → P (b ∷ bs) (begun_by b ls))
    → (bs : List ℕ) → P bs (lines_of bs)
by_bytes P none feed more [] = none
by_bytes P none feed more (b ∷ bs) =
    let kept = by_bytes P none feed more bs in
    cond_both (b == 10) ([] ∷ lines_of bs) (begun_by b (lines_of bs)) (P (b ∷ bs))
    (λ is. subst (λ (c : ℕ). P (c ∷ bs) ([] ∷ lines_of bs)) (sym (eqb-true b 10 is)) (feed bs (lines_of bs) kept))
    (λ is. more b bs (lines_of bs) (λ ten. let yes : eqb b 10 ≡ true = eq-eqb b 10 ten in cc) kept)

length-begun_by : (b : ℕ) (ls : List (List ℕ)) → length (begun_by b ls) ≡ length ls
length-begun_by b [] = refl
length-begun_by b (l ∷ ls) = refl

pub length-lines_of : (bs : List ℕ) → length (lines_of bs) ≡ count_by (λ (b : ℕ). b == 10) bs
length-lines_of = by_bytes (λ bs ls. length ls ≡ count_by feed bs)
    refl
    (λ bs ls e. omega (arith, e, sum_by-cons (λ (c : ℕ). cond (feed c) 1 0) 10 bs))
    (λ b bs ls ne e. length-begun_by b ls ∙ e ∙ sym (sum_by-cons (λ (c : ℕ). cond (feed c) 1 0) b bs ∙ rw (ne_eqb b 10 ne) (omega arith)))
  where
    feed : ℕ → Bool
    feed b = b == 10

unended_more : (b : ℕ) (bs : List ℕ) → IsUnended bs → IsUnended (b ∷ bs)
unended_more b [] u = absurd (u.0 refl)
unended_more b (c ∷ cs) u =
    let one : length (b ∷ c ∷ cs) - 1 ≡ suc (length (c ∷ cs) - 1) = omega arith in
    (λ e. cc, rw one u.1)

with_ends-begun_by : (b : ℕ) (bs : List ℕ) (ls : List (List ℕ)) → b ≢ 10 → (IsUnended (b ∷ bs) → ⊥) → with_ends ls ≡ bs
    → with_ends (begun_by b ls) ≡ b ∷ bs
with_ends-begun_by b bs (l ∷ ls) ne h e = ap (λ (xs : List ℕ). b ∷ xs) e
with_ends-begun_by b [] [] ne h e = absurd (h (λ f. cc, λ f. ne cc))
with_ends-begun_by b (c ∷ cs) [] ne h e = cc

pub with_ends-lines_of : (bs : List ℕ) → (IsUnended bs → ⊥) → with_ends (lines_of bs) ≡ bs
with_ends-lines_of = by_bytes (λ bs ls. (IsUnended bs → ⊥) → with_ends ls ≡ bs)
    (λ h. refl)
    (λ bs ls kept h. ap (λ (xs : List ℕ). 10 ∷ xs) (kept (λ u. h (unended_more 10 bs u))))
    (λ b bs ls ne kept h. with_ends-begun_by b bs ls ne h (kept (λ u. h (unended_more b bs u))))

begun_lines : (b : ℕ) (ls : List (List ℕ)) → b ≢ 10 → All IsLine ls → All IsLine (begun_by b ls)
begun_lines b [] ne h = h
begun_lines b (l ∷ ls) ne h = All-cons IsLine (b ∷ l) ls (All-cons (λ (c : ℕ). c ≢ 10) b l ne (h 0 l (omega arith)))
    (λ k d lt. h (suc k) d (omega arith))

pub lines_lack_ends : (bs : List ℕ) → All IsLine (lines_of bs)
lines_lack_ends = by_bytes (λ _ ls. All IsLine ls)
    (All-nil IsLine) (λ bs ls h. All-cons IsLine [] ls (All-nil (λ (c : ℕ). c ≢ 10)) h) (λ b bs ls ne h. begun_lines b ls ne h)

line_before : (at : ℕ) (bs : List ℕ) → IsFirstByte (is_byte 10) bs (Some at) → lines_of bs ≡ take at bs ∷ lines_of (drop (suc at) bs)
line_before at [] first = absurd (omega (arith, first.0.high))
line_before zero (b ∷ bs) first = rw first.1 refl
line_before (suc at) (b ∷ bs) first =
    let later : IsFirstByte (is_byte 10) bs (Some at) = (
      record {
        low = omega arith;
        high = omega (arith, first.0.high);
        before =
            λ k low lt. first.0.before (suc k) (omega arith) (omega arith);
      },
      first.1,
    ) in
    cond_both (b == 10) _ _ (λ ls. ls ≡ (b ∷ take at bs) ∷ lines_of (drop (suc at) bs))
    (λ is. absurd (first.0.before 0 (omega arith) (omega arith) is)) (λ _. ap (begun_by b) (line_before at bs later))

-- the first line is what stands before the first line feed
pub first_line : (at : ℕ) (bs : List ℕ) → IsFirstByte (is_byte 10) bs (Some at)
    → lines_of bs ≡ take at bs ∷ lines_of (take (length bs - (at + 1)) (drop (at + 1) bs))
first_line at bs first = line_before at bs first
    ∙ rw (take_all (length bs - (at + 1)) (drop (at + 1) bs) (omega (arith, length-drop (at + 1) bs)), add-one) refl

pub no_line : (bs : List ℕ) → IsFirstByte (is_byte 10) bs None → lines_of bs ≡ []
no_line [] none = refl
no_line (b ∷ bs) none =
    cond_both (b == 10) _ _ (λ ls. ls ≡ [])
    (λ is. absurd (none 0 (omega arith) (omega arith) is))
    (λ _. ap (begun_by b) (no_line bs (λ k low lt. none (suc k) (omega arith) (omega arith))))
