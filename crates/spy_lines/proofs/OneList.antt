-- Bytes are of one list of lines.
use Rattle.std.proofs.Common.{◌≡◌, ◌≢◌, ℕ, suc, List, [], ◌∷◌, ◌++◌, All, refl, sym, arith}
use Rattle.spy_lines.specs.LinesOf.{with_ends, IsLine}

same_front : (x y r s : List ℕ) → IsLine x → IsLine y → x ++ 10 ∷ r ≡ y ++ 10 ∷ s → (x ≡ y) × (r ≡ s)
same_front [] [] r s hx hy e = (refl, cc)
same_front [] (c ∷ cs) r s hx hy e = absurd (hy 0 0 (omega arith) cc)
same_front (b ∷ bs) [] r s hx hy e = absurd (hx 0 0 (omega arith) cc)
same_front (b ∷ bs) (c ∷ cs) r s hx hy e =
    let tails : bs ++ 10 ∷ r ≡ cs ++ 10 ∷ s = cc in
    let rest = same_front bs cs r s (λ k d lt. hx (suc k) d (omega arith)) (λ k d lt. hy (suc k) d (omega arith)) tails in
    let same : bs ≡ cs = rest.0 in
    (cc, rest.1)

some_bytes : (y r : List ℕ) → [] ≢ y ++ 10 ∷ r
some_bytes [] r e = cc
some_bytes (c ∷ cs) r e = cc

pub one_list : (xs ys : List (List ℕ)) → All IsLine xs → All IsLine ys → with_ends xs ≡ with_ends ys → xs ≡ ys
one_list [] [] hx hy e = refl
one_list [] (y ∷ ys) hx hy e = absurd (some_bytes y _ e)
one_list (x ∷ xs) [] hx hy e = absurd (some_bytes x _ (sym e))
one_list (x ∷ xs) (y ∷ ys) hx hy e =
    let front = same_front x y (with_ends xs) (with_ends ys) (hx 0 x (omega arith)) (hy 0 y (omega arith)) e in
    let one : x ≡ y = front.0 in
    let rest : xs ≡ ys = one_list xs ys (λ k d lt. hx (suc k) d (omega arith)) (λ k d lt. hy (suc k) d (omega arith)) front.1 in
    cc
