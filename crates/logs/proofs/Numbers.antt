-- Numbers upward, one more.
use Rattle.std.proofs.Common.{◌≡◌, ℕ, suc, ◌+◌, [], ◌∷◌, ◌++◌, ap, ◌∙◌, arith}
use Rattle.std.specs.List.{range_with_len}
use Rattle.list_lemmas.proofs.lemmas.Ranges.{range-more}

pub numbers_more : (n : ℕ) → range_with_len 0 (n + 1) ≡ range_with_len 0 n ++ n ∷ []
numbers_more n =
    let one : n + 1 ≡ suc n = omega arith in
    let none : 0 + n ≡ n = omega arith in
    ap (λ m. range_with_len 0 m) one ∙ range-more 0 n ∙ ap (λ a. range_with_len 0 n ++ a ∷ []) none
