-- How many times a number is in a list.
use Rattle.std.proofs.Common.{◌≡◌, ℕ, ◌+◌, ◌<◌, ◌≤◌, ◌==◌, List, [], ◌∷◌, ◌++◌, length, take, drop, get_or, arith, sym, ap, ◌∙◌, if◌then◌else◌}
use Rattle.std.proofs.lemmas.Bool.Decides.{nat_tests}
use Rattle.std.proofs.lemmas.List.{take_more, take-append-drop}
use Rattle.event_graph.specs.WaitCounts.{times}

pub times-append : (n : ℕ) (xs ys : List ℕ) → times n (xs ++ ys) ≡ times n xs + times n ys
times-append n [] ys = omega arith
times-append n (x ∷ xs) ys = grind (arith, times-append n xs ys)

pub times-push : (n : ℕ) (xs : List ℕ) (x : ℕ) → times n (xs ++ x ∷ []) ≡ times n xs + (if x == n then 1 else 0)
times-push n xs x = times-append n xs (x ∷ []) ∙ omega arith

pub times_more : (n : ℕ) (xs : List ℕ) (i d : ℕ) → i < length xs
    → times n (take (i + 1) xs) ≡ times n (take i xs) + (if get_or xs i d == n then 1 else 0)
times_more n xs i d lt = rw (take_more xs i d lt) (times-push n (take i xs) (get_or xs i d))

pub times_parts : (n : ℕ) (xs : List ℕ) (i : ℕ) → times n (take i xs) ≤ times n xs
times_parts n xs i = let e : xs ≡ take i xs ++ drop i xs = sym (take-append-drop i xs) in
    omega (arith, ap (times n) e, times-append n (take i xs) (drop i xs))

pub times_there : (xs : List ℕ) (i d : ℕ) → i < length xs → times (get_or xs i d) (take i xs) + 1 ≤ times (get_or xs i d) xs
times_there xs i d lt = let here : ◌≡◌ {A = ℕ} (if get_or xs i d == get_or xs i d then 1 else 0) 1 = grind (arith, nat_tests) in
    omega (arith, here, times_more (get_or xs i d) xs i d lt, times_parts (get_or xs i d) xs (i + 1))
