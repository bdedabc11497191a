-- Records for each number below a count: how many there are, and what holds of each.
use Rattle.std.proofs.Common.{◌≡◌, ℕ, zero, suc, ◌*◌, ◌<◌, List, [], ◌∷◌, ◌++◌, length, arith}
use Rattle.std.proofs.lemmas.List.{length-append}
use Rattle.std.specs.List.{AllByRecursion}
use Rattle.spy_grammar.specs.declared.record.Record.{Record}
use Rattle.spy_grammar.specs.Spelling.{Good}
use Rattle.log_gen.specs.Stencil.{for_each}

pub joined : (xs ys : List Record) → AllByRecursion Good xs → AllByRecursion Good ys → AllByRecursion Good (xs ++ ys)
joined [] ys p q = q
joined (x ∷ xs) ys p q = (p.0, joined xs ys p.1 q)

pub each_good : (count : ℕ) (records : ℕ → List Record) → ((i : ℕ) → i < count → AllByRecursion Good (records i))
    → AllByRecursion Good (for_each count records)
each_good zero records good = tt
each_good (suc count) records good =
    joined _ _
    (each_good count records (λ i lt. good i (omega (arith, lt))))
    (good count (omega arith))

pub each_length : (count size : ℕ) (records : ℕ → List Record) → ((i : ℕ) → length (records i) ≡ size)
    → length (for_each count records) ≡ count * size
each_length zero size records each = omega arith
each_length (suc count) size records each =
    let before = each_length count size records each in
    let all = length-append (for_each count records) (records count) in
    omega (arith, before, all, each count)
