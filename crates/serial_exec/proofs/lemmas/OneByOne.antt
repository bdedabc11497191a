-- Changes, one more at a time.
use Rattle.std.proofs.Common.{◌≡◌, ℕ, zero, suc, ◌+◌, ◌<◌, ◌≤◌, List, [], ◌∷◌, take, length, get_or, refl, ap, ◌∙◌, arith}
use Rattle.vocabulary.specs.Prelude.{Value, weight_of}
use Rattle.value_terms.proofs.lemmas.Sums.{weight_added}
use Rattle.serial_exec.specs.declared.change.Action.{Action}
use Rattle.serial_exec.specs.declared.change.Action.TheVariants.{Put, Add}
use Rattle.serial_exec.specs.declared.change.Change.{Change}
use Rattle.serial_exec.specs.Changes.{after_changes, acted_by}

pub after-more : (cs : List Change) (k : ℕ) (d : Change) (v : Value) → k < length cs
    → after_changes (take (k + 1) cs) v ≡ acted_by (get_or cs k d).action (after_changes (take k cs) v)
after-more [] k d v lt = absurd (omega (arith, lt))
after-more (c ∷ cs) zero d v lt = refl
after-more (c ∷ cs) (suc k) d v lt = ap (λ n. after_changes (take n (c ∷ cs)) v) (let e : suc k + 1 ≡ suc (k + 1) = omega arith in e)
    ∙ after-more cs k d (acted_by c.action v) (omega (arith, lt))

one-light : (a : Action) (v : Value) → weight_of (acted_by a v) ≤ weight_of v + 1
one-light (Put base) v = omega arith
one-light (Add op c) v = weight_added op _ v

-- No change adds more than one to the weight.
pub after-light : (cs : List Change) (v : Value) → weight_of (after_changes cs v) ≤ weight_of v + length cs
after-light [] v = omega arith
after-light (c ∷ cs) v =
    let rest = after-light cs (acted_by c.action v) in
    let one = one-light c.action v in
    omega (arith, rest, one)
