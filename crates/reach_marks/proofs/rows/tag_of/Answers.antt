use Rattle.std.proofs.Common.{ℕ, ◌≡◌, ◌∙◌, ◌+◌, ◌<◌, List, [], get_or, sym, subst, All}
use Rattle.std.proofs.lemmas.List.{get_or_default}
use Rattle.reach_marks.proofs.rows.tag_of.Goals as goal

pub returns-clause-within : goal.returns-clause-within
returns-clause-within c = λ n h.
    let columns = c.args.columns.now in
    let k = c.args.k in
    let here : c.as_slice.result.now ≡ get_or columns k [] = c.as_slice.ensures ∙ c.index-columns-k.is
    ∙ sym (get_or_default columns k [] c.index-columns-k.result (c.requires.column c.if-p-k.false)) in
    c.tag_at.ensures.within n (subst (λ (ts : List ℕ). All (λ t. t < n + 2) ts) (sym here) (h k))
