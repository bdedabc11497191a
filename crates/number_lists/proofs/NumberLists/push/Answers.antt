use Rattle.std.proofs.Common.{Result, Ok, Err, ◌≡◌, ◌<◌, ◌∙◌, ◌++◌, ◌∷◌, [], length, set, get_or, sym, ap, subst}
use Rattle.std.proofs.Math.Seq.{map-set_same}
use Rattle.std.proofs.lemmas.List.{map-set, get_or-map, length-map}
use Rattle.std.specs.Result.{OnErr}
use Rattle.number_lists.proofs.NumberLists.push.Goals as goal

pub returns-clause-added : goal.returns-clause-added
returns-clause-added c =
    let lists = c.self.inside.lists.items in
    let within : c.args.k < length lists = subst (λ n. c.args.k < n) (sym (ap length c.self.view_is)
    ∙ length-map lists (λ list. list.items)) c.requires in
    let here : c.index_mut.result.now.items ≡ get_or c.args.self.now c.args.k [] =
    ap (λ w. w.items) c.index_mut.ensures.value ∙ sym (get_or-map (λ list. list.items) lists c.args.k c.index_mut.result.now [] within)
    ∙ ap (λ xs. get_or xs c.args.k []) c.self.view_is in
    map-set (λ list. list.items) lists c.args.k c.push.new.self
    ∙ ap (λ xs. set xs c.args.k c.push.new.self.items) c.self.view_is
    ∙ ap (set c.args.self.now c.args.k) (c.in_ok-push.ensures.items ∙ ap (λ xs. xs ++ c.args.number ∷ []) here)

on_error : {T E P : Type 0} (r : Result T E) → P → OnErr r P
on_error (Ok x) kept = tt
on_error (Err e) kept = kept

pub returns-in_err-push-clause-kept : goal.returns-in_err-push-clause-kept
returns-in_err-push-clause-kept c =
    let here = c.in_err-push.ensures.items ∙ ap (λ w. w.items) c.index_mut.ensures.value in
    on_error c.from_residual.result (map-set_same (λ list. list.items) c.self.inside.lists.items c.args.k c.push.new.self _ here
    ∙ c.self.view_is)
