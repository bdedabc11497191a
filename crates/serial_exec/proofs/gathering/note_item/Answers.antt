use Rattle.std.proofs.Common.{◌≡◌, ◌++◌, ◌∙◌, [], ◌∷◌, sym, ap, subst, length, get_or, cond, All, ◌<◌}
use Rattle.std.specs.List.Sorted.{IsStrictlyIncreasing}
use Rattle.log_tables.specs.Ascending.{body_fields}
use Rattle.value_terms.specs.declared.terms.Base.TheVariants.{Const}
use Rattle.serial_exec.specs.declared.change.Action.TheVariants.{Put}
use Rattle.vocabulary.specs.Prelude.{points_in}
use Rattle.serial_exec.specs.Changes.{covered}
use Rattle.serial_exec.specs.Histories.{listed}
use Rattle.serial_exec.specs.OwnReqs.{reqs_at}
use Rattle.serial_exec.proofs.Gathered.{no-item, task-item, fill-item, fill-fields, item-here, item-past, on_ok}
use Rattle.serial_exec.proofs.gathering.note_item.Goals as goal

pub returns-in_default : goal.returns-in_default
returns-in_default g c = λ p.
    no-item c.args.log.now c.args.position c.args.item p (listed c.args.histories.now p)
    (item-past c.items.result.now c.args.log.now.items c.args.item c.items.ensures c.in_default.ensures.lookup.3)

pub note_in_region-requires : goal.note_in_region-requires
note_in_region-requires g c =
    let all = subst (λ xs. All (λ i. IsStrictlyIncreasing (body_fields i.body)) xs) (sym c.items.ensures) c.fill_fields_ascend.ensures in
    subst IsStrictlyIncreasing (sym c.as_slice-fields.ensures)
    (fill-fields c.items.result.now c.args.item c.in-Some.found.now c.in-Fill.tree c.in-Fill.space c.in-Fill.fields c.in-Fill.n all c.in-Some.ensures.lookup.3.0 c.in-Some.ensures.lookup.1 c.in-Fill.is)

pub returns-in-Task : goal.returns-in-Task
returns-in-Task g c =
    let t = c.args.log.now in
    let lt = c.in-Some.ensures.lookup.3.0 in
    let inside : c.args.item < length t.items = subst (λ xs. c.args.item < length xs) c.items.ensures lt in
    let mine : c.list.result.now ≡ get_or c.args.own.now c.args.item [] = c.list.ensures in
    on_ok c.note_reqs.result (λ h p. h p
    ∙ ap (λ xs. listed c.args.histories.now p ++ xs)
    (task-item t c.args.position c.args.item p c.in-Some.found.now (reqs_at t.reqs c.list.result.now)
    (item-here c.items.result.now t.items c.args.item c.in-Some.found.now c.items.ensures lt c.in-Some.ensures.lookup.1)
    c.in-Task.is
    (ap (reqs_at t.reqs) mine ∙ c.requires.own c.args.item inside))) c.note_reqs.ensures

pub returns-in-Fill : goal.returns-in-Fill
returns-in-Fill g c =
    let t = c.args.log.now in
    let lt = c.in-Some.ensures.lookup.3.0 in
    on_ok c.note_in_region.result (λ h p. h p
    ∙ ap (λ fields. listed c.args.histories.now p
    ++ cond (covered c.in-Fill.tree (points_in t c.in-Fill.space) fields p)
    (record { position = c.args.position; action = Put (Const c.in-Fill.n) } ∷ []) []) c.as_slice-fields.ensures
    ∙ ap (λ xs. listed c.args.histories.now p ++ xs)
    (fill-item t c.args.position c.args.item p c.in-Some.found.now c.in-Fill.tree c.in-Fill.space c.in-Fill.fields c.in-Fill.n
    (item-here c.items.result.now t.items c.args.item c.in-Some.found.now c.items.ensures lt c.in-Some.ensures.lookup.1)
    c.in-Fill.is)) c.note_in_region.ensures
