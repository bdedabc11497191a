use Rattle.std.proofs.Common.{◌++◌, sym, ap, ◌∙◌}
use Rattle.std.proofs.lemmas.List.{append-nil}
use Rattle.listed_sets.specs.Meant.{listed_points}
use Rattle.inst_steps.specs.FieldMoves.{moves_in_fields}
use Rattle.inst_steps.specs.Stepping.{pass_seen}
use Rattle.inst_steps.proofs.lemmas.FieldMoves.{with_none, with_some}
use Rattle.inst_steps.proofs.field_moves.push_sweep.Goals as goal

pub returns-in_default : goal.returns-in_default
returns-in_default g c =
    let t = c.args.log.now in
    let sweep = c.args.sweep.now in
    let listed = c.args.moves.now.items in
    sym (append-nil listed) ∙ ap (λ points. listed ++ moves_in_fields t (pass_seen sweep) points) (sym c.in_default.ensures)

pub returns-in_ok-push_fields-in-Some-first : goal.returns-in_ok-push_fields-in-Some-first
returns-in_ok-push_fields-in-Some-first g c =
    let t = c.args.log.now in
    let sweep = c.args.sweep.now in
    let listed = c.args.moves.now.items in
    c.in_ok-push_fields-in-Some-first.ensures
    ∙ ap (λ ms. listed ++ ms) (sym (ap (moves_in_fields t (pass_seen sweep)) c.in-Some.ensures
    ∙ with_some t (pass_seen sweep) (listed_points c.in-Some.set) c.in-Some-first.field-0 c.in-Some-first.ensures.0))

pub returns-in-None : goal.returns-in-None
returns-in-None g c =
    let t = c.args.log.now in
    let sweep = c.args.sweep.now in
    let listed = c.args.moves.now.items in
    sym (append-nil listed)
    ∙ ap (λ ms. listed ++ ms) (sym (ap (moves_in_fields t (pass_seen sweep)) c.in-Some.ensures
    ∙ with_none t (pass_seen sweep) (listed_points c.in-Some.set) c.in-None.ensures))
