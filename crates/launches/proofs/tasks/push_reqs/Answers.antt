use Rattle.std.proofs.Common.{ℕ, List, [], ◌∷◌, ◌++◌, Option, unwrap_or, get_or, ap, ◌∙◌, arith}
use Rattle.vocabulary.specs.Prelude.{Record}
use Rattle.spy_grammar.specs.declared.record.Record.TheVariants as records
use Rattle.launches.specs.Steps.{req_for, space_by}
use Rattle.launches.proofs.TaskLists.{one_task_more}
use Rattle.launches.proofs.Writings.{space_stays}
use Rattle.launches.proofs.tasks.push_reqs.Goals as goal

pub loop-colour-preserved : goal.loop-colour-preserved
loop-colour-preserved c =
    let inv = c.loop-colour.invariant in
    let reqs = c.args.reqs.now in
    let was = c.loop-colour.writing in
    let id = c.loop-colour.id in
    let colour = get_or c.args.colours.now c.loop-colour.colour-index 0 in
    record {
      at = omega (arith, inv.at);
      same = λ other.
          ap (λ (rs : List Record). space_by rs reqs.part other) (c.in_ok-push.ensures
          ∙ ap (λ (r : Record). was ++ r ∷ []) c.in_ok-rec.ensures.req)
          ∙ space_stays was id reqs.tree (unwrap_or
          (space_by was reqs.part colour) 0) reqs.fields.now reqs.access reqs.atomic reqs.part other
          ∙ inv.same other;
      written = one_task_more
          (req_for c.args.writing.now reqs) c.args.writing.now was c.push.new.self c.args.base id c.loop-colour.colour-index c.args.colours.now inv.written inv.at c.loop-colour-test.true
          (c.in_ok-push.ensures ∙ ap (λ (r : Record). was ++ r ∷ []) (c.in_ok-rec.ensures.req
          ∙ ap (λ (o : Option ℕ). records.Req id reqs.tree (unwrap_or o 0) reqs.fields.now reqs.access reqs.atomic) (inv.same colour)));
    }
