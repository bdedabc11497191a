use Rattle.std.proofs.Common.{◌==◌, sym, ◌∙◌}
use Rattle.std.proofs.lemmas.List.Sums.{length-filter}
use Rattle.vocabulary.specs.Prelude.{Req}
use Rattle.inst_steps.proofs.sweep.own_count.Goals as goal

pub returns : goal.returns
returns g c = c.req_count.ensures ∙ sym (length-filter (λ (r : Req). r.item == c.args.item) c.args.log.now.reqs)
