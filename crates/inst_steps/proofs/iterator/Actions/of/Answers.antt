use Rattle.std.proofs.Common.{sym, ap, ◌∙◌, subst}
use Rattle.std.specs.List.{AllByRecursion}
use Rattle.vocabulary.specs.Prelude.{moves_of}
use Rattle.inst_steps.specs.Acting.{IsBy, IsOwn, steps_in}
use Rattle.inst_steps.proofs.Allowed.{all_by, all_own}
use Rattle.inst_steps.proofs.Sweeping.{all_steps, node_moves}
use Rattle.inst_steps.proofs.iterator.Actions.of.Goals as goal

pub returns-clause-steps : goal.returns-clause-steps
returns-clause-steps g c =
    let t = c.args.log.now in
    rw c.again.ensures (ap steps_in c.start_from-at.ensures.actions ∙ all_steps t _
    ∙ node_moves (moves_of t) t c.nodes.result.now c.args.node c.index-nodes-node.result c.nodes.ensures c.requires)

pub returns-clause-by : goal.returns-clause-by
returns-clause-by g c =
    let t = c.args.log.now in
    rw c.again.ensures (subst (AllByRecursion (IsBy t)) (sym c.start_from-at.ensures.actions) (all_by t c.reqs_are_numbered.ensures _))

pub returns-clause-own : goal.returns-clause-own
returns-clause-own g c =
    let t = c.args.log.now in
    rw c.again.ensures (subst (AllByRecursion (IsOwn t)) (sym c.start_from-at.ensures.actions) (all_own t c.reqs_are_numbered.ensures _))
