use Rattle.std.proofs.Common.{map, sym, ap, ◌∙◌}
use Rattle.std.specs.Option.{option_map}
use Rattle.vocabulary.specs.Prelude.{grid}
use Rattle.listed_sets.specs.Meant.{listed_points}
use Rattle.inst_steps.specs.Sweeps.{action_at, actions_of_pass}
use Rattle.inst_steps.specs.Stepping.{pass_seen}
use Rattle.inst_steps.proofs.Sweeping.{no_points, spot_actions_are}
use Rattle.inst_steps.proofs.iterator.sweep_start.Goals as goal

pub returns-in-Some-clause-actions : goal.returns-in-Some-clause-actions
returns-in-Some-clause-actions g c =
    let t = c.args.log.now in
    let sweep = c.in_ok-sweep.sweep in
    spot_actions_are listed_points t sweep.act c.first_spot.result c.first_spot.ensures.act
    ∙ ap (map (action_at t sweep.act)) c.first_spot.ensures.grid
    ∙ ap (λ points. map (action_at t sweep.act) (grid points sweep.fields.now)) (sym c.in-Some.ensures)
    ∙ ap (actions_of_pass t) (ap (option_map pass_seen) (sym c.in_ok-sweep.was) ∙ c.sweep_at.ensures)

pub returns-in-None-clause-actions : goal.returns-in-None-clause-actions
returns-in-None-clause-actions g c =
    let t = c.args.log.now in
    let sweep = c.in_ok-sweep.sweep in
    sym (no_points t (pass_seen sweep) c.in-None.ensures)
    ∙ ap (actions_of_pass t) (ap (option_map pass_seen) (sym c.in_ok-sweep.was) ∙ c.sweep_at.ensures)
