use Rattle.std.proofs.Common.{[], ◌∷◌, ◌++◌, map, ap, ◌∙◌}
use Rattle.launch_claims.specs.declared.requirement.LaunchTasks.{LaunchTasks}
use Rattle.launches.specs.Steps.{launch_seen}
use Rattle.launches.specs.Uses.{tasks_by}
use Rattle.launches.proofs.Listing.{mapped_all, mapped_more}
use Rattle.launches.proofs.uses.launch_tasks.Goals as goal

pub loop-i-preserved : goal.loop-i-preserved
loop-i-preserved c =
    mapped_more tasks_by launch_seen c.args.lines.now c.args.launches.now c.loop-i.i c.index-launches-i.result c.loop-i.tasks.items c.push.new.self.items c.loop-i-test.true c.requires.lines c.index-launches-i.is c.loop-i.invariant
    (c.in_ok-push.ensures.items ∙ ap (λ (t : LaunchTasks). c.loop-i.tasks.items ++ t ∷ []) c.tasks_of.ensures)

pub returns : goal.returns
returns c = mapped_all tasks_by c.args.lines.now
    (map launch_seen c.args.launches.now) c.loop-i.i c.loop-i.tasks.items c.loop-i-test.false c.loop-i.invariant
