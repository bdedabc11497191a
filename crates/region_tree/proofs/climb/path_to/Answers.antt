use Rattle.std.proofs.Common.{sym, ◌∙◌, arith}
use Rattle.region_tree.proofs.lemmas.Climbs.{ancestor_more}
use Rattle.region_tree.proofs.Ways.{whole_declared, step_up, leads_from}
use Rattle.region_tree.proofs.climb.path_to.Goals as goal

pub loop-up-preserved : goal.loop-up-preserved
loop-up-preserved g c =
    let d = c.args.decls.now in
    let up = sym c.step_to.ensures ∙ c.in-Some.is in
    let h = step_up d c.loop-up.top c.in-Some.whole c.in-Some.step up in
    record {
      above = ancestor_more d c.loop-up._up c.args.space c.loop-up.top c.loop-up.invariant.above ∙ h.5;
      declared = whole_declared d h.0.part c.in-Some.whole c.requires.forest h.3;
      leads = rw c.in_ok-insert-in-Some.ensures.ok
          (leads_from d c.loop-up.top c.in-Some.whole c.args.space c.in-Some.step c.loop-up.steps.items up c.loop-up.invariant.leads);
    }

pub unreachable-requires : goal.unreachable-requires
unreachable-requires g c = omega (
  arith,
  c.requires.forest.shallow c.args.space c.loop-up.top c.loop-up._up c.loop-up.invariant.above,
  c.loop-up-test.false,
)
