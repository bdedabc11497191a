use Rattle.std.proofs.Common.{sym, ◌∙◌, arith, below_more}
use Rattle.std.proofs.lemmas.Option.{same_Some}
use Rattle.region_tree.proofs.lemmas.Climbs.{ancestor_more, at_most, never_met}
use Rattle.region_tree.proofs.Ways.{parent_declared}
use Rattle.region_tree.proofs.climb.is_under.Goals as goal

pub loop-up-preserved : goal.loop-up-preserved
loop-up-preserved g c =
    let up = sym c.parent.ensures ∙ c.in-Some.is in
    record {
      above = ancestor_more c.args.decls.now c.loop-up._up c.args.space c.loop-up.at c.loop-up.invariant.above ∙ up;
      declared = parent_declared c.args.decls.now c.loop-up.at c.in-Some.parent c.requires up;
      passed = below_more _ _ c.loop-up.invariant.passed
          (λ e. c.if-at-root.false (same_Some c.loop-up.at c.args.root (sym c.loop-up.invariant.above ∙ e)));
    }

pub returns-in-None : goal.returns-in-None
returns-in-None g c =
    let d = c.args.decls.now in
    let top = ancestor_more d c.loop-up._up c.args.space c.loop-up.at c.loop-up.invariant.above ∙ sym c.parent.ensures ∙ c.in-None.is in (
      λ told. absurd (let no_root : ⊥ = cc in no_root),
      λ under. absurd (never_met d c.loop-up._up c.args.space c.args.root
          (λ m e. at_most d c.loop-up._up c.args.space top c.args.root m e) c.loop-up.invariant.passed
          (λ e. c.if-at-root.false (same_Some c.loop-up.at c.args.root (sym c.loop-up.invariant.above ∙ e))) under.2.0 under.2.1),
    )

pub returns : goal.returns
returns g c = (
  λ told. absurd (let no_root : ⊥ = cc in no_root),
  λ under. absurd (c.loop-up.invariant.passed under.2.0
      (omega (arith, c.requires.shallow c.args.space c.args.root under.2.0 under.2.1, c.loop-up-test.false)) under.2.1),
)
