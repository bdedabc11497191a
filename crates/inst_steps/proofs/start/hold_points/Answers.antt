use Rattle.std.proofs.Common.{ℕ, List, Some, cond, refl, sym, ap, ◌∙◌, ◌<◌, length, subst}
use Rattle.std.specs.FinMap.{get}
use Rattle.vocabulary.specs.Prelude.{is_in}
use Rattle.shared_values.specs.Arenas.{value_at}
use Rattle.inst_steps.specs.Stores.{HoldsMore, is_at_point, is_at_points}
use Rattle.inst_steps.proofs.Starting.{more_points}
use Rattle.inst_steps.proofs.start.hold_points.Goals as goal

pub hold_fields-requires : goal.hold_fields-requires
hold_fields-requires g c = subst (λ values. c.args.number < length values) (sym c.loop-point.invariant.2) c.requires

pub loop-point-init : goal.loop-point-init
loop-point-init g c =
    let start = c.into_iter-point-iterator.ensures.into_iter_gives ∙ c.points_in-point-items.ensures in (
      tt,
      tt,
      refl,
      λ cell. ap (λ (xs : List ℕ). cond (is_at_points c.args.inst (is_in xs) c.args.fields.now cell)
          (Some (value_at c.args.store.now.values c.args.number)) (get c.args.store.now.cells cell)) start,
    )

pub loop-point-preserved : goal.loop-point-preserved
loop-point-preserved g c =
    let rest = c.next.new.self in
    let steps = c.in-Some.ensures.steps in
    let values = c.loop-point.invariant.2 in
    let v = value_at c.args.store.now.values c.args.number in (
      tt,
      tt,
      c.hold_fields.ensures.values ∙ values,
      more_points c.args.inst c.in-Some.point rest c.args.fields.now v c.loop-point.store.cells c.hold_fields.new.store.cells _
          (λ cell. sym (ap (λ (xs : List ℕ). cond (is_at_points c.args.inst (is_in xs) c.args.fields.now cell) (Some v)
          (get c.loop-point.store.cells cell)) steps) ∙ c.loop-point.invariant.3 cell)
          (subst (λ values. HoldsMore (is_at_point c.args.inst c.in-Some.point c.args.fields.now) (λ cell. value_at values c.args.number)
          c.loop-point.store.cells c.hold_fields.new.store.cells) values c.in_ok-hold_fields.ensures.held),
    )
