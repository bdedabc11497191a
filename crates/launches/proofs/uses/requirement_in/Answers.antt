use Rattle.std.proofs.Common.{map, sym, ap, ◌∙◌}
use Rattle.vocabulary.specs.Prelude.{Record}
use Rattle.launches.specs.Uses.{asked_by, space_seen}
use Rattle.launches.proofs.Listing.{asked_none, asked_some}
use Rattle.launches.proofs.uses.requirement_in.Goals as goal

pub returns-in_default-space_of : goal.returns-in_default-space_of
returns-in_default-space_of g c =
    let a = c.in-Req in
    let rows = c.args.spaces.now in
    asked_none g.P.PointSet.points rows c.space_of.result a.task a.tree a.space c.args.line a.fields a.access a.atomic c.space_of.ensures c.in_default-space_of.is
    ∙ ap (λ (r : Record). asked_by (map (space_seen g.P.PointSet.points) rows) (c.args.line, r)) (sym a.is)

pub returns-in-Some : goal.returns-in-Some
returns-in-Some g c =
    let a = c.in-Req in
    let rows = c.args.spaces.now in
    asked_some g.P.PointSet.points rows c.space_of.result c.in-Some.space a.task a.tree a.space c.args.line a.fields c.as_slice.result.now a.access c.priv_of.result a.atomic c.space_of.ensures c.in-Some.is c.as_slice.ensures c.priv_of.ensures
    ∙ ap (λ (r : Record). asked_by (map (space_seen g.P.PointSet.points) rows) (c.args.line, r)) (sym a.is)
