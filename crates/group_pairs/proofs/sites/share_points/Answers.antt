use Rattle.std.proofs.Common.{◌≡◌, ◌∙◌, Option, None, MatchOption, subst}
use Rattle.log_tables.specs.Regions.{space_of, space_points}
use Rattle.region_tree.specs.Paths.{IsPath, Way}
use Rattle.group_pairs.proofs.Tables.{common_is, unknown_second}
use Rattle.group_pairs.proofs.sites.share_points.Goals as goal

pub returns-in_default-path : goal.returns-in_default-path
returns-in_default-path g c =
    let d = c.args.forest.now in
    let b = c.args.b.now in
    unknown_second d c.args.a.now b
    (subst (λ (o : Option Way). MatchOption o (space_of d b.space ≡ None)
    (λ way. IsPath d way b.space)) c.in_default-path.is c.requires.b)

pub returns : goal.returns
returns g c =
    let d = c.args.forest.now in
    let a = c.args.a.now in
    let b = c.args.b.now in
    let ours = subst (λ (o : Option Way). MatchOption o (space_of d a.space ≡ None)
    (λ way. IsPath d way a.space)) c.in-Some.is c.requires.a in
    let theirs = subst (λ (o : Option Way). MatchOption o (space_of d b.space ≡ None)
    (λ way. IsPath d way b.space)) c.in-Some-path.is c.requires.b in
    c.is_some.ensures ∙ common_is (space_points d a.space) (space_points d b.space) c.alias.result
    (c.alias.ensures a.space b.space ours theirs)
