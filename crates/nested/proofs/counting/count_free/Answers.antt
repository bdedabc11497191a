use Rattle.std.proofs.Common.{◌≡◌, ◌∙◌, ℕ, All, IfOk, ap, sym, subst}
use Rattle.vocabulary.specs.Prelude.{Tables}
use Rattle.licences.specs.Claims.{Claimed}
use Rattle.log_tables.specs.Regions.{Regions, space_points}
use Rattle.group_pairs.specs.Sides.{Sided}
use Rattle.nested.specs.Sides.{sides_in}
use Rattle.nested.proofs.Pairs.{pairs_told, sides_in_spaces}
use Rattle.nested.proofs.counting.count_free.Goals as goal

pub count_apart-requires-clause-points : goal.count_apart-requires-clause-points
count_apart-requires-clause-points g c =
    let t = c.args.log.now in
    let n = c.args.found.now.groups in
    let ss = c.deref-2.result.now in
    subst (λ (d : Regions). All (λ (s : Sided). All (λ (c : Claimed). c.points ≡ space_points d c.space) s.claims) ss)
    (sym c.forest-forest.ensures)
    (sides_in_spaces t n ss (c.deref-2.ensures.value ∙ c.in_ok-sides.ensures ∙ ap (λ (u : Tables). sides_in u n) c.tables.ensures))

pub returns : goal.returns
returns g c =
    let t = c.args.log.now in
    let n = c.args.found.now.groups in
    subst (λ (m : ℕ). IfOk c.count_apart.result (λ count. count ≡ m))
    (pairs_told t n c.deref-2.result.now (c.deref-2.ensures.value ∙ c.in_ok-sides.ensures
    ∙ ap (λ (u : Tables). sides_in u n) c.tables.ensures)) c.count_apart.ensures
