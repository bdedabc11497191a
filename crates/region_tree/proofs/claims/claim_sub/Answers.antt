use Rattle.std.proofs.lemmas.Result.{on_ok_weaker}
use Rattle.region_tree.proofs.Claiming.{claims_more, claims_same}
use Rattle.region_tree.proofs.claims.claim_sub.Goals as goal

pub returns-in-Some : goal.returns-in-Some
returns-in-Some g c =
    let d = c.args.decls.now in
    let i = c.args.i in
    let points = g.P.PointSet.points c.in-Some.set.now in
    let old = c.args.claims.now.items in
    let new = c.claim_set.new.claims.items in
    on_ok_weaker c.claim_set.result
    (claims_more d c.args.asked i c.in-Some.group points old new c.requires c.in-Some.ensures) c.claim_set.ensures

pub returns-in-None : goal.returns-in-None
returns-in-None g c = claims_same c.args.decls.now c.args.asked c.args.i c.args.claims.now.items c.requires c.in-None.ensures
