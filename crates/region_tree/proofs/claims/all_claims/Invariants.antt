use Rattle.region_tree.specs.Claims.{AreClaims}
use Rattle.region_tree.proofs.claims.all_claims.Given as goal

abbrev pub invariant-loop-i : goal.invariant-loop-i
invariant-loop-i g l = AreClaims l.decls l.asked l.i l.claims.items
