use Rattle.std.proofs.Common.{◌≡◌, ◌||◌, take}
use Rattle.log_rules.specs.declared.claims.OwnPlace.{OwnPlace}
use Rattle.log_rules.specs.Own.{clashes_in, claims_at}
use Rattle.vocabulary.specs.Prelude.{Priv}
use Rattle.log_rules.proofs.claims.Claims.claim_all.Given as goal

abbrev pub invariant-loop-point : goal.invariant-loop-point
invariant-loop-point l =
    (k : OwnPlace) (a : Priv) → clashes_in l.self k a
    ≡ (clashes_in l.initial.self k a || claims_at l.asked.item l.asked.tree (take l.point-index l.points) l.asked.fields.now l.asked.access k a)
