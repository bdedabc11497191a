use Rattle.std.proofs.Common.{◌≡◌, ℕ, inl, inr, false, Contains, subst, sym, arith}
use Rattle.std.proofs.lemmas.Bool.{cases_eq}
use Rattle.vocabulary.specs.Prelude.{uses_of}
use Rattle.semantics.specs.Shown.{is_task_at}
use Rattle.serial_scan.specs.Claims.{HasClaim}
use Rattle.serial_scan.proofs.Claiming.{claim_still}
use Rattle.serial_scan.proofs.claims.push_fills.Goals as goal

pub loop-item-init : goal.loop-item-init
loop-item-init g c = record { kept = λ d m. m; added = λ item lt. absurd (omega (arith, lt)) }

pub loop-item-preserved : goal.loop-item-preserved
loop-item-preserved g c =
    let t = c.args.log.now in
    let old = c.loop-item.claims.items in
    let new = c.push_own.new.claims.items in
    let keeps = c.in_ok-push_own.ensures.kept in
    record {
      kept = λ d m. keeps d (c.loop-item.invariant.kept d m);
      added = λ item lt other r m. elim (cases_eq item c.loop-item.item) [
        | inl e ↦ subst (λ j. HasClaim t new j r) (sym e)
            (c.in_ok-push_own.ensures.added (subst (λ j. is_task_at t j ≡ false) e other) r (subst (λ j. Contains (uses_of t j) r) e m))
        | inr ne ↦ claim_still t old new item r keeps (c.loop-item.invariant.added item (omega (arith, lt, ne)) other r m)
      ];
    }
