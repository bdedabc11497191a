use Rattle.std.proofs.Common.{◌≡◌, ℕ, ◌+◌, ◌-◌, ◌<◌, inl, inr, length, get_or, sym, subst, arith}
use Rattle.std.proofs.lemmas.Bool.{cases_lt}
use Rattle.serial_scan.specs.declared.claims.Claim.{Claim}
use Rattle.serial_scan.proofs.Scanning.{ScannedFrom, scanned_all, scanned_clear, scanned_late, scanned_none}
use Rattle.serial_scan.proofs.scan.first_unclear.Goals as goal

pub loop-k-init : goal.loop-k-init
loop-k-init g c = scanned_none c.args.log.now c.args.firsts.now c.args.claims.now (length c.args.claims.now) c.new-uses.result _ (omega arith)

pub loop-k-preserved : goal.loop-k-preserved
loop-k-preserved g c =
    let t = c.args.log.now in
    let firsts = c.args.firsts.now in
    let claims = c.args.claims.now in
    let k = c.loop-k.k - 1 in
    let next : c.loop-k.k ≡ k + 1 = omega (arith, c.loop-k-test.true) in
    let within : k < length claims = omega (arith, c.loop-k-test.true, c.loop-k.auto.k) in
    let claim : Claim = c.claim_at-claim.result in
    let here : (d : Claim) → get_or claims k d ≡ claim = c.claim_at-claim.ensures in
    let later = subst (λ n. ScannedFrom t firsts claims n c.loop-k.uses c.loop-k.first) next c.loop-k.invariant in
    let earliest = c.in_ok-earliest.earliest in
    let visit = c.in_ok-earliest.ensures in
    let new = c.visit_claim.new.uses in
    elim (cases_lt earliest claim.one.position) [
      | inl behind ↦
          let is = c.first_with-first.ensures.behind behind in
          subst (ScannedFrom t firsts claims k new) (sym is)
          (scanned_late t firsts claims c.requires.order k within claim here c.loop-k.uses new c.loop-k.first later earliest visit)
      | inr ahead ↦
          let is = c.first_with-first.ensures.clear (omega (arith, ahead)) in
          subst (ScannedFrom t firsts claims k new) (sym is)
          (scanned_clear t firsts claims c.requires.order k within claim here c.loop-k.uses new c.loop-k.first later earliest visit
          (omega (arith, ahead)))
    ]

pub returns : goal.returns
returns g c =
    let none : c.loop-k.k ≡ 0 = omega (arith, c.loop-k-test.false) in
    scanned_all c.args.log.now c.args.firsts.now c.args.claims.now c.loop-k.uses c.loop-k.first
    (subst (λ n. ScannedFrom c.args.log.now c.args.firsts.now c.args.claims.now n c.loop-k.uses c.loop-k.first) none c.loop-k.invariant)
