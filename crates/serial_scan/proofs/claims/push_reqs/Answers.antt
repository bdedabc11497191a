use Rattle.std.proofs.Common.{◌∙◌, ◌++◌, ◌∷◌, [], Contains, sym, ap, subst, take, arith}
use Rattle.std.proofs.lemmas.List.{take_all, take_more}
use Rattle.list_lemmas.proofs.lemmas.Contained.{Contains-nil}
use Rattle.serial_scan.proofs.Claiming.{AreAdded, reqs_more}
use Rattle.serial_scan.proofs.claims.push_reqs.Goals as goal

pub loop-req-init : goal.loop-req-init
loop-req-init g c = record { kept = λ d m. m; added = λ r m lt. absurd (Contains-nil m) }

pub loop-req-preserved : goal.loop-req-preserved
loop-req-preserved g c =
    let t = c.args.log.now in
    let reqs = c.reqs-req-items.result.now in
    let i = c.loop-req.req-index in
    let r = c.req-item.result in
    let old = c.loop-req.claims.items in
    let new = c.push_req.new.claims.items in
    let keeps = c.in_ok-push_req.ensures.kept in
    let more = take_more reqs i r (omega arith) in
    record {
      kept = λ d m. keeps d (c.loop-req.invariant.kept d m);
      added = subst (AreAdded t new) (ap (λ r. take i reqs ++ r ∷ []) c.req-item.is ∙ sym more)
          (reqs_more t old new (take i reqs) r keeps c.loop-req.invariant.added c.in_ok-push_req.ensures.added);
    }

pub returns-clause-added : goal.returns-clause-added
returns-clause-added g c = λ r m lt.
    let items = c.reqs-req-items.result.now in
    let all = take_all c.loop-req.req-index items (omega (arith, c.loop-req-test.false)) in
    c.loop-req.invariant.added r (subst (λ rs. Contains rs r) (sym (all ∙ c.reqs-req-items.ensures.reqs)) m) lt
