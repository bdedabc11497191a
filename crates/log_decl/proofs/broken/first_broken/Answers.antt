use Rattle.std.proofs.Common.{inl, inr, ap}
use Rattle.std.proofs.lemmas.Result.{IfOk-weaker}
use Rattle.semantics.specs.Rules.{is_end, is_planar}
use Rattle.log_decl.specs.RulesOf.{of_ends, of_insts, of_maps, of_names, of_reqs, of_serials, of_spaces, of_subs}
use Rattle.log_decl.proofs.RulesOf.{IsOf, no_end, of_all, rules_of}
use Rattle.log_decl.proofs.broken.first_broken.Goals as goal

pub returns-in-Sub : goal.returns-in-Sub
returns-in-Sub g c = λ earlier has same cells.
    let at = c.args.at.now in
    let t = at.named.now.tables.now in
    let r = at.named.now.rec.now in
    of_all at.whole.now earlier t r c.first_of_sub.result of_subs (ap rules_of c.in-Sub.is)
    (c.first_of_sub.ensures (no_end (is_planar t) r (ap is_end c.in-Sub.is)) earlier has same cells)

pub returns-in-Serial : goal.returns-in-Serial
returns-in-Serial g c = λ earlier has same cells.
    let at = c.args.at.now in
    let t = at.named.now.tables.now in
    let r = at.named.now.rec.now in
    IfOk-weaker c.first_of_serial.result _ _ (λ code told. of_all at.whole.now earlier t r code of_serials (ap rules_of c.in-Serial.is) told)
    (c.first_of_serial.ensures (no_end (is_planar t) r (ap is_end c.in-Serial.is)) earlier has same cells)

pub returns-in-Inst : goal.returns-in-Inst
returns-in-Inst g c = λ earlier has same cells.
    let at = c.args.at.now in
    let t = at.named.now.tables.now in
    let r = at.named.now.rec.now in
    of_all at.whole.now earlier t r c.first_of_inst.result of_insts (ap rules_of c.in-Inst.is)
    (c.first_of_inst.ensures (no_end (is_planar t) r (ap is_end c.in-Inst.is)) earlier has same cells)

pub returns-in-Map : goal.returns-in-Map
returns-in-Map g c = λ earlier has same cells.
    let at = c.args.at.now in
    let t = at.named.now.tables.now in
    let r = at.named.now.rec.now in
    of_all at.whole.now earlier t r c.first_of_map.result of_maps (ap rules_of c.in-Map.is)
    (c.first_of_map.ensures (no_end (is_planar t) r (ap is_end c.in-Map.is)) earlier has same cells)

pub returns-in-Req : goal.returns-in-Req
returns-in-Req g c = λ earlier has same cells.
    let at = c.args.at.now in
    let t = at.named.now.tables.now in
    let r = at.named.now.rec.now in
    let is : IsOf r of_reqs = elim c.in-Req.is [ inl q ↦ (ap rules_of q.6, ap is_end q.6) | inr q ↦ (ap rules_of q.5, ap is_end q.5) ] in
    IfOk-weaker c.first_of_req.result _ _ (λ code told. of_all at.whole.now earlier t r code of_reqs is.0 told)
    (c.first_of_req.ensures (no_end (is_planar t) r is.1) earlier has same cells)

pub returns-in-Ispace : goal.returns-in-Ispace
returns-in-Ispace g c = λ earlier has same cells.
    let at = c.args.at.now in
    let t = at.named.now.tables.now in
    let r = at.named.now.rec.now in
    let is : IsOf r of_spaces = elim c.in-Ispace.is [ inl q ↦ (ap rules_of q.2, ap is_end q.2) | inr q ↦ (ap rules_of q.2, ap is_end q.2) ] in
    of_all at.whole.now earlier t r c.first_of_space.result of_spaces is.0
    (c.first_of_space.ensures (no_end (is_planar t) r is.1) earlier has same cells)

pub returns-in-Header : goal.returns-in-Header
returns-in-Header g c = λ earlier has same cells.
    let at = c.args.at.now in
    let t = at.named.now.tables.now in
    let r = at.named.now.rec.now in
    let is : IsOf r of_names = elim c.in-Header.is [ inl q ↦ (ap rules_of q.1, ap is_end q.1) | inr rest0 ↦ elim rest0 [ inl q ↦ (ap rules_of q.3, ap is_end q.3) | inr rest1 ↦ elim rest1 [ inl q ↦ (ap rules_of q.2, ap is_end q.2) | inr rest2 ↦ elim rest2 [ inl q ↦ (ap rules_of q.3, ap is_end q.3) | inr rest3 ↦ elim rest3 [ inl q ↦ (ap rules_of q.1, ap is_end q.1) | inr q ↦ (ap rules_of q.1, ap is_end q.1) ] ] ] ] ] in
    of_all at.whole.now earlier t r c.first_of_name.result of_names is.0
    (c.first_of_name.ensures (no_end (is_planar t) r is.1) earlier has same cells)

pub returns-in-End : goal.returns-in-End
returns-in-End g c = λ earlier has same cells.
    let at = c.args.at.now in
    IfOk-weaker c.first_at_end.result _ _ (λ code told.
    of_all at.whole.now earlier at.named.now.tables.now at.named.now.rec.now code of_ends (ap rules_of c.in-End.is) told)
    (c.first_at_end.ensures earlier has same cells)
