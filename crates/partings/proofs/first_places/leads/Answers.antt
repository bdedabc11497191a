use Rattle.std.proofs.Common.{◌≡◌, ◌+◌, ◌<◌, ◌∙◌, ap, sym, arith, get_or, length, replicate, set, false, true, subst}
use Rattle.std.proofs.lemmas.List.{length-set, length-replicate}
use Rattle.partings.specs.Parted.{AreLeads}
use Rattle.partings.proofs.Leading.{AreLeadsSoFar, leads_more, none_yet}
use Rattle.partings.proofs.first_places.leads.Goals as goal

pub loop-k-init : goal.loop-k-init
loop-k-init c =
    let unseen = c.in_ok-seen.ensures.items_if_clones_equal (λ y e. e) in
    let numbers = c.args.numbers.now in
    let points = c.args.points.now in
    record {
      each = ap length unseen ∙ length-replicate c.args.end false;
      so_far = subst (λ seen. AreLeadsSoFar 0 numbers points seen c.new-leads.result.items) (sym unseen)
          (subst (λ leads. AreLeadsSoFar 0 numbers points (replicate c.args.end false) leads) (sym c.new-leads.ensures.items)
          (none_yet numbers points c.args.end));
    }

pub loop-k-preserved : goal.loop-k-preserved
loop-k-preserved c =
    let seen = c.loop-k.seen.items in
    let k = c.loop-k.k in
    let numbers = c.args.numbers.now in
    let points = c.args.points.now in
    let within = c.loop-k-test.true in
    let fits : get_or numbers k 0 < length seen =
    let lt = c.requires.below k 0 (omega (arith, within, c.requires.each)) in omega (arith, lt, c.loop-k.invariant.each) in
    let more = leads_more k numbers points seen c.loop-k.leads.items c.loop-k.invariant.so_far c.requires.ascend within fits in
    record {
      each = ap length c.in_ok-note_lead.ensures.seen ∙ (length-set seen (get_or numbers k 0) true ∙ c.loop-k.invariant.each);
      so_far = subst (λ now. AreLeadsSoFar (k + 1) numbers points now c.note_lead.new.leads.items) (sym c.in_ok-note_lead.ensures.seen)
          (subst (λ leads. AreLeadsSoFar (k + 1) numbers points (set seen (get_or numbers k 0) true) leads) (sym c.in_ok-note_lead.ensures.leads) more);
    }

pub returns-clause-leads : goal.returns-clause-leads
returns-clause-leads c =
    let all : c.loop-k.k ≡ length c.args.points.now = omega (arith, c.loop-k-test.false, c.loop-k.auto.k-end) in
    subst (λ n. AreLeads n c.args.numbers.now c.args.points.now c.loop-k.leads.items) all c.loop-k.invariant.so_far.leads_are

pub returns-clause-ascend : goal.returns-clause-ascend
returns-clause-ascend c = c.loop-k.invariant.so_far.ascend
