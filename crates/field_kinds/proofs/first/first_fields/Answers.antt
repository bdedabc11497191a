use Rattle.std.proofs.Common.{IfSome, length, subst}
use Rattle.partings.specs.Parted.{AreLeads}
use Rattle.field_kinds.specs.Kinds.{AreKinds}
use Rattle.field_kinds.specs.Lists.{lists_of}
use Rattle.field_kinds.proofs.Telling.{firsts_of_kinds}
use Rattle.field_kinds.proofs.first.first_fields.Goals as goal

pub returns-clause-firsts : goal.returns-clause-firsts
returns-clause-firsts c =
    let log = c.args.records.now in
    let fields = c.in_ok-fields.fields.items in
    let numbers = c.in-Some.kinds.numbers.items in
    let firsts = c.in_ok-firsts.firsts.items in
    let kinds = subst (λ r. IfSome r (λ k. AreKinds (lists_of log) c.deref.result.now k.numbers.items)) c.in-Some.is
    c.in_ok-kinds.ensures.kinds in
    firsts_of_kinds log fields numbers firsts (subst (λ fs. AreKinds (lists_of log) fs numbers) c.deref.ensures.value kinds)
    (subst (λ fs. AreLeads (length fs) numbers fs firsts) c.deref-3.ensures.value
    (subst (λ ns. AreLeads (length c.deref-3.result.now) ns c.deref-3.result.now firsts) c.deref-2.ensures.value
    c.in_ok-firsts.ensures.leads))
