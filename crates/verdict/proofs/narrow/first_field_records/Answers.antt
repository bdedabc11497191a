use Rattle.std.proofs.Common.{IfSome, sym, subst}
use Rattle.std.proofs.lemmas.Option.{IfSome_then}
use Rattle.field_laws.specs.Fields.{AreFirsts, field_lists}
use Rattle.verdict.proofs.narrow.first_field_records.Goals as goal

pub returns-in-Ok-clause-cut : goal.returns-in-Ok-clause-cut
returns-in-Ok-clause-cut c =
    let log = c.args.records.now in
    let firsts = subst (λ r. IfSome r (λ firsts. AreFirsts (field_lists log) firsts.items)) c.in-Ok-Some.field-0-is c.in-Ok-Some.ensures.firsts in
    IfSome_then c.in-Ok.cut c.in-Ok.ensures.cut (λ cut is. (
      c.deref.result.now,
      subst (AreFirsts (field_lists log)) (sym c.deref.ensures.value) firsts,
      is,
    ))
