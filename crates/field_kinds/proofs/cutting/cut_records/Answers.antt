use Rattle.std.proofs.Common.{◌≡◌, ◌++◌, ◌∷◌, [], All, IfSome, take, sym, ap, ◌∙◌, subst}
use Rattle.std.proofs.lemmas.List.{take_all}
use Rattle.std.proofs.lemmas.List.Elements.{All-push}
use Rattle.vocabulary.specs.Prelude.{AreLines, Good, Lined}
use Rattle.field_laws.specs.CutFields.{cut_line, cut_log, cut_record}
use Rattle.field_kinds.proofs.Placed.{mapped_more}
use Rattle.field_kinds.proofs.Spelled.{cut_are_lines}
use Rattle.field_kinds.proofs.cutting.cut_records.Goals as goal

pub loop-record-preserved : goal.loop-record-preserved
loop-record-preserved c =
    let fields = c.args.fields.now in
    let records = c.args.records.now in
    let i = c.loop-record.record-index in
    let here = c.record-item.result in
    let is = subst (λ r. IfSome r (λ cut. cut ≡ cut_record fields here.rec)) c.in-Some.is c.in_ok-rec.ensures.cut in
    record {
      cut =
          c.in_ok-push.ensures.items
          ∙ ap (λ log. log ++ record { line = here.line; rec = c.in-Some.rec } ∷ []) c.loop-record.invariant.cut
          ∙ ap (λ rec. cut_log fields (take i records) ++ record { line = here.line; rec = rec } ∷ []) is
          ∙ sym (mapped_more (cut_line fields) records i here c.loop-record-test.true c.record-item.is);
      good = λ all.
          let was = subst (λ (l : Lined). Good l.rec) (sym c.record-item.is) (all i here c.loop-record-test.true) in
          let now = subst (λ r. Good here.rec → IfSome r (λ cut. Good cut)) c.in-Some.is c.in_ok-rec.ensures.good was in
          subst (λ log. All (λ (l : Lined). Good l.rec) log) (sym c.in_ok-push.ensures.items)
          (All-push (λ (l : Lined). Good l.rec) c.loop-record.cut.items (record { line = here.line; rec = c.in-Some.rec })
          (c.loop-record.invariant.good all) now);
    }

pub returns-clause-lines : goal.returns-clause-lines
returns-clause-lines c lines are =
    let is = c.loop-record.invariant.cut
    ∙ ap (cut_log c.args.fields.now) (take_all c.loop-record.record-index c.args.records.now c.loop-record-test.false) in
    subst (AreLines lines) (sym is) (cut_are_lines c.args.fields.now lines c.args.records.now are)
