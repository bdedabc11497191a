use Rattle.std.proofs.Common.{◌++◌, ◌∷◌, [], take, sym, ap, ◌∙◌, subst}
use Rattle.std.proofs.lemmas.List.{take_all}
use Rattle.vocabulary.specs.Prelude.{Lined}
use Rattle.field_kinds.specs.Kinds.{AreKinds}
use Rattle.field_kinds.specs.Lists.{listed, lists_of}
use Rattle.field_kinds.proofs.Placed.{mapped_more}
use Rattle.field_kinds.proofs.Telling.{kinds_passed, kinds_rest, kinds_taken}
use Rattle.field_kinds.proofs.kinds.kinds_of.Goals as goal

pub loop-record-preserved-then-not-may_tell : goal.loop-record-preserved-then-not-may_tell
loop-record-preserved-then-not-may_tell c =
    let fields = c.args.fields.now in
    let before = c.loop-record.before.now in
    let numbers = c.loop-record.kinds.numbers.items in
    let list = c.listed_fields-list.result.now in
    let lists = lists_of (take c.loop-record.record-index c.args.records.now) in
    let more = mapped_more (λ (l : Lined). listed l.rec) c.args.records.now c.loop-record.record-index c.record-item.result
    c.loop-record-test.true c.record-item.is ∙ ap (λ fs. lists ++ fs ∷ []) (sym c.listed_fields-list.ensures) in
    record {
      kinds = subst (λ ls. AreKinds (before ∷ ls) fields numbers) (sym more)
          (kinds_passed before list lists fields numbers (c.may_tell.ensures c.if-not-may_tell.true) c.loop-record.invariant.kinds);
      below = c.loop-record.invariant.below;
      few = c.loop-record.invariant.few;
    }

pub loop-record-preserved : goal.loop-record-preserved
loop-record-preserved c =
    let fields = c.args.fields.now in
    let before = c.loop-record.before.now in
    let numbers = c.part_by.new.self.numbers.items in
    let list = c.listed_fields-list.result.now in
    let lists = lists_of (take c.loop-record.record-index c.args.records.now) in
    let more = mapped_more (λ (l : Lined). listed l.rec) c.args.records.now c.loop-record.record-index c.record-item.result
    c.loop-record-test.true c.record-item.is ∙ ap (λ fs. lists ++ fs ∷ []) (sym c.listed_fields-list.ensures) in
    let parted = c.in_ok-part_by.ensures.kinds (before ∷ lists) c.loop-record.invariant.kinds c.if-not-branch.false in
    record {
      kinds = subst (λ ls. AreKinds (list ∷ ls) fields numbers) (sym more) (kinds_taken before list lists fields numbers parted);
      below = c.in_ok-part_by.ensures.below c.if-not-branch.false;
      few = c.in_ok-part_by.ensures.few c.if-not-branch.false;
    }

pub returns-clause-kinds : goal.returns-clause-kinds
returns-clause-kinds c =
    subst (λ log. AreKinds (lists_of log) c.args.fields.now c.loop-record.kinds.numbers.items)
    (take_all c.loop-record.record-index c.args.records.now c.loop-record-test.false)
    (kinds_rest c.loop-record.before.now (lists_of (take c.loop-record.record-index c.args.records.now)) c.args.fields.now
    c.loop-record.kinds.numbers.items c.loop-record.invariant.kinds)
