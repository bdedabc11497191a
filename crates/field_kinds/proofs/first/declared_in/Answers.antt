use Rattle.std.proofs.Common.{◌↔◌, ◌++◌, [], Contains, nat_eq, get_or, take, sym, ap, ◌∙◌, subst}
use Rattle.std.specs.List.Sorted.{IsStrictlyIncreasing}
use Rattle.std.proofs.lemmas.List.{flat_map_more, take_all, take_more}
use Rattle.std.proofs.lemmas.List.Filters.{dedup_is}
use Rattle.std.proofs.lemmas.List.Kept.{Contains-dedup_nat, Contains-from_dedup}
use Rattle.std.proofs.lemmas.List.Sorted.{Contains-permutation, IsPermutation-sym}
use Rattle.std.proofs.lemmas.Map.Keys.{IsStrictlyIncreasing-dedup}
use Rattle.vocabulary.specs.Prelude.{Lined}
use Rattle.field_kinds.specs.Lists.{declared, declared_in}
use Rattle.field_kinds.proofs.first.declared_in.Goals as goal

pub loop-record-preserved : goal.loop-record-preserved
loop-record-preserved c =
    let records = c.args.records.now in
    let i = c.loop-record.record-index in
    let here = c.record-item.result in
    let before = declared_in (take i records) in
    c.in_ok-push_fields.ensures
    ∙ ap (λ fs. fs ++ c.declared_fields.result.now) c.loop-record.invariant
    ∙ ap (λ fs. before ++ fs) (c.declared_fields.ensures ∙ ap (λ (l : Lined). declared l.rec) c.record-item.is)
    ∙ flat_map_more (λ (l : Lined). declared l.rec) [] (take i records) (get_or records i here)
    ∙ ap declared_in (sym (take_more records i here c.loop-record-test.true))

pub returns-clause-just : goal.returns-clause-just
returns-clause-just c f =
    let sorted = c.sort_unstable.new.self.items in
    let perm = c.sort_unstable.ensures.permutation in
    let all = c.loop-record.invariant ∙ ap declared_in (take_all c.loop-record.record-index c.args.records.now c.loop-record-test.false) in
    let is = dedup_is nat_eq sorted c.dedup.new.self.items c.dedup.ensures.filtered in
    subst (λ fs. Contains c.dedup.new.self.items f ↔ Contains fs f) all
    (subst (λ fs. Contains fs f ↔ Contains c.loop-record.fields.items f) (sym is) (
      λ h. Contains-permutation sorted c.loop-record.fields.items f (IsPermutation-sym c.loop-record.fields.items sorted perm)
          (Contains-from_dedup nat_eq sorted f h),
      λ h. Contains-dedup_nat sorted f (Contains-permutation c.loop-record.fields.items sorted f perm h),
    ))

pub returns-clause-ascend : goal.returns-clause-ascend
returns-clause-ascend c =
    let sorted = c.sort_unstable.new.self.items in
    subst IsStrictlyIncreasing (sym (dedup_is nat_eq sorted c.dedup.new.self.items c.dedup.ensures.filtered))
    (IsStrictlyIncreasing-dedup sorted c.sort_unstable.ensures.sorted)
