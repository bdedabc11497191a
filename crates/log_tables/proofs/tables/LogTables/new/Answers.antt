use Rattle.std.proofs.Common.{[]}
use Rattle.std.specs.List.Sorted.{IsStrictlyIncreasing}
use Rattle.std.proofs.lemmas.List.Elements.{All-nil, All-same}
use Rattle.vocabulary.specs.Prelude.{FieldSpace, Item, Req, Inst}
use Rattle.log_tables.specs.Ascending.{body_fields}
use Rattle.log_tables.proofs.tables.LogTables.new.Goals as goal

pub invariant_of-result : goal.invariant_of-result
invariant_of-result g c = record {
  spaces = All-same (λ (f : FieldSpace). IsStrictlyIncreasing f.fields) _ [] c.new-2.ensures
      (All-nil (λ (f : FieldSpace). IsStrictlyIncreasing f.fields));
  items = All-same (λ (i : Item). IsStrictlyIncreasing (body_fields i.body)) _ [] c.new-5.ensures
      (All-nil (λ (i : Item). IsStrictlyIncreasing (body_fields i.body)));
  reqs = All-same (λ (r : Req). IsStrictlyIncreasing r.fields) _ [] c.new-6.ensures (All-nil (λ (r : Req). IsStrictlyIncreasing r.fields));
  insts = All-same (λ (i : Inst). IsStrictlyIncreasing i.fields) _ [] c.new-8.ensures
      (All-nil (λ (i : Inst). IsStrictlyIncreasing i.fields));
}
