use Rattle.std.proofs.Common.{◌≡◌, All, take}
use Rattle.vocabulary.specs.Prelude.{Good, Lined}
use Rattle.field_laws.specs.CutFields.{cut_log}
use Rattle.field_kinds.proofs.cutting.cut_records.Given as goal

abbrev pub invariant-loop-record : goal.invariant-loop-record
invariant-loop-record l = record {
  cut : l.cut.items ≡ cut_log l.fields (take l.record-index l.records);
  good : All (λ (r : Lined). Good r.rec) l.records → All (λ (r : Lined). Good r.rec) l.cut.items;
}
