use Rattle.std.proofs.Common.{◌≡◌, filter, take}
use Rattle.vocabulary.specs.Prelude.{is_in}
use Rattle.field_kinds.proofs.cutting.kept_fields.Given as goal

abbrev pub invariant-loop-field : goal.invariant-loop-field
invariant-loop-field l = l.fields.items ≡ filter (is_in l.kept) (take l.field-index l.list)
