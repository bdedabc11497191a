use Rattle.std.proofs.Common.{◌≡◌, ◌++◌, take}
use Rattle.field_kinds.proofs.first.push_fields.Given as goal

abbrev pub invariant-loop-field : goal.invariant-loop-field
invariant-loop-field l = l.fields.items ≡ l.fn.fields.items ++ take l.field-index l.list
