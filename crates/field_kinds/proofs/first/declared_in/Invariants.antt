use Rattle.std.proofs.Common.{◌≡◌, take}
use Rattle.field_kinds.specs.Lists.{declared_in}
use Rattle.field_kinds.proofs.first.declared_in.Given as goal

abbrev pub invariant-loop-record : goal.invariant-loop-record
invariant-loop-record l = l.fields.items ≡ declared_in (take l.record-index l.records)
