use Rattle.std.proofs.Common.{take}
use Rattle.licences.specs.Reach.{IsLeastAmong}
use Rattle.licences.proofs.refusal.refused_among.Given as goal

abbrev pub invariant-loop-field : goal.invariant-loop-field
invariant-loop-field g l = IsLeastAmong l.all l.asked (take l.field-index l.asked.fields) l.least
