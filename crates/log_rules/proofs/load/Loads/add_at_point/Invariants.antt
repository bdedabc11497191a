use Rattle.std.proofs.Common.{[], ◌∷◌, take}
use Rattle.log_rules.specs.Loads.{CountsAt, is_held}
use Rattle.log_rules.proofs.load.Loads.add_at_point.Given as goal

abbrev pub invariant-loop-field : goal.invariant-loop-field
invariant-loop-field l = CountsAt l.initial.self l.self (is_held l.tree (l.point ∷ []) (take l.field-index l.fields))
