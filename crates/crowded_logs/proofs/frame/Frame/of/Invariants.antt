use Rattle.std.proofs.Common.{◌≡◌, take}
use Rattle.crowded_logs.specs.Noted.{frame_of}
use Rattle.crowded_logs.proofs.frame.Frame.of.Given as goal

abbrev pub invariant-loop-l : goal.invariant-loop-l
invariant-loop-l l = (l.frame ≡ frame_of (take l.l-index l.records)) × (l.frame.count ≡ l.l-index)
