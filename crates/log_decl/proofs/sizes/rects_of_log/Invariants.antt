use Rattle.std.proofs.Common.{◌≡◌, take}
use Rattle.log_decl.specs.Sizes.{rects_of_log}
use Rattle.log_decl.proofs.sizes.rects_of_log.Given as goal

abbrev pub invariant-loop-l : goal.invariant-loop-l
invariant-loop-l l = l.all.items ≡ rects_of_log (take l.l-index l.records)
