use Rattle.serial_scan.proofs.Scanning.{ScannedFrom}
use Rattle.serial_scan.proofs.scan.first_unclear.Given as goal

abbrev pub invariant-loop-k : goal.invariant-loop-k
invariant-loop-k g l = ScannedFrom l.log l.firsts l.claims l.k l.uses l.first
