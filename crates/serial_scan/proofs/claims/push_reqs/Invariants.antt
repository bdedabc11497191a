use Rattle.std.proofs.Common.{take}
use Rattle.serial_scan.specs.Claims.{Keeps}
use Rattle.serial_scan.proofs.Claiming.{AreAdded}
use Rattle.serial_scan.proofs.claims.push_reqs.Given as goal

abbrev pub invariant-loop-req : goal.invariant-loop-req
invariant-loop-req g l = record {
  kept : Keeps l.fn.claims.items l.claims.items;
  added : AreAdded l.log l.claims.items (take l.req-index l.req-items);
}
