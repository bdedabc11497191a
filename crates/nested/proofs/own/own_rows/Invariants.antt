use Rattle.std.proofs.Common.{◌≡◌, take}
use Rattle.nested.specs.Rows.{own_rows_by}
use Rattle.nested.proofs.own.own_rows.Given as goal

abbrev pub invariant-loop-req : goal.invariant-loop-req
invariant-loop-req g l = l.rows.items ≡ own_rows_by l.tables (take l.req-index l.req-items)
