use Rattle.std.proofs.Common.{◌≡◌, ◌==◌, map, filter, take}
use Rattle.semantics.specs.declared.groups.GroupReq.{GroupReq}
use Rattle.semantics.specs.Nesting.{as_req}
use Rattle.nested.specs.Rows.{claim_of}
use Rattle.nested.proofs.rows.row_of.Given as goal

abbrev pub invariant-loop-privilege : goal.invariant-loop-privilege
invariant-loop-privilege g l = l.row ≡ map (λ (q : GroupReq). claim_of l.tables (as_req q))
    (filter (λ (q : GroupReq). q.group == l.group) (take l.privilege-index l.privileges))
