use Rattle.std.proofs.Common.{◌≡◌, List, IfOk, map, subst}
use Rattle.semantics.specs.declared.groups.Group.{Group}
use Rattle.semantics.specs.declared.groups.GroupReq.{GroupReq}
use Rattle.nested.specs.Rows.{row_among}
use Rattle.nested.proofs.rows.rows_of.Goals as goal

pub returns : goal.returns
returns g c =
    let t = c.args.tables.now in
    let n = c.args.groups.now in
    subst (λ (gs : List Group). IfOk c.rows_among.result (λ rows. rows.items ≡ map (row_among t n.privileges) gs)) c.groups.ensures
    (subst (λ (qs : List GroupReq). IfOk c.rows_among.result
    (λ rows. rows.items ≡ map (row_among t qs) c.groups.result.now)) c.privileges.ensures.privileges c.rows_among.ensures)
