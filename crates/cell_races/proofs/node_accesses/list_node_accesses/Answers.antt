use Rattle.std.proofs.Common.{◌<◌, length, subst, All, refl}
use Rattle.std.proofs.lemmas.List.Elements.{All-tail}
use Rattle.cell_races.specs.declared.cell_accesses.CellAccess.{CellAccess}
use Rattle.cell_races.proofs.node_accesses.list_node_accesses.Goals as goal

pub loop-cell_access-init : goal.loop-cell_access-init
loop-cell_access-init c =
    let parts = c.in-Some.ensures.cases.0 in
    record {
      within = All-tail (λ (x : CellAccess). x.place < length c.args.order.now) c.in-Some.first.now c.in-Some.rest.now
          (subst (All (λ (x : CellAccess). x.place < length c.args.order.now)) parts c.requires);
      same = rw (c.clear.ensures.items, c.node_access_of-last.ensures, parts) refl;
    }
