use Rattle.std.proofs.Common.{nat_eq, Some, refl, ap, arith}
use Rattle.std.specs.Map.{lookup}
use Rattle.std.specs.Vec.{with_item}
use Rattle.id_maps.specs.declared.IdMap.{IdMap}
use Rattle.id_maps.proofs.Placed.{after_err, put_in_others, put_in_table, same_entries}
use Rattle.id_maps.proofs.IdMap.insert.Goals as goal

pub returns-in_err-insert-clause-kept : goal.returns-in_err-insert-clause-kept
returns-in_err-insert-clause-kept g c =
    let old = c.args.self.now in
    let new : IdMap g.row.T.Denot = record { table = old.table; others = c.insert.new.self } in
    after_err c.from_residual.result (same_entries old new (λ k. refl) (λ e. ap (lookup (nat_eq e)) c.in_err-insert.ensures.err))

pub returns-then-k-ge-TABLE_END-clause-put : goal.returns-then-k-ge-TABLE_END-clause-put
returns-then-k-ge-TABLE_END-clause-put g c =
    let old = c.args.self.now in
    let new : IdMap g.row.T.Denot = record { table = old.table; others = c.insert.new.self } in
    put_in_others old new c.args.id c.args.value c.if-k-ge-TABLE_END.true refl c.in_ok-insert.ensures.updates.0

pub returns-in_err-grow-clause-kept : goal.returns-in_err-grow-clause-kept
returns-in_err-grow-clause-kept g c =
    let old = c.args.self.now in
    let new : IdMap g.row.T.Denot = record { table = c.grow.new.table; others = old.others } in
    after_err c.from_residual-in_err-grow.result (same_entries old new c.in_err-grow.ensures.held (λ e. refl))

pub returns-clause-put : goal.returns-clause-put
returns-clause-put g c =
    let old = c.args.self.now in
    let new : IdMap g.row.T.Denot = record { table = with_item c.grow.new.table c.args.id (Some c.args.value); others = old.others } in
    put_in_table old new c.grow.new.table.items c.args.id c.args.value c.if-k-ge-TABLE_END.false (omega (arith, c.in_ok-grow.ensures.long))
    c.in_ok-grow.ensures.held refl (λ e. refl)
