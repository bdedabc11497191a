use Rattle.std.proofs.Common.{◌≡◌, ◌-◌, ◌<◌, length, slice_get, Some, sym, arith}
use Rattle.std.proofs.lemmas.Bool.{ltb-true}
use Rattle.std.proofs.lemmas.Option.{slice_get_within}
use Rattle.log_tables.proofs.NumberedRows.{ascending_more}
use Rattle.log_tables.proofs.places.ascend_with.Goals as goal

pub returns-in-Some : goal.returns-in-Some
returns-in-Some g c = λ row of_key told.
    let rows = c.args.rows.now in
    let last = c.in-Some.last.now in
    let there : slice_get rows (length rows - 1) ≡ Some last = sym c.in-Some.ensures.value in
    let some = slice_get_within rows (length rows - 1) last there in
    let less = ltb-true c.number.result c.number-in-Some.result told in
    let beyond : g.W.K.Key.number_of (g.W.KeyBy.key_of last) < g.W.K.Key.number_of (g.W.KeyBy.key_of row) =
    rw (sym c.key.ensures, of_key) (omega (arith, less, c.number.ensures, c.number-in-Some.ensures)) in
    ascending_more g.W.K.Key.number_of g.W.KeyBy.key_of rows (length rows - 1) last row c.requires there (omega (arith, some)) beyond
