use Rattle.std.proofs.Common.{◌≡◌, ◌-◌, ◌≤◌, true, false, List, Some, drop, take, length, slice_get, subst, sym, ap, arith, rules}
use Rattle.std.specs.List.Sorted.{IsPartitionPoint, IsPartitionedBy}
use Rattle.std.proofs.lemmas.Bool.{lt-ltb}
use Rattle.std.proofs.lemmas.Fn.{always_returns_same}
use Rattle.std.proofs.lemmas.List.{length-drop, take_all}
use Rattle.log_tables.specs.Noted.{is_below}
use Rattle.log_tables.proofs.NumberedRows.{can_search, can_search_recent, parted_recent}
use Rattle.log_tables.proofs.places.count_below.Goals as goal

pub returns-then-number : goal.returns-then-number
returns-then-number g c =
    let number_of = g.W.K.Key.number_of in
    let key_of = g.W.KeyBy.key_of in
    let rows = c.args.rows.now in
    let from = c.saturating_sub-from.result in
    let row = c.in-Some.first.now in
    let size = length-drop from rows in
    let whole : take (length rows - from) (drop from rows) ≡ drop from rows = take_all (length rows - from) (drop from rows) (omega (arith, size)) in
    let first = subst (λ (xs : List g.row.T.Denot). slice_get xs 0 ≡ Some row) whole (sym c.in-Some.ensures.value) in
    let low = lt-ltb (number_of (key_of row)) c.args.number (omega (arith, c.if-number.true, c.number.ensures, ap number_of c.key.ensures)) in
    let test = is_below number_of key_of c.args.number in
    let searched = subst (λ (xs : List g.row.T.Denot). IsPartitionedBy test xs) (sym whole)
    (can_search_recent g.W.K.PartialEq.eq number_of key_of g.met.W.K.Key.alike rows from c.args.number c.requires) in
    let parts = c.partition_point.ensures.partitioned test (always_returns_same _ _ _ (λ a r f called. search rules)) searched in
    parted_recent g.W.K.PartialEq.eq number_of key_of g.met.W.K.Key.alike rows from c.partition_point.result c.args.number row c.requires first low
    (subst (λ (xs : List g.row.T.Denot). IsPartitionPoint (λ x. test x ≡ true) (λ x. test x ≡ false) xs c.partition_point.result) whole parts)

pub returns-else-number : goal.returns-else-number
returns-else-number g c =
    c.partition_point-else-number.ensures.partitioned (is_below g.W.K.Key.number_of g.W.KeyBy.key_of c.args.number)
    (always_returns_same _ _ _ (λ a r f called. search rules))
    (can_search g.W.K.PartialEq.eq g.W.K.Key.number_of g.W.KeyBy.key_of g.met.W.K.Key.alike c.args.rows.now c.args.number c.requires)
