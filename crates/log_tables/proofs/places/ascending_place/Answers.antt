use Rattle.std.proofs.Common.{◌≡◌, ◌∙◌, sym, ap, arith}
use Rattle.std.proofs.lemmas.Option.{same_Some, slice_get_within}
use Rattle.log_tables.proofs.NumberedRows.{at_place, found_by_search, none_by_search}
use Rattle.log_tables.proofs.places.ascending_place.Goals as goal

pub returns-in_err-row : goal.returns-in_err-row
returns-in_err-row g c =
    let rows = c.args.rows.now in
    let place = c.count_below-place.result in
    c.from_residual.ensures
    ∙ none_by_search g.W.K.PartialEq.eq g.W.K.Key.number_of g.W.KeyBy.key_of g.met.W.K.Key.alike rows place c.number.result c.args.key c.requires c.number.ensures c.count_below-place.ensures
    (λ row at. let within = slice_get_within rows place row at in absurd (omega (arith, c.in_err-row.ensures.lookup.3, within)))

pub returns-then-eq : goal.returns-then-eq
returns-then-eq g c =
    let at = c.in_ok-row.ensures.lookup in
    found_by_search g.W.K.PartialEq.eq g.W.K.Key.number_of g.W.KeyBy.key_of g.met.W.K.Key.alike c.args.rows.now c.count_below-place.result c.in_ok-row.row.now c.args.key c.requires at.3.0 (at.3.1 c.in_ok-row.row.now)
    (ap (λ k. g.W.K.PartialEq.eq k c.args.key) (sym c.key.ensures) ∙ sym c.eq.ensures ∙ c.if-eq.true)

pub returns-else-eq : goal.returns-else-eq
returns-else-eq g c =
    let eq = g.W.K.PartialEq.eq in
    let number_of = g.W.K.Key.number_of in
    let key_of = g.W.KeyBy.key_of in
    let rows = c.args.rows.now in
    let place = c.count_below-place.result in
    let row = c.in_ok-row.row.now in
    let at = c.in_ok-row.ensures.lookup in
    let there = at_place eq number_of key_of g.met.W.K.Key.alike rows place row at.3.0 (at.3.1 row) in
    let other = ap (λ k. eq k c.args.key) (sym c.key.ensures) ∙ sym c.eq.ensures ∙ c.if-eq.false in
    none_by_search eq number_of key_of g.met.W.K.Key.alike rows place c.number.result c.args.key c.requires c.number.ensures c.count_below-place.ensures
    (λ (x : g.row.T.Denot) at_x. ap (λ (y : g.row.T.Denot). eq (key_of y) c.args.key) (same_Some x row (sym at_x ∙ there)) ∙ other)
