use Rattle.std.proofs.Common.{◌≡◌, ◌+◌, ◌∙◌, sym, ap, arith}
use Rattle.log_tables.proofs.NumberedRows.{found_there, found_below, found_behind, found_other}
use Rattle.log_tables.proofs.places.numbered_place.Goals as goal

pub returns-in_err-place : goal.returns-in_err-place
returns-in_err-place g c = c.from_residual.ensures
    ∙ found_below g.W.K.PartialEq.eq g.W.K.Key.number_of g.W.KeyBy.key_of g.met.W.K.Key.alike c.args.rows.now c.args.first c.args.key c.requires
    (λ le. c.in_err-place.ensures (omega (arith, le, c.number.ensures)))

pub returns-in_err-row : goal.returns-in_err-row
returns-in_err-row g c =
    let is : g.W.K.Key.number_of c.args.key ≡ c.args.first + c.in_ok-place.place =
    omega (arith, c.number.ensures, c.in_ok-place.ensures.0, c.in_ok-place.ensures.1) in
    c.from_residual-in_err-row.ensures
    ∙ found_behind g.W.K.PartialEq.eq g.W.K.Key.number_of g.W.KeyBy.key_of g.met.W.K.Key.alike c.args.rows.now c.args.first c.in_ok-place.place c.args.key c.requires is c.in_err-row.ensures.lookup.3

pub returns-then-eq : goal.returns-then-eq
returns-then-eq g c =
    let at = c.in_ok-row.ensures.lookup in
    found_there g.W.K.PartialEq.eq g.W.K.Key.number_of g.W.KeyBy.key_of g.met.W.K.Key.alike c.args.rows.now c.args.first c.in_ok-place.place c.in_ok-row.row.now c.args.key c.requires at.3.0 (at.3.1 c.in_ok-row.row.now)
    (ap (λ k. g.W.K.PartialEq.eq k c.args.key) (sym c.key.ensures) ∙ sym c.eq.ensures ∙ c.if-eq.true)

pub returns-else-eq : goal.returns-else-eq
returns-else-eq g c =
    let at = c.in_ok-row.ensures.lookup in
    let is : g.W.K.Key.number_of c.args.key ≡ c.args.first + c.in_ok-place.place =
    omega (arith, c.number.ensures, c.in_ok-place.ensures.0, c.in_ok-place.ensures.1) in
    found_other g.W.K.PartialEq.eq g.W.K.Key.number_of g.W.KeyBy.key_of g.met.W.K.Key.alike c.args.rows.now c.args.first c.in_ok-place.place c.in_ok-row.row.now c.args.key c.requires is at.3.0 (at.3.1 c.in_ok-row.row.now)
    (ap (λ k. g.W.K.PartialEq.eq k c.args.key) (sym c.key.ensures) ∙ sym c.eq.ensures ∙ c.if-eq.false)
