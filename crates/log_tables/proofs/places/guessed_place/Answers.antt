use Rattle.std.proofs.Common.{◌∙◌, sym, ap}
use Rattle.log_tables.proofs.NumberedRows.{found_by_search}
use Rattle.log_tables.proofs.places.guessed_place.Goals as goal

pub returns-then-eq : goal.returns-then-eq
returns-then-eq g c =
    let at = c.in-Some.ensures.lookup in
    found_by_search g.W.K.PartialEq.eq g.W.K.Key.number_of g.W.KeyBy.key_of g.met.W.K.Key.alike c.args.rows.now c.args.guess c.in-Some.row.now
    c.args.key c.requires at.3.0 (at.3.1 c.in-Some.row.now)
    (ap (λ k. g.W.K.PartialEq.eq k c.args.key) (sym c.key.ensures) ∙ sym c.eq.ensures ∙ c.if-eq.true)
