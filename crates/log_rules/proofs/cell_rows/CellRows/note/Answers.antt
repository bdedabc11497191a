use Rattle.std.proofs.Common.{Option, ℕ, sym, subst, ◌∙◌}
use Rattle.std.specs.Option.{MatchOption}
use Rattle.std.specs.Prelude.{⊤}
use Rattle.cell_bits.specs.declared.cells.CellBits.{CellBits}
use Rattle.log_rules.specs.Rows.{IsNewRow}
use Rattle.log_rules.proofs.BitRows.{rows_more, rows_stay}
use Rattle.log_rules.proofs.cell_rows.CellRows.note.Goals as goal

pub returns-in_default : goal.returns-in_default
returns-in_default g c = λ all line grid has. rows_stay all c.args.tables.now line c.args.rec.now c.args.self.now has

pub returns-then-has_space : goal.returns-then-has_space
returns-then-has_space g c = λ all line grid has. rows_stay all c.args.tables.now line c.args.rec.now c.args.self.now has

pub returns : goal.returns
returns g c = λ all line grid has.
    let t = c.args.tables.now in
    let r = c.args.rec.now in
    let none = sym c.has_space.ensures ∙ c.if-has_space.false in
    let row = subst (λ (o : Option (ℕ × CellBits)). MatchOption o ⊤ (λ f. IsNewRow all t r f.0 f.1)) c.in-Some.is
    (c.in_ok-id.ensures all grid) in
    rows_more all t line r c.args.self.now (record { rows = c.insert.new.self }) c.in-Some.id c.in-Some.bits has row none
    c.in_ok-insert.ensures.updates.0
