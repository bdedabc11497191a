use Rattle.std.proofs.Common.{ℕ, ◌<◌, length, find, subst, sym}
use Rattle.std.specs.Option.{IsSome}
use Rattle.vocabulary.specs.Prelude.{Serial, Tables, tables_of, is_in, id_of}
use Rattle.log_laws.proofs.lemmas.Admitted.{no_broken_rule}
use Rattle.log_laws.proofs.lemmas.Listed.{each_listed, line_found}
use Rattle.logs.proofs.Lines.{line_needs, line_of}
use Rattle.logs.proofs.log.Log.serial_line.Goals as goal

pub returns-clause-some : goal.returns-clause-some
returns-clause-some g c =
    let t = c.args.self.now in
    let item = c.args.item in
    let is = c.line_listing.ensures in
    let declared = c.is_declared.ensures in
    let law = subst (λ (t : Tables). 0 < length t.serials → (item : ℕ) → item < length t.items
    → IsSome (find (λ (s : Serial). is_in s.ids (id_of t item)) t.serials)) (sym declared.tables)
    (λ some item lt. line_found (tables_of declared.log).serials _
    (each_listed declared.log (no_broken_rule declared.lines declared.log declared.faultless) some item lt)) in
    (λ some. line_needs t item (subst IsSome is some), λ both. subst IsSome (sym is) (line_of t item both.1 (law both.0 item both.1)))
