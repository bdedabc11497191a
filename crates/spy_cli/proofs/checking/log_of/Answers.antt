use Rattle.std.proofs.Common.{◌∙◌, ap, arith, length, map, sym, subst}
use Rattle.std.specs.List.{AllByRecursion}
use Rattle.std.proofs.lemmas.List.{length-map}
use Rattle.std.proofs.lemmas.List.Elements.{recursion_from_All}
use Rattle.vocabulary.specs.Prelude.{Lined, Good, spelling, lined, records_of, AreLines}
use Rattle.log_reading.proofs.lemmas.Numbered.{are_lines, each_good}
use Rattle.log_laws.proofs.lemmas.Numbered.{records_numbered, spellings_hold}
use Rattle.spy_cli.proofs.checking.log_of.Goals as goal

pub returns-clause-records : goal.returns-clause-records
returns-clause-records c = ap records_of c.in_ok-log.ensures ∙ records_numbered 1 c.args.records.items

pub returns-clause-count : goal.returns-clause-count
returns-clause-count c =
    ap length c.in_ok-log.ensures ∙ sym (length-map (lined c.args.records.items) (λ (l : Lined). l.rec))
    ∙ ap length (records_numbered 1 c.args.records.items)

pub returns-clause-good : goal.returns-clause-good
returns-clause-good c =
    let rs = c.args.records.items in
    each_good c.in_ok-log.log.items (subst (AllByRecursion Good) (sym (returns-clause-records c))
    (recursion_from_All Good rs c.requires.good))

pub returns-clause-lines : goal.returns-clause-lines
returns-clause-lines c =
    let rs = c.args.records.items in
    let many = length-map rs spelling in
    let lines = are_lines (map spelling rs) (lined rs) (spellings_hold 1 rs (recursion_from_All Good rs c.requires.good))
    (omega (arith, many, c.requires.few)) in
    subst (λ n. AreLines n c.in_ok-log.log.items) (many ∙ sym (returns-clause-count c))
    (subst (AreLines (length (map spelling rs))) (sym c.in_ok-log.ensures) lines)
