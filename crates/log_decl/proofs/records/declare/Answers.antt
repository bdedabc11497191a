use Rattle.std.proofs.Common.{◌∙◌, ap, sym, refl, List, arith}
use Rattle.vocabulary.specs.Prelude.{Lined, tables_of}
use Rattle.semantics.specs.Faults.{declaration_fault}
use Rattle.log_reading.proofs.lemmas.Numbered.{good_records}
use Rattle.log_decl.proofs.records.declare.Goals as goal

pub of-requires : goal.of-requires
of-requires g c κs =
    let log = c.args.records.now.items in
    let is = c.deref.ensures.value in
    let tables = c.in-Ok.ensures.tables in (
      (refl, tt),
      (
        record {
          lines = c.args.lines;
          log = log;
          good = good_records log c.requires.good;
          on_lines = c.requires.lines;
          faultless = ap (λ (log : List Lined). declaration_fault c.args.lines log) (sym is) ∙ c.in-Ok.ensures.faultless;
          tables = tables ∙ ap tables_of is;
        },
        c.in-Ok.ensures.sound,
      ),
    )

pub returns-in-Ok-of-clause-faultless : goal.returns-in-Ok-of-clause-faultless
returns-in-Ok-of-clause-faultless g c = ap (λ (log : List Lined). declaration_fault c.args.lines log) (sym c.deref.ensures.value)
    ∙ c.in-Ok.ensures.faultless

pub returns-in-Err-clause-fault : goal.returns-in-Err-clause-fault
returns-in-Err-clause-fault g c = λ line code is. ap (λ (log : List Lined). declaration_fault c.args.lines log) (sym c.deref.ensures.value)
    ∙ c.declarations.ensures.fault line code (grind (arith, c.in-Err.is, is))
