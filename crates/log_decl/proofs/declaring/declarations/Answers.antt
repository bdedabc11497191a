use Rattle.std.proofs.Common.{◌≡◌, [], None, refl, sym, ◌∙◌, subst}
use Rattle.vocabulary.specs.Prelude.{records_of}
use Rattle.semantics.specs.Faults.{header_fault, ended_fault, count_fault, records_fault}
use Rattle.log_decl.proofs.lemmas.Ascending.{good_ascends, few_records}
use Rattle.log_decl.proofs.Ending.{after_frame, header_kept}
use Rattle.log_decl.proofs.declaring.declarations.Goals as goal

pub grow-requires : goal.grow-requires
grow-requires g c κs = (
  (refl, tt),
  (
    c.new-tables.ensures,
    (
      (λ k d lt. good_ascends _ (c.requires.good k d lt)),
      (
        few_records c.args.lines c.args.records.now c.requires.lines,
        header_kept c.args.lines c.args.records.now _ (sym c.frame_fault.ensures ∙ c.in_default.is),
      ),
    ),
  ),
)

pub returns-in-Ok-clause-faultless : goal.returns-in-Ok-clause-faultless
returns-in-Ok-clause-faultless g c =
    let log = c.args.records.now in
    after_frame (header_fault c.args.lines log) (ended_fault c.args.lines log) (count_fault log)
    (records_fault (records_of log) [] log) None
    (subst (λ o. o ≡ None) c.frame_fault.ensures c.in_default.is)
    c.in-Ok.ensures.faultless
