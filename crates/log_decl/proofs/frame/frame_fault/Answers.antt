use Rattle.std.proofs.Common.{List, ap, ◌∙◌}
use Rattle.std.specs.Option.{option_or}
use Rattle.std.proofs.lemmas.List.{map-id}
use Rattle.vocabulary.specs.Prelude.{Lined}
use Rattle.semantics.specs.Faults.{header_fault, ended_fault, count_fault}
use Rattle.log_decl.proofs.frame.frame_fault.Goals as goal

pub returns : goal.returns
returns c =
    let lines = c.args.lines in
    c.frame_fault.ensures
    ∙ ap (λ (log : List Lined). option_or (header_fault lines log) (option_or (ended_fault lines log) (count_fault log)))
    (map-id c.args.records.now)
