use Rattle.std.proofs.Common.{[], ap, sym, ◌∙◌}
use Rattle.std.specs.Option.{option_or}
use Rattle.vocabulary.specs.Prelude.{records_of}
use Rattle.semantics.specs.Faults.{records_fault}
use Rattle.crowded_logs.proofs.lemmas.CrowdedFault.{fault_told, header_told, some_told}
use Rattle.log_decl.proofs.lemmas.Ascending.{good_ascends}
use Rattle.log_decl.proofs.crowded.crowded_fault.Goals as goal

pub returns-in-Some : goal.returns-in-Some
returns-in-Some c log told =
    let kept = c.args.kept.now in
    fault_told c.args.lines log kept c.args.frame told
    ∙ ap (λ o. option_or o (records_fault (records_of kept) [] kept)) (sym c.fault.ensures ∙ c.in-Some.is)

pub kept_fault-requires-clause-ascends : goal.kept_fault-requires-clause-ascends
kept_fault-requires-clause-ascends c k d lt = good_ascends _ (c.requires.good k d lt)

pub kept_fault-requires-clause-header : goal.kept_fault-requires-clause-header
kept_fault-requires-clause-header c =
    header_told c.args.lines c.requires.log.0 c.args.kept.now c.args.frame c.requires.log.1 (sym c.fault.ensures ∙ c.in_default.is)

pub unreachable-requires : goal.unreachable-requires
unreachable-requires c =
    some_told c.args.lines c.requires.log.0 c.args.kept.now c.args.frame c.requires.log.1 (sym c.fault.ensures ∙ c.in_default.is)
    (sym c.in_ok-fault.ensures ∙ c.in-None.is)

pub returns : goal.returns
returns c log told =
    let kept = c.args.kept.now in
    fault_told c.args.lines log kept c.args.frame told
    ∙ ap (λ o. option_or o (records_fault (records_of kept) [] kept)) (sym c.fault.ensures ∙ c.in_default.is)
    ∙ sym c.in_ok-fault.ensures ∙ c.in-Some-2.is
