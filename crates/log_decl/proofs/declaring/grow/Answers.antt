use Rattle.std.proofs.Common.{Err, subst, sym, ap, ◌∙◌}
use Rattle.std.proofs.lemmas.Option.{slice_get-get_or, slice_get_within}
use Rattle.semantics.specs.Faults.{at_line}
use Rattle.log_decl.specs.declared.decl_end.DeclEnd.TheVariants as ends
use Rattle.log_decl.specs.Walk.{HasWalked}
use Rattle.log_decl.proofs.Ending.{known_end, refused, stopped, ended, same_fault}
use Rattle.log_decl.proofs.declaring.grow.Goals as goal

pub returns-in_err-judge_forest-clause-fault : goal.returns-in_err-judge_forest-clause-fault
returns-in_err-judge_forest-clause-fault g c = λ line code e.
    let w = c.in_ok-walked.walked in
    let known = known_end _ c.from_residual-in_err-judge_forest.result
    (ends.Fault line code) c.from_residual-in_err-judge_forest.ensures.1 e in
    refused c.args.records.now w.kept c.walked.new.tables w.code (at_line code line) c.in_ok-walked.ensures
    (c.judge_forest.ensures.fault line code (c.in_err-judge_forest.was ∙ ap (λ x. Err x) (sym known)))

pub bounds-records-walked : goal.bounds-records-walked
bounds-records-walked g c =
    let w = c.in_ok-walked.walked in
    let stands = subst (HasWalked c.args.records.now w.kept c.walked.new.tables) c.in-Some.is c.in_ok-walked.ensures in
    slice_get_within c.args.records.now w.kept stands.here.0 stands.here.1

pub bounds-records-walked-in-Some : goal.bounds-records-walked-in-Some
bounds-records-walked-in-Some g c =
    let w = c.in_ok-walked.walked in
    let stands = subst (HasWalked c.args.records.now w.kept c.walked.new.tables) c.in-Some.is c.in_ok-walked.ensures in
    slice_get_within c.args.records.now w.kept stands.here.0 stands.here.1

pub returns-in-Some-clause-fault : goal.returns-in-Some-clause-fault
returns-in-Some-clause-fault g c = λ line code e.
    let log = c.args.records.now in
    let w = c.in_ok-walked.walked in
    let stands = subst (HasWalked log w.kept c.walked.new.tables) c.in-Some.is c.in_ok-walked.ensures in
    let lt = slice_get_within log w.kept stands.here.0 stands.here.1 in
    let told = stopped log w.kept c.walked.new.tables c.in-Some.code _ stands
    (slice_get-get_or log w.kept c.index-records-walked.result lt) c.in_ok-judge_forest.ensures.faultless in
    same_fault _ _ line _ code told e

pub returns-in-None-clause-faultless : goal.returns-in-None-clause-faultless
returns-in-None-clause-faultless g c =
    let w = c.in_ok-walked.walked in
    ended c.args.records.now w.kept c.walked.new.tables
    (subst (HasWalked c.args.records.now w.kept c.walked.new.tables) c.in-None.is c.in_ok-walked.ensures) c.in_ok-judge_forest.ensures.faultless
