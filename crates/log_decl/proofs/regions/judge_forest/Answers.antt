use Rattle.std.proofs.Common.{Err, subst, sym, ap, ◌∙◌}
use Rattle.spy_grammar.specs.declared.code.Code.TheVariants as codes
use Rattle.region_tree.specs.Faults.{IsFaulty, FirstNotWithin, FirstNotDisjoint}
use Rattle.log_tables.specs.Regions.{Regions, regions_of}
use Rattle.region_tree.specs.Shape.{IsForest}
use Rattle.log_decl.proofs.Ending.{same_fault}
use Rattle.log_decl.proofs.Placing.{grown_log, faultless, not_within, not_disjoint, listed, told_at}
use Rattle.log_decl.proofs.regions.judge_forest.Goals as goal

pub judge-requires : goal.judge-requires
judge-requires g c =
    let is = c.regions.ensures ∙ ap regions_of c.requires.tables in
    let keep = c.requires.keep in
    subst IsForest (sym is) (grown_log keep.0 c.args.records.now keep.1).forest

pub returns-in-Ok-clause-faultless : goal.returns-in-Ok-clause-faultless
returns-in-Ok-clause-faultless g c =
    let is = c.regions.ensures ∙ ap regions_of c.requires.tables in
    let keep = c.requires.keep in
    faultless keep.0 c.args.records.now keep.1 (λ i. subst (λ (d : Regions). ¬ IsFaulty d i) is (c.in-Ok.ensures.faultless i))

pub line_of_sub-requires : goal.line_of_sub-requires
line_of_sub-requires g c =
    let is = c.regions.ensures ∙ ap regions_of c.requires.tables in
    let keep = c.requires.keep in
    let arm = c.in-Err-NotWithin in
    let first = subst (λ (d : Regions). FirstNotWithin d arm.sub arm.field-0-1) is
    (c.judge.ensures.not_within arm.sub arm.field-0-1 (arm.is ∙ ap (λ e. Err e) arm.field-0-is)) in
    listed c.args.records.now arm.sub codes.NotWithin (not_within keep.0 c.args.records.now keep.1 arm.sub arm.field-0-1 first)

pub returns-in-Err-NotWithin-clause-fault : goal.returns-in-Err-NotWithin-clause-fault
returns-in-Err-NotWithin-clause-fault g c = λ line code e.
    let is = c.regions.ensures ∙ ap regions_of c.requires.tables in
    let keep = c.requires.keep in
    let arm = c.in-Err-NotWithin in
    let first = subst (λ (d : Regions). FirstNotWithin d arm.sub arm.field-0-1) is
    (c.judge.ensures.not_within arm.sub arm.field-0-1 (arm.is ∙ ap (λ e. Err e) arm.field-0-is)) in
    let told = told_at c.args.records.now arm.sub codes.NotWithin c.line_of_sub.result
    (not_within keep.0 c.args.records.now keep.1 arm.sub arm.field-0-1 first) c.line_of_sub.ensures in
    same_fault _ _ line _ code told e

pub line_of_sub-requires-in-Err-NotDisjoint : goal.line_of_sub-requires-in-Err-NotDisjoint
line_of_sub-requires-in-Err-NotDisjoint g c =
    let is = c.regions.ensures ∙ ap regions_of c.requires.tables in
    let keep = c.requires.keep in
    let arm = c.in-Err-NotDisjoint in
    let first = subst (λ (d : Regions). FirstNotDisjoint d arm.sub arm.field-0-1 arm.field-0-2) is
    (c.judge.ensures.not_disjoint arm.sub arm.field-0-1 arm.field-0-2 (arm.is ∙ ap (λ e. Err e) arm.field-0-is)) in
    listed c.args.records.now arm.sub codes.NotDisjoint
    (not_disjoint keep.0 c.args.records.now keep.1 arm.sub arm.field-0-1 arm.field-0-2 first)

pub returns-in-Err-NotDisjoint-clause-fault : goal.returns-in-Err-NotDisjoint-clause-fault
returns-in-Err-NotDisjoint-clause-fault g c = λ line code e.
    let is = c.regions.ensures ∙ ap regions_of c.requires.tables in
    let keep = c.requires.keep in
    let arm = c.in-Err-NotDisjoint in
    let first = subst (λ (d : Regions). FirstNotDisjoint d arm.sub arm.field-0-1 arm.field-0-2) is
    (c.judge.ensures.not_disjoint arm.sub arm.field-0-1 arm.field-0-2 (arm.is ∙ ap (λ e. Err e) arm.field-0-is)) in
    let told = told_at c.args.records.now arm.sub codes.NotDisjoint c.line_of_sub-in-Err-NotDisjoint.result
    (not_disjoint keep.0 c.args.records.now keep.1 arm.sub arm.field-0-1 arm.field-0-2 first) c.line_of_sub-in-Err-NotDisjoint.ensures in
    same_fault _ _ line _ code told e
