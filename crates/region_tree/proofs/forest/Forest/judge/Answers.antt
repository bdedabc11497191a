use Rattle.region_tree.specs.declared.forest_fault.ForestFault.TheVariants.{NotWithin, NotDisjoint}
use Rattle.region_tree.specs.Faults.{ShowsFirst}
use Rattle.region_tree.proofs.Finding.{handed_on, refused}
use Rattle.region_tree.proofs.forest.Forest.judge.Goals as goal

pub returns-in_err-judge-clause-not_within : goal.returns-in_err-judge-clause-not_within
returns-in_err-judge-clause-not_within g c = λ sub point is.
    let P = ShowsFirst c.args.decls.now in
    let shown = handed_on P c.from_residual.result c.in_err-judge.field-0.0 c.from_residual.ensures.1 c.in_err-judge.ensures.shown in
    refused P c.from_residual.result (NotWithin sub point) shown is

pub returns-in_err-judge-clause-not_disjoint : goal.returns-in_err-judge-clause-not_disjoint
returns-in_err-judge-clause-not_disjoint g c = λ sub other point is.
    let P = ShowsFirst c.args.decls.now in
    let shown = handed_on P c.from_residual.result c.in_err-judge.field-0.0 c.from_residual.ensures.1 c.in_err-judge.ensures.shown in
    refused P c.from_residual.result (NotDisjoint sub other point) shown is

pub invariant_of-result : goal.invariant_of-result
invariant_of-result g c = record { forest = c.requires; faultless = c.in_ok-judge.ensures.ok }
