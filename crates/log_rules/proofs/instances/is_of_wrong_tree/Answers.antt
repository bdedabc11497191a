use Rattle.std.proofs.Common.{◌∙◌, ap, ap₂, sym, inl, inr, not}
use Rattle.std.specs.Option.{option_map}
use Rattle.vocabulary.specs.Prelude.{Inst, Record, Req}
use Rattle.semantics.specs.Rules.{is_of_wrong_tree}
use Rattle.log_rules.specs.Instances.{is_inst_of}
use Rattle.log_rules.specs.Lookups.{inst_named, req_named, target_named}
use Rattle.log_rules.proofs.instances.is_of_wrong_tree.Goals as goal

pub returns-in-Map : goal.returns-in-Map
returns-in-Map g c =
    let n = c.args.named.now in
    let t = n.tables.now in
    ap not (c.is_of_tree.ensures ∙ ap₂ is_inst_of
    (c.tree_of_req.ensures ∙ ap (option_map (λ (r : Req). r.tree)) (n.is_req ∙ ap (req_named t) c.in-Map.is))
    (n.is_inst ∙ ap (inst_named t) c.in-Map.is))
    ∙ ap (is_of_wrong_tree t) (sym c.in-Map.is)

pub returns-in-Copy : goal.returns-in-Copy
returns-in-Copy g c =
    let n = c.args.named.now in
    let t = n.tables.now in
    let rule = is_of_wrong_tree t in
    let apart = λ (r : Record). not (is_inst_of (option_map (λ (i : Inst). i.tree) (inst_named t r)) (target_named t r)) in
    let told = ap not (c.is_of_tree-in-Copy.ensures ∙ ap₂ is_inst_of
    (c.tree_of_inst.ensures ∙ ap (option_map (λ (i : Inst). i.tree)) n.is_inst) n.is_target) in
    elim c.in-Copy.is [
      | inl copy ↦ told ∙ ap apart copy.6 ∙ ap rule (sym copy.6)
      | inr fold ↦ told ∙ ap apart fold.6 ∙ ap rule (sym fold.6)
    ]
