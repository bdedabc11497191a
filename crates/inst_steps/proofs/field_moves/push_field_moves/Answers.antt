use Rattle.std.proofs.Common.{◌+◌, ◌++◌, refl, drop, flat_map, get_or, sym, ap, ◌∙◌, arith}
use Rattle.std.specs.Option.{option_map}
use Rattle.std.proofs.lemmas.List.{append_assoc, append-nil, drop_all}
use Rattle.inst_steps.specs.Stepping.{pass_seen}
use Rattle.vocabulary.specs.Prelude.{points_in}
use Rattle.inst_steps.specs.Sweeps.{passes_of}
use Rattle.inst_steps.specs.FieldMoves.{field_moves, field_moves_of, moves_in_fields}
use Rattle.inst_steps.proofs.Sweeping.{at_place, node_moves}
use Rattle.inst_steps.proofs.field_moves.push_field_moves.Goals as goal

pub loop-k-preserved-in_default : goal.loop-k-preserved-in_default
loop-k-preserved-in_default g c =
    let t = c.args.log.now in
    let passes = passes_of t (get_or c.nodes.result.now c.args.node c.index-nodes-node.result).op in
    let listed = c.loop-k.moves.items in
    let here = ap (field_moves_of t) (ap (option_map pass_seen) (sym c.in_default.is) ∙ c.sweep_at.ensures) in
    ap (λ ms. listed ++ ms) (ap (λ ms. ms ++ flat_map (field_moves_of t) (drop (c.loop-k.k + 1) passes)) here
    ∙ sym (at_place (field_moves_of t) refl passes c.loop-k.k))
    ∙ c.loop-k.invariant

pub loop-k-preserved : goal.loop-k-preserved
loop-k-preserved g c =
    let t = c.args.log.now in
    let passes = passes_of t (get_or c.nodes.result.now c.args.node c.index-nodes-node.result).op in
    let listed = c.loop-k.moves.items in
    let sweep = c.in-Some.sweep in
    let more = moves_in_fields t (pass_seen sweep) (points_in t sweep.space) in
    let rest = flat_map (field_moves_of t) (drop (c.loop-k.k + 1) passes) in
    let here = ap (field_moves_of t) (ap (option_map pass_seen) (sym c.in-Some.is) ∙ c.sweep_at.ensures) in
    ap (λ ms. ms ++ rest) c.in_ok-push_sweep.ensures
    ∙ append_assoc listed more rest
    ∙ ap (λ ms. listed ++ ms) (ap (λ ms. ms ++ rest) here ∙ sym (at_place (field_moves_of t) refl passes c.loop-k.k))
    ∙ c.loop-k.invariant

pub returns : goal.returns
returns g c =
    let t = c.args.log.now in
    let passes = passes_of t (get_or c.nodes.result.now c.args.node c.index-nodes-node.result).op in
    let listed = c.loop-k.moves.items in
    let none = drop_all c.loop-k.k passes (omega (arith, c.loop-k-test.false, c.sweep_count-k-end.ensures)) in
    sym (append-nil listed) ∙ ap (λ ps. listed ++ flat_map (field_moves_of t) ps) (sym none) ∙ c.loop-k.invariant
    ∙ ap (λ ms. c.args.moves.now.items ++ ms)
    (node_moves (field_moves t) t c.nodes.result.now c.args.node c.index-nodes-node.result c.nodes.ensures c.requires)
