use Rattle.std.proofs.Common.{◌≡◌, ◌∙◌, length, ℕ, List, Some, sym, ap, Bool}
use Rattle.vocabulary.specs.Prelude.{Node}
use Rattle.semantics.specs.ReplayOrder.{replay_order, from_least}
use Rattle.event_graph.specs.Marked.{AreMarked}
use Rattle.event_graph.proofs.Walks.{order_within, none_stuck, first_stuck}
use Rattle.event_graph.proofs.graph.Graph.cycle.Goals as goal

marked : (nodes : List Node) (marks seen : List Bool) (count : ℕ) (taken : List ℕ) → AreMarked marks count taken → seen ≡ marks
    → count ≡ length nodes → taken ≡ replay_order nodes → AreMarked seen (length nodes) (replay_order nodes)
marked nodes marks seen count taken h is many same = rw (is, ← many, ← same) h

pub marks_of-requires : goal.marks_of-requires
marks_of-requires c = rw (c.len.ensures.count, c.requires) (order_within c.args.self.now)

pub returns-in-Some-clause-cycle : goal.returns-in-Some-clause-cycle
returns-in-Some-clause-cycle c =
    let are = marked c.args.self.now c.in_ok-marks.marks.items c.as_slice.result.now c.len.result c.args.taken.now
    c.in_ok-marks.ensures c.as_slice.ensures.value c.len.ensures.count c.requires in
    let some = c.in-Some.ensures.some in
    let round = c.as_slice-in-Some-2.ensures.value ∙ c.in_ok-round-in-Some.ensures in
    ap (λ (ks : List ℕ). Some ks) (c.in_ok-turned-in-Some.ensures ∙ ap from_least round)
    ∙ sym (first_stuck c.args.self.now c.as_slice.result.now are c.in-Some.start some.0 some.1 c.in-Some.ensures.first)

pub returns-clause-cycle : goal.returns-clause-cycle
returns-clause-cycle c =
    let are = marked c.args.self.now c.in_ok-marks.marks.items c.as_slice.result.now c.len.result c.args.taken.now
    c.in_ok-marks.ensures c.as_slice.ensures.value c.len.ensures.count c.requires in
    sym (none_stuck c.args.self.now c.as_slice.result.now are c.in-None.ensures.none)
