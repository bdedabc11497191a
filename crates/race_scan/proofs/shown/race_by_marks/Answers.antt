use Rattle.std.proofs.Common.{◌≡◌, ◌<◌, List, length, subst}
use Rattle.std.proofs.lemmas.List.Sorted.{All-permutation}
use Rattle.semantics.specs.ReplayOrder.{replay_order}
use Rattle.vocabulary.specs.Prelude.{Node}
use Rattle.reach_marks.specs.Reached.{AreMarksOf, before_in}
use Rattle.cell_races.specs.declared.cell_accesses.CellAccess.{CellAccess}
use Rattle.cell_races.specs.Ranks.{rank_in}
use Rattle.cell_races.proofs.lemmas.Moved.{moved_back}
use Rattle.inst_steps.specs.Stepping.{moves_at}
use Rattle.race_scan.specs.Gathered.{cell_accesses_before}
use Rattle.race_scan.specs.Placed.{ArePlaced}
use Rattle.race_scan.proofs.Placed.{all_placed}
use Rattle.race_scan.proofs.Tied.{found_race, places_within}
use Rattle.race_scan.proofs.shown.race_by_marks.Goals as goal

pub shown_race-requires-clause-within : goal.shown_race-requires-clause-within
shown_race-requires-clause-within g c =
    let order = c.args.sorted.now.order.now in
    All-permutation (λ (x : CellAccess). x.place < length order) (cell_accesses_before c.args.log.now order (length order))
    c.args.cell_accesses.items c.requires.cells (places_within (moves_at c.args.log.now) order (length order))

pub returns : goal.returns
returns g c =
    let t = c.args.log.now in
    let nodes = c.args.sorted.now.graph.now in
    let order = c.args.sorted.now.order.now in
    let marks = c.in_ok-reach.reach in
    let placed = all_placed nodes order marks c.requires.order c.in_ok-reach.ensures c.len-linked.ensures.linked in
    found_race t order marks
    (subst (λ ns. order ≡ replay_order ns) c.requires.graph c.requires.order.replayed)
    (subst (λ ns. AreMarksOf ns marks) c.requires.graph c.in_ok-reach.ensures)
    (subst (λ (ns : List Node). ArePlaced (length ns) order marks) c.requires.graph placed)
    c.in_ok-race.race
    (moved_back (before_in marks) order (cell_accesses_before t order (length order)) c.args.cell_accesses.items c.requires.cells
    (rank_in marks) c.in_ok-race.race c.in_ok-race.ensures)
