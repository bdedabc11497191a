use Rattle.std.proofs.Common.{◌-◌, ◌<◌, ◌∙◌, subst, arith, length, take, drop}
use Rattle.std.proofs.lemmas.List.{take_all}
use Rattle.std.proofs.lemmas.List.Elements.{All-take, All-drop}
use Rattle.reach_marks.specs.Reached.{before_in}
use Rattle.cell_races.specs.declared.access.Access.TheVariants.{Reads}
use Rattle.cell_races.specs.declared.cell_accesses.CellAccess.{CellAccess}
use Rattle.cell_races.specs.Chained.{AreInTurn}
use Rattle.cell_races.specs.Clashes.{IsFree}
use Rattle.cell_races.specs.Questions.{AreAnswered}
use Rattle.cell_races.proofs.Merging.{joined_within}
use Rattle.cell_races.proofs.Parts.{apart_more, none_more}
use Rattle.cell_races.proofs.asking.questions_of.Goals as goal

abbrev none : CellAccess
none = record { cell = record { inst = 0; point = 0; field = 0 }; place = 0; access = Reads }

pub ask_of_cell-requires : goal.ask_of_cell-requires
ask_of_cell-requires c =
    let within = λ (x : CellAccess). x.place < length c.args.order.now in
    let from = c.loop-from.from in
    let rest = drop from c.args.cell_accesses.now in
    rw (c.as_slice.ensures.value, c.in_ok-list_node_accesses.ensures)
    (joined_within c.args.order.now (length c.args.graph.now) c.requires.nodes (take (c.cell_end-end.result - from) rest)
    (All-take within (c.cell_end-end.result - from) rest (All-drop within from c.args.cell_accesses.now c.requires.within)))

pub loop-from-preserved : goal.loop-from-preserved
loop-from-preserved c =
    let x = c.cell_end-end.ensures in
    let listed = c.as_slice.ensures.value ∙ c.in_ok-list_node_accesses.ensures in
    record {
      within = x.within;
      free = λ h marks are.
          let told = c.in_ok-ask_of_cell.ensures h in
          none_more c.args.cell_accesses.now c.loop-from.from c.cell_end-end.result x.behind x.within none x.same x.other
          c.requires.in_order c.loop-from.invariant.apart (before_in marks) c.args.order.now (c.loop-from.invariant.free told.0 marks are)
          (subst (AreInTurn c.args.graph.now) listed told.1 marks are);
      apart = apart_more c.args.cell_accesses.now c.loop-from.from c.cell_end-end.result x.behind x.within none x.same x.other c.requires.in_order
          c.loop-from.invariant.apart;
    }

pub returns : goal.returns
returns c = λ h marks are. subst (IsFree (before_in marks) c.args.order.now)
    (take_all c.loop-from.from c.args.cell_accesses.now (omega (arith, c.loop-from-test.false)))
    (c.loop-from.invariant.free (subst (AreAnswered c.args.graph.now) c.finish.ensures h) marks are)
