use Rattle.std.proofs.Common.{◌-◌, ◌∙◌, [], None, ◌≡◌, sym, subst, arith, map, take, drop, Contains}
use Rattle.std.proofs.lemmas.List.{take_all}
use Rattle.std.proofs.lemmas.List.Elements.{Contains-append_left}
use Rattle.reach_marks.specs.Reached.{before_in}
use Rattle.cell_races.specs.declared.access.Access.TheVariants.{Reads}
use Rattle.cell_races.specs.declared.cell_accesses.CellAccess.{CellAccess}
use Rattle.cell_races.specs.NodeAccesses.{node_access_of}
use Rattle.cell_races.specs.Questions.{AreAnswered}
use Rattle.cell_races.specs.Races.{race_in}
use Rattle.cell_races.specs.Turns.{AreInTurnBut}
use Rattle.cell_races.proofs.Cells.{IsApart}
use Rattle.cell_races.proofs.Parts.{take_end, drop_parts, apart_more, run_in_order}
use Rattle.cell_races.proofs.Sifting.{turn_both}
use Rattle.cell_races.proofs.Turning.{run_in_turn}
use Rattle.cell_races.proofs.asking.turns_of.Goals as goal

abbrev none : CellAccess
none = record { cell = record { inst = 0; point = 0; field = 0 }; place = 0; access = Reads }

pub loop-from-preserved : goal.loop-from-preserved
loop-from-preserved c =
    let x = c.cell_end-end.ensures in
    let order = c.args.order.now in
    let cell_accesses = c.args.cell_accesses.now in
    let from = c.loop-from.from in
    let end = c.cell_end-end.result in
    let front = take from cell_accesses in
    let run = take (end - from) (drop from cell_accesses) in
    let listed = c.as_slice.ensures.value ∙ c.in_ok-are_nodes.ensures.list c.if-not-are_nodes.false in
    let far : IsApart front run = λ y z m n. c.loop-from.invariant.apart y z m
    (subst (λ zs. Contains zs z) (sym (drop_parts cell_accesses from end x.behind x.within))
    (Contains-append_left run (drop end cell_accesses) z n)) in
    let in_order = run_in_order cell_accesses from end x.behind x.within none x.same x.other c.requires c.loop-from.invariant.apart in
    record {
      within = x.within;
      turn = λ h marks are.
          let before = before_in marks in
          let told = c.in_ok-ask_of_cell.ensures h in
          let race_free : race_in before (map (node_access_of order) run) ≡ None =
          subst (λ vs. race_in before vs ≡ None) listed (told.1 marks are) in
          subst (λ zs. AreInTurnBut before order zs []) (sym (take_end cell_accesses from end x.behind x.within))
          (turn_both before order front run [] far (c.loop-from.invariant.turn told.0 marks are)
          (λ y z m n same lt conflict y_free z_free. run_in_turn before order run in_order race_free y z m n same lt conflict));
      apart = apart_more cell_accesses from end x.behind x.within none x.same x.other c.requires c.loop-from.invariant.apart;
    }

pub returns : goal.returns
returns c = λ h marks are. subst (λ zs. AreInTurnBut (before_in marks) c.args.order.now zs [])
    (take_all c.loop-from.from c.args.cell_accesses.now (omega (arith, c.loop-from-test.false)))
    (c.loop-from.invariant.turn (subst (AreAnswered c.args.graph.now) c.finish.ensures h) marks are)
