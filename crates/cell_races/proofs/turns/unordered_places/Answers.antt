use Rattle.std.proofs.Common.{◌-◌, ◌∙◌, false, sym, subst, arith, length, replicate, take, drop, refl, Contains}
use Rattle.std.proofs.lemmas.List.{take_all}
use Rattle.std.proofs.lemmas.List.Elements.{Contains-append_left}
use Rattle.reach_marks.specs.Reached.{before_in}
use Rattle.cell_races.specs.declared.access.Access.TheVariants.{Reads}
use Rattle.cell_races.specs.declared.cell_accesses.CellAccess.{CellAccess}
use Rattle.cell_races.specs.Turns.{NotesMore}
use Rattle.cell_races.proofs.Cells.{IsApart}
use Rattle.cell_races.proofs.Parts.{take_end, drop_parts, at, apart_more, run_in_order}
use Rattle.cell_races.proofs.Sifting.{notes_both, notes_all}
use Rattle.cell_races.proofs.turns.unordered_places.Goals as goal

abbrev none : CellAccess
none = record { cell = record { inst = 0; point = 0; field = 0 }; place = 0; access = Reads }

pub note_cell-requires-clause-in_order : goal.note_cell-requires-clause-in_order
note_cell-requires-clause-in_order c =
    let x = c.cell_end-end.ensures in
    run_in_order c.args.cell_accesses.now c.loop-from.from c.cell_end-end.result x.behind x.within none x.same x.other c.requires.in_order
    c.loop-from.invariant.apart

pub note_cell-requires-clause-one : goal.note_cell-requires-clause-one
note_cell-requires-clause-one c = λ y z m n.
    let x = c.cell_end-end.ensures in
    let run = take (c.cell_end-end.result - c.loop-from.from) (drop c.loop-from.from c.args.cell_accesses.now) in
    let cell = at c.args.cell_accesses.now c.loop-from.from c.cell_end-end.result x.behind x.within none x.same x.other in
    cell y m ∙ sym (cell z n)

pub loop-from-preserved : goal.loop-from-preserved
loop-from-preserved c =
    let x = c.cell_end-end.ensures in
    let cell_accesses = c.args.cell_accesses.now in
    let from = c.loop-from.from in
    let end = c.cell_end-end.result in
    let front = take from cell_accesses in
    let run = take (end - from) (drop from cell_accesses) in
    let start = replicate (length c.args.order.now) false in
    let far : IsApart front run = λ y z m n. c.loop-from.invariant.apart y z m
    (subst (λ zs. Contains zs z) (sym (drop_parts cell_accesses from end x.behind x.within)) (Contains-append_left run (drop end cell_accesses) z n)) in
    record {
      within = x.within;
      apart = apart_more cell_accesses from end x.behind x.within none x.same x.other c.requires.in_order c.loop-from.invariant.apart;
      notes = subst (λ zs. NotesMore (before_in c.args.reach.now) c.args.order.now zs start c.note_cell.new.noted.items)
          (sym (take_end cell_accesses from end x.behind x.within))
          (notes_both (before_in c.args.reach.now) c.args.order.now front run start c.loop-from.noted.items c.note_cell.new.noted.items far
          c.loop-from.invariant.notes c.in_ok-note_cell.ensures);
    }

pub returns : goal.returns
returns c =
    let start = replicate (length c.args.order.now) false in
    notes_all (before_in c.args.reach.now) c.args.order.now c.args.cell_accesses.now start c.loop-from.noted.items refl
    (subst (λ zs. NotesMore (before_in c.args.reach.now) c.args.order.now zs start c.loop-from.noted.items)
    (take_all c.loop-from.from c.args.cell_accesses.now (omega (arith, c.loop-from-test.false))) c.loop-from.invariant.notes)
