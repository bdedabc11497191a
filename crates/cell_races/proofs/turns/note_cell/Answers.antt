use Rattle.std.proofs.Common.{◌≡◌, ◌+◌, ◌++◌, ◌∷◌, [], ◌∙◌, sym, subst, arith, get_or, length, take}
use Rattle.std.proofs.lemmas.List.{take_all, take_more}
use Rattle.std.proofs.lemmas.List.Elements.{All-take, All-contains}
use Rattle.list_lemmas.proofs.lemmas.Contained.{all_contained}
use Rattle.reach_marks.specs.Reached.{before_in}
use Rattle.cell_races.specs.declared.access.Access.TheVariants.{Reads}
use Rattle.cell_races.specs.declared.cell_accesses.CellAccess.{CellAccess}
use Rattle.cell_races.specs.Turns.{IsMarked}
use Rattle.cell_races.specs.NodeAccesses.{node_access_of}
use Rattle.cell_races.proofs.AreGroupsOf.{asked_within}
use Rattle.cell_races.proofs.Turning.{marked_node_accesses}
use Rattle.cell_races.proofs.Sifting.{IsSifted, sifted_none, sifted_more, sifted_all}
use Rattle.cell_races.proofs.turns.note_cell.Goals as goal

abbrev none : CellAccess
none = record { cell = record { inst = 0; point = 0; field = 0 }; place = 0; access = Reads }

pub loop-cell_access-init : goal.loop-cell_access-init
loop-cell_access-init c = rw c.clear.ensures (sifted_none (before_in c.args.reach.now) c.args.order.now c.args.noted.now.items)

pub take_or_note-requires-clause-group : goal.take_or_note-requires-clause-group
take_or_note-requires-clause-group c =
    let h = c.loop-cell_access.invariant in
    let marked = All-take (IsMarked c.args.order.now c.args.reach.now) c.loop-cell_access.cell_access-index c.args.cell_accesses.now c.requires.marked in
    asked_within c.requires.goes_on h.stands (node_access_of c.args.order.now (get_or c.args.cell_accesses.now c.loop-cell_access.cell_access-index none))
    (length c.args.reach.now.places)
    (marked_node_accesses c.args.order.now c.args.reach.now h.taken (all_contained (IsMarked c.args.order.now c.args.reach.now) h.taken
    (λ x m. All-contains (IsMarked c.args.order.now c.args.reach.now) (take c.loop-cell_access.cell_access-index c.args.cell_accesses.now) x marked
    (h.of_seen x m))))

pub loop-cell_access-preserved : goal.loop-cell_access-preserved
loop-cell_access-preserved c =
    let before = before_in c.args.reach.now in
    let order = c.args.order.now in
    let cell_accesses = c.args.cell_accesses.now in
    let i = c.loop-cell_access.cell_access-index in
    let x = get_or cell_accesses i none in
    let h = c.loop-cell_access.invariant in
    let marked : IsMarked order c.args.reach.now x = c.requires.marked i none (omega (arith, c.loop-cell_access-test.true)) in
    let placed = marked.placed in
    let long = h.each ∙ c.requires.each in
    let seen : take (i + 1) cell_accesses ≡ take i cell_accesses ++ x ∷ [] = take_more cell_accesses i none (omega (arith, c.loop-cell_access-test.true)) in
    subst (λ xs. IsSifted before order xs c.take_or_note.new.frontier c.args.noted.now.items c.take_or_note.new.noted.items) (sym seen)
    (sifted_more before c.requires.goes_on order
    (take i cell_accesses) x c.loop-cell_access.frontier c.args.noted.now.items c.loop-cell_access.noted.items h
    c.take_or_note.new.frontier c.take_or_note.new.noted.items (omega (arith, placed, long)) c.in_ok-take_or_note.ensures.groups
    c.in_ok-take_or_note.ensures.noted)

pub returns : goal.returns
returns c =
    let cell_accesses = c.args.cell_accesses.now in
    let before = before_in c.args.reach.now in
    let all : IsSifted before c.args.order.now cell_accesses c.loop-cell_access.frontier c.args.noted.now.items c.loop-cell_access.noted.items =
    subst (λ xs. IsSifted before c.args.order.now xs c.loop-cell_access.frontier c.args.noted.now.items c.loop-cell_access.noted.items)
    (take_all c.loop-cell_access.cell_access-index cell_accesses (omega (arith, c.loop-cell_access-test.false))) c.loop-cell_access.invariant in
    sifted_all before c.args.order.now cell_accesses c.loop-cell_access.frontier c.args.noted.now.items c.loop-cell_access.noted.items all
    c.requires.in_order (λ x y m n. c.requires.one x y m
    n)
