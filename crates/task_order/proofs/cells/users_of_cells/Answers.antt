use Rattle.std.proofs.Common.{◌-◌, sym, subst, arith, take, drop, Contains}
use Rattle.std.proofs.lemmas.List.{take_all}
use Rattle.std.proofs.lemmas.List.Elements.{All-nil, Contains-append_left}
use Rattle.list_lemmas.proofs.lemmas.Contained.{Contains-nil}
use Rattle.cell_races.proofs.lemmas.CellEnds.{AreApart, take_to_end, rest_parts, one_cell, apart_still}
use Rattle.pair_rows.specs.Meetings.{AreByClass}
use Rattle.task_order.specs.Users.{AreUsersOf}
use Rattle.task_order.proofs.Grown.{users_none, users_more, classes_more}
use Rattle.task_order.proofs.cells.users_of_cells.Goals as goal

pub loop-from-init : goal.loop-from-init
loop-from-init c = record {
  within = omega arith;
  users = rw c.new-places.ensures (users_none c.args.order.now);
  classes = rw c.new-places.ensures (All-nil AreByClass);
  apart = λ x y m n e. absurd (Contains-nil m);
}

pub loop-from-preserved : goal.loop-from-preserved
loop-from-preserved c =
    let order = c.args.order.now in
    let cell_accesses = c.args.cell_accesses.now in
    let from = c.loop-from.from in
    let end = c.cell_end-end.result in
    let is_end = c.cell_end-end.ensures in
    let h = c.loop-from.invariant in
    let front = take from cell_accesses in
    let run = take (end - from) (drop from cell_accesses) in
    let far : AreApart front run = λ x y m n. h.apart x y m (subst (λ xs. Contains xs y) (sym (rest_parts cell_accesses from end is_end))
    (Contains-append_left run (drop end cell_accesses) y n)) in
    let one = one_cell cell_accesses from end is_end c.requires.in_order h.apart in
    record {
      within = is_end.within;
      users = subst (λ xs. AreUsersOf order xs c.push_place.new.places) (sym (take_to_end cell_accesses from end is_end))
          (users_more order front run c.loop-from.places c.push_place.new.places h.users c.in_ok-push_place.ensures one far);
      classes = classes_more order front run c.loop-from.places c.push_place.new.places h.users c.in_ok-push_place.ensures
          one far h.classes;
      apart = apart_still cell_accesses from end is_end c.requires.in_order h.apart;
    }

pub returns-clause-users : goal.returns-clause-users
returns-clause-users c = subst (λ xs. AreUsersOf c.args.order.now xs c.loop-from.places)
    (take_all c.loop-from.from c.args.cell_accesses.now (omega (arith, c.loop-from-test.false)))
    c.loop-from.invariant.users
