use Rattle.std.proofs.Common.{sym}
use Rattle.inst_steps.proofs.lemmas.StoreMaps.{put_at, put_known, is_there, not_missing}
use Rattle.inst_steps.proofs.store.Store.put.Goals.{in-Some, in_default}
use Rattle.inst_steps.proofs.store.Store.put.Goals as goal

pub invariant_of-self : goal.invariant_of-self
invariant_of-self c =
    let values = c.self.inside.values in
    let ns = c.self.inside.cells.entries in
    let there = is_there values ns c.args.self.now c.self.view_is c.args.cell c.requires.there in
    elim c.match-get_mut.branch [
      | in-Some w ↦
          let h = (c.get_mut.follows.holds c.args.number).3 there in
          rw w.self-inside-is (put_known values ns c.args.self.now c.self.view_is c.self.invariant
          (c.get_mut.follows.lender c.args.number).entries c.args.cell c.args.number c.requires.known h.0)
      | in_default w ↦ not_missing values ns c.args.self.now c.self.view_is c.args.cell (sym w.in_default.ensures.value) c.requires.there
    ]

pub returns-clause-cells : goal.returns-clause-cells
returns-clause-cells c =
    let values = c.self.inside.values in
    let ns = c.self.inside.cells.entries in
    let there = is_there values ns c.args.self.now c.self.view_is c.args.cell c.requires.there in
    elim c.match-get_mut.branch [
      | in-Some w ↦
          let h = (c.get_mut.follows.holds c.args.number).3 there in
          rw w.self-inside-is (put_at values ns c.args.self.now c.self.view_is
          (c.get_mut.follows.lender c.args.number).entries c.args.cell c.args.number h.0)
      | in_default w ↦ not_missing values ns c.args.self.now c.self.view_is c.args.cell (sym w.in_default.ensures.value) c.requires.there
    ]
