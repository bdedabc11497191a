use Rattle.std.proofs.Common.{◌≢◌, ℕ, ◌<◌, length, get_or, sym, ◌∙◌, arith}
use Rattle.value_terms.specs.declared.terms.Contribution.{Contribution}
use Rattle.value_terms.specs.Values.{same_contribution}
use Rattle.value_terms.proofs.Placing.{added_there, added_new, other_read, read_within}
use Rattle.value_terms.proofs.bag.Bag.add.Goals as goal
use Rattle.value_terms.proofs.bag.Bag.add.Goals.{else-place-len-via-then-place-len+else-eq, else-place-len-via-else-place-len}

pub overflow_add-index_mut : goal.overflow_add-index_mut
overflow_add-index_mut c =
    let within = read_within c.self.inside.entries.items c.args.self.now c.place_of-place.result c.index_mut.result.now c.self.view_is
    (omega arith) c.index_mut.ensures.value in
    omega (arith, within, c.requires.fits)

pub returns-then-eq-clause-ok : goal.returns-then-eq-clause-ok
unfolding same_contribution
returns-then-eq-clause-ok c =
    added_there c.self.inside.entries.items c.args.self.now c.deref.result.now c.place_of-place.result c.args.c c.args.n _ c.index.result.now c.self.view_is c.deref.ensures.value (omega arith) c.place_of-place.ensures.before c.index_mut.ensures.value c.index.ensures (sym c.eq.ensures ∙ c.if-eq.true)

other_there : (c : goal.In_ok-insert) (d : Contribution × ℕ) → c.place_of-place.result < length c.self.inside.entries.items
    → (get_or c.self.inside.entries.items c.place_of-place.result d).0 ≢ c.args.c
unfolding same_contribution
other_there c d lt = elim c.else-place-len.branch [
  | else-place-len-via-then-place-len+else-eq w ↦
      other_read c.self.inside.entries.items c.place_of-place.result c.args.c w.index.result.now d lt w.index.ensures (sym w.eq.ensures
      ∙ w.if-eq.false)
  | else-place-len-via-else-place-len w ↦ λ e. absurd (omega arith)
]

pub returns-clause-ok : goal.returns-clause-ok
unfolding same_contribution
returns-clause-ok c =
    let new = added_new c.self.inside.entries.items c.args.self.now c.deref.result.now c.place_of-place.result c.args.c c.args.n c.self.view_is c.deref.ensures.value c.place_of-place.ensures.before c.place_of-place.ensures.behind (other_there c) in
    c.in_ok-insert.ensures.items ∙ new
