use Rattle.std.proofs.Common.{◌-◌, ◌+◌, ◌<◌, ◌≤◌, take, get_or, length, sym, subst, ◌∙◌, ap, arith}
use Rattle.value_terms.specs.declared.terms.Base.TheVariants.{Init}
use Rattle.vocabulary.specs.Prelude.{plain}
use Rattle.shared_values.proofs.lemmas.Building.{keeps_trans}
use Rattle.serial_exec.specs.Changes.{after_changes}
use Rattle.serial_exec.specs.Histories.{listed}
use Rattle.serial_exec.specs.Kept.{changes_in}
use Rattle.inst_steps.specs.Stores.{IsNumberOf}
use Rattle.replay.specs.Wanting.{AreNumbers}
use Rattle.replay.proofs.Wanting.{of_first, at_first, wanted_more, longer}
use Rattle.replay.proofs.wanted.number_listed.Goals as goal

few : (c : goal.After-at) → length (listed c.loop-made.wanted c.args.place.now) ≤ length c.changes_before-changes.result.now
few c = let made = c.loop-made.invariant.made in let test = c.loop-made-test.true in omega (arith, made, test)

pub next_number-requires-clause-made : goal.next_number-requires-clause-made
next_number-requires-clause-made c = c.loop-made.invariant.made ∙ ap length (sym c.at.ensures)

pub next_number-requires-clause-numbers : goal.next_number-requires-clause-numbers
next_number-requires-clause-numbers c =
    let changes = c.changes_before-changes.result.now in
    let place = c.args.place.now in
    subst (AreNumbers c.loop-made.store.values changes) (sym c.at.ensures)
    (of_first c.loop-made.store.values (changes_in c.args.versions.now place) changes (listed c.loop-made.wanted place)
    c.changes_before-changes.ensures.first (few c) (c.loop-made.invariant.wanted place))

pub loop-made-smaller : goal.loop-made-smaller
loop-made-smaller c =
    let changes = c.changes_before-changes.result.now in
    let place = c.args.place.now in
    let made = c.loop-made.invariant.made in
    let test = c.loop-made-test.true in
    let more = longer c.loop-made.wanted c.push.new.self place c.in_ok-number.number c.in_ok-push.ensures in
    let now = ap length c.at-made-in-loop-made.ensures in
    let less : length changes + 1 - length c.at-made-in-loop-made.result.now < length changes + 1 - c.loop-made.made =
    omega (arith, made, test, more, now) in
    less

pub loop-made-preserved : goal.loop-made-preserved
loop-made-preserved c =
    let changes = c.changes_before-changes.result.now in
    let place = c.args.place.now in
    let old = c.loop-made.store.values in
    let new = c.next_number.new.store.values in
    let made = c.loop-made.invariant.made in
    let test = c.loop-made-test.true in
    record {
      made = ap length c.at-made-in-loop-made.ensures;
      wanted = wanted_more old new c.args.versions.now c.loop-made.wanted c.push.new.self place changes c.in_ok-number.number
          c.next_number.ensures.kept c.changes_before-changes.ensures.first (omega (arith, made, test)) c.in_ok-push.ensures
          (subst (λ m. IsNumberOf new (after_changes (take m changes) (plain Init)) c.in_ok-number.number) made
          c.in_ok-number.ensures.number) c.loop-made.invariant.wanted;
      kept = keeps_trans c.args.store.now.values old new c.loop-made.invariant.kept c.next_number.ensures.kept;
      cells = c.next_number.ensures.cells ∙ c.loop-made.invariant.cells;
    }

pub returns-clause-number : goal.returns-clause-number
returns-clause-number c =
    let changes = c.changes_before-changes.result.now in
    let place = c.args.place.now in
    let values = c.loop-made.store.values in
    let made = c.loop-made.invariant.made in
    let test = c.loop-made-test.false in
    let past : length changes < length (listed c.loop-made.wanted place) = omega (arith, made, test) in
    let at = at_first values (changes_in c.args.versions.now place) changes (listed c.loop-made.wanted place) 0
    c.changes_before-changes.ensures.first past (c.loop-made.invariant.wanted place) in
    subst (λ cs. IsNumberOf values (after_changes cs (plain Init)) (get_or c.at-2.result.now (length changes) 0))
    c.changes_before-changes.ensures.before
    (subst (λ ns. IsNumberOf values (after_changes changes (plain Init)) (get_or ns (length changes) 0)) (sym c.at-2.ensures) at)
