use Rattle.std.proofs.Common.{◌≡◌, ◌∷◌, ◌+◌, [], arith, ap, sym, subst, refl, ◌∙◌, length}
use Rattle.std.specs.Option.{option_or}
use Rattle.std.proofs.lemmas.List.{append-nil}
use Rattle.vocabulary.specs.Prelude.{HoldBy}
use Rattle.semantics.specs.TextFaults.{lines_fault_by}
use Rattle.log_reading.proofs.Held.{held_behind}
use Rattle.log_reading.proofs.reading.read_input.Goals as goal

pub loop-text-preserved : goal.loop-text-preserved
loop-text-preserved g c =
    let Held = HoldBy g.L.LogLine.good g.L.LogLine.spelled g.L.LogLine.on in
    let line = c.loop-text.line in
    let rest = c.next.new.self in
    let cut : c.loop-text.text-iterator ≡ c.in-Some.text.now ∷ rest = c.in-Some.ensures.steps in
    record {
      held = λ more h.
          let behind = held_behind g.L.LogLine.good g.L.LogLine.spelled g.L.LogLine.on line c.in-Some.text.now rest c.loop-text.records.items c.add_said.new.records.items more c.in_ok-said.said c.in_ok-said.ensures.said c.in_ok-add_said.ensures.said h in
          subst (Held 1 c.args.list.now) behind.2 (c.loop-text.invariant.held behind.0
          (subst (λ ls. Held line ls behind.0) (sym cut) behind.1));
      fault = c.loop-text.invariant.fault ∙ ap (lines_fault_by g.L.LogLine.read line) cut
          ∙ ap (λ o. option_or o (lines_fault_by g.L.LogLine.read (line + 1) rest)) c.in_ok-said.ensures.clean;
      count = omega (arith, c.loop-text.invariant.count, ap length cut);
      few = omega (arith, c.loop-text.invariant.few, ap length cut);
    }

pub returns-clause-held : goal.returns-clause-held
returns-clause-held g c =
    let Held = HoldBy g.L.LogLine.good g.L.LogLine.spelled g.L.LogLine.on in
    subst (Held 1 c.args.list.now) (append-nil c.loop-text.records.items)
    (c.loop-text.invariant.held [] (subst (λ ls. Held c.loop-text.line ls []) (sym c.in-None.ensures.steps.0) refl))
