use Rattle.std.proofs.Common.{◌+◌, arith, Err, ap, sym, subst, ◌∙◌, length, drop, nat_lt}
use Rattle.std.specs.Option.{option_map}
use Rattle.std.proofs.lemmas.Bool.{lt-ltb, ltb-true}
use Rattle.semantics.specs.TextFaults.{lines_fault}
use Rattle.crowded_logs.specs.Crowded.{crowd_count}
use Rattle.log_input.specs.Lines.{Lead}
use Rattle.log_input.proofs.Leading.{fault_behind, fault_here, good_if, known_end, lead_more, said_few, said_good, unwanted_cut, wanted_cut}
use Rattle.log_reading.specs.declared.reading.SpellEnd.TheVariants as ends
use Rattle.log_input.proofs.first.first_records.Goals as goal

pub returns-in_err-said-clause-fault : goal.returns-in_err-said-clause-fault
returns-in_err-said-clause-fault c line code e =
    let before = c.loop-text.lines in
    let cut = (wanted_cut (nat_lt c.len.result crowd_count) before.rest c.in-Some.text.now c.in-Some.ensures).1 in
    let known = known_end _ c.from_residual.result (ends.Fault line code) c.from_residual.ensures.1 e in
    let here = c.said_on.ensures.fault line code (c.in_err-said.was ∙ ap (λ x. Err x) (sym known)) in
    c.loop-text.invariant.fault ∙ fault_here c.loop-text.next before.rest c.in-Some.text.now (drop 1 before.rest) _ cut here

pub loop-text-preserved : goal.loop-text-preserved
loop-text-preserved c =
    let before = c.loop-text.lines in
    let n = c.loop-text.next in
    let text = c.in-Some.text.now in
    let rest = drop 1 before.rest in
    let wanted = wanted_cut (nat_lt c.len.result crowd_count) before.rest text c.in-Some.ensures in
    let passed = c.pass.ensures.rest in
    record {
      lead = subst (Lead 1 c.args.lines.now.rest c.add_said.new.records.items (n + 1)) (sym passed)
          (lead_more 1 c.args.lines.now.rest c.loop-text.records.items c.add_said.new.records.items n text rest c.in_ok-said.said c.in_ok-said.ensures.said
          c.in_ok-add_said.ensures.said (subst (Lead 1 c.args.lines.now.rest c.loop-text.records.items n) wanted.1 c.loop-text.invariant.lead));
      fault = c.loop-text.invariant.fault ∙ fault_behind n before.rest text rest wanted.1 c.in_ok-said.ensures.clean ∙ ap (lines_fault (n + 1)) (sym passed);
      count = omega (arith, c.loop-text.invariant.count, ap length wanted.1, ap length passed);
      few =
          omega (
            arith,
            c.len.ensures,
            ltb-true c.len.result crowd_count wanted.0,
            said_few c.loop-text.records.items c.in_ok-said.said c.add_said.new.records.items c.in_ok-add_said.ensures.said,
          );
      good =
          said_good c.loop-text.records.items c.in_ok-said.said c.add_said.new.records.items c.in_ok-add_said.ensures.said
          (good_if n text c.in_ok-said.said c.in_ok-said.ensures.said) c.loop-text.invariant.good;
      before =
          omega (
            arith,
            c.loop-text.invariant.before,
            said_few c.loop-text.records.items c.in_ok-said.said c.add_said.new.records.items c.in_ok-add_said.ensures.said,
          );
      short = omega (arith, c.loop-text.invariant.short, ap length wanted.1, ap length passed);
    }

pub returns-clause-whole : goal.returns-clause-whole
returns-clause-whole c few =
    unwanted_cut (nat_lt c.len.result crowd_count) c.loop-text.lines.rest (sym (ap (option_map (λ line. line.now)) c.in_default.is) ∙ c.wanted_line.ensures)
    (lt-ltb c.len.result crowd_count (omega (arith, few, c.len.ensures)))
