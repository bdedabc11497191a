use Rattle.std.proofs.Common.{◌≡◌, [], ◌+◌, Err, arith, ap, refl, sym, subst, ◌∙◌, length, drop}
use Rattle.std.specs.Option.{option_map}
use Rattle.std.proofs.lemmas.List.{append-nil}
use Rattle.vocabulary.specs.Prelude.{Hold}
use Rattle.semantics.specs.TextFaults.{lines_fault}
use Rattle.log_reading.specs.Spelled.{with_said}
use Rattle.log_reading.specs.declared.reading.SpellEnd.TheVariants as ends
use Rattle.log_input.specs.Lines.{Lead}
use Rattle.log_input.proofs.Leading.{fault_behind, fault_here, first_cut, good_if, known_end, lead_more, none_cut}
use Rattle.log_input.proofs.later.later_records.Goals as goal

pub returns-in_err-said-clause-fault : goal.returns-in_err-said-clause-fault
returns-in_err-said-clause-fault c line code e =
    let rest = c.loop-text.lines.rest in
    let cut = first_cut rest c.in-Some.text.now c.in-Some.ensures in
    let known = known_end _ c.from_residual.result (ends.Fault line code) c.from_residual.ensures.1 e in
    let here = c.said_on.ensures.fault line code (c.in_err-said.was ∙ ap (λ x. Err x) (sym known)) in
    c.loop-text.invariant.fault ∙ fault_here c.loop-text.next rest c.in-Some.text.now (drop 1 rest) _ cut here

pub loop-text-preserved : goal.loop-text-preserved
loop-text-preserved c =
    let lines = c.args.lines.now.rest in
    let number = c.args.number in
    let before = c.loop-text.lines in
    let n = c.loop-text.next in
    let text = c.in-Some.text.now in
    let said = c.in_ok-said.said in
    let rest = drop 1 before.rest in
    let cut = first_cut before.rest text c.in-Some.ensures in
    let passed = c.pass.ensures.rest in
    record {
      read = λ first begun.
          let to = c.loop-text.invariant.read first begun in
          record {
            later = with_said to.later said;
            lead =
                subst (Lead number lines (with_said to.later said) (n + 1)) (sym passed)
                (lead_more number lines to.later (with_said to.later said) n text rest said c.in_ok-said.ensures.said refl
                (subst (Lead number lines to.later n) cut to.lead));
            crowding = c.in_ok-read_said.ensures.crowding first to.later to.crowding;
          };
      fault = c.loop-text.invariant.fault ∙ fault_behind n before.rest text rest cut c.in_ok-said.ensures.clean ∙ ap (lines_fault (n + 1)) (sym passed);
      next = omega (arith, c.loop-text.invariant.next, ap length cut, ap length passed);
      count = omega (arith, c.loop-text.invariant.count, c.in_ok-read_said.ensures.count, ap length cut, ap length passed);
      few = omega (arith, c.loop-text.invariant.few, c.in_ok-read_said.ensures.few, ap length cut, ap length passed);
      good = c.in_ok-read_said.ensures.good (good_if n text said c.in_ok-said.ensures.said) c.loop-text.invariant.good;
    }

pub returns-clause-read : goal.returns-clause-read
returns-clause-read c first begun =
    let left = c.loop-text.lines.rest in
    let none : left ≡ [] = none_cut left (sym (ap (option_map (λ line. line.now)) c.in_default.is) ∙ c.line.ensures) in
    let to = c.loop-text.invariant.read first begun in
    record {
      later = to.later;
      hold = subst (Hold c.args.number c.args.lines.now.rest) (append-nil to.later) (to.lead [] (subst (λ ls. Hold c.loop-text.next ls []) (sym none) refl));
      crowding = to.crowding;
    }

pub returns-clause-clean : goal.returns-clause-clean
returns-clause-clean c =
    let left = c.loop-text.lines.rest in
    let none : left ≡ [] = none_cut left (sym (ap (option_map (λ line. line.now)) c.in_default.is) ∙ c.line.ensures) in
    c.loop-text.invariant.fault ∙ ap (lines_fault c.loop-text.next) none

pub returns-clause-next : goal.returns-clause-next
returns-clause-next c =
    let left = c.loop-text.lines.rest in
    let none : left ≡ [] = none_cut left (sym (ap (option_map (λ line. line.now)) c.in_default.is) ∙ c.line.ensures) in
    omega (arith, c.loop-text.invariant.next, ap length none)
