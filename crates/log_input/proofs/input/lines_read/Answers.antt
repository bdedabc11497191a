use Rattle.std.proofs.Common.{◌≡◌, ◌<◌, [], ◌++◌, arith, ap, refl, sym, subst, ◌∙◌, length}
use Rattle.std.proofs.lemmas.Bool.{ltb-true}
use Rattle.std.proofs.lemmas.List.{append-nil}
use Rattle.vocabulary.specs.Prelude.{Hold}
use Rattle.crowded_logs.specs.Crowded.{crowd_count}
use Rattle.log_input.proofs.input.lines_read.Goals as goal

pub returns-then-is_few-clause-read : goal.returns-then-is_few-clause-read
returns-then-is_few-clause-read c =
    let first = c.in_ok-first.first in
    let list = c.args.list in
    let rest = c.first_records.new.lines.rest in
    let start = c.keeping-lines.ensures.rest in
    let few : length first.records.items < crowd_count =
    omega (arith, ltb-true c.len.result crowd_count (sym c.is_few.ensures ∙ c.if-is_few.true), c.len.ensures) in
    let none : rest ≡ [] = c.in_ok-first.ensures.whole few in
    record {
      hold =
          subst (λ ls. Hold 1 ls first.records.items) start
          (subst (Hold 1 c.keeping-lines.result.rest) (append-nil first.records.items)
          (c.in_ok-first.ensures.lead [] (subst (λ ls. Hold first.next ls []) (sym none) refl)));
      good = c.in_ok-first.ensures.good;
      count = omega (arith, c.in_ok-first.ensures.count, ap length none, ap length start);
    }

pub returns-clause-read : goal.returns-clause-read
returns-clause-read c =
    let first = c.in_ok-first.first in
    let crowd = c.in_ok-input.ensures.crowded in
    let start = c.keeping-lines.ensures.rest in
    record {
      log = first.records.items ++ crowd.later;
      hold = subst (λ ls. Hold 1 ls (first.records.items ++ crowd.later)) start (c.in_ok-first.ensures.lead crowd.later crowd.hold);
      kept = crowd.kept;
      frame = crowd.frame;
      good = crowd.good;
      few = omega (arith, crowd.few, c.in_ok-first.ensures.before, c.in_ok-first.ensures.count, ap length start);
      count = omega (arith, crowd.count, c.in_ok-first.ensures.count, ap length start);
    }
