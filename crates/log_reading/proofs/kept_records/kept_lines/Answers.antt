use Rattle.std.proofs.Common.{◌≡◌, ◌∷◌, ◌++◌, ◌+◌, [], arith, ap, sym, subst, refl, ◌∙◌, length, drop, take, cond}
use Rattle.std.specs.Option.{option_or, is_some, option_map}
use Rattle.std.proofs.lemmas.List.{append-nil}
use Rattle.spy_lines.specs.LinesOf.{with_ends}
use Rattle.vocabulary.specs.Prelude.{Hold}
use Rattle.semantics.specs.TextFaults.{lines_fault}
use Rattle.log_reading.specs.Spelled.{HoldText}
use Rattle.log_reading.proofs.TextHeld.{first_cut, none_cut, text_behind}
use Rattle.log_reading.proofs.kept_records.kept_lines.Goals as goal

pub loop-line-preserved : goal.loop-line-preserved
loop-line-preserved c =
    let all = c.args.list in
    let n = c.loop-line.line in
    let text = c.in-Some.text.now in
    let before = c.loop-line.lines in
    let after = c.keep_said.new.lines in
    let rest = drop 1 before.rest in
    let cut : before.rest ≡ text ∷ rest = first_cut before.rest text c.in-Some.ensures in
    let kept = c.keep_said.ensures.kept ∙ ap (λ ls. cond (is_some c.in_ok-said.said) (before.kept ++ with_ends (take 1 ls)) before.kept) cut in
    record {
      text = λ more h.
          let behind = text_behind n text rest c.in_ok-said.said before.kept after.kept more c.in_ok-said.ensures.said kept
          (subst (λ ls. HoldText (n + 1) ls more) c.keep_said.ensures.rest h) in
          subst (HoldText 1 all) behind.2 (c.loop-line.invariant.text behind.0 (subst (λ ls. HoldText n ls behind.0) (sym cut) behind.1));
      fault = c.loop-line.invariant.fault ∙ ap (lines_fault n) cut
          ∙ ap (λ o. option_or o (lines_fault (n + 1) rest)) c.in_ok-said.ensures.clean ∙ ap (lines_fault (n + 1)) (sym c.keep_said.ensures.rest);
      few = omega (arith, c.loop-line.invariant.few, ap length cut, ap length c.keep_said.ensures.rest);
    }

pub returns-clause-text : goal.returns-clause-text
returns-clause-text c =
    let all = c.args.list in
    let n = c.loop-line.line in
    let left = c.loop-line.lines in
    let none : left.rest ≡ [] = none_cut left.rest (sym (ap (option_map (λ line. line.now)) c.in_default.is) ∙ c.line.ensures) in
    let held = c.loop-line.invariant.text [] (record { log = []; hold = subst (λ ls. Hold n ls []) (sym none) refl; text_is = refl }) in
    subst (HoldText 1 all) (append-nil left.kept ∙ sym c.finish.ensures) held
