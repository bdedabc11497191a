use Rattle.std.proofs.Common.{◌≡◌, ◌∙◌, ◌&&◌, ◌+◌, ◌-◌, ◌^◌, ap, arith, drop, get_or, if◌then◌else◌, length, rules, sym, take, true, List, None, Some, ℕ}
use Rattle.std.specs.Char.{is_ascii_digit}
use Rattle.std.specs.List.{list_all}
use Rattle.std.proofs.lemmas.List.{length-drop, take_all}
use Rattle.std.proofs.lemmas.List.Folds.{list_all_more}
use Rattle.spy_words.proofs.Numbers.{value_more, value_stays}
use Rattle.spy_words.proofs.words.value_of.Goals as goal

pub returns-then-value : goal.returns-then-value
returns-then-value c =
    let w = c.args.word.now in
    let k = c.loop-k.k in
    let digit : is_ascii_digit (get_or w k 0) ≡ true = search rules in
    let digits : list_all is_ascii_digit (take (k + 1) w) ≡ true =
    list_all_more is_ascii_digit w k 0 c.loop-k-test.true ∙ ap (λ b. b && is_ascii_digit (get_or w k 0)) c.loop-k.invariant.digits ∙ digit in
    let value = value_more w k c.loop-k.value c.loop-k-test.true digit c.loop-k.invariant.value in
    let rest : take (length w - (k + 1)) (drop (k + 1) w) ≡ drop (k + 1) w =
    take_all (length w - (k + 1)) (drop (k + 1) w) (omega (arith, length-drop (k + 1) w)) in
    c.value_beyond.ensures ∙ ap (λ (xs : List ℕ). if list_all is_ascii_digit xs then Some (2 ^ 32) else None) rest
    ∙ sym (value_stays w (k + 1) digits (omega (arith, c.if-value.true, c.from.ensures, value)))

pub loop-k-preserved : goal.loop-k-preserved
loop-k-preserved c =
    let w = c.args.word.now in
    let k = c.loop-k.k in
    let digit : is_ascii_digit (get_or w k 0) ≡ true = search rules in
    record {
      digits = list_all_more is_ascii_digit w k 0 c.loop-k-test.true ∙ ap (λ b. b && is_ascii_digit (get_or w k 0)) c.loop-k.invariant.digits ∙ digit;
      value = (search rules) ∙ value_more w k c.loop-k.value c.loop-k-test.true digit c.loop-k.invariant.value;
      small = omega (arith, c.if-value.false);
    }
