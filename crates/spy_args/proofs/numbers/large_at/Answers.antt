use Rattle.std.proofs.Common.{◌∙◌, ap, sym}
use Rattle.std.specs.Char.{is_ascii_digit}
use Rattle.std.specs.List.{list_all}
use Rattle.vocabulary.specs.Prelude.{has_leading_zero}
use Rattle.spy_args.proofs.Parsed.{number_parsed}
use Rattle.spy_args.proofs.numbers.large_at.Goals as goal

pub returns : goal.returns
returns c =
    let digits = ap (list_all is_ascii_digit) (sym c.as_bytes-else-has_leading_zero.ensures.value) ∙ sym c.are_digits.ensures
    ∙ c.if-not-are_digits.false in
    let first = ap has_leading_zero (sym c.as_bytes.ensures.value) ∙ sym c.has_leading_zero.ensures ∙ c.if-has_leading_zero.false in
    c.ok.ensures.value ∙ number_parsed c.args.word.now c.parse.result digits first c.parse.ensures.value.0
