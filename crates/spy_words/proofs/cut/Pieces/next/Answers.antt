use Rattle.std.proofs.Common.{ap, sym, ◌∙◌, drop, slice_get, []}
use Rattle.std.specs.Option.{option_map_or}
use Rattle.spy_words.specs.Reading.{parts}
use Rattle.spy_words.proofs.lemmas.Joins.{first_piece, only_piece}
use Rattle.spy_words.proofs.cut.Pieces.next.Goals as goal

pub returns-in_default : goal.returns-in_default
returns-in_default c =
    let all = sym (ap (λ rest. option_map_or (λ text. parts c.self.inside.byte text.now) rest []) c.in_ok-text.was) ∙ c.self.view_is in
    let is = sym (only_piece c.self.inside.byte c.in_ok-text.text.now c.in_default.ensures) ∙ all in
    record { piece = ap (λ ps. slice_get ps 0) is; rest = ap (drop 1) is }

pub returns : goal.returns
returns c =
    let all = sym (ap (λ rest. option_map_or (λ text. parts c.self.inside.byte text.now) rest []) c.in_ok-text.was) ∙ c.self.view_is in
    let is = sym (first_piece c.self.inside.byte c.in-Some.end c.in_ok-text.text.now c.in-Some.ensures) ∙ all in
    record { piece = ap (λ ps. slice_get ps 0) is; rest = ap (drop 1) is }
