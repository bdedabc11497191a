use Rattle.std.proofs.Common.{sym, ◌∙◌, ap, ◌+◌, nat_lt, length, Option, min}
use Rattle.std.specs.Option.{option_map_or}
use Rattle.semantics.specs.declared.Part.{Part}
use Rattle.vocabulary.specs.Prelude.{spaces_above, space_above}
use Rattle.semantics.specs.Rules.{is_too_deep}
use Rattle.log_rules.proofs.Climbs.{cut_off, deep_test}
use Rattle.log_rules.proofs.spaces.is_too_deep.Goals as goal

pub returns-in-Some : goal.returns-in-Some
returns-in-Some g c =
    let t = c.args.tables.now in
    let above = space_above t c.in-Some.part.space in
    deep_test (length (spaces_above t c.in-Some.part.space)) c.height.result (c.height.ensures
    ∙ cut_off t (length t.subs) 64 c.min.result above (c.min.ensures ∙ ap (λ n. min n 64) c.sub_count.ensures))
    ∙ ap (λ (o : Option Part). nat_lt 64 (1 + option_map_or (λ (p : Part). length (spaces_above t p.space)) o 0)) c.in-Some.ensures
    ∙ ap (is_too_deep t) (sym c.in-Sub.is)
