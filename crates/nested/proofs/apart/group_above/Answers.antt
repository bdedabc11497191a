use Rattle.std.proofs.Common.{◌∙◌, sym, ap}
use Rattle.std.specs.Option.{option_and_then, option_copied}
use Rattle.semantics.specs.Nesting.{parent_of}
use Rattle.nested.proofs.Above.{at_place, no_place}
use Rattle.nested.proofs.apart.group_above.Goals as goal

pub returns-in_default : goal.returns-in_default
returns-in_default c = no_place c.args.groups.now c.args.id c.place.result c.place.ensures c.in_default.is

pub returns-in_default-row_in_place : goal.returns-in_default-row_in_place
returns-in_default-row_in_place c =
    sym (ap (λ o. option_and_then parent_of (option_copied o)) c.in_default-row_in_place.is)
    ∙ at_place c.args.groups.now c.args.id c.in-Some.place c.place.result c.groups.result.now
    (option_copied c.row_in_place.result) c.place.ensures c.in-Some.is c.groups.ensures c.row_in_place.ensures

pub returns : goal.returns
returns c =
    c.parent_of.ensures ∙ sym (ap (λ o. option_and_then parent_of (option_copied o)) c.in-Some-row_in_place.is)
    ∙ at_place c.args.groups.now c.args.id c.in-Some.place c.place.result c.groups.result.now
    (option_copied c.row_in_place.result) c.place.ensures c.in-Some.is c.groups.ensures c.row_in_place.ensures
