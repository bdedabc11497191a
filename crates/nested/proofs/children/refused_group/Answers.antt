use Rattle.std.proofs.Common.{◌∙◌, [], sym, ap}
use Rattle.std.specs.Option.{option_map_or}
use Rattle.nested.proofs.Gathering.{row_in_spaces, spaces_alike}
use Rattle.nested.proofs.Showing.{group_told, none_told}
use Rattle.nested.proofs.children.refused_group.Goals as goal

pub returns-in_default : goal.returns-in_default
returns-in_default g c =
    let t = c.args.tables.now in
    let n = c.args.groups.now in
    none_told t n c.args.group (ap (λ o. option_map_or (λ r. r.now) o []) (sym c.in_default.is)
    ∙ c.row_at-found.ensures t c.requires.rows c.requires.named) c.if-group-eq0.false

pub refused_by-requires : goal.refused_by-requires
refused_by-requires g c =
    let t = c.args.tables.now in
    let n = c.args.groups.now in
    spaces_alike t _ c.as_slice.result.now (row_in_spaces t n c.args.group.parent _
    (c.row_at-all.ensures t c.requires.rows c.requires.named))
    (row_in_spaces t n c.args.group.id c.as_slice.result.now (c.as_slice.ensures
    ∙ ap (λ o. option_map_or (λ r. r.now) o []) (sym c.in-Some.is) ∙ c.row_at-found.ensures t c.requires.rows c.requires.named))

pub returns : goal.returns
returns g c =
    let t = c.args.tables.now in
    let n = c.args.groups.now in
    group_told t n c.args.group _ c.as_slice.result.now c.refused_by.result (c.row_at-all.ensures t c.requires.rows c.requires.named)
    (c.as_slice.ensures ∙ ap (λ o. option_map_or (λ r. r.now) o []) (sym c.in-Some.is)
    ∙ c.row_at-found.ensures t c.requires.rows c.requires.named) c.if-group-eq0.false c.refused_by.ensures
