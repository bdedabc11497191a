use Rattle.std.proofs.Common.{◌<◌, ◌∙◌, ℕ, List, [], get_or, length, ap, sym, subst}
use Rattle.vocabulary.specs.Prelude.{place_of}
use Rattle.licences.specs.Claims.{Claimed}
use Rattle.nested.proofs.Asking.{has_row, row_at_place}
use Rattle.nested.proofs.Gathering.{own_in_spaces, row_in_spaces, spaces_alike}
use Rattle.nested.proofs.Showing.{member_told}
use Rattle.nested.proofs.children.refused_member.Goals as goal

pub row_of_place-own-requires : goal.row_of_place-own-requires
row_of_place-own-requires g c =
    let t = c.args.tables.now in
    subst (λ (k : ℕ). k < length c.args.tasks.now) (sym c.place.ensures)
    (subst (λ (rows : List (List Claimed)). place_of t.items c.args.member.task < length rows) (sym c.requires.tasks)
    (has_row t t.reqs c.args.member.task))

pub refused_by-requires : goal.refused_by-requires
refused_by-requires g c =
    let t = c.args.tables.now in
    let n = c.args.groups.now in
    spaces_alike t _ c.as_slice.result.now (row_in_spaces t n c.args.member.group _
    (c.row_at-all.ensures t c.requires.rows c.requires.named))
    (own_in_spaces t t.reqs (place_of t.items c.args.member.task) c.as_slice.result.now (c.as_slice.ensures ∙ c.row_of_place-own.ensures
    ∙ ap (λ (k : ℕ). get_or c.args.tasks.now k []) c.place.ensures
    ∙ row_at_place t c.args.tasks.now c.args.member.task c.requires.tasks))

pub returns : goal.returns
returns g c =
    let t = c.args.tables.now in
    let n = c.args.groups.now in
    member_told t n c.args.member _ c.as_slice.result.now c.refused_by.result (c.row_at-all.ensures t c.requires.rows c.requires.named)
    (c.as_slice.ensures ∙ c.row_of_place-own.ensures ∙ ap (λ (k : ℕ). get_or c.args.tasks.now k []) c.place.ensures
    ∙ row_at_place t c.args.tasks.now c.args.member.task c.requires.tasks) c.refused_by.ensures
