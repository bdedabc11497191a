use Rattle.std.proofs.Common.{◌∙◌, [], slice_get, sym, ap}
use Rattle.nested.specs.Rows.{row_in}
use Rattle.nested.proofs.Gathering.{row_found, seen_row}
use Rattle.nested.proofs.rows.row_at.Goals as goal

pub returns : goal.returns
returns g c = λ t rows named.
    let n = c.args.groups.now in
    let place = c.in-Some.place in
    seen_row c.row_in_place.result (row_in t n c.args.id) [] (c.row_in_place.ensures ∙ ap (λ rs. slice_get rs place) rows
    ∙ row_found t n c.args.id place (sym c.place.ensures ∙ c.in-Some.is))
