use Rattle.std.proofs.Common.{ap, ◌∙◌, List, slice_get, option_and_then}
use Rattle.list_lemmas.proofs.lemmas.Firsts.{find_by_place}
use Rattle.log_tables.proofs.rows.Rows.get_near.Goals as goal

pub returns : goal.returns
returns g c =
    let test = λ (x : g.row.T.Denot). g.W.K.PartialEq.eq (g.W.KeyBy.key_of x) c.args.key in
    c.row_at.ensures ∙ ap (λ (xs : List g.row.T.Denot). option_and_then (slice_get xs) c.place_near.result) (c.deref.ensures.value
    ∙ c.self.view_is)
    ∙ find_by_place test c.args.self.now c.place_near.result c.place_near.ensures
