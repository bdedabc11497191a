use Rattle.std.proofs.Common.{◌∙◌, sym, ap, ◌==◌, ◌&&◌}
use Rattle.std.specs.List.{position_from}
use Rattle.std.proofs.lemmas.Iterator.Adapters.{position_from-zero}
use Rattle.vocabulary.specs.Prelude.{Req, Tables}
use Rattle.list_lemmas.proofs.lemmas.Firsts.{find_by_place}
use Rattle.log_tables.proofs.tables.LogTables.req_place.Goals as goal

pub returns-clause-place : goal.returns-clause-place
returns-clause-place g c =
    let test = λ (r : Req). (r.item == c.args.item) && (r.number == c.args.number) in
    c.place.ensures ∙ ap (λ (t : Tables). position_from test 0 t.reqs) c.self.view_is ∙ sym (position_from-zero test c.args.self.now.reqs)

pub returns-clause-req : goal.returns-clause-req
returns-clause-req g c =
    let test = λ (r : Req). (r.item == c.args.item) && (r.number == c.args.number) in
    find_by_place test c.args.self.now.reqs c.place.result (c.place.ensures
    ∙ ap (λ (t : Tables). position_from test 0 t.reqs) c.self.view_is)
