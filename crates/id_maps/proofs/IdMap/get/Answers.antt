use Rattle.std.proofs.Common.{◌∙◌, sym, ap, List, Option, slice_get}
use Rattle.id_maps.specs.Entries.{held}
use Rattle.id_maps.proofs.Placed.{in_others, in_table}
use Rattle.id_maps.proofs.IdMap.get.Goals as goal

pub returns-then-k-ge-TABLE_END : goal.returns-then-k-ge-TABLE_END
returns-then-k-ge-TABLE_END g c = c.copied.ensures ∙ c.get.ensures.value ∙ sym (in_others c.args.self.now c.args.id c.if-k-ge-TABLE_END.true)

pub returns-in-Some : goal.returns-in-Some
returns-in-Some g c =
    ap held c.in-Some.ensures
    ∙ ap (λ (xs : List (Option g.row.T.Denot)). held (slice_get xs c.args.id)) c.as_slice.ensures.value
    ∙ sym (in_table c.args.self.now c.args.id c.if-k-ge-TABLE_END.false)

pub returns-in-None : goal.returns-in-None
returns-in-None g c =
    ap held c.in-None.ensures
    ∙ ap (λ (xs : List (Option g.row.T.Denot)). held (slice_get xs c.args.id)) c.as_slice.ensures.value
    ∙ sym (in_table c.args.self.now c.args.id c.if-k-ge-TABLE_END.false)
