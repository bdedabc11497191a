use Rattle.std.proofs.Common.{nat_eq, ◌∙◌, ap, inl, inr, List, Option, slice_get}
use Rattle.std.specs.Map.{lookup}
use Rattle.std.proofs.lemmas.Bool.{cases_lt}
use Rattle.id_maps.specs.declared.IdMap.{IdMap}
use Rattle.id_maps.specs.declared.TheConstants.{TABLE_END}
use Rattle.id_maps.specs.Entries.{held}
use Rattle.id_maps.proofs.Placed.{in_others, in_table}
use Rattle.id_maps.proofs.IdMap.new.Goals as goal

pub returns : goal.returns
returns g c = λ id.
    let none : IdMap g.row.T.Denot = record { table = c.new.result; others = c.new-2.result } in
    elim (cases_lt id TABLE_END) [
      | inl low ↦ in_table none id low ∙ ap (λ (xs : List (Option g.row.T.Denot)). held (slice_get xs id)) c.new.ensures.items
      | inr high ↦ in_others none id high ∙ ap (lookup (nat_eq id)) c.new-2.ensures.empty
    ]
