use Rattle.std.proofs.Common.{◌≡◌, true, take}
use Rattle.std.specs.List.{list_all}
use Rattle.std.specs.Option.{is_some}
use Rattle.vocabulary.specs.Prelude.{mapped}
use Rattle.logs.proofs.mapping.is_mapped.Given as goal

abbrev pub invariant-loop-field : goal.invariant-loop-field
invariant-loop-field g l = list_all (λ f. is_some (mapped l.tables l.req f)) (take l.field-index l.req.fields) ≡ true
