use Rattle.std.proofs.Common.{◌∙◌, List, [], ◌∷◌, ◌++◌, ap}
use Rattle.licences.specs.Claims.{Claimed}
use Rattle.nested.proofs.Asking.{one_more_row}
use Rattle.nested.proofs.own.empty_rows.Goals as goal

pub loop-preserved : goal.loop-preserved
loop-preserved g c = c.in_ok-push.ensures.items ∙ ap (λ (row : List Claimed). c.loop.rows.items ++ row ∷ []) c.new.ensures
    ∙ one_more_row c.loop.counter c.loop.rows.items c.loop.invariant
