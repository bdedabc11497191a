use Rattle.nested.proofs.Freeing.{free_told}
use Rattle.nested.proofs.nest.groups_free.Goals as goal

pub returns : goal.returns
returns g c = λ t rows named. free_told t c.args.groups.now c.args.g c.args.h c.rows_free.result _ _ (c.row_at-ours.ensures t rows named)
    (c.row_at-theirs.ensures t rows named) c.rows_free.ensures
