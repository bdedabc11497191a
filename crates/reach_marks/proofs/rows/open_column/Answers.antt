use Rattle.std.proofs.Common.{◌∙◌, List, ap}
use Rattle.reach_marks.specs.declared.block.Block.{Block}
use Rattle.reach_marks.specs.Columns.{columns_in, rows_in}
use Rattle.reach_marks.proofs.Columned.{rows_opened}
use Rattle.reach_marks.proofs.Tagged.{opened_is, stored_opened, stored_same}
use Rattle.reach_marks.proofs.rows.open_column.Goals as goal

pub returns-in_ok-push-clause-stored : goal.returns-in_ok-push-clause-stored
returns-in_ok-push-clause-stored c = λ pool tags. rw (c.in_ok-push.ensures.items, c.in_ok-column.ensures)
    (stored_opened pool c.args.columns.now.items c.args.count c.if-count-eq0.true c.requires.each c.requires.long tags)

pub returns-in_ok-push-clause-same : goal.returns-in_ok-push-clause-same
returns-in_ok-push-clause-same c = λ pool n. rw (c.in_ok-push.ensures.items, c.in_ok-column.ensures)
    (ap (λ (bs : List (List Block)). rows_in bs n) (opened_is pool c.args.columns.now.items) ∙ rows_opened (columns_in pool c.args.columns.now.items) n)

pub returns-else-count-eq0-clause-stored : goal.returns-else-count-eq0-clause-stored
returns-else-count-eq0-clause-stored c = λ pool tags.
    stored_same pool c.args.columns.now.items c.args.count c.if-count-eq0.false c.requires.each c.requires.long tags
