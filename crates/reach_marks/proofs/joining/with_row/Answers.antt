use Rattle.reach_marks.proofs.JoinedRows.{still_reached}
use Rattle.reach_marks.proofs.joining.with_row.Goals as goal

pub add_joined-requires-clause-whole : goal.add_joined-requires-clause-whole
add_joined-requires-clause-whole c = λ q lt. still_reached c.args.rows c.args.waits.now q (c.shared_front-front.ensures q lt)
