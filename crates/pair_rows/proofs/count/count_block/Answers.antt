use Rattle.std.proofs.Common.{◌∙◌, [], ap, length, get_or}
use Rattle.pair_rows.specs.Counting.{sum_below}
use Rattle.pair_rows.specs.Meetings.{later_in_row}
use Rattle.pair_rows.proofs.Sums.{block_is}
use Rattle.pair_rows.proofs.count.count_block.Goals as goal

pub returns : goal.returns
returns c =
    let rows = c.in_ok-rows.rows.items in
    c.count_rows.ensures.count
    ∙ ap (λ rs. sum_below (λ a. later_in_row (get_or rs a []) a c.args.base) (length rs)) c.as_slice.ensures.value
    ∙ ap (sum_below (λ a. later_in_row (get_or rows a []) a c.args.base)) c.in_ok-rows.ensures.rows
    ∙ block_is c.args.places.now rows c.args.base c.args.items c.min-count.result c.min-count.ensures c.in_ok-rows.ensures.bits
