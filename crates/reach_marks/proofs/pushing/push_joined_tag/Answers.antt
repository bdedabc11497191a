use Rattle.std.proofs.Common.{◌∙◌, ℕ, List, map, ap}
use Rattle.std.specs.List.{list_any}
use Rattle.reach_marks.specs.Blocks.{block_of, reaches_in}
use Rattle.reach_marks.proofs.Tagged.{adds_tag}
use Rattle.reach_marks.proofs.pushing.push_joined_tag.Goals as goal

pub returns : goal.returns
returns c =
    let pool = c.args.pool.now.items in
    let tags = c.args.column.now in
    adds_tag pool c.joined_tag.new.pool.items tags c.in_ok-tag.tag c.push.new.self
    (λ i. list_any (λ w. reaches_in c.args.k (map (block_of pool) tags) w i) c.args.waits.now)
    c.in_ok-tag.ensures.grows c.requires.tags c.in_ok-tag.ensures.exact c.in_ok-tag.ensures.within
    (λ i lt. c.in_ok-tag.ensures.places i lt
    ∙ ap (λ (ts : List ℕ). list_any (λ w. reaches_in c.args.k (map (block_of pool) ts) w i) c.args.waits.now) c.as_slice.ensures)
    c.in_ok-push.ensures
