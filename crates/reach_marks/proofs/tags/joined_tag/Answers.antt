use Rattle.std.proofs.Common.{◌∙◌, ℕ, List, length, map, ap}
use Rattle.std.specs.List.{list_any}
use Rattle.reach_marks.specs.Blocks.{block_of, reaches_in}
use Rattle.reach_marks.proofs.tags.joined_tag.Goals as goal

pub returns-in-Some-clause-within : goal.returns-in-Some-clause-within
returns-in-Some-clause-within c = c.in-Some.ensures.within (length c.args.pool.now.items) c.requires.tags.within

pub returns-in_ok-tag-in-None-clause-places : goal.returns-in_ok-tag-in-None-clause-places
returns-in_ok-tag-in-None-clause-places c = λ i lt. c.in_ok-tag-in-None.ensures.places i lt ∙ c.joined-bits.ensures i lt
    ∙ ap (λ (pool : List (List ℕ)). list_any (λ w. reaches_in c.args.k (map (block_of pool) c.args.tags.now) w i) c.args.waits.now)
    c.as_slice.ensures.value
