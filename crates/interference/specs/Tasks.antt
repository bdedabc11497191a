-- Pairs of tasks.
use Rattle.std.specs.Prelude.{Bool, false, ◌&&◌, List, slice_get}
use Rattle.std.specs.Option.{option_map_or}
use Rattle.semantics.specs.Rules.{is_task}
use Rattle.vocabulary.specs.Prelude.{Item}
use Rattle.interference.specs.declared.pair.Pair.{Pair}

-- Whether both items of a pair are tasks.
abbrev pub are_tasks : List Item → Pair → Bool
are_tasks items p = option_map_or (λ (i : Item). is_task i.body) (slice_get items p.a) false
    && option_map_or (λ (i : Item). is_task i.body) (slice_get items p.b) false
