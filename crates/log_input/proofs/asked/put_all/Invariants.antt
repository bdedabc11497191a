use Rattle.std.proofs.Common.{◌≡◌, ◌||◌, ℕ, take}
use Rattle.id_maps.specs.Sets.{has_id}
use Rattle.vocabulary.specs.Prelude.{is_in}
use Rattle.log_input.proofs.asked.put_all.Given as goal

abbrev pub invariant-loop-id : goal.invariant-loop-id
invariant-loop-id l = (n : ℕ) → has_id l.set n ≡ (has_id l.fn.set n || is_in (take l.id-index l.ids) n)
