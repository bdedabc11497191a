use Rattle.std.proofs.Common.{◌≡◌, find, drop}
use Rattle.vocabulary.specs.Prelude.{is_in}
use Rattle.item_uses.specs.Sharing.{least_shared}
use Rattle.item_uses.proofs.fields.first_shared.Given as goal

-- the search goes on in the rest
abbrev pub invariant-loop-field : goal.invariant-loop-field
invariant-loop-field l = least_shared l.ours l.theirs ≡ find (is_in l.theirs) (drop l.field-index l.ours)
