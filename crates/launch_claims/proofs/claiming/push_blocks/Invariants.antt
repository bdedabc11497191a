use Rattle.std.proofs.Common.{◌≡◌, ◌++◌, ℕ, map, take}
use Rattle.std.specs.List.{flat_map}
use Rattle.launch_claims.specs.Blocks.{block_of}
use Rattle.launch_claims.specs.Claiming.{claim_on}
use Rattle.launch_claims.proofs.claiming.push_blocks.Given as goal

abbrev pub invariant-loop-field : goal.invariant-loop-field
invariant-loop-field g l = l.blocks.items ≡ l.fn.blocks.items
    ++ flat_map (λ (field : ℕ). map (block_of (claim_on l.launch l.req field)) l.rects) (take l.field-index l.req.fields.now)
