use Rattle.std.proofs.Common.{◌≡◌, take}
use Rattle.item_uses.specs.Usages.{usages}
use Rattle.item_uses.proofs.lemmas.Growing.{with_reqs}
use Rattle.item_uses.proofs.gathering.add_reqs.Given as goal

-- what the items ask for by the requirements so far
abbrev pub invariant-loop-req : goal.invariant-loop-req
invariant-loop-req g l = l.items.items ≡ usages (with_reqs l.tables (take l.req-index l.req-items))
