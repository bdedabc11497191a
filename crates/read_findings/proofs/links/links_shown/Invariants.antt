use Rattle.std.proofs.Common.{◌≡◌, map, take}
use Rattle.outcomes.specs.Outcome.{link_shown}
use Rattle.read_findings.proofs.links.links_shown.Given as goal

abbrev pub invariant-loop-link : goal.invariant-loop-link
invariant-loop-link l = l.list.items ≡ map link_shown (take l.link-index l.links)
