use Rattle.std.proofs.Common.{◌≡◌, ◌≤◌, ◌++◌, map, drop}
use Rattle.semantics.specs.Links.{sources_of, link_of}
use Rattle.provenance.specs.Listing.{step_of}
use Rattle.provenance.specs.Tracing.{links_behind}
use Rattle.provenance.proofs.walking.walk.Given as goal

abbrev pub invariant-loop-taken : goal.invariant-loop-taken
invariant-loop-taken g l = record {
  few : l.adds ≤ l.taken-index;
  same : links_behind l.log l.earlier l.fn.cell ≡ l.links.items
      ++ map (link_of l.log) (sources_of (map step_of (drop l.taken-index l.earlier)) l.at l.adds);
}
