use Rattle.std.proofs.Common.{◌≡◌, Some, IsSome}
use Rattle.log_tables.specs.Regions.{space_of}
use Rattle.region_tree.specs.Ancestors.{ancestor_of}
use Rattle.region_tree.specs.Paths.{Leads}
use Rattle.region_tree.proofs.climb.path_to.Given as goal

abbrev pub invariant-loop-up : goal.invariant-loop-up
invariant-loop-up g l = record {
  above : ancestor_of l.decls l._up l.space ≡ Some l.top;
  declared : IsSome (space_of l.decls l.top);
  leads : Leads l.decls l.top l.steps.items l.space;
}
