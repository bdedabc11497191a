use Rattle.std.proofs.Common.{◌≡◌, ◌≤◌, take, length, [], true}
use Rattle.grid.specs.Cuts.{grid_of}
use Rattle.vocabulary.specs.Prelude.{records_of, tables_of}
use Rattle.log_rules.specs.Tallied.{IsTally}
use Rattle.log_decl.specs.Sizes.{plane_rects}
use Rattle.log_decl.specs.Walk.{Keep}
use Rattle.log_decl.proofs.walk.walk.Given as goal

abbrev pub invariant-loop-l : goal.invariant-loop-l
invariant-loop-l g l = record {
  at : l.kept ≡ l.l-index;
  tables : l.tables ≡ tables_of (take l.l-index l.records);
  tally : IsTally (plane_rects l.records) (records_of (take l.l-index l.records)) l.tables l.tally;
  few : length (l.tables).reqs ≤ l.l-index;
  size : l.is_plane ≡ true → l.size ≡ grid_of (l.tables).rects;
  keep : Keep (records_of l.records) [] (take l.l-index l.records);
}
