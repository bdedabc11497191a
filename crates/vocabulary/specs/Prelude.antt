-- The names that most contracts and proofs over logs cite, passed on from one place. Declares nothing.
pub use Rattle.privilege.specs.declared.kinds.Coherence.{Coherence}
pub use Rattle.privilege.specs.declared.kinds.Kind.{Kind}
pub use Rattle.privilege.specs.declared.kinds.Priv.{Priv}
pub use Rattle.privilege.specs.Allowed.{may_read, may_write}
pub use Rattle.privilege.specs.Interference.{agree, stronger, kind_of, both_atomic}
pub use Rattle.point_set.specs.declared.rect.Rect.{Rect}
pub use Rattle.point_set.specs.Rects.{strip}
pub use Rattle.spy_words.specs.declared.access.InstKind.{InstKind}
pub use Rattle.spy_words.specs.declared.access.PrivWord.{PrivWord}
pub use Rattle.spy_words.specs.declared.fault.LineFault.{LineFault}
pub use Rattle.spy_words.specs.declared.lists.Quad.{Quad}
pub use Rattle.spy_words.specs.Classes.{ascends, span_before, quad_before, IsSpan, IsQuad, IsNumberFrom, IsGood}
pub use Rattle.spy_words.specs.Reading.{is_digits, has_leading_zero}
pub use Rattle.value_terms.specs.declared.bag.Group.{Group}
pub use Rattle.value_terms.specs.declared.terms.Base.{Base}
pub use Rattle.value_terms.specs.declared.terms.Contribution.{Contribution}
pub use Rattle.value_terms.specs.Values.{Value, plain, add_one, weight_of, Bag, value_of, fold_parts, CountsEach, IsWellFormedBag, NeighboursDiffer, IsWellFormed, total, is_raw, group_of, Ascends}
unfoldable pub use Rattle.value_terms.specs.Values.{
  fold_in,
  comes_before,
  counted,
  joined,
  extended,
  add,
  same_value,
  count_in,
  same_contribution,
}
pub use Rattle.value_terms.specs.WorkedValues.{from_first, from_second}
pub use Rattle.spy_grammar.specs.declared.code.Code.{Code}
pub use Rattle.spy_grammar.specs.declared.launches.LLined.{LLined}
pub use Rattle.spy_grammar.specs.declared.launches.LRecord.{LRecord}
pub use Rattle.spy_grammar.specs.declared.record.Lined.{Lined}
pub use Rattle.spy_grammar.specs.declared.record.Record.{Record}
pub use Rattle.spy_grammar.specs.Spelling.{Good}
unfoldable pub use Rattle.spy_grammar.specs.Spelling.{spelling, spelling_in}
pub use Rattle.spy_grammar.specs.Reading.{is_passed_over}
unfoldable pub use Rattle.spy_grammar.specs.Reading.{line_at}
pub use Rattle.spy_grammar.specs.Launches.{GoodLaunch}
pub use Rattle.semantics.specs.declared.command.Command.{Command}
pub use Rattle.semantics.specs.declared.faults.Fault.{Fault}
pub use Rattle.semantics.specs.declared.links.Ask.{Ask}
pub use Rattle.semantics.specs.declared.links.Link.{Link}
pub use Rattle.semantics.specs.declared.links.LinkKind.{LinkKind}
pub use Rattle.semantics.specs.declared.moves.Move.{Move}
pub use Rattle.semantics.specs.declared.places.Cell.{Cell}
pub use Rattle.semantics.specs.declared.places.Place.{Place}
pub use Rattle.semantics.specs.declared.tables.FieldSpace.{FieldSpace}
pub use Rattle.semantics.specs.declared.tables.Inst.{Inst}
pub use Rattle.semantics.specs.declared.tables.Item.{Item}
pub use Rattle.semantics.specs.declared.tables.ItemBody.{ItemBody}
pub use Rattle.semantics.specs.declared.tables.LogNode.{LogNode}
pub use Rattle.semantics.specs.declared.tables.Map.{Map}
pub use Rattle.semantics.specs.declared.tables.Op.{Op}
pub use Rattle.semantics.specs.declared.tables.Part.{Part}
pub use Rattle.semantics.specs.declared.tables.Req.{Req}
pub use Rattle.semantics.specs.declared.tables.Serial.{Serial}
pub use Rattle.semantics.specs.declared.tables.Sub.{Sub}
pub use Rattle.semantics.specs.declared.tables.Tree.{Tree}
pub use Rattle.semantics.specs.declared.waits.ListedWait.{ListedWait}
pub use Rattle.semantics.specs.Records.{records_of, lined, lined_from, text_of, AreLines, AreLinesBy, Hold, HoldBy, on_line, parts_of, line_count, Reads, ReadsBy}
pub use Rattle.semantics.specs.Tables.{Tables, Space, with_record, no_tables, tables_of, place_of, privilege_of, coherence_of, points_of, rect_of, plane_points, with_space, with_item, reqs_before, with_node}
pub use Rattle.semantics.specs.Points.{is_in, points_in, is_within, meets, part_at, space_above, upward, spaces_above, same_place, tree_at, is_in_tree, fields_in}
pub use Rattle.semantics.specs.Kinds.{comes_first, reqs_of, grid, req_grid, is_free, item_kind, least_place, is_before, least_of, lesser, strongest, uses_of, uses_of_item, covers, kind_at, item_places, pairs}
pub use Rattle.semantics.specs.Sequential.{changed, after_uses, after_items, acted, wanted}
pub use Rattle.semantics.specs.Events.{Node, IsChain, IsCycle, AreLinked, WaitsOn, graph_of, HasNoCycle, Before}
pub use Rattle.semantics.specs.Steps.{cell_in, id_of, mapped, inst_at, operator_of, mapped_cell, reads_by, changes_by, moves_of, Step, at_cells, run_moves, move_of, data_moves, steps_by, operator_held, steps}
pub use Rattle.semantics.specs.Execution.{is_home, start, State, stored, effect, executed, sees, ReadsIn, is_home_cell}
unfoldable pub use Rattle.semantics.specs.Execution.{same_cell}
pub use Rattle.semantics.specs.Interleavings.{IsInterleaving, is_read, AreUnordered, MustPrecede}
pub use Rattle.semantics.specs.Races.{NodesConflictByReads, IsRaceFree, AreIndependent, Access, Untouched, Writes, Folds, at_cell, from_to, access, conflicts, Race}
pub use Rattle.semantics.specs.Reads.{req_at, replay_steps, Seen, read_step, IsRight, Differs, shown_difference, want_of, differing, difference, first_difference}
