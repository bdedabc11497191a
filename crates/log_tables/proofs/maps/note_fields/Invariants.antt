use Rattle.std.proofs.Common.{◌-◌, ◌≤◌, take, length}
use Rattle.indexmap.specs.IndexMap.{get, spare}
use Rattle.log_tables.specs.Mapped.{same_field, names_field}
use Rattle.log_tables.specs.Noted.{NotesFirst}
use Rattle.log_tables.proofs.maps.note_fields.Given as goal

abbrev pub invariant-loop-field : goal.invariant-loop-field
invariant-loop-field l = record {
  noted : NotesFirst (get same_field l.fn.insts) (get same_field l.insts)
      (names_field l.item l.number (take l.field-index l.fields)) l.inst;
  room : length l.fields ≤ spare l.fn.insts → length l.fields - l.field-index ≤ spare l.insts;
}
