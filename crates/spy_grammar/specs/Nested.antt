-- The grammar of a nested log: that of a log, with three further kinds of record.
use Rattle.std.specs.Prelude.{ℕ, List, ◌∷◌, map, codes, Option, Result}
use Rattle.spy_words.specs.declared.fault.LineFault.{LineFault}
use Rattle.spy_words.specs.Classes.{any_number, id, fields, access}
use Rattle.spy_grammar.specs.declared.kinds.TheConstants.{KINDS}
use Rattle.spy_grammar.specs.declared.nested.NestedKind.{NestedKind}
use Rattle.spy_grammar.specs.declared.nested.NestedKind.TheVariants as kinds
use Rattle.spy_grammar.specs.declared.nested.NRecord.{NRecord}
use Rattle.spy_grammar.specs.declared.nested.NRecord.TheVariants as records
use Rattle.spy_grammar.specs.Rows.{no_more, ◌&◌, RowMeaning, Entry, Grammar, entry, parts_of, included}
use Rattle.spy_grammar.specs.Reading.{line_in}
use Rattle.spy_grammar.specs.Spelling.{spelling_in, GoodIn}

-- The table: that of a log, and three further lines.
abbrev pub nested_entry : NestedKind → Entry NRecord
nested_entry (kinds.Plain k) = included (λ r. records.Plain r) (entry k)
nested_entry kinds.Group = record {
  name = codes "group";
  row = id & any_number & no_more;
  record_of =
      records.Group;
}
nested_entry kinds.Greq = record {
  name = codes "greq";
  row =
      any_number & id & id & fields & access & no_more;
  record_of = records.Greq;
}
nested_entry kinds.Member = record {
  name = codes "member";
  row = id & any_number & no_more;
  record_of =
      records.Member;
}

-- The parts of a record, in the order of its words.
abbrev pub nested_parts : NRecord → (k : NestedKind) × RowMeaning (nested_entry k).row
nested_parts (records.Plain r) = (kinds.Plain (parts_of r).0, (parts_of r).1)
nested_parts (records.Group i parent) = (kinds.Group, (i, (parent, tt)))
nested_parts (records.Greq group tree space fs a) = (kinds.Greq, (group, (tree, (space, (fs, (a, tt))))))
nested_parts (records.Member task group) = (kinds.Member, (task, (group, tt)))

-- The grammar of a nested log.
abbrev pub nested_log : Grammar NestedKind NRecord
nested_log = record {
  kinds = kinds.Group ∷ kinds.Greq ∷ kinds.Member ∷ map (λ k. kinds.Plain k) KINDS;
  entry = nested_entry;
  parts_of = nested_parts;
}

-- What a line of a nested log says, or its fault.
unfoldable pub nested_line_at : List ℕ → Result (Option NRecord) LineFault
nested_line_at line = line_in nested_log line

-- The line of a record of a nested log.
unfoldable pub nested_spelling : NRecord → List ℕ
nested_spelling r = spelling_in nested_log r

-- The record of a nested log has a spelling.
abbrev pub GoodNested : NRecord → Type 0
GoodNested r = GoodIn nested_log r
