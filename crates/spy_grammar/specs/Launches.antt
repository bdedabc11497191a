-- The grammar of a launch log: that of a log, with two further kinds of record.
use Rattle.std.specs.Prelude.{ℕ, List, ◌∷◌, map, codes, Option, Result}
use Rattle.spy_words.specs.declared.fault.LineFault.{LineFault}
use Rattle.spy_words.specs.Classes.{id, fields, access, coherence}
use Rattle.spy_grammar.specs.declared.kinds.TheConstants.{KINDS}
use Rattle.spy_grammar.specs.declared.launches.LaunchKind.{LaunchKind}
use Rattle.spy_grammar.specs.declared.launches.LaunchKind.TheVariants as kinds
use Rattle.spy_grammar.specs.declared.launches.LRecord.{LRecord}
use Rattle.spy_grammar.specs.declared.launches.LRecord.TheVariants as records
use Rattle.spy_grammar.specs.Rows.{no_more, ◌&◌, RowMeaning, Entry, Grammar, entry, parts_of, included}
use Rattle.spy_grammar.specs.Reading.{line_in}
use Rattle.spy_grammar.specs.Spelling.{spelling_in, GoodIn}

-- The table: that of a log, and two further lines.
abbrev pub launch_entry : LaunchKind → Entry LRecord
launch_entry (kinds.Plain k) = included (λ r. records.Plain r) (entry k)
launch_entry kinds.Launch = record {
  name = codes "launch";
  row = id & fields & no_more;
  record_of =
      records.Launch;
}
launch_entry kinds.Lreq = record {
  name = codes "lreq";
  row =
      id & id & id & fields & access & coherence & no_more;
  record_of = records.Lreq;
}

-- The parts of a record, in the order of its words.
abbrev pub launch_parts : LRecord → (k : LaunchKind) × RowMeaning (launch_entry k).row
launch_parts (records.Plain r) = (kinds.Plain (parts_of r).0, (parts_of r).1)
launch_parts (records.Launch base colours) = (kinds.Launch, (base, (colours, tt)))
launch_parts (records.Lreq base tree part fs a atomic) =
    (kinds.Lreq, (base, (tree, (part, (fs, (a, (atomic, tt)))))))

-- The grammar of a launch log.
abbrev pub launch_log : Grammar LaunchKind LRecord
launch_log = record {
  kinds = kinds.Launch ∷ kinds.Lreq ∷ map (λ k. kinds.Plain k) KINDS;
  entry =
      launch_entry;
  parts_of = launch_parts;
}

-- What a line of a launch log says, or its fault.
unfoldable pub launch_line_at : List ℕ → Result (Option LRecord) LineFault
launch_line_at line = line_in launch_log line

-- The line of a record of a launch log.
unfoldable pub launch_spelling : LRecord → List ℕ
launch_spelling r = spelling_in launch_log r

-- The record of a launch log has a spelling.
abbrev pub GoodLaunch : LRecord → Type 0
GoodLaunch r = GoodIn launch_log r
