-- Logs that are cut to some fields.
use Rattle.std.specs.Prelude.{ℕ, List, map, filter}
use Rattle.spy_grammar.specs.declared.record.Record.TheVariants as records
use Rattle.vocabulary.specs.Prelude.{Record, Lined, is_in}

-- A record with these of its fields alone. A field space keeps all of its own.
abbrev pub cut_record : List ℕ → Record → Record
cut_record fs (records.Req task tree space fields access atomic) =
    records.Req task tree space (filter (is_in fs) fields) access atomic
cut_record fs (records.Fill id tree space fields n) = records.Fill id tree space (filter (is_in fs) fields) n
cut_record fs (records.Inst id tree space fields kind) =
    records.Inst id tree space (filter (is_in fs) fields) kind
cut_record fs (records.Map task number fields inst) =
    records.Map task number (filter (is_in fs) fields) inst
cut_record fs (records.Copy src dst space fields done waits) =
    records.Copy src dst space (filter (is_in fs) fields) done waits
cut_record fs (records.Put inst space fields n done waits) =
    records.Put inst space (filter (is_in fs) fields) n done waits
cut_record fs (records.Reset inst space fields done waits) =
    records.Reset inst space (filter (is_in fs) fields) done waits
cut_record fs (records.Fold src dst space fields done waits) =
    records.Fold src dst space (filter (is_in fs) fields) done waits
cut_record fs r = r

-- A log with these fields alone, on the same lines.
abbrev pub cut_line : List ℕ → Lined → Lined
cut_line fs l = record l { rec = cut_record fs l.rec }

abbrev pub cut_log : List ℕ → List Lined → List Lined
cut_log fs log = map (cut_line fs) log
