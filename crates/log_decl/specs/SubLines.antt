-- The lines of subspaces.
use Rattle.std.specs.Prelude.{ℕ, List, Option, Some, None}
use Rattle.std.specs.List.{filter_map}
use Rattle.vocabulary.specs.Prelude.{Record, Lined}
use Rattle.spy_grammar.specs.declared.record.Record.TheVariants.{Sub}

-- The line of a record that declares a subspace.
abbrev pub sub_line : ℕ → Record → Option ℕ
sub_line line (Sub part colour space) = Some line
sub_line line _ = None

-- The lines that declare subspaces, in their order.
abbrev pub sub_lines : List Lined → List ℕ
sub_lines log = filter_map (λ (l : Lined). sub_line l.line l.rec) log
