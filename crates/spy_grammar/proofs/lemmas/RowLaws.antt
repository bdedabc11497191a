-- The table of a log: what is read of a line has that spelling, and what has a spelling is read from it.
use Rattle.std.proofs.Common.{◌≡◌, ◌≢◌, ℕ, true, List, [], Some, None, Ok, refl}
use Rattle.std.specs.List.{All}
use Rattle.spy_grammar.specs.declared.kinds.RecordKind.{RecordKind}
use Rattle.spy_grammar.specs.declared.kinds.RecordKind.TheVariants as kinds
use Rattle.spy_grammar.specs.declared.record.Record.{Record}
use Rattle.spy_grammar.specs.declared.record.Record.TheVariants as records
use Rattle.spy_grammar.specs.Rows.{plain_log, space_of, made, parts_of, kind_in}
use Rattle.spy_grammar.specs.Spelling.{spelling, Good}
use Rattle.spy_grammar.specs.Reading.{is_passed_over, line_at}
use Rattle.spy_grammar.proofs.lemmas.GrammarLaws
use Rattle.spy_grammar.proofs.lemmas.GrammarLaws.{InTable, IsTable, each_extent}

in_table : (k : RecordKind) → InTable RecordKind Record plain_log k
unfolding kind_in
in_table kinds.Ispace = record {
  named = refl;
  kept = refl;
  letters = refl;
  apart = λ m. each_extent (λ x. parts_of (space_of m.0 x) ≡ (kinds.Ispace, (m.0, (x, tt)))) (λ ps. refl) (λ qs. refl) m.1.0;
}
in_table kinds.Header = record { named = refl; kept = refl; letters = refl; apart = λ m. refl }
in_table k = record { named = refl; kept = refl; letters = refl; apart = λ m. refl }

made_again : (r : Record) → made plain_log (parts_of r).0 (parts_of r).1 ≡ r
made_again (records.Header version) = refl
made_again r = refl

pub plain_table : IsTable RecordKind Record plain_log
plain_table = record { in_table = in_table; again = made_again }

pub line_blank : (line : List ℕ) → line_at line ≡ Ok None → is_passed_over line ≡ true
unfolding line_at
line_blank = GrammarLaws.line_blank plain_log plain_table

pub line_spelled : (line : List ℕ) (r : Record) → line_at line ≡ Ok (Some r) → line ≡ spelling r
unfolding line_at spelling
line_spelled line r e = (GrammarLaws.line_takes plain_log plain_table line r e).0

pub line_good : (line : List ℕ) (r : Record) → line_at line ≡ Ok (Some r) → Good r
unfolding line_at
line_good line r e = (GrammarLaws.line_takes plain_log plain_table line r e).1

pub line_again : (r : Record) → Good r → line_at (spelling r) ≡ Ok (Some r)
unfolding line_at spelling
line_again = GrammarLaws.line_again plain_log plain_table

-- no two good records are spelled alike
pub spelled_apart : (r s : Record) → Good r → Good s → spelling r ≡ spelling s → r ≡ s
unfolding spelling
spelled_apart = GrammarLaws.spelled_apart plain_log plain_table

pub spelling_some : (r : Record) → Good r → spelling r ≢ []
unfolding spelling
spelling_some = GrammarLaws.spelling_some plain_log plain_table

pub no_line_feed : (r : Record) → Good r → All (λ b. b ≢ 10) (spelling r)
unfolding spelling
no_line_feed = GrammarLaws.no_line_feed plain_log plain_table
