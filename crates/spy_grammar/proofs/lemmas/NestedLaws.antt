-- The table of a nested log: what is read of a line has that spelling, and what has a spelling is read from it.
use Rattle.std.proofs.Common.{◌≡◌, ℕ, true, cond, List, codes, Some, None, Result, Ok, refl, ap}
use Rattle.std.specs.Str.{bytes_eq}
use Rattle.spy_words.specs.declared.fault.LineFault.{LineFault}
use Rattle.spy_words.specs.Faults.{map_ok}
use Rattle.spy_grammar.specs.declared.kinds.TheConstants.{KINDS}
use Rattle.spy_grammar.specs.declared.kinds.RecordKind.TheVariants as plain
use Rattle.spy_grammar.specs.declared.record.Record.TheVariants as plain_records
use Rattle.spy_grammar.specs.declared.nested.NestedKind.{NestedKind}
use Rattle.spy_grammar.specs.declared.nested.NestedKind.TheVariants as kinds
use Rattle.spy_grammar.specs.declared.nested.NRecord.{NRecord}
use Rattle.spy_grammar.specs.declared.nested.NRecord.TheVariants as records
use Rattle.spy_grammar.specs.Rows.{plain_log, space_of, made, kind_in}
use Rattle.spy_grammar.specs.Reading.{is_passed_over}
use Rattle.spy_grammar.specs.Nested.{nested_log, nested_entry, nested_parts, nested_line_at, nested_spelling, GoodNested}
use Rattle.spy_grammar.proofs.lemmas.GrammarLaws
use Rattle.spy_grammar.proofs.lemmas.GrammarLaws.{InTable, IsTable, each_extent}

in_table : (k : NestedKind) → InTable NestedKind NRecord nested_log k
unfolding kind_in
in_table (kinds.Plain plain.Ispace) = record {
  named = refl;
  kept = refl;
  letters = refl;
  apart = λ m. each_extent (λ x. nested_parts (records.Plain (space_of m.0 x)) ≡ (kinds.Plain plain.Ispace, (m.0, (x, tt)))) (λ ps. refl) (λ qs. refl) m.1.0;
}
in_table (kinds.Plain plain.Header) = record { named = refl; kept = refl; letters = refl; apart = λ m. refl }
in_table k = record { named = refl; kept = refl; letters = refl; apart = λ m. refl }

made_again : (r : NRecord) → made nested_log (nested_parts r).0 (nested_parts r).1 ≡ r
made_again (records.Plain (plain_records.Header version)) = refl
made_again r = refl

pub nested_table : IsTable NestedKind NRecord nested_log
nested_table = record { in_table = in_table; again = made_again }

pub nested_blank : (line : List ℕ) → nested_line_at line ≡ Ok None → is_passed_over line ≡ true
unfolding nested_line_at
nested_blank = GrammarLaws.line_blank nested_log nested_table

pub nested_takes : (line : List ℕ) (r : NRecord) → nested_line_at line ≡ Ok (Some r) → (line ≡ nested_spelling r) × GoodNested r
unfolding nested_line_at nested_spelling
nested_takes = GrammarLaws.line_takes nested_log nested_table

pub nested_again : (r : NRecord) → GoodNested r → nested_line_at (nested_spelling r) ≡ Ok (Some r)
unfolding nested_line_at nested_spelling
nested_again = GrammarLaws.line_again nested_log nested_table

-- the kinds of a log are found after the further ones
pub nested_named : (word : List ℕ) → kind_in nested_log word
    ≡ cond (bytes_eq word (codes "group")) (Ok kinds.Group)
    (cond (bytes_eq word (codes "greq")) (Ok kinds.Greq)
    (cond (bytes_eq word (codes "member")) (Ok kinds.Member) (map_ok (λ k. kinds.Plain k) (kind_in plain_log word))))
unfolding kind_in
nested_named word = ap (λ (rest : Result NestedKind LineFault). cond (bytes_eq word (codes "group")) (Ok kinds.Group)
    (cond (bytes_eq word (codes "greq")) (Ok kinds.Greq) (cond (bytes_eq word (codes "member")) (Ok kinds.Member) rest)))
    (GrammarLaws.named_along (λ k. kinds.Plain k) (λ k. (nested_entry k).name) KINDS word)
