-- The table of a launch log: what is read of a line has that spelling, and what has a spelling is read from it.
use Rattle.std.proofs.Common.{◌≡◌, ℕ, true, cond, List, codes, Some, None, Result, Ok, refl, ap}
use Rattle.std.specs.Str.{bytes_eq}
use Rattle.spy_words.specs.declared.fault.LineFault.{LineFault}
use Rattle.spy_words.specs.Faults.{map_ok}
use Rattle.spy_grammar.specs.declared.kinds.TheConstants.{KINDS}
use Rattle.spy_grammar.specs.declared.kinds.RecordKind.TheVariants as plain
use Rattle.spy_grammar.specs.declared.record.Record.TheVariants as plain_records
use Rattle.spy_grammar.specs.declared.launches.LaunchKind.{LaunchKind}
use Rattle.spy_grammar.specs.declared.launches.LaunchKind.TheVariants as kinds
use Rattle.spy_grammar.specs.declared.launches.LRecord.{LRecord}
use Rattle.spy_grammar.specs.declared.launches.LRecord.TheVariants as records
use Rattle.spy_grammar.specs.Rows.{plain_log, space_of, made, kind_in}
use Rattle.spy_grammar.specs.Reading.{is_passed_over}
use Rattle.spy_grammar.specs.Launches.{launch_log, launch_entry, launch_parts, launch_line_at, launch_spelling, GoodLaunch}
use Rattle.spy_grammar.proofs.lemmas.GrammarLaws
use Rattle.spy_grammar.proofs.lemmas.GrammarLaws.{InTable, IsTable, each_extent}

in_table : (k : LaunchKind) → InTable LaunchKind LRecord launch_log k
unfolding kind_in
in_table (kinds.Plain plain.Ispace) = record {
  named = refl;
  kept = refl;
  letters = refl;
  apart = λ m. each_extent (λ x. launch_parts (records.Plain (space_of m.0 x)) ≡ (kinds.Plain plain.Ispace, (m.0, (x, tt)))) (λ ps. refl) (λ qs. refl) m.1.0;
}
in_table (kinds.Plain plain.Header) = record { named = refl; kept = refl; letters = refl; apart = λ m. refl }
in_table k = record { named = refl; kept = refl; letters = refl; apart = λ m. refl }

made_again : (r : LRecord) → made launch_log (launch_parts r).0 (launch_parts r).1 ≡ r
made_again (records.Plain (plain_records.Header version)) = refl
made_again r = refl

pub launch_table : IsTable LaunchKind LRecord launch_log
launch_table = record { in_table = in_table; again = made_again }

pub launch_blank : (line : List ℕ) → launch_line_at line ≡ Ok None → is_passed_over line ≡ true
unfolding launch_line_at
launch_blank = GrammarLaws.line_blank launch_log launch_table

pub launch_takes : (line : List ℕ) (r : LRecord) → launch_line_at line ≡ Ok (Some r) → (line ≡ launch_spelling r) × GoodLaunch r
unfolding launch_line_at launch_spelling
launch_takes = GrammarLaws.line_takes launch_log launch_table

pub launch_again : (r : LRecord) → GoodLaunch r → launch_line_at (launch_spelling r) ≡ Ok (Some r)
unfolding launch_line_at launch_spelling
launch_again = GrammarLaws.line_again launch_log launch_table

-- the kinds of a log are found after the further ones
pub launch_named : (word : List ℕ) → kind_in launch_log word
    ≡ cond (bytes_eq word (codes "launch")) (Ok kinds.Launch)
    (cond (bytes_eq word (codes "lreq")) (Ok kinds.Lreq) (map_ok (λ k. kinds.Plain k) (kind_in plain_log word)))
unfolding kind_in
launch_named word = ap (λ (rest : Result LaunchKind LineFault). cond (bytes_eq word (codes "launch")) (Ok kinds.Launch)
    (cond (bytes_eq word (codes "lreq")) (Ok kinds.Lreq) rest))
    (GrammarLaws.named_along (λ k. kinds.Plain k) (λ k. (launch_entry k).name) KINDS word)
