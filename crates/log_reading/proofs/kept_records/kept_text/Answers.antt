use Rattle.std.proofs.Common.{◌≡◌, ◌≤◌, ◌^◌, List, ℕ, All, Ok, Err, length, None, sym, subst}
use Rattle.std.specs.Prelude.{Result, IfOk, OnOk}
use Rattle.spy_lines.specs.LinesOf.{with_ends, IsLine}
use Rattle.vocabulary.specs.Prelude.{Good, line_at, on_line, spelling}
use Rattle.semantics.specs.TextFaults.{lines_fault, text_fault}
use Rattle.log_reading.specs.Spelled.{HoldText, Spells, SpellsText}
use Rattle.log_reading.specs.declared.reading.SpellEnd.{SpellEnd}
use Rattle.log_reading.proofs.lemmas.Lines.{input_fault_is, lines_spell}
use Rattle.log_reading.proofs.kept_records.kept_text.Goals as goal

spelled_text : {T : Type 0} (bytes_of : T → List ℕ) (bytes : List ℕ) (list : List (List ℕ)) (result : Result T SpellEnd)
    → with_ends list ≡ bytes → All IsLine list → length bytes ≤ 2 ^ 26
    → IfOk result (λ t. HoldText 1 list (bytes_of t)) → OnOk result (lines_fault 1 list ≡ None)
    → IfOk result (λ t. SpellsText bytes (bytes_of t))
unfolding text_fault
spelled_text bytes_of bytes list (Ok t) whole single short held clean = record {
  lines = length list;
  log = held.log;
  spelled =
      subst (λ bs. Spells bs (length list) held.log) whole
      (lines_spell line_at Good spelling on_line list held.log single (subst (λ bs. length bs ≤ 2 ^ 26) (sym whole) short) clean held.hold);
  text_is = held.text_is;
}
spelled_text bytes_of bytes list (Err e) whole single short held clean = tt

pub returns-clause-text : goal.returns-clause-text
returns-clause-text c =
    spelled_text (λ t. t.items) c.args.bytes.items c.in_ok-list.list c.kept_lines.result c.in_ok-list.ensures.bytes c.in_ok-list.ensures.lines c.in_ok-list.ensures.short
    c.kept_lines.ensures.text c.kept_lines.ensures.clean

pub returns-clause-fault : goal.returns-clause-fault
unfolding text_fault
returns-clause-fault c line code is =
    input_fault_is line_at c.args.bytes.items c.in_ok-list.list line code c.in_ok-list.ensures.bytes c.in_ok-list.ensures.lines c.in_ok-list.ensures.short
    (c.kept_lines.ensures.fault line code is)
