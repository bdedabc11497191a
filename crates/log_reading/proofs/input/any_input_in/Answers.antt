use Rattle.std.proofs.Common.{◌≡◌, ◌≤◌, ◌^◌, List, ℕ, All, Option, Ok, Err, length, None, sym, subst}
use Rattle.std.specs.Prelude.{Result, IfOk, OnOk}
use Rattle.spy_lines.specs.LinesOf.{with_ends, IsLine}
use Rattle.vocabulary.specs.Prelude.{HoldBy, LineFault}
use Rattle.semantics.specs.TextFaults.{lines_fault_by, text_fault_by}
use Rattle.log_reading.specs.Spelled.{SpellsBy}
use Rattle.log_reading.specs.declared.reading.Input.{Input}
use Rattle.log_reading.specs.declared.reading.SpellEnd.{SpellEnd}
use Rattle.log_reading.proofs.lemmas.Lines.{input_fault_is, lines_spell}
use Rattle.log_reading.proofs.input.any_input_in.Goals as goal

spelled_by : {R L : Type 0} (read : List ℕ → Result (Option R) LineFault) (IsGood : R → Type 0) (spelled : R → List ℕ) (on : ℕ → R → L)
    (bytes : List ℕ) (list : List (List ℕ)) (result : Result (Input L) SpellEnd)
    → with_ends list ≡ bytes → All IsLine list → length bytes ≤ 2 ^ 26
    → IfOk result (λ i. HoldBy IsGood spelled on 1 list i.records.items) → OnOk result (lines_fault_by read 1 list ≡ None)
    → IfOk result (λ i. i.lines ≡ length list)
    → IfOk result (λ i. SpellsBy (text_fault_by read) IsGood spelled on bytes i.lines i.records.items)
spelled_by read IsGood spelled on bytes list (Ok i) whole single short held clean count =
    let fits = subst (λ bs. length bs ≤ 2 ^ 26) (sym whole) short in
    subst (λ bs. SpellsBy (text_fault_by read) IsGood spelled on bs i.lines i.records.items) whole
    (subst (λ n. SpellsBy (text_fault_by read) IsGood spelled on (with_ends list) n i.records.items) (sym count)
    (lines_spell read IsGood spelled on list i.records.items single fits clean held))
spelled_by read IsGood spelled on bytes list (Err e) whole single short held clean count = tt

pub returns-clause-spelled : goal.returns-clause-spelled
returns-clause-spelled g c =
    spelled_by g.L.LogLine.read g.L.LogLine.good g.L.LogLine.spelled g.L.LogLine.on c.args.bytes.items c.in_ok-list.list c.records_of.result c.in_ok-list.ensures.bytes c.in_ok-list.ensures.lines c.in_ok-list.ensures.short
    c.records_of.ensures.held c.records_of.ensures.clean c.records_of.ensures.count

pub returns-clause-fault : goal.returns-clause-fault
returns-clause-fault g c line code is =
    input_fault_is g.L.LogLine.read c.args.bytes.items c.in_ok-list.list line code c.in_ok-list.ensures.bytes c.in_ok-list.ensures.lines c.in_ok-list.ensures.short
    (c.records_of.ensures.fault line code is)
