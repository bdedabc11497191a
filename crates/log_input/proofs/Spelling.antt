-- What lines hold, an input spells.
use Rattle.std.proofs.Common.{◌≡◌, ◌≤◌, ◌^◌, ℕ, List, All, Ok, Err, arith, length, None, sym, subst}
use Rattle.std.specs.Prelude.{Result, IfOk, OnOk}
use Rattle.spy_lines.specs.LinesOf.{with_ends, IsLine}
use Rattle.vocabulary.specs.Prelude.{AreLines, Good, Hold, Lined, line_at, on_line, spelling}
use Rattle.semantics.specs.TextFaults.{lines_fault, text_fault}
use Rattle.log_reading.specs.Spelled.{Spells}
use Rattle.log_reading.specs.declared.reading.SpellEnd.{SpellEnd}
use Rattle.log_reading.proofs.lemmas.Lines.{lines_spell}
use Rattle.log_reading.proofs.lemmas.Numbered.{are_lines}
use Rattle.log_input.specs.Lines.{AreRead}
use Rattle.log_input.specs.Inputs.{IsInput}
use Rattle.log_input.specs.declared.input.LogInput.{LogInput}
use Rattle.log_input.specs.declared.input.LogInput.TheVariants.{Whole, Crowded}

module _ (bytes : List ℕ) (list : List (List ℕ)) (whole : with_ends list ≡ bytes) (single : All IsLine list) (short : length bytes ≤ 2 ^ 26)
    (clean : lines_fault 1 list ≡ None) where
  spells : (lines : ℕ) (log : List Lined) → lines ≡ length list → Hold 1 list log → Spells bytes lines log
  unfolding text_fault
  spells lines log count held =
      let fits = subst (λ bs. length bs ≤ 2 ^ 26) (sym whole) short in
      subst (λ bs. Spells bs lines log) whole
      (subst (λ n. Spells (with_ends list) n log) (sym count) (lines_spell line_at Good spelling on_line list log single fits clean held))

  read_spells : (input : LogInput) → length list ≤ 2 ^ 26 → AreRead list input → IsInput bytes input
  read_spells (Whole input) few read = record {
    spelled = spells input.lines input.records.items read.count read.hold;
    good = read.good;
    lines = subst (λ n. AreLines n input.records.items) (sym read.count) (are_lines list input.records.items read.hold few);
  }
  read_spells (Crowded input) few read = record {
    log = read.log;
    spelled = spells input.lines read.log read.count read.hold;
    told = record { is_kept = read.kept; frame_is = read.frame };
    good = read.good;
    few_kept = omega (arith, few, read.few);
    few_lines = omega (arith, few, read.count);
  }

pub input_spells : (bytes : List ℕ) (list : List (List ℕ)) (result : Result LogInput SpellEnd) → with_ends list ≡ bytes → All IsLine list
    → length bytes ≤ 2 ^ 26 → IfOk result (AreRead list) → OnOk result (length list ≤ 2 ^ 26) → OnOk result (lines_fault 1 list ≡ None)
    → IfOk result (IsInput bytes)
input_spells bytes list (Ok input) whole single short read few clean = read_spells bytes list whole single short clean input few read
input_spells bytes list (Err e) whole single short read few clean = tt
