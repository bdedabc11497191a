-- The text of the records of lines, line by line.
use Rattle.std.proofs.Common.{◌≡◌, ℕ, ◌+◌, List, [], ◌∷◌, ◌++◌, Option, Some, None, cond, take, drop, refl, sym, ap, ap₂, ◌∙◌, inl, inr}
use Rattle.std.specs.Prelude.{slice_get}
use Rattle.std.specs.Option.{is_some}
use Rattle.std.proofs.lemmas.List.{append_assoc}
use Rattle.spy_lines.specs.LinesOf.{with_ends}
use Rattle.vocabulary.specs.Prelude.{Good, Lined, on_line, spelling}
use Rattle.log_reading.specs.Spelled.{HoldText, SaysBy}

pub first_cut : (lines : List (List ℕ)) (line : List ℕ) → Some line ≡ slice_get lines 0 → lines ≡ line ∷ drop 1 lines
first_cut [] line is = cc
first_cut (l ∷ ls) line is = let same : l ≡ line = cc in ap (λ (x : List ℕ). x ∷ ls) same

pub none_cut : (lines : List (List ℕ)) → None ≡ slice_get lines 0 → lines ≡ []
none_cut [] is = refl
none_cut (l ∷ ls) is = cc

-- A line that says a record adds itself to the text, with a line feed, and one that is passed over adds nothing.
pub text_behind : (n : ℕ) (line : List ℕ) (lines : List (List ℕ)) (said : Option Lined) (kept after more : List ℕ)
    → SaysBy Good spelling on_line n line said → after ≡ cond (is_some said) (kept ++ with_ends (take 1 (line ∷ lines))) kept
    → HoldText (n + 1) lines more
    → (behind : List ℕ) × HoldText n (line ∷ lines) behind × (kept ++ behind ≡ after ++ more)
text_behind n line lines None kept after more s is h = (
  more,
  record { log = h.log; hold = inl (s, h.hold); text_is = h.text_is },
  ap (λ bs. bs ++ more) (sym is),
)
text_behind n line lines (Some l) kept after more s is h = (
  (line ++ 10 ∷ []) ++ more,
  record {
    log = on_line n s.0 ∷ h.log;
    hold = inr (s.0, h.log, s.1, s.2, refl, h.hold);
    text_is =
        append_assoc line (10 ∷ []) more ∙ ap₂ (λ (a b : List ℕ). a ++ 10 ∷ b) s.2 h.text_is;
  },
  sym (ap (λ bs. bs ++ more) is ∙ append_assoc kept (line ++ 10 ∷ []) more),
)
