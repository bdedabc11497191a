-- An input without a fault is not too long, ends with a line feed, and its lines have none.
use Rattle.std.proofs.Common.{◌≡◌, ℕ, ◌≤◌, inl, inr, false, List, length, take, arith, None}
use Rattle.std.proofs.lemmas.Bool.{cases_Bool, ltb-false}
use Rattle.vocabulary.specs.Prelude.{parts_of, line_count}
use Rattle.semantics.specs.TextFaults.{is_too_long, ends_within_line, lines_fault, text_fault}

pub record IsClean (bytes : List ℕ) : Type 0 where
  pub short : length bytes ≤ 67108864
  pub ended : ends_within_line bytes ≡ false
  pub lines : lines_fault 1 (take (line_count bytes) (parts_of bytes)) ≡ None

pub clean : (bytes : List ℕ) → text_fault bytes ≡ None → IsClean bytes
unfolding text_fault
clean bytes e = elim (cases_Bool (is_too_long bytes)) [
  | inl long ↦ absurd (grind (arith, e, long))
  | inr short ↦ elim (cases_Bool (ends_within_line bytes)) [
    | inl within ↦ absurd (grind (arith, e, short, within))
    | inr ended ↦ record { short = ltb-false 67108864 (length bytes) short; ended = ended; lines = grind (arith, e, short, ended) }
  ]
]
