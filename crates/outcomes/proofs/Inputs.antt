-- An input without a fault of its bytes and lines spells a log.
use Rattle.std.proofs.Common.{◌≡◌, ℕ, ◌+◌, ◌==◌, inl, inr, ◌⊎◌, true, List, [], ◌∷◌, take, drop, length, refl, arith, Option, Some, None, Ok, Err}
use Rattle.std.specs.Prelude.{Result}
use Rattle.std.specs.List.{list_all}
use Rattle.std.proofs.lemmas.Bool.{not-false}
use Rattle.std.proofs.lemmas.List.{length-drop}
use Rattle.std.proofs.lemmas.List.Splits.{length-slice_split}
use Rattle.vocabulary.specs.Prelude.{LineFault, Record, Lined, line_at, parts_of, line_count, Hold, Reads}
use Rattle.spy_grammar.proofs.lemmas.RowLaws.{line_blank, line_good, line_spelled}
use Rattle.semantics.specs.TextFaults.{line_fault, lines_fault, text_fault}
use Rattle.list_lemmas.proofs.lemmas.Contained.{both_none}
use Rattle.outcomes.proofs.lemmas.Clean.{clean}

-- A line without a fault is passed over, or spells a record.
abbrev Said : List ℕ → Type 0
Said line = (line_at line ≡ Ok None) ⊎ ((r : Record) × (line_at line ≡ Ok (Some r)))

said : (n : ℕ) (line : List ℕ) (read : Result (Option Record) LineFault) → line_at line ≡ read → line_fault n read ≡ None → Said line
said n line (Ok None) is e = inl is
said n line (Ok (Some r)) is e = inr (r, is)
said n line (Err f) is e = absurd cc

-- A part after the last line feed that has no byte.
single : (xs : List (List ℕ)) → length xs ≡ 1 → list_all (λ w. length w == 0) xs ≡ true → xs ≡ [] ∷ []
single [] e a = absurd (omega (arith, e))
single ([] ∷ []) e a = refl
single ((x ∷ w) ∷ []) e a = absurd (grind arith)
single (w ∷ v ∷ xs) e a = absurd (omega (arith, e))

pub held : (n : ℕ) (lines : List (List ℕ)) → lines_fault n lines ≡ None → (log : List Lined) × Hold n lines log
held n [] e = ([], refl)
held n (line ∷ lines) e =
    let none = both_none (line_fault n (line_at line)) (lines_fault (n + 1) lines) e in
    let rest = held (n + 1) lines none.1 in
    elim (said n line (line_at line) refl none.0) [
      | inl over ↦ (rest.0, inl (line_blank line over, rest.1))
      | inr r ↦ (
        record { line = n; rec = r.0 } ∷ rest.0,
        inr (r.0, rest.0, line_good line r.0 r.1, line_spelled line r.0 r.1, refl, rest.1),
      )
    ]

pub read_by : (bytes : List ℕ) → text_fault bytes ≡ None → (log : List Lined) × Reads bytes log
read_by bytes e =
    let c = clean bytes e in
    let parts = parts_of bytes in
    let log = held 1 (take (line_count bytes) parts) c.lines in
    let one : length (drop (line_count bytes) parts) ≡ 1 =
    omega (arith, length-drop (line_count bytes) parts, length-slice_split (λ b. b == 10) bytes) in
    (log.0, record { ended = single _ one (not-false _ c.ended); hold = log.1 })
