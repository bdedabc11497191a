-- What the marks of one block tell, with a row more.
use Rattle.std.proofs.Common.{◌≡◌, ℕ, ◌+◌, ◌*◌, ◌-◌, ◌/◌, ◌<◌, ◌==◌, true, List, [], ◌∷◌, length, get_or, arith, sym, ap, ◌∙◌, subst, All, inl, inr}
use Rattle.std.specs.List.{list_any}
use Rattle.std.proofs.lemmas.Bool.{cases_eq, cases_lt, eqb-true, or_cases, false≢true}
use Rattle.std.proofs.lemmas.List.{get_or_past, get_or_append_left, length_push}
use Rattle.std.proofs.lemmas.List.Elements.{All-contains}
use Rattle.list_lemmas.proofs.lemmas.Contained.{any_found}
use Rattle.vocabulary.specs.Prelude.{Node, Before}
use Rattle.reach_marks.specs.declared.block.Block.{Block}
use Rattle.reach_marks.specs.declared.block.Block.TheVariants.{Empty}
use Rattle.reach_marks.specs.Blocks.{block_has, block_in, reaches_in}
use Rattle.reach_marks.specs.BlockMarks.{IsTold, IsMarkedWait}
use Rattle.reach_marks.specs.Columns.{AddsBlock}
use Rattle.reach_marks.proofs.Columned.{in_column, before_column, first_of_column}
use Rattle.reach_marks.proofs.lemmas.Chains.{one_wait, one_more}

-- Where nothing is marked, nothing is told.
pub none_told : (nodes : List Node) (order : List ℕ) (k : ℕ) → IsTold nodes order (record { block = k; rows = Empty ∷ [] })
none_told nodes order k p i lt e = absurd (false≢true (ap (λ (b : Block). block_has b i) (sym (first_of_column k p)) ∙ e))

module _ (nodes : List Node) (order : List ℕ) (k : ℕ) (old new : List Block) (waits : List ℕ)
    (told : IsTold nodes order (record { block = k; rows = old }))
    (are : All (IsMarkedWait nodes order (record { block = k; rows = old }) (get_or order (1024 * k + length old) 0)) waits)
    (adds : AddsBlock old new (λ i. list_any (λ w. reaches_in k old w i) waits)) where
  -- What is marked for the next place is before it.
  newest : (i : ℕ) → i < 1024 → block_has (get_or new (length old) Empty) i ≡ true
      → Before nodes (get_or order (1024 * k + i) 0) (get_or order (1024 * k + length old) 0)
  newest i lt e =
      let found = any_found (λ w. reaches_in k old w i) waits (sym (adds.places i lt) ∙ e) in
      let w = found.0 in
      let wait = All-contains (IsMarkedWait nodes order (record { block = k; rows = old }) (get_or order (1024 * k + length old) 0))
      waits w are found.1 in
      elim (or_cases (block_has (block_in k old w) i) (w == 1024 * k + i) found.2) [
        | inl marked ↦ one_more nodes (get_or order (1024 * k + i) 0) (get_or order w 0) (get_or order (1024 * k + length old) 0)
            (told w i lt marked) wait.waits
        | inr here ↦ subst (λ v. Before nodes (get_or order v 0) (get_or order (1024 * k + length old) 0)) (eqb-true w (1024 * k + i) here)
            (one_wait nodes (get_or order w 0) (get_or order (1024 * k + length old) 0) wait.waits)
      ]

  kept : (p : ℕ) → k < p / 1024 + 1 → p - 1024 * k < length old → block_in k new p ≡ block_in k old p
  kept p le lt = in_column k new p (omega (arith, le)) ∙ ap (λ (c : List Block). get_or c (p - 1024 * k) Empty) adds.more
      ∙ get_or_append_left old _ Empty (p - 1024 * k) lt ∙ sym (in_column k old p (omega (arith, le)))

  pub told_more : IsTold nodes order (record { block = k; rows = new })
  told_more p i lt e = elim (cases_lt (p / 1024) k) [
    | inl before ↦ absurd (false≢true (ap (λ (b : Block). block_has b i) (sym (before_column k new p before)) ∙ e))
    | inr le ↦
        let here : block_has (get_or new (p - 1024 * k) Empty) i ≡ true = ap (λ (b : Block). block_has b i) (sym (in_column k new p le)) ∙ e in
        elim (cases_lt (p - 1024 * k) (length old)) [
          | inl early ↦ told p i lt (ap (λ (b : Block). block_has b i) (sym (kept p (omega (arith, le)) early)) ∙ e)
          | inr late ↦ elim (cases_eq (p - 1024 * k) (length old)) [
            | inl next ↦
                let is : 1024 * k + length old ≡ p = omega (arith, le, next) in
                subst (λ q. Before nodes (get_or order (1024 * k + i) 0) (get_or order q 0)) is
                (newest i lt (subst (λ n. block_has (get_or new n Empty) i ≡ true) next here))
            | inr past ↦
                let long : length new ≡ length old + 1 = ap (λ (c : List Block). length c) adds.more ∙ length_push old _ in
                absurd (false≢true (ap (λ (b : Block). block_has b i)
                (sym (get_or_past new (p - 1024 * k) Empty (omega (arith, late, past, long)))) ∙ here))
          ]
        ]
  ]
