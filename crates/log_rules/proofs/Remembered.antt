-- Answers about pairs of spaces stay right.
use Rattle.std.proofs.Common.{◌≡◌, ℕ, Bool, cond, List, Option, Some, None, MatchOption, sym, ap, ◌∙◌, subst, inl, inr}
use Rattle.std.specs.Prelude.{⊤, ◌==◌}
use Rattle.std.specs.HashMap.{get}
use Rattle.std.proofs.lemmas.Bool.{and_parts, cases_Bool, eqb-true}
use Rattle.vocabulary.specs.Prelude.{Record, Tables, points_in, with_record}
use Rattle.log_rules.specs.declared.pair_answers.SpacePair.{SpacePair}
use Rattle.log_rules.specs.declared.pair_answers.PairAnswers.{PairAnswers}
use Rattle.log_rules.specs.Pairs.{AreAnswers, HasPairs, IsAnswer, same_pair}
use Rattle.log_rules.specs.Tallied.{IsTally}
use Rattle.log_rules.specs.declared.space_pairs.SpacePairs.{SpacePairs}
use Rattle.log_rules.specs.declared.tally.Tally.{Tally}
use Rattle.point_set.specs.declared.rect.Rect.{Rect}
use Rattle.log_rules.proofs.Growing.{grows}

module _ (test : List ℕ → List ℕ → Bool) where
  -- With one record more.
  answer_stays : (t : Tables) (line : ℕ) (r : Record) (ours theirs : ℕ) (o : Option Bool)
      → MatchOption o ⊤ (IsAnswer test t ours theirs) → MatchOption o ⊤ (IsAnswer test (with_record t line r) ours theirs)
  answer_stays t line r ours theirs None is = tt
  answer_stays t line r ours theirs (Some answer) is = let g = grows t line r in (
    g.declared ours is.0,
    g.declared theirs is.1,
    is.2 ∙ sym (ap (λ ps. test ps (points_in (with_record t line r) theirs)) (g.points ours is.0)
        ∙ ap (test (points_in t ours)) (g.points theirs is.1)),
  )

  pub answers_stay : (t : Tables) (line : ℕ) (r : Record) (kept : PairAnswers) → AreAnswers test t kept
      → AreAnswers test (with_record t line r) kept
  answers_stay t line r kept are k = answer_stays t line r k.ours k.theirs (get same_pair kept.answers k) (are k)

  -- With one answer more.
  pub answers_more : (t : Tables) (old new : PairAnswers) (pair : SpacePair) (answer : Bool) → AreAnswers test t old
      → IsAnswer test t pair.ours pair.theirs answer
      → ((k : SpacePair) → get same_pair new.answers k ≡ cond (same_pair pair k) (Some answer) (get same_pair old.answers k))
      → AreAnswers test t new
  answers_more t old new pair answer are is put k =
      let Fits = λ (o : Option Bool). MatchOption o ⊤ (IsAnswer test t k.ours k.theirs) in
      let before = get same_pair old.answers k in
      subst Fits (sym (put k)) (elim (cases_Bool (same_pair pair k)) [
        | inl hit ↦
            let parts = and_parts (pair.ours == k.ours) (pair.theirs == k.theirs) hit in
            subst Fits (sym (ap (λ b. cond b (Some answer) before) hit))
            (subst (λ (i : ℕ). IsAnswer test t i k.theirs answer) (eqb-true pair.ours k.ours parts.0)
            (subst (λ (j : ℕ). IsAnswer test t pair.ours j answer) (eqb-true pair.theirs k.theirs parts.1) is))
        | inr miss ↦ subst Fits (sym (ap (λ b. cond b (Some answer) before) miss)) (are k)
      ])

  -- What is kept of a pair is right.
  pub answer_kept : (t : Tables) (kept : PairAnswers) (pair : SpacePair) (answer : Bool) → AreAnswers test t kept
      → get same_pair kept.answers pair ≡ Some answer → answer ≡ test (points_in t pair.ours) (points_in t pair.theirs)
  answer_kept t kept pair answer are is =
      (subst (λ (o : Option Bool). MatchOption o ⊤ (IsAnswer test t pair.ours pair.theirs)) is (are pair)).2

-- What is known of pairs changes, and all else of a tally stays.
pub tally_keeps : (all : Option (List Rect)) (earlier : List Record) (t : Tables) (old : Tally) (pairs : SpacePairs)
    → IsTally all earlier t old → HasPairs all t pairs → IsTally all earlier t (record old { pairs = pairs })
tally_keeps all earlier t old pairs is has = record {
  counts = λ flat. let of = is.counts flat in record { points = of.points; cells = of.cells; accesses = of.accesses; within = of.within };
  lists = is.lists;
  known = is.known;
  kept = record {
    grid = is.kept.grid;
    cells = is.kept.cells;
    pairs = has;
    claims = is.kept.claims;
    numbered = is.kept.numbered;
    few = is.kept.few;
  };
}
