-- The requirements of each item, one more at a time.
use Rattle.std.proofs.Common.{◌≡◌, ℕ, suc, ◌+◌, ◌<◌, ◌==◌, true, false, cond, List, [], ◌∷◌, ◌++◌, take, filter, length, get_or, set, replicate, slice_get, Some, refl, sym, ap, ◌∙◌, inl, inr, arith}
use Rattle.std.proofs.lemmas.Bool.{cases_Bool, cases_eq}
use Rattle.std.proofs.lemmas.Bool.Decides.{nat_tests}
use Rattle.std.proofs.lemmas.List.{length-set, length-replicate, get_or-set_same, get_or-set_other, get_or-replicate, append-nil}
use Rattle.std.proofs.lemmas.List.Elements.{filter-append, filter_map-append}
use Rattle.std.proofs.lemmas.Option.{slice_get-get_or}
use Rattle.std.proofs.Math.Seq.{take-suc}
use Rattle.vocabulary.specs.Prelude.{Req}
use Rattle.serial_exec.specs.OwnReqs.{AreOwn, IsNoted, reqs_at}

-- A list at a place that is longer by a number.
pub pushed-is_noted : (lists : List (List ℕ)) (p k : ℕ) → IsNoted p k lists (set lists p (get_or lists p [] ++ k ∷ []))
pushed-is_noted lists p k = record {
  each = length-set lists p (get_or lists p [] ++ k ∷ []);
  lists = λ i below. elim (cases_eq p i) [
    | inl same ↦
        let yes_same : (p == i) ≡ true = grind (arith, nat_tests, same) in
        ap (λ j. get_or (set lists p (get_or lists p [] ++ k ∷ [])) j []) (sym same)
        ∙ get_or-set_same lists p (get_or lists p [] ++ k ∷ []) [] (omega (arith, below, same))
        ∙ ap (λ j. get_or lists j [] ++ k ∷ []) same
        ∙ sym (ap (λ b. get_or lists i [] ++ cond b (k ∷ []) []) yes_same)
    | inr other ↦
        let not_same : (p == i) ≡ false = grind (arith, nat_tests, other) in
        get_or-set_other lists p i (get_or lists p [] ++ k ∷ []) [] (λ e. other (sym e))
        ∙ sym (append-nil (get_or lists i []))
        ∙ sym (ap (λ b. get_or lists i [] ++ cond b (k ∷ []) []) not_same)
  ];
}

-- At first there are none.
pub none-are_own : (all : List Req) (count : ℕ) → AreOwn all [] count (replicate count [])
none-are_own all count = record {
  each = length-replicate count [];
  own = λ item lt. ap (reqs_at all) (get_or-replicate count item [] [] lt);
}

-- One requirement more.
pub more-are_own : (all : List Req) (k count : ℕ) (r : Req) (old new : List (List ℕ)) → k < length all → r ≡ get_or all k r
    → AreOwn all (take k all) count old → IsNoted r.item k old new → AreOwn all (take (k + 1) all) count new
more-are_own all k count r old new lt is own noted = record {
  each = noted.each ∙ own.each;
  own = λ item below.
      let at : slice_get all k ≡ Some r = slice_get-get_or all k r lt ∙ ap (λ z. Some z) (sym is) in
      let next : take (k + 1) all ≡ take k all ++ r ∷ [] =
      ap (λ n. take n all) (let e : k + 1 ≡ suc k = omega arith in e) ∙ take-suc all k r lt ∙ ap (λ z. take k all ++ z ∷ []) (sym is) in
      let last : reqs_at all (cond (r.item == item) (k ∷ []) []) ≡ filter (λ (q : Req). q.item == item) (r ∷ []) =
      elim (cases_Bool (r.item == item)) [
        | inl mine ↦ rw (mine, at) refl
        | inr other ↦ rw other refl
      ] in
      ap (reqs_at all) (noted.lists item (omega (arith, below, own.each)))
      ∙ filter_map-append (λ j. slice_get all j) (get_or old item []) (cond (r.item == item) (k ∷ []) [])
      ∙ ap (λ rs. rs ++ reqs_at all (cond (r.item == item) (k ∷ []) [])) (own.own item below)
      ∙ ap (λ rs. filter (λ (q : Req). q.item == item) (take k all) ++ rs) last
      ∙ sym (filter-append (λ (q : Req). q.item == item) (take k all) (r ∷ []))
      ∙ sym (ap (filter (λ (q : Req). q.item == item)) next);
}
