-- One pass over the blocks of some columns.
use Rattle.std.proofs.Common.{◌≡◌, ◌↔◌, ℕ, ◌+◌, ◌<◌, ◌≤◌, Bool, true, false, List, [], ◌∷◌, ◌++◌, ◌⊎◌, Contains, IsTrue, filter, length, get_or, take, refl, sym, subst, ◌∙◌, inl, inr, arith, append-nil}
use Rattle.std.specs.List.{Any}
use Rattle.std.proofs.lemmas.Bool.{both_ways}
use Rattle.std.proofs.lemmas.List.{get_or_default, get_or-take, length-take, take_all, take_more}
use Rattle.std.proofs.lemmas.List.Elements.{Contains-get_or, Contains-push_cases, filter-append}
use Rattle.list_lemmas.proofs.lemmas.Filtered.{in_filter, of_filter}
use Rattle.launch_claims.specs.declared.block.Block.{Block}
use Rattle.launch_claims.specs.declared.node.Seen.{Seen}
use Rattle.launch_claims.specs.Claims.{clashes}
use Rattle.launch_claims.specs.Reaches.{IsBefore}
use Rattle.launch_claims.specs.Blocks.{AreBlocksInOrder, ComeBefore, HasWideClash, IsSeen, RowsClash, StandFor, WideClash, spans}
use Rattle.launch_claims.proofs.Clashing.{clash_back, clash_from, clash_told}
use Rattle.launch_claims.proofs.Passing.{blank}

abbrev pub no_block : Block
no_block = record { claim = blank; x0 = 0; x1 = 0 }

pub clash_turned : (b d : Block) → IsTrue (clashes b.claim d.claim) → IsTrue (clashes d.claim b.claim)
clash_turned b d h = clash_from d.claim b.claim (clash_back b.claim d.claim (clash_told b.claim d.claim h))

pub no_own_clash : (b : Block) → IsTrue (clashes b.claim b.claim) → ⊥
no_own_clash b h = (clash_told b.claim b.claim h).tasks refl

-- ---- what clashes with the next block

pub wide_told : (lo hi : ℕ) (s : Seen) (blocks : List Block) (d : Block) (b : Bool) → spans lo hi d ≡ true →
    (IsTrue b ↔ RowsClash s.any.items d)
    → IsSeen lo hi s blocks → ComeBefore blocks d → IsTrue b ↔ WideClash lo hi blocks d
wide_told lo hi s blocks d b so told seen behind = (
  λ h. let r = told.0 h in (r.0, seen.any.among r.0 r.1, inr so, r.2),
  λ w. told.1 (seen.any.told d behind (w.0, w.1, w.3)),
)

pub narrow_told : (lo hi : ℕ) (s : Seen) (blocks : List Block) (d : Block) (b : Bool) → spans lo hi d ≡ false
    → (IsTrue b ↔ RowsClash s.wide.items d) → IsSeen lo hi s blocks → ComeBefore blocks d → IsTrue b ↔ WideClash lo hi blocks d
narrow_told lo hi s blocks d b nay told seen behind = (
  λ h.
      let r = told.0 h in
      let from = of_filter (spans lo hi) blocks r.0 (seen.wide.among r.0 r.1) in
      (r.0, from.0, inl from.1, r.2),
  λ w. elim w.2 [
    | inl so ↦
        told.1 (seen.wide.told d (λ c m. behind c (of_filter (spans lo hi) blocks c m).0)
        (w.0, in_filter (spans lo hi) blocks w.0 w.1 so, w.3))
    | inr so ↦ absurd (both_ways (spans lo hi d) nay so)
  ],
)

-- ---- one block more

swapped : (P Q : Type 0) → P ⊎ Q → Q ⊎ P
swapped P Q (inl p) = inr p
swapped P Q (inr q) = inl q

none_wider : (lo hi : ℕ) (blocks : List Block) (d : Block) → ¬ HasWideClash lo hi blocks → ¬ WideClash lo hi blocks d
    → ¬ HasWideClash lo hi (blocks ++ d ∷ [])
none_wider lo hi blocks d none apart h =
    let e = h.0 in
    let w = h.2 in
    elim (Contains-push_cases blocks d e h.1) [
      | inl e_before ↦ elim (Contains-push_cases blocks d w.0 w.1) [
        | inl b_before ↦ none (e, e_before, (w.0, b_before, w.2, w.3))
        | inr is ↦ apart (subst (λ (x : Block). WideClash lo hi blocks x) (sym is) (
          e,
          e_before,
          swapped (spans lo hi w.0 ≡ true) (spans lo hi e ≡ true) w.2,
          clash_turned w.0 e w.3,
        ))
      ]
      | inr is ↦ elim (Contains-push_cases blocks d w.0 w.1) [
        | inl b_before ↦ apart (subst (λ (x : Block). WideClash lo hi blocks x) (sym is) (w.0, b_before, w.2, w.3))
        | inr also ↦ no_own_clash w.0 (subst (λ (x : Block). IsTrue (clashes w.0.claim x.claim)) (sym is ∙ also) w.3)
      ]
    ]

pub wide_seen : (lo hi : ℕ) (s t : Seen) (blocks : List Block) (d : Block) → spans lo hi d ≡ true
    → ((seen : List Block) → StandFor s.any.items seen → ComeBefore seen d → StandFor t.any.items (seen ++ d ∷ []))
    → ((seen : List Block) → StandFor s.wide.items seen → ComeBefore seen d → StandFor t.wide.items (seen ++ d ∷ []))
    → IsSeen lo hi s blocks → ComeBefore blocks d → ¬ WideClash lo hi blocks d → IsSeen lo hi t (blocks ++ d ∷ [])
wide_seen lo hi s t blocks d so any wide seen behind apart =
    let kept = filter (spans lo hi) blocks in
    let is : kept ++ d ∷ [] ≡ filter (spans lo hi) (blocks ++ d ∷ []) =
    sym (filter-append (spans lo hi) blocks (d ∷ []) ∙ rw so refl) in
    record {
      any = any blocks seen.any behind;
      wide = subst (StandFor t.wide.items) is (wide kept seen.wide (λ b m. behind b (of_filter (spans lo hi) blocks b m).0));
      none = none_wider lo hi blocks d seen.none apart;
    }

pub narrow_seen : (lo hi : ℕ) (s t : Seen) (blocks : List Block) (d : Block) → spans lo hi d ≡ false
    → ((seen : List Block) → StandFor s.any.items seen → ComeBefore seen d → StandFor t.any.items (seen ++ d ∷ []))
    → t.wide.items ≡ s.wide.items
    → IsSeen lo hi s blocks → ComeBefore blocks d → ¬ WideClash lo hi blocks d → IsSeen lo hi t (blocks ++ d ∷ [])
narrow_seen lo hi s t blocks d nay any same seen behind apart =
    let kept = filter (spans lo hi) blocks in
    let is : kept ≡ filter (spans lo hi) (blocks ++ d ∷ []) =
    sym (filter-append (spans lo hi) blocks (d ∷ []) ∙ rw nay (append-nil kept)) in
    record {
      any = any blocks seen.any behind;
      wide = subst (StandFor t.wide.items) is (subst (λ (bs : List Block). StandFor bs kept) (sym same) seen.wide);
      none = none_wider lo hi blocks d seen.none apart;
    }

-- ---- the whole pass

pub none_spans : (lo hi : ℕ) (blocks : List Block) (some : Bool) → (IsTrue some ↔ Any (λ b. IsTrue (spans lo hi b)) blocks) → some ≡ false
    → IsTrue false ↔ HasWideClash lo hi blocks
none_spans lo hi blocks some told none = (
  λ e. absurd (both_ways false refl e),
  λ h.
      let w = h.2 in
      elim w.2 [
        | inl so ↦ absurd (both_ways some none (told.1 (w.1.0, w.0, w.1.1, w.1.2, so)))
        | inr so ↦ absurd (both_ways some none (told.1 (h.1.0, h.0, h.1.1, h.1.2, so)))
      ],
)

none_stand : StandFor [] []
none_stand = record { among = λ b h. h; told = λ d behind some. some }

pub none_seen : (lo hi : ℕ) (s : Seen) → s.any.items ≡ [] → s.wide.items ≡ [] → IsSeen lo hi s []
none_seen lo hi s any wide = record {
  any = subst (λ (bs : List Block). StandFor bs []) (sym any) none_stand;
  wide = subst (λ (bs : List Block). StandFor bs []) (sym wide) none_stand;
  none = λ h. let lt = h.1.1 in omega (arith, lt);
}

pub comes_behind : (blocks : List Block) (k : ℕ) (z : Block) → AreBlocksInOrder blocks → k < length blocks
    → ComeBefore (take k blocks) (get_or blocks k z)
comes_behind blocks k z order within b h =
    let lt : h.0 < k = omega (arith, h.1, length-take k blocks) in
    let there = order h.0 k b lt within in
    let here = subst (λ (x : Block). IsBefore (get_or blocks h.0 b).claim x.claim) (get_or_default blocks k b z within) there in
    subst (λ (x : Block). IsBefore x.claim (get_or blocks k z).claim) (sym (get_or-take k blocks h.0 b lt) ∙ h.2) here

pub pass_more : (lo hi : ℕ) (s : Seen) (blocks : List Block) (k : ℕ) (z : Block) → k < length blocks
    → IsSeen lo hi s (take k blocks ++ get_or blocks k z ∷ []) → IsSeen lo hi s (take (k + 1) blocks)
pass_more lo hi s blocks k z within h = subst (IsSeen lo hi s) (sym (take_more blocks k z within)) h

pub pass_found : (lo hi : ℕ) (blocks : List Block) (k : ℕ) (z : Block) → k < length blocks
    → WideClash lo hi (take k blocks) (get_or blocks k z) → HasWideClash lo hi blocks
pass_found lo hi blocks k z within w =
    let lt : w.1.0 < k = omega (arith, w.1.1, length-take k blocks) in
    let b : Contains blocks w.0 = (
      w.1.0,
      omega (arith, w.1.1, length-take k blocks, lt, within),
      sym
          (get_or-take k blocks w.1.0 w.0 lt) ∙ w.1.2,
    ) in
    (get_or blocks k z, Contains-get_or blocks k z within, (w.0, b, w.2, w.3))

pub pass_done : (lo hi : ℕ) (s : Seen) (blocks : List Block) (k : ℕ) → length blocks ≤ k → IsSeen lo hi s (take k blocks)
    → IsTrue false ↔ HasWideClash lo hi blocks
pass_done lo hi s blocks k le seen = (
  λ e. absurd (both_ways false refl e),
  λ h. absurd ((subst (IsSeen lo hi s) (take_all k blocks le) seen).none h),
)
