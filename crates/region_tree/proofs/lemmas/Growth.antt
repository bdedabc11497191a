-- A forest, one declaration later.
use Rattle.std.proofs.Common.{◌≡◌, ◌≢◌, ℕ, zero, suc, ◌+◌, ◌≤◌, ◌<◌, ◌==◌, [], ◌∷◌, length, Option, Some, None, IsSome, cond, All, subst, refl, sym, ap, ◌∙◌, inl, inr, arith, eq-eqb, length-append}
use Rattle.std.specs.Option.{option_and_then, option_or, option_map}
use Rattle.std.proofs.lemmas.Bool.{cases_eq, eqb-true, ne_eqb}
use Rattle.std.proofs.lemmas.Option.{none-some, same_Some, option_and_then_some}
use Rattle.std.proofs.lemmas.List.Folds.{find-append}
use Rattle.std.proofs.lemmas.List.Elements.{All-nil, All-push}
use Rattle.std.proofs.lemmas.List.Quantifiers.{all_pairs_push}
use Rattle.vocabulary.specs.Prelude.{Part, Sub, Space}
use Rattle.log_tables.specs.Regions.{Regions, space_of, part_of, sub_of, whole_of, parent_of, step_of}
use Rattle.region_tree.specs.Ancestors.{ancestor_of}
use Rattle.list_lemmas.proofs.lemmas.Firsts.{cases_option, or_none, find_some, all_at}
use Rattle.region_tree.proofs.lemmas.Climbs.{acyclic_from, ancestor-sum}
use Rattle.region_tree.specs.Growing.{IsGrown, MaySub, with_space, with_part, with_sub}

-- The subspace that a space is, after one more is declared.
sub_after : (d : Regions) (s : Sub) (x : ℕ) → sub_of (with_sub d s) x ≡ option_or (sub_of d x) (cond (s.space == x) (Some s) None)
sub_after d s x = find-append (λ (u : Sub). u.space == x) d.subs (s ∷ [])

parent_other : (d : Regions) (s : Sub) (x : ℕ) → (x ≡ s.space → ⊥) → parent_of (with_sub d s) x ≡ parent_of d x
parent_other d s x ne =
    ap (option_and_then (λ (u : Sub). whole_of d u.part)) (sub_after d s x
    ∙ ap (λ b. option_or (sub_of d x) (cond b (Some s) None)) (ne_eqb s.space x (λ e. ne (sym e))) ∙ or_none (sub_of d x))

no_sub : (d : Regions) (s : Sub) → All (λ (u : Sub). u.space ≢ s.space) d.subs → sub_of d s.space ≡ None
no_sub d s all = elim (cases_option (sub_of d s.space)) [
  | inl none ↦ none
  | inr some ↦ let h = find_some (λ (u : Sub). u.space == s.space) d.subs some.0 some.1 in
      absurd (all_at (λ (u : Sub). u.space ≢ s.space) d.subs h.0 some.0 all h.1 (eqb-true (some.0).space s.space h.2))
]

parent_new : (d : Regions) (s : Sub) → All (λ (u : Sub). u.space ≢ s.space) d.subs → parent_of (with_sub d s) s.space ≡ whole_of d s.part
parent_new d s all =
    ap (option_and_then (λ (u : Sub). whole_of d u.part)) (sub_after d s s.space
    ∙ ap (λ (o : Option Sub). option_or o (cond (s.space == s.space) (Some s) None)) (no_sub d s all)
    ∙ ap (λ b. cond b (Some s) None) (eq-eqb s.space s.space refl))

-- No space lies right below a space that is not split.
not_split : (d : Regions) (space x : ℕ) → All (λ (p : Part). p.space ≢ space) d.parts → parent_of d x ≡ Some space → ⊥
not_split d space x all e =
    option_and_then_some (λ (u : Sub). whole_of d u.part) (sub_of d x) space e
    (λ u at whole. elim (cases_option (part_of d u.part)) [
      | inl none ↦ none-some space (sym (ap (option_map (λ (p : Part). p.space)) none) ∙ whole)
      | inr some ↦
          let h = find_some (λ (p : Part). p.id == u.part) d.parts some.0 some.1 in
          let is : (some.0).space ≡ space = same_Some (some.0).space space (sym (ap (option_map (λ (p : Part). p.space)) some.1) ∙ whole) in
          all_at (λ (p : Part). p.space ≢ space) d.parts h.0 some.0 all h.1 is
    ])

-- What lies above another space is not the new subspace.
above_other : (d : Regions) (s : Sub) (x : ℕ) → All (λ (p : Part). p.space ≢ s.space) d.parts → (x ≡ s.space → ⊥) → (n y : ℕ)
    → ancestor_of d n x ≡ Some y → y ≡ s.space → ⊥
above_other d s x all ne zero y e is = ne (same_Some x y e ∙ is)
above_other d s x all ne (suc n) y e is =
    option_and_then_some (parent_of d) (ancestor_of d n x) y e (λ z at up. not_split d s.space z all (up ∙ ap (λ k. Some k) is))

ancestors_other : (d : Regions) (s : Sub) (x : ℕ) → All (λ (p : Part). p.space ≢ s.space) d.parts → (x ≡ s.space → ⊥) → (n : ℕ)
    → ancestor_of (with_sub d s) n x ≡ ancestor_of d n x
ancestors_other d s x all ne zero = refl
ancestors_other d s x all ne (suc n) =
    ap (option_and_then (parent_of (with_sub d s))) (ancestors_other d s x all ne n)
    ∙ elim (cases_option (ancestor_of d n x)) [
      | inl none ↦ ap (option_and_then (parent_of (with_sub d s))) none ∙ sym (ap (option_and_then (parent_of d)) none)
      | inr some ↦
          ap (option_and_then (parent_of (with_sub d s))) some.1
          ∙ parent_other d s some.0 (above_other d s x all ne n some.0 some.1)
          ∙ sym (ap (option_and_then (parent_of d)) some.1)
    ]

-- The new subspace is one step further down than the space that its partition splits.
ancestors_new : (d : Regions) (s : Sub) (may : MaySub d s) (root n : ℕ) → ancestor_of (with_sub d s) (suc n) s.space ≡ Some root
    → (whole : ℕ) × (whole_of d s.part ≡ Some whole) × (ancestor_of d n whole ≡ Some root)
ancestors_new d s may root n e =
    let z : n + 1 ≡ suc n = omega arith in
    elim (cases_option (whole_of d s.part)) [
      | inl none ↦
          let up : ancestor_of (with_sub d s) 1 s.space ≡ None = parent_new d s may.sub ∙ none in
          absurd (none-some root (sym (ends n up) ∙ e))
      | inr some ↦
          let up : ancestor_of (with_sub d s) 1 s.space ≡ Some some.0 = parent_new d s may.sub ∙ some.1 in
          let here : ancestor_of (with_sub d s) n some.0 ≡ Some root =
          sym (ancestor-sum (with_sub d s) n 1 s.space some.0 up) ∙ ap (λ k. ancestor_of (with_sub d s) k s.space) z ∙ e in
          let other : some.0 ≡ s.space → ⊥ = λ is. not_whole some.0 some.1 is in
          (some.0, some.1, sym (ancestors_other d s some.0 may.whole other n) ∙ here)
    ]
  where
    ends : (n : ℕ) → ancestor_of (with_sub d s) 1 s.space ≡ None → ancestor_of (with_sub d s) (suc n) s.space ≡ None
    ends zero up = up
    ends (suc n) up = ap (option_and_then (parent_of (with_sub d s))) (ends n up)

    not_whole : (whole : ℕ) → whole_of d s.part ≡ Some whole → whole ≡ s.space → ⊥
    not_whole whole e is = elim (cases_option (part_of d s.part)) [
      | inl none ↦ none-some whole (sym (ap (option_map (λ (p : Part). p.space)) none) ∙ e)
      | inr some ↦
          let h = find_some (λ (p : Part). p.id == s.part) d.parts some.0 some.1 in
          let here : (some.0).space ≡ whole = same_Some (some.0).space whole (sym (ap (option_map (λ (p : Part). p.space)) some.1) ∙ e) in
          all_at (λ (p : Part). p.space ≢ s.space) d.parts h.0 some.0 may.whole h.1 (here ∙ is)
    ]

-- so no space lies too deep
pub shallow_sub : (d : Regions) (s : Sub) → IsGrown d → MaySub d s → (space root n : ℕ) → ancestor_of (with_sub d s) n space ≡ Some root
    → n ≤ 64
shallow_sub d s grown may space root zero e = omega arith
shallow_sub d s grown may space root (suc n) e = elim (cases_eq space s.space) [
  | inl is ↦
      let h = ancestors_new d s may root n (ap (λ x. ancestor_of (with_sub d s) (suc n) x) (sym is) ∙ e) in
      let k : n < 64 = may.depth h.0 root n h.1 h.2 in
      omega arith
  | inr ne ↦ grown.forest.shallow space root (suc n) (sym (ancestors_other d s space may.whole ne (suc n)) ∙ e)
]

pub counted_sub : (d : Regions) (s : Sub) → IsGrown d → MaySub d s → (space root n : ℕ) → ancestor_of (with_sub d s) n space ≡ Some root
    → n ≤ length (with_sub d s).subs
counted_sub d s grown may space root zero e = omega arith
counted_sub d s grown may space root (suc n) e = elim (cases_eq space s.space) [
  | inl is ↦
      let h = ancestors_new d s may root n (ap (λ x. ancestor_of (with_sub d s) (suc n) x) (sym is) ∙ e) in
      let k : n ≤ length d.subs = grown.counted h.0 root n h.2 in
      omega (arith, length-append d.subs (s ∷ []))
  | inr ne ↦
      let k : suc n ≤ length d.subs = grown.counted space root (suc n) (sym (ancestors_other d s space may.whole ne (suc n)) ∙ e) in
      omega (arith, length-append d.subs (s ∷ []))
]

pub grown_sub : (d : Regions) (s : Sub) → IsGrown d → MaySub d s → IsGrown (with_sub d s)
grown_sub d s grown may =
    let forest = grown.forest in
    record {
      forest = record {
        space_ids = forest.space_ids;
        part_ids = forest.part_ids;
        steps = all_pairs_push (λ (u t : Sub). step_of u ≢ step_of t) d.subs s forest.steps may.step;
        sub_spaces = all_pairs_push (λ (u t : Sub). u.space ≢ t.space) d.subs s forest.sub_spaces may.sub;
        wholes_declared = forest.wholes_declared;
        parts_declared = All-push (λ (u : Sub). IsSome (part_of d u.part)) d.subs s forest.parts_declared may.part;
        spaces_declared = All-push (λ (u : Sub). IsSome (space_of d u.space)) d.subs s forest.spaces_declared may.space;
        acyclic = acyclic_from (with_sub d s) (λ space. shallow_sub d s grown may space);
        shallow = shallow_sub d s grown may;
      };
      counted = counted_sub d s grown may;
    }

-- Spaces and partitions more: nothing lies above another space than before.
ancestors_same : (d e : Regions) → ((x : ℕ) → parent_of d x ≡ parent_of e x) → (n x : ℕ) → ancestor_of d n x ≡ ancestor_of e n x
ancestors_same d e same zero x = refl
ancestors_same d e same (suc n) x =
    ap (option_and_then (parent_of d)) (ancestors_same d e same n x)
    ∙ elim (cases_option (ancestor_of e n x)) [
      | inl none ↦ ap (option_and_then (parent_of d)) none ∙ sym (ap (option_and_then (parent_of e)) none)
      | inr some ↦ ap (option_and_then (parent_of d)) some.1 ∙ same some.0 ∙ sym (ap (option_and_then (parent_of e)) some.1)
    ]

kept : {X : Type 0} (o p : Option X) → IsSome o → option_or o p ≡ o
kept (Some x) p h = refl
kept None p h = absurd (let no : ⊥ = cc in no)

stays : {X : Type 0} (o p q : Option X) → q ≡ option_or o p → IsSome o → IsSome q
stays {X} o p q e h = subst (λ (r : Option X). IsSome r) (sym (e ∙ kept o p h)) h

pub grown_space : (d : Regions) (s : Space) → IsGrown d → All (λ (t : Space). t.id ≢ s.id) d.spaces → IsGrown (with_space d s)
grown_space d s grown new =
    let forest = grown.forest in
    let declared : (x : ℕ) → IsSome (space_of d x) → IsSome (space_of (with_space d s) x) =
    λ x h. stays (space_of d x) _ _ (find-append (λ (t : Space). t.id == x) d.spaces (s ∷ [])) h in
    let shallow : (space root n : ℕ) → ancestor_of (with_space d s) n space ≡ Some root → n ≤ 64 =
    λ space root n e. forest.shallow space root n (sym (ancestors_same (with_space d s) d (λ x. refl) n space) ∙ e) in
    record {
      forest = record {
        space_ids = all_pairs_push (λ (t u : Space). t.id ≢ u.id) d.spaces s forest.space_ids new;
        part_ids = forest.part_ids;
        steps = forest.steps;
        sub_spaces = forest.sub_spaces;
        wholes_declared = λ k p lt. declared _ (forest.wholes_declared k p lt);
        parts_declared = forest.parts_declared;
        spaces_declared = λ k u lt. declared _ (forest.spaces_declared k u lt);
        acyclic = acyclic_from (with_space d s) shallow;
        shallow = shallow;
      };
      counted = λ space root n e. grown.counted space root n (sym (ancestors_same (with_space d s) d (λ x. refl) n space) ∙ e);
    }

part_kept : (d : Regions) (p : Part) (x : ℕ) → IsSome (part_of d x) → part_of (with_part d p) x ≡ part_of d x
part_kept d p x h = find-append (λ (q : Part). q.id == x) d.parts (p ∷ []) ∙ kept (part_of d x) _ h

parent_kept : (d : Regions) (p : Part) → All (λ (u : Sub). IsSome (part_of d u.part)) d.subs → (x : ℕ)
    → parent_of (with_part d p) x ≡ parent_of d x
parent_kept d p all x = elim (cases_option (sub_of d x)) [
  | inl none ↦ ap (option_and_then (λ (u : Sub). whole_of (with_part d p) u.part)) none
      ∙ sym (ap (option_and_then (λ (u : Sub). whole_of d u.part)) none)
  | inr some ↦
      let h = find_some (λ (u : Sub). u.space == x) d.subs some.0 some.1 in
      let has : IsSome (part_of d (some.0).part) = all_at (λ (u : Sub). IsSome (part_of d u.part)) d.subs h.0 some.0 all h.1 in
      ap (option_and_then (λ (u : Sub). whole_of (with_part d p) u.part)) some.1
      ∙ ap (option_map (λ (q : Part). q.space)) (part_kept d p (some.0).part has)
      ∙ sym (ap (option_and_then (λ (u : Sub). whole_of d u.part)) some.1)
]

pub grown_part : (d : Regions) (p : Part) → IsGrown d → All (λ (q : Part). q.id ≢ p.id) d.parts → IsSome (space_of d p.space)
    → IsGrown (with_part d p)
grown_part d p grown new has =
    let forest = grown.forest in
    let same = ancestors_same (with_part d p) d (parent_kept d p forest.parts_declared) in
    let shallow : (space root n : ℕ) → ancestor_of (with_part d p) n space ≡ Some root → n ≤ 64 =
    λ space root n e. forest.shallow space root n (sym (same n space) ∙ e) in
    record {
      forest = record {
        space_ids = forest.space_ids;
        part_ids = all_pairs_push (λ (q r : Part). q.id ≢ r.id) d.parts p forest.part_ids new;
        steps = forest.steps;
        sub_spaces = forest.sub_spaces;
        wholes_declared = All-push (λ (q : Part). IsSome (space_of d q.space)) d.parts p forest.wholes_declared has;
        parts_declared = λ k u lt. let h = forest.parts_declared k u lt in
            subst (λ (o : Option Part). IsSome o) (sym (part_kept d p _ h)) h;
        spaces_declared = forest.spaces_declared;
        acyclic = acyclic_from (with_part d p) shallow;
        shallow = shallow;
      };
      counted = λ space root n e. grown.counted space root n (sym (same n space) ∙ e);
    }

-- Where nothing is declared, nothing lies above anything.
abbrev nothing : Regions
nothing = record { spaces = []; parts = []; subs = [] }

none_above : (space root n : ℕ) → ancestor_of nothing n space ≡ Some root → n ≤ 0
none_above space root zero e = omega arith
none_above space root (suc n) e = option_and_then_some (parent_of nothing) (ancestor_of nothing n space) root e
    (λ at is up. absurd (none-some root up))

pub grown_none : IsGrown nothing
grown_none =
    let shallow : (space root n : ℕ) → ancestor_of nothing n space ≡ Some root → n ≤ 64 =
    λ space root n e. omega (arith, none_above space root n e) in
    record {
      forest = record {
        space_ids = λ i j d above within. absurd (omega (arith, within));
        part_ids = λ i j d above within. absurd (omega (arith, within));
        steps = λ i j d above within. absurd (omega (arith, within));
        sub_spaces = λ i j d above within. absurd (omega (arith, within));
        wholes_declared = All-nil (λ (p : Part). IsSome (space_of nothing p.space));
        parts_declared = All-nil (λ (s : Sub). IsSome (part_of nothing s.part));
        spaces_declared = All-nil (λ (s : Sub). IsSome (space_of nothing s.space));
        acyclic = acyclic_from nothing (λ space. shallow space);
        shallow = shallow;
      };
      counted = none_above;
    }
