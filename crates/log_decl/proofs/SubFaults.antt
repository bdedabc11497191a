-- What is wrong with a subspace, by the tables before it and by all declarations.
use Rattle.std.proofs.Common.{◌≡◌, ℕ, zero, suc, ◌<◌, ◌==◌, Bool, true, false, ◌&&◌, List, [], ◌∷◌, ◌++◌, find, length, Contains, IsSome, slice_get, Option, Some, subst, refl, sym, ap, ◌∙◌, inl, inr, eq-eqb, arith}
use Rattle.std.specs.Bool.{Decides}
use Rattle.std.specs.List.{list_any}
use Rattle.std.specs.Option.{option_map, option_map_or}
use Rattle.std.proofs.lemmas.Bool.{and_parts, cases_Bool, eqb-true, false≢true, and_from}
use Rattle.std.proofs.lemmas.Option.{same_Some, slice_get_within}
use Rattle.std.proofs.lemmas.Map.Keys.{any_passes_from_place}
use Rattle.spy_grammar.specs.declared.record.Record.TheVariants.{Sub}
use Rattle.log_tables.specs.Regions.{regions_of, space_of, space_points}
use Rattle.region_tree.specs.Faults.{IsOutside, MeetsEarlier, points_cut, is_disjoint}
use Rattle.region_tree.specs.Shape.{IsForest}
use Rattle.list_lemmas.proofs.lemmas.Firsts.{find_some, all_at}
use Rattle.semantics.specs.declared.tables.Part as parts
use Rattle.semantics.specs.declared.tables.Sub as subs
use Rattle.vocabulary.specs.Prelude.{Tables, Space, points_in, part_at, meets}
use Rattle.semantics.specs.Rules.{is_outside, is_not_disjoint}
use Rattle.log_decl.proofs.Growing.{Extends, points_kept, part_kept}
use Rattle.log_decl.proofs.Members.{Decides-outside, Decides-meets, passing}
use Rattle.list_lemmas.proofs.lemmas.Contained.{find_any}

-- Elements by place.
at_left : {X : Type 0} (xs ys : List X) (i : ℕ) → i < length xs → slice_get (xs ++ ys) i ≡ slice_get xs i
at_left [] ys i lt = absurd (omega arith)
at_left (x ∷ xs) ys zero lt = refl
at_left (x ∷ xs) ys (suc i) lt = at_left xs ys i (omega arith)

any_found : {X : Type 0} (p : X → Bool) (xs : List X) → IsSome (find p xs) → list_any p xs ≡ true
any_found p [] h = absurd (false≢true h)
any_found p (x ∷ xs) h = elim (cases_Bool (p x)) [ inl hit ↦ rw hit refl | inr miss ↦ rw miss (any_found p xs (rw miss at h)) ]

pub declared_is : (t : Tables) (id : ℕ) → IsSome (space_of (regions_of t) id) → list_any (λ (s : Space). s.id == id) t.spaces ≡ true
declared_is t id h = any_found (λ (s : Space). s.id == id) t.spaces h

-- A subspace is declared after what `t` declares, and `u` declares all.
pub record IsNext (t u : Tables) (s : subs.Sub) : Type 0 where
  pub extends : Extends t u
  pub forest : IsForest (regions_of t)
  pub has_part : list_any (λ (p : parts.Part). p.id == s.part) t.parts ≡ true
  pub has_space : list_any (λ (x : Space). x.id == s.space) t.spaces ≡ true
  pub at : slice_get u.subs (length t.subs) ≡ Some s

points_then : (t u : Tables) (s : subs.Sub) → IsNext t u s → (id : ℕ) → list_any (λ (x : Space). x.id == id) t.spaces ≡ true
    → space_points (regions_of u) id ≡ points_in t id
points_then t u s next id has = points_kept t u next.extends id has

-- The partition, and the space that it splits.
whole_then : (t u : Tables) (s : subs.Sub) (next : IsNext t u s)
    → points_cut (regions_of u) s.part ≡ option_map_or (λ (p : parts.Part). points_in t p.space) (part_at t s.part) []
whole_then t u s next =
    let found = find_any (λ (p : parts.Part). p.id == s.part) t.parts next.has_part in
    let here = find_some (λ (p : parts.Part). p.id == s.part) t.parts found.0 found.1 in
    let declared = declared_is t (found.0).space
    (all_at (λ (p : parts.Part). IsSome (space_of (regions_of t) p.space)) t.parts here.0 found.0 next.forest.wholes_declared here.1) in
    ap (λ (o : Option ℕ). option_map_or (space_points (regions_of u)) o [])
    (ap (option_map (λ (p : parts.Part). p.space)) (part_kept t u next.extends s.part next.has_part ∙ found.1))
    ∙ points_then t u s next (found.0).space declared
    ∙ sym (ap (λ (o : Option parts.Part). option_map_or (λ (p : parts.Part). points_in t p.space) o []) found.1)

disjoint_then : (t u : Tables) (s : subs.Sub) (next : IsNext t u s)
    → is_disjoint (regions_of u) s.part ≡ option_map_or (λ (p : parts.Part). p.disjoint) (part_at t s.part) false
disjoint_then t u s next =
    ap (λ (o : Option parts.Part). option_map_or (λ (p : parts.Part). p.disjoint) o false) (part_kept t u next.extends s.part next.has_part)

-- The subspace has a point outside: both ways of saying so agree.
pub Decides-is_outside : (t u : Tables) (s : subs.Sub) → IsNext t u s
    → Decides (is_outside t (Sub s.part s.colour s.space)) ((point : ℕ) × IsOutside (regions_of u) (length t.subs) point)
Decides-is_outside t u s next =
    let P = points_in t s.space in
    let Q = option_map_or (λ (p : parts.Part). points_in t p.space) (part_at t s.part) [] in
    let is_P : space_points (regions_of u) s.space ≡ P = points_then t u s next s.space next.has_space in
    let is_Q : points_cut (regions_of u) s.part ≡ Q = whole_then t u s next in (
      λ e. let h = (Decides-outside P Q).0 e in (
        h.0,
        (
          s,
          next.at,
          subst (λ (xs : List ℕ). Contains xs h.0) (sym is_P) h.1,
          λ has. h.2 (subst (λ (xs : List ℕ). Contains xs h.0) is_Q has),
        ),
      ),
      λ h.
          let out = h.1 in
          let same : out.0 ≡ s = same_Some out.0 s (sym out.1 ∙ next.at) in
          let has = subst (λ (x : subs.Sub). Contains (space_points (regions_of u) x.space) h.0) same out.2 in
          let not = subst (λ (x : subs.Sub). ¬ Contains (points_cut (regions_of u) x.part) h.0) same out.3 in
          (Decides-outside P Q).1 (
            h.0,
            subst (λ (xs : List ℕ). Contains xs h.0) is_P has,
            λ q. not (subst (λ (xs : List ℕ). Contains xs h.0) (sym is_Q) q),
          ),
    )

-- The subspace meets an earlier one of its disjoint partition: both ways of saying so agree.
pub Decides-is_not_disjoint : (t u : Tables) (s : subs.Sub) → IsNext t u s
    → Decides (is_not_disjoint t (Sub s.part s.colour s.space)) ((j : ℕ) × MeetsEarlier (regions_of u) (length t.subs) j)
Decides-is_not_disjoint t u s next =
    let n = length t.subs in
    let P = points_in t s.space in
    let dis = option_map_or (λ (p : parts.Part). p.disjoint) (part_at t s.part) false in
    let test : subs.Sub → Bool = λ (x : subs.Sub). (x.part == s.part) && meets P (points_in t x.space) in
    let is_P : space_points (regions_of u) s.space ≡ P = points_then t u s next s.space next.has_space in
    let points_at : (j : ℕ) (x : subs.Sub) → slice_get t.subs j ≡ Some x → space_points (regions_of u) x.space ≡ points_in t x.space =
    λ j x at. points_then t u s next x.space (declared_is t x.space
    (all_at (λ (y : subs.Sub). IsSome (space_of (regions_of t) y.space)) t.subs j x next.forest.spaces_declared at))
    in
    let among : (j : ℕ) → j < n → slice_get u.subs j ≡ slice_get t.subs j =
    λ j lt. ap (λ (xs : List subs.Sub). slice_get xs j) next.extends.subs ∙ at_left t.subs next.extends.more_subs j lt in (
      λ e.
          let both = and_parts dis (list_any test t.subs) e in
          let h = passing test t.subs both.1 in
          let x = h.1 in
          let tests = and_parts (x.part == s.part) (meets P (points_in t x.space)) h.3 in
          let shared = (Decides-meets P (points_in t x.space)).0 tests.1 in
          let lt : h.0 < n = slice_get_within t.subs h.0 x h.2 in (
            h.0,
            (
              shared.0,
              (
                s,
                x,
                lt,
                next.at,
                among h.0 lt ∙ h.2,
                (
                  sym (eqb-true x.part s.part tests.0),
                  disjoint_then t u s next ∙ both.0,
                  subst (λ (xs : List ℕ). Contains xs shared.0) (sym is_P) shared.1,
                  subst (λ (xs : List ℕ). Contains xs shared.0) (sym (points_at h.0 x h.2)) shared.2,
                ),
              ),
            ),
          ),
      λ h.
          let m = h.1.1 in
          let c = m.5 in
          let point = h.1.0 in
          let x = m.1 in
          let same : m.0 ≡ s = same_Some m.0 s (sym m.3 ∙ next.at) in
          let at : slice_get t.subs h.0 ≡ Some x = sym (among h.0 m.2) ∙ m.4 in
          let one_part : x.part ≡ s.part = sym c.0 ∙ ap (λ (y : subs.Sub). y.part) same in
          let is_dis : dis ≡ true = sym (disjoint_then t u s next) ∙ ap (λ (y : subs.Sub). is_disjoint (regions_of u) y.part) (sym same)
          ∙ c.1 in
          let in_P : Contains P point = subst (λ (xs : List ℕ). Contains xs point)
          (ap (λ (y : subs.Sub). space_points (regions_of u) y.space) same ∙ is_P) c.2 in
          let in_x : Contains (points_in t x.space) point = subst (λ (xs : List ℕ). Contains xs point) (points_at h.0 x at) c.3 in
          and_from dis (list_any test t.subs) is_dis
          (any_passes_from_place test t.subs h.0 x at
          (and_from (x.part == s.part) (meets P (points_in t x.space)) (eq-eqb x.part s.part one_part)
          ((Decides-meets P (points_in t x.space)).1 (point, in_P, in_x)))),
    )
