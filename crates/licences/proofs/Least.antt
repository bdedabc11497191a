-- The least place at which a claim is refused, field by field.
use Rattle.std.proofs.Common.{◌≡◌, ℕ, ◌+◌, ◌<◌, ◌≤◌, ◌==◌, Bool, true, false, not, inl, inr, List, [], ◌∷◌, ◌++◌, Contains, filter, take, drop, length, get_or, Option, Some, None, refl, sym, ap, ◌∙◌, subst, arith}
use Rattle.std.specs.List.{list_any, list_all}
use Rattle.std.proofs.lemmas.Bool.{false≢true, and_parts, eqb-true}
use Rattle.std.proofs.lemmas.List.Folds.{Any-from_list_any}
use Rattle.std.proofs.lemmas.Bool.Decides.{nat_tests}
use Rattle.std.proofs.lemmas.List.{take_more, drop_more}
use Rattle.std.proofs.lemmas.List.Elements.{All-contains, Contains-append_left, Contains-push, Contains-push_cases}
use Rattle.vocabulary.specs.Prelude.{Place, grid, least_of, lesser}
use Rattle.list_lemmas.proofs.lemmas.Contained.{all_at, member_map, map_member, Contains-nil, Contains-here, Contains-later, Contains-cases}
use Rattle.list_lemmas.proofs.lemmas.Filtered.{of_filter, in_filter}
use Rattle.log_laws.proofs.lemmas.Apart.{member_grid, grid_member}
use Rattle.licences.specs.Claims.{AreOfSpaces, Claimed, allows, places, refused, first_refused, lesser_place}
use Rattle.licences.proofs.Reaching.{served_at}
use Rattle.licences.specs.Reach.{at, serves, serves_all, IsRefusedAt, IsLeastAt, IsLeastAmong, is_before}

before_itself : (p : Place) → is_before p p ≡ false
before_itself p = grind (arith, nat_tests)

before_both : (p q : Place) → is_before p q ≡ false → is_before q p ≡ false → p ≡ q
before_both p q a b = grind (arith, nat_tests)

before_chain : (p q r : Place) → is_before q p ≡ false → is_before r q ≡ false → is_before r p ≡ false
before_chain p q r a b = grind (arith, nat_tests)

before_one_way : (p q : Place) → is_before p q ≡ true → is_before q p ≡ false
before_one_way p q a = grind (arith, nat_tests)

-- At one field the least point gives the least place.
at_field : (c : Claimed) (f x y : ℕ) → y ≤ x → is_before (at c f x) (at c f y) ≡ false
at_field c f x y le = grind (arith, nat_tests)

-- ---- the least of some places

abbrev IsLeastPlace : List Place → Option Place → Type 0
IsLeastPlace ps (Some p) = Contains ps p × ((q : Place) → Contains ps q → is_before q p ≡ false)
IsLeastPlace ps None = (q : Place) → Contains ps q → ⊥

place_is_least : (ps : List Place) → IsLeastPlace ps (least_of ps)
place_is_least [] = λ q m. Contains-nil m
place_is_least (p ∷ ps) = more p (least_of ps) ps (place_is_least ps)
  where
    pick : (p q : Place) (ps : List Place) → IsLeastPlace ps (Some q) → (b : Bool) → is_before q p ≡ b
        → IsLeastPlace (p ∷ ps) (Some (lesser p (Some q)))
    pick p q ps h true e = rw e (
      Contains-later ps h.0,
      λ r m. elim (Contains-cases ps m) [
        | inl is ↦ rw is (before_one_way q p e)
        | inr later ↦ h.1 r later
      ],
    )
    pick p q ps h false e = rw e (
      Contains-here ps,
      λ r m. elim (Contains-cases ps m) [
        | inl is ↦ rw is (before_itself p)
        | inr later ↦ before_chain p q r e (h.1 r later)
      ],
    )

    more : (p : Place) (o : Option Place) (ps : List Place) → IsLeastPlace ps o → IsLeastPlace (p ∷ ps) (Some (lesser p o))
    more p None ps h = (
      Contains-here ps,
      λ r m. elim (Contains-cases ps m) [
        | inl is ↦ rw is (before_itself p)
        | inr later ↦ absurd (h r later)
      ],
    )
    more p (Some q) ps h = pick p q ps h (is_before q p) refl

-- ---- one field more

none_among : (cs : List Claimed) (c : Claimed) → IsLeastAmong cs c [] None
none_among cs c = record { some = tt; least = λ field point of no_point. absurd (Contains-nil of) }

later_field : (cs : List Claimed) (c : Claimed) (fs : List ℕ) (f : ℕ) (best next : Option Place) → IsLeastAmong cs c fs best
    → IsLeastAt cs c f next → IsLeastAmong cs c (fs ++ f ∷ []) (lesser_place best next)
later_field cs c fs f None None h k = record {
  some = tt;
  least = λ field point of no_point. elim (Contains-push_cases fs f field of) [
    | inl old ↦ h.least field point old no_point
    | inr here ↦ k.least point (subst (λ g. IsRefusedAt cs c g point) (sym here) no_point)
  ];
}
later_field cs c fs f None (Some q) h k = record {
  some = is_at cs c f q k (fs ++ f ∷ []) (Contains-push fs f);
  least = λ field point of no_point. elim (Contains-push_cases fs f field of) [
    | inl old ↦ absurd (h.least field point old no_point)
    | inr here ↦ newer cs c f q k field point here no_point
  ];
}
  where
    is_at : (cs : List Claimed) (c : Claimed) (f : ℕ) (q : Place) → IsLeastAt cs c f (Some q) → (gs : List ℕ) → Contains gs f
        → (q ≡ at c q.field q.point) × Contains gs q.field × IsRefusedAt cs c q.field q.point
    is_at cs c f q k gs of =
        let field : f ≡ q.field = sym (ap (λ (p : Place). p.field) k.here) in
        (k.here ∙ ap (λ g. at c g q.point) field, subst (Contains gs) field of, subst (λ g. IsRefusedAt cs c g q.point) field k.least.0)

    newer : (cs : List Claimed) (c : Claimed) (f : ℕ) (q : Place) → IsLeastAt cs c f (Some q) → (field point : ℕ) → f ≡ field
        → IsRefusedAt cs c field point → is_before (at c field point) q ≡ false
    newer cs c f q k field point here no_point =
        subst (λ p. is_before (at c field point) p ≡ false) (sym k.here)
        (subst (λ g. is_before (at c g point) (at c f q.point) ≡ false) here
        (at_field c f point q.point (k.least.1 point (subst (λ g. IsRefusedAt cs c g point) (sym here) no_point))))
later_field cs c fs f (Some p) None h k = record {
  some = (h.some.0, Contains-append_left fs (f ∷ []) p.field h.some.1, h.some.2);
  least = λ field point of no_point. elim (Contains-push_cases fs f field of) [
    | inl old ↦ h.least field point old no_point
    | inr here ↦ absurd (k.least point (subst (λ g. IsRefusedAt cs c g point) (sym here) no_point))
  ];
}
later_field cs c fs f (Some p) (Some q) h k = pick cs c fs f p q h k (is_before q p) refl
  where
    is_at : (cs : List Claimed) (c : Claimed) (f : ℕ) (q : Place) → IsLeastAt cs c f (Some q) → (gs : List ℕ) → Contains gs f
        → (q ≡ at c q.field q.point) × Contains gs q.field × IsRefusedAt cs c q.field q.point
    is_at cs c f q k gs of =
        let field : f ≡ q.field = sym (ap (λ (p : Place). p.field) k.here) in
        (k.here ∙ ap (λ g. at c g q.point) field, subst (Contains gs) field of, subst (λ g. IsRefusedAt cs c g q.point) field k.least.0)

    newer : (cs : List Claimed) (c : Claimed) (f : ℕ) (q : Place) → IsLeastAt cs c f (Some q) → (field point : ℕ) → f ≡ field
        → IsRefusedAt cs c field point → is_before (at c field point) q ≡ false
    newer cs c f q k field point here no_point =
        subst (λ p. is_before (at c field point) p ≡ false) (sym k.here)
        (subst (λ g. is_before (at c g point) (at c f q.point) ≡ false) here
        (at_field c f point q.point (k.least.1 point (subst (λ g. IsRefusedAt cs c g point) (sym here) no_point))))

    pick : (cs : List Claimed) (c : Claimed) (fs : List ℕ) (f : ℕ) (p q : Place) → IsLeastAmong cs c fs (Some p) → IsLeastAt cs c f (Some q)
        → (b : Bool) → is_before q p ≡ b → IsLeastAmong cs c (fs ++ f ∷ []) (Some (lesser p (Some q)))
    pick cs c fs f p q h k true e = rw e record {
      some = is_at cs c f q k (fs ++ f ∷ []) (Contains-push fs f);
      least = λ field point of no_point. elim (Contains-push_cases fs f field of) [
        | inl old ↦ before_chain q p (at c field point) (before_one_way q p e) (h.least field point old no_point)
        | inr here ↦ newer cs c f q k field point here no_point
      ];
    }
    pick cs c fs f p q h k false e = rw e record {
      some = (h.some.0, Contains-append_left fs (f ∷ []) p.field h.some.1, h.some.2);
      least = λ field point of no_point. elim (Contains-push_cases fs f field of) [
        | inl old ↦ h.least field point old no_point
        | inr here ↦ before_chain p q (at c field point) e (newer cs c f q k field point here no_point)
      ];
    }

-- The loop's step.
pub field_step : (cs : List Claimed) (c : Claimed) (fs : List ℕ) (i : ℕ) (best next : Option Place) → i < length fs
    → IsLeastAmong cs c (take i fs) best → IsLeastAt cs c (get_or fs i 0) next
    → IsLeastAmong cs c (take (i + 1) fs) (lesser_place best next)
field_step cs c fs i best next lt h k = subst (λ gs. IsLeastAmong cs c gs (lesser_place best next)) (sym (take_more fs i 0 lt))
    (later_field cs c (take i fs) (get_or fs i 0) best next h k)

-- ---- all fields

abbrev refused_places : List Claimed → Claimed → List Place
refused_places cs c = filter (λ p. not (allows cs p c.access)) (places c)

place_refused : (cs : List Claimed) (c : Claimed) (field point : ℕ) → Contains c.fields field → IsRefusedAt cs c field point
    → Contains (refused_places cs c) (at c field point)
place_refused cs c field point of no_point =
    in_filter (λ p. not (allows cs p c.access)) (places c) (at c field point)
    (map_member (λ (p : ℕ × ℕ). at c p.1 p.0) (grid c.points c.fields) (point, field)
    (grid_member c.points c.fields point field no_point.0 of))
    (ap not no_point.1)

refused_place : (cs : List Claimed) (c : Claimed) (p : Place) → Contains (refused_places cs c) p → (p ≡ at c p.field p.point)
    × Contains c.fields p.field × IsRefusedAt cs c p.field p.point
refused_place cs c p m =
    let parts = of_filter (λ p. not (allows cs p c.access)) (places c) p m in
    let pair = member_map (λ (p : ℕ × ℕ). at c p.1 p.0) (grid c.points c.fields) p parts.0 in
    let on = member_grid c.points c.fields pair.0 pair.1 in
    let same : p ≡ at c p.field p.point = rw pair.2 refl in (
      same,
      subst (λ (q : Place). Contains c.fields q.field) (sym pair.2) on.1,
      (
        subst (λ (q : Place). Contains c.points q.point) (sym pair.2) on.0,
        subst (λ q. allows cs q c.access ≡ false) same (not-true _ parts.1),
      ),
    )
  where
    not-true : (b : Bool) → not b ≡ true → b ≡ false
    not-true false e = refl
    not-true true e = absurd (false≢true e)

pub least_told : (cs : List Claimed) (c : Claimed) (o : Option Place) → IsLeastAmong cs c c.fields o → o ≡ refused cs c
least_told cs c o h = same o (refused cs c) h (place_is_least (refused_places cs c))
  where
    same : (o r : Option Place) → IsLeastAmong cs c c.fields o → IsLeastPlace (refused_places cs c) r → o ≡ r
    same None None h k = refl
    same None (Some q) h k = let r = refused_place cs c q k.0 in absurd (h.least q.field q.point r.1 r.2)
    same (Some p) None h k = absurd (k (at c p.field p.point) (place_refused cs c p.field p.point h.some.1 h.some.2))
    same (Some p) (Some q) h k =
        let r = refused_place cs c q k.0 in
        ap (λ x. Some x) (before_both p q
        (subst (λ x. is_before x q ≡ false) (sym h.some.0)
        (k.1 (at c p.field p.point) (place_refused cs c p.field p.point h.some.1 h.some.2)))
        (subst (λ x. is_before x p ≡ false) (sym r.0) (h.least q.field q.point r.1 r.2)))

-- Where a claim to the same space serves all fields, nothing is refused.
pub allowed_at_once : (cs : List Claimed) (c : Claimed) → AreOfSpaces cs c → list_any (λ one. serves_all one c) cs ≡ true
    → None ≡ refused cs c
allowed_at_once cs c spaces any =
    let found = Any-from_list_any (λ one. serves_all one c) cs any in
    let one = found.1 in
    let parts = and_parts (one.space == c.space) (list_all (serves one c) c.fields) found.4 in
    let same : one.points ≡ c.points = All-contains (λ (d : Claimed). d.space ≡ c.space → d.points ≡ c.points) cs one spaces (
      found.0,
      found.2,
      found.3,
    ) (eqb-true one.space c.space parts.0) in
    least_told cs c None (record {
      some = tt;
      least = λ field point of no_point.
          let served : serves one c field ≡ true = all_at (serves one c) c.fields field parts.1 of in
          absurd (false≢true (sym no_point.1 ∙ served_at cs one c field point (found.0, found.2, found.3) served
          (subst (λ xs. Contains xs point) (sym same) no_point.0)));
    })

-- ---- the first that is refused

pub refused_on : (cs own : List Claimed) (i : ℕ) (c : Claimed) → i < length own → c ≡ get_or own i c → refused cs c ≡ None
    → first_refused cs own ≡ first_refused cs (drop i own) → first_refused cs own ≡ first_refused cs (drop (i + 1) own)
refused_on cs own i c lt is none e = e ∙ ap (first_refused cs) (drop_more own i c lt)
    ∙ ap (λ d. first_refused cs (d ∷ drop (i + 1) own)) (sym is) ∙ rw none refl
