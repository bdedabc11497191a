-- Stretches of items that do not interfere, in any order.
use Rattle.std.proofs.Common.{◌≡◌, ◌≢◌, ◌↔◌, ℕ, suc, ◌+◌, ◌==◌, true, List, [], ◌∷◌, ◌++◌, inl, inr, refl, sym, ap, ◌∙◌, subst, take, map, append_assoc, arith, if◌then◌else◌, Contains}
use Rattle.std.specs.List.{position_or_len}
use Rattle.std.proofs.lemmas.Bool.{cases_Bool, cases_eq, eq-eqb, ne_eqb}
use Rattle.privilege.specs.declared.kinds.Kind.TheVariants.{Free}
use Rattle.vocabulary.specs.Prelude.{may_read, Value, plain, Place, Req, Tables, is_in, item_kind, uses_of, covers, after_items}
use Rattle.value_terms.specs.declared.terms.Base.TheVariants.{Init}
use Rattle.log_laws.proofs.lemmas.Members.{is_in_of, member_in}
use Rattle.std.proofs.lemmas.List.Elements.{Contains-append_left}
use Rattle.list_lemmas.proofs.lemmas.Contained.{only, Contains-first, Contains-here, Contains-later, Contains-nil, Contains-cases}
use Rattle.list_lemmas.proofs.lemmas.Pairs.{Apart, AllPairs-append, AllPairs-parts, AllPairs-first, AllPairs-rest, apart_one}
use Rattle.list_lemmas.proofs.lemmas.Parts.{split_at, left_out_same, place_len}
use Rattle.launch_laws.specs.Stretches.{IsTurned, AreTurned, joined, wanted_in}
use Rattle.launch_laws.proofs.FreeItems.{after_one, items_turn, item_keeps}

module _ (t : Tables) (p : Place) where
  after_append : (xs ys : List ℕ) (v : Value) → after_items t (xs ++ ys) p v ≡ after_items t ys p (after_items t xs p v)
  after_append [] ys v = refl
  after_append (x ∷ xs) ys v = after_append xs ys (after_one t p x v)

  abbrev AreFree : List ℕ → Type 0
  AreFree xs = (a b : ℕ) → Contains xs a → Contains xs b → a ≢ b → item_kind t a b ≡ Free

  -- An item that does not interfere with those in front of it may move to the front.
  to_front : (x : ℕ) (front back : List ℕ) → ((y : ℕ) → Contains front y → item_kind t x y ≡ Free) → (v : Value)
      → after_items t (front ++ x ∷ back) p v ≡ after_items t (front ++ back) p (after_one t p x v)
  to_front x [] back free v = refl
  to_front x (y ∷ front) back free v =
      to_front x front back (λ z m. free z (Contains-later front m)) (after_one t p y v)
      ∙ ap (after_items t (front ++ back) p) (items_turn t p x y (free y (Contains-here front)) v)

  in_any_order : (xs ys : List ℕ) → Apart xs → Apart ys → ((e : ℕ) → Contains xs e ↔ Contains ys e) → AreFree xs → (v : Value)
      → after_items t xs p v ≡ after_items t ys p v
  in_any_order [] [] a b same free v = refl
  in_any_order [] (y ∷ ys) a b same free v = absurd (Contains-nil ((same y).1 (Contains-here ys)))
  in_any_order (x ∷ xs) ys a b same free v =
      let cut = split_at ys x ((same x).0 (Contains-here xs)) in
      let b_cut = subst Apart cut.2 b in
      let parts = AllPairs-parts (λ x y. x ≢ y) cut.0 (x ∷ cut.1) b_cut in
      let b_rest = AllPairs-append (λ x y. x ≢ y) cut.0 cut.1 parts.0
      (AllPairs-rest (λ x y. x ≢ y) x cut.1 parts.1) (λ y z m n. parts.2 y z m (Contains-later cut.1 n)) in
      let same_rest = left_out_same (λ x y. x ≢ y) (λ y h. h refl) x xs cut.0 cut.1 a b_cut
      (λ e. subst (λ zs. Contains (x ∷ xs) e ↔ Contains zs e) cut.2 (same e)) in
      let rest = in_any_order xs (cut.0 ++ cut.1) (AllPairs-rest (λ x y. x ≢ y) x xs a) b_rest same_rest
      (λ c d m n. free c d (Contains-later xs m) (Contains-later xs n)) (after_one t p x v) in
      let may_turn : (y : ℕ) → Contains cut.0 y → item_kind t x y ≡ Free = λ y m.
      let later : Contains xs y = (same_rest y).1 (Contains-append_left cut.0 cut.1 y m) in
      free x y (Contains-here xs) (Contains-later xs later) (AllPairs-first (λ x y. x ≢ y) x xs a y later) in
      rest ∙ sym (to_front x cut.0 cut.1 may_turn v) ∙ ap (λ zs. after_items t zs p v) (sym cut.2)

  one_stretch : (one other : List ℕ) → IsTurned t one other → (v : Value) → after_items t one p v ≡ after_items t other p v
  one_stretch one other h = in_any_order one other h.once h.other_once
      h.same h.free

  pub all_stretches : (ones others : List (List ℕ)) → AreTurned t ones others → (v : Value)
      → after_items t (joined ones) p v ≡ after_items t (joined others) p v
  all_stretches [] [] h v = refl
  all_stretches [] (other ∷ others) h v = absurd h
  all_stretches (one ∷ ones) [] h v = absurd h
  all_stretches (one ∷ ones) (other ∷ others) h v =
      after_append one (joined ones) v ∙ ap (after_items t (joined ones) p) (one_stretch one other h.0 v)
      ∙ all_stretches ones others h.1 (after_items t other p v) ∙ sym (after_append other (joined others) v)

  -- ---- just before an item

  -- The value just before an item, or after all items where it is not among them.
  abbrev just_before : List ℕ → ℕ → Value → Value
  just_before [] item v = v
  just_before (x ∷ xs) item v = if x == item then v else just_before xs item (after_one t p x v)

  taken : (xs : List ℕ) (item : ℕ) (v : Value) → after_items t (take (position_or_len (λ i. i == item) xs) xs) p v ≡ just_before xs item v
  taken [] item v = refl
  taken (x ∷ xs) item v = elim (cases_Bool (x == item)) [
    | inl here ↦ rw here refl
    | inr not_here ↦
        let one : 1 + position_or_len (λ i. i == item) xs ≡ suc (position_or_len (λ i. i == item) xs) = omega arith in
        rw not_here (ap (λ n. after_items t (take n (x ∷ xs)) p v) one ∙ taken xs item (after_one t p x v))
  ]

  pub wanted_before : (xs : List ℕ) (item : ℕ) → wanted_in t xs item p ≡ just_before xs item (plain Init)
  wanted_before xs item = ap (λ n. after_items t (take n xs) p (plain Init)) (place_len (λ i. i == item) xs) ∙ taken xs item (plain Init)

  before_past : (xs ys : List ℕ) (item : ℕ) → (Contains xs item → ⊥) → (v : Value)
      → just_before (xs ++ ys) item v ≡ just_before ys item (after_items t xs p v)
  before_past [] ys item out v = refl
  before_past (x ∷ xs) ys item out v = rw (ne_eqb x item (λ e. out (Contains-first xs (sym e))))
      (before_past xs ys item (λ m. out (Contains-later xs m)) (after_one t p x v))

  before_still : (xs ys : List ℕ) (item : ℕ) → Contains xs item → ((x : ℕ) → Contains xs x → x ≢ item → (v : Value) → after_one t p x v ≡ v)
      → (v : Value) → just_before (xs ++ ys) item v ≡ v
  before_still [] ys item m keep v = absurd (Contains-nil m)
  before_still (x ∷ xs) ys item m keep v = elim (cases_eq x item) [
    | inl here ↦ rw (eq-eqb x item here) refl
    | inr other ↦ elim (Contains-cases xs m) [
      | inl is ↦ absurd (other (sym is))
      | inr later ↦ rw (ne_eqb x item other) (ap (just_before (xs ++ ys) item) (keep x (Contains-here xs) other v)
          ∙ before_still xs ys item later (λ y n. keep y (Contains-later xs n)) v)
    ]
  ]

  module _ (item : ℕ) (r : Req) (asks : Contains (uses_of t item) r) (reads : may_read r.access ≡ true) (here : covers t p r ≡ true) where
    keeps : (one other : List ℕ) → IsTurned t one other → Contains one item → (x : ℕ) → Contains one x → x ≢ item → (v : Value)
        → after_one t p x v ≡ v
    keeps one other h m x n differ = item_keeps t p item x r
        (h.free item x m n (λ e. differ (sym e))) asks reads here

    before_all : (ones others : List (List ℕ)) → AreTurned t ones others → (v : Value)
        → just_before (joined ones) item v ≡ just_before (joined others) item v
    before_all [] [] h v = refl
    before_all [] (other ∷ others) h v = absurd h
    before_all (one ∷ ones) [] h v = absurd h
    before_all (one ∷ ones) (other ∷ others) h v =
        let there : Contains one item → Contains other item = (h.0.same item).0 in
        let back : (x : ℕ) → Contains other x → Contains one x = λ x. (h.0.same x).1 in
        elim (cases_Bool (is_in one item)) [
          | inl found ↦
              let m = member_in one item found in
              before_still one (joined ones) item m (keeps one other h.0 m) v
              ∙ sym (before_still other (joined others) item (there m) (λ x n. keeps one other h.0 m x (back x n)) v)
          | inr missed ↦
              let out : Contains one item → ⊥ = λ m. let bad = sym (is_in_of one item m) ∙ missed in absurd cc in
              before_past one (joined ones) item out v ∙ ap (just_before (joined ones) item) (one_stretch one other h.0 v)
              ∙ before_all ones others h.1 (after_items t other p v)
              ∙ sym (before_past other (joined others) item (λ m. out (back item m)) v)
        ]

    pub wanted_same : (ones others : List (List ℕ)) → AreTurned t ones others
        → wanted_in t (joined ones) item p ≡ wanted_in t (joined others) item p
    wanted_same ones others h = wanted_before (joined ones) item ∙ before_all ones others h (plain Init)
        ∙ sym (wanted_before (joined others) item)

-- ---- one stretch among items that stay

abbrev singles : List ℕ → List (List ℕ)
singles xs = map (λ x. x ∷ []) xs

joined_append : (ones others : List (List ℕ)) → joined (ones ++ others) ≡ joined ones ++ joined others
joined_append [] others = refl
joined_append (one ∷ ones) others = ap (λ ys. one ++ ys) (joined_append ones others) ∙ sym (append_assoc one (joined ones) (joined others))

joined_singles : (xs : List ℕ) → joined (singles xs) ≡ xs
joined_singles [] = refl
joined_singles (x ∷ xs) = ap (λ ys. x ∷ ys) (joined_singles xs)

among : (front one back : List ℕ) → joined (singles front ++ one ∷ singles back) ≡ front ++ one ++ back
among front one back = joined_append (singles front) (one ∷ singles back)
    ∙ ap (λ xs. xs ++ (one ++ joined (singles back))) (joined_singles front) ∙ ap (λ xs. front ++ (one ++ xs)) (joined_singles back)
    ∙ sym (append_assoc front one back)

single_turned : (t : Tables) (x : ℕ) → IsTurned t (x ∷ []) (x ∷ [])
single_turned t x = record {
  once = apart_one x;
  other_once = apart_one x;
  same = λ item. (λ m. m, λ m. m);
  free = λ a b m n differ. absurd (differ (only m ∙ sym (only n)));
}

singles_turned : (t : Tables) (xs : List ℕ) → AreTurned t (singles xs) (singles xs)
singles_turned t [] = tt
singles_turned t (x ∷ xs) = (single_turned t x, singles_turned t xs)

turned_append : (t : Tables) (ones others more most : List (List ℕ)) → AreTurned t ones others → AreTurned t more most
    → AreTurned t (ones ++ more) (others ++ most)
turned_append t [] [] more most g h = h
turned_append t [] (other ∷ others) more most g h = absurd g
turned_append t (one ∷ ones) [] more most g h = absurd g
turned_append t (one ∷ ones) (other ∷ others) more most g h = (g.0, turned_append t ones others more most g.1 h)

-- Stretches by which two orders are told to differ in one.
abbrev cut : List ℕ → List ℕ → List ℕ → List (List ℕ)
cut front one back = singles front ++ one ∷ singles back

-- Two orders agree but for the order of the items of one stretch.
module _ (t : Tables) (front here there back : List ℕ) (turned : IsTurned t here there) where
  stretches_turned : AreTurned t (cut front here back) (cut front there back)
  stretches_turned = turned_append t (singles front) (singles front) (here ∷ singles back) (there ∷ singles back) (singles_turned t front)
      (turned, singles_turned t back)

  pub one_after : (p : Place) (v : Value) → after_items t (front ++ here ++ back) p v ≡ after_items t (front ++ there ++ back) p v
  one_after p v = ap (λ xs. after_items t xs p v) (sym (among front here back)) ∙ all_stretches t p _ _ stretches_turned v
      ∙ ap (λ xs. after_items t xs p v) (among front there back)

  pub one_wanted : (item : ℕ) (r : Req) → Contains (uses_of t item) r → may_read r.access ≡ true → (p : Place) → covers t p r ≡ true
      → wanted_in t (front ++ here ++ back) item p ≡ wanted_in t (front ++ there ++ back) item p
  one_wanted item r asks reads p at = ap (λ xs. wanted_in t xs item p) (sym (among front here back))
      ∙ wanted_same t p item r asks reads at _ _ stretches_turned ∙ ap (λ xs. wanted_in t xs item p) (among front there back)
