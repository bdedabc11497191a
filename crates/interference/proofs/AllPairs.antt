-- The rows of what items ask for are the pairs of the log.
use Rattle.std.proofs.Common.{◌≡◌, ℕ, ◌+◌, ◌-◌, ◌<◌, inl, inr, not, List, [], ◌∷◌, ◌++◌, length, refl, sym, ap, ◌∙◌, arith, map, filter, flat_map, unwrap_or, None, Contains}
use Rattle.std.specs.List.{range_with_len}
use Rattle.std.proofs.lemmas.Bool.{cases_Bool}
use Rattle.list_lemmas.proofs.lemmas.Contained.{Contains-here, Contains-later}
use Rattle.vocabulary.specs.Prelude.{Tables, is_free, item_kind, least_place}
use Rattle.list_lemmas.proofs.lemmas.Parts.{map_flat}
use Rattle.list_lemmas.proofs.lemmas.Ranges.{number_between}
use Rattle.item_uses.specs.Usages.{Usage, usages_of, usages, usages_at}
use Rattle.item_uses.specs.Sharing.{kind_between, place_between}
use Rattle.item_uses.proofs.lemmas.ItemKinds.{kind_is}
use Rattle.item_uses.proofs.lemmas.LeastPlaces.{place_is}
use Rattle.item_uses.proofs.lemmas.Growing.{usages_length, usages_is}
use Rattle.interference.specs.Pairing.{pair_of, all_pairs, no_place, row, rows, left}
use Rattle.interference.proofs.Rows.{meeting, rows_step}

pub kind_at_two : (t : Tables) (a b : ℕ) → a < length t.items → b < length t.items
    → kind_between (usages_at (usages t) a) (usages_at (usages t) b) ≡ item_kind t a b
kind_at_two t a b la lb = ap (λ u. kind_between u (usages_at (usages t) b)) (usages_is t a la)
    ∙ ap (kind_between (usages_of t a)) (usages_is t b lb) ∙ sym (kind_is t a b)

place_at_two : (t : Tables) (a b : ℕ) → a < length t.items → b < length t.items
    → place_between (usages_at (usages t) a) (usages_at (usages t) b) ≡ least_place t a b
place_at_two t a b la lb = ap (λ u. place_between u (usages_at (usages t) b)) (usages_is t a la)
    ∙ ap (place_between (usages_of t a)) (usages_is t b lb) ∙ sym (place_is t a b)

meeting_is : (t : Tables) (a b : ℕ) → a < length t.items → b < length t.items → meeting (usages t) a b ≡ pair_of t (a, b)
meeting_is t a b la lb =
    ap (λ k. record {
      a = a;
      b = b;
      kind = k;
      place =
          unwrap_or (place_between (usages_at (usages t) a) (usages_at (usages t) b)) no_place;
    }) (kind_at_two t a b la lb)
    ∙ ap (λ o. record { a = a; b = b; kind = item_kind t a b; place = unwrap_or o no_place }) (place_at_two t a b la lb)

row_is : (t : Tables) (a : ℕ) → a < length t.items → (ns : List ℕ) → ((b : ℕ) → Contains ns b → b < length t.items)
    → map (meeting (usages t) a) (filter (λ b. not (is_free (kind_between (usages_at (usages t) a) (usages_at (usages t) b)))) ns)
    ≡ map (pair_of t) (map (λ b. (a, b)) (filter (λ b. not (is_free (item_kind t a b))) ns))
row_is t a la [] within = refl
row_is t a la (b ∷ ns) within =
    let lb = within b (Contains-here ns) in
    let k = kind_at_two t a b la lb in
    let rest = row_is t a la ns (λ c m. within c (Contains-later ns m)) in
    elim (cases_Bool (is_free (item_kind t a b))) [
      | inl free ↦ rw (ap is_free k ∙ free, free) rest
      | inr not_free ↦ rw (ap is_free k ∙ not_free, not_free)
          (ap (λ p. p ∷ map (meeting (usages t) a)
          (filter (λ b. not (is_free (kind_between (usages_at (usages t) a) (usages_at (usages t) b)))) ns)) (meeting_is t a b la lb)
          ∙ ap (λ ps. pair_of t (a, b) ∷ ps) rest)
    ]

flat_same : {X Y : Type 0} (f g : X → List Y) (xs : List X) → ((x : X) → Contains xs x → f x ≡ g x) → flat_map f xs ≡ flat_map g xs
flat_same f g [] h = refl
flat_same f g (x ∷ xs) h = ap (λ ys. ys ++ flat_map f xs) (h x (Contains-here xs))
    ∙ ap (λ ys. g x ++ ys) (flat_same f g xs (λ y m. h y (Contains-later xs m)))

rows_are : (t : Tables) → rows None (usages t) 0 ≡ all_pairs t
rows_are t =
    let long : length (usages t) - 0 ≡ length t.items = omega (arith, usages_length t) in
    ap (λ m. flat_map (λ i. row None (usages t) i (i + 1)) (range_with_len 0 m)) long
    ∙ flat_same (λ i. row None (usages t) i (i + 1))
    (λ a. map (pair_of t)
    (map (λ b. (a, b)) (filter (λ b. not (is_free (item_kind t a b))) (range_with_len (a + 1) (length t.items - (a + 1))))))
    (range_with_len 0 (length t.items))
    (λ a m. ap (λ m. map (meeting (usages t) a) (filter
    (λ b. not (is_free (kind_between (usages_at (usages t) a) (usages_at (usages t) b)))) (range_with_len (a + 1) (m - (a + 1)))))
    (usages_length t)
    ∙ row_is t a (omega (arith, (number_between 0 (length t.items) a m).1)) (range_with_len (a + 1) (length t.items - (a + 1)))
    (λ b k. let r = number_between (a + 1) (length t.items - (a + 1)) b k in omega (arith, r.0, r.1)))
    ∙ sym (map_flat (pair_of t) (λ a. map (λ b. (a, b))
    (filter (λ b. not (is_free (item_kind t a b))) (range_with_len (a + 1) (length t.items - (a + 1)))))
    (range_with_len 0 (length t.items)))

pub all_are : (t : Tables) (us : List (List Usage)) → usages t ≡ us → left None us 0 1 ≡ all_pairs t
all_are t us e = ap (λ us. left None us 0 1) (sym e) ∙ sym (rows_step None (usages t) 0) ∙ rows_are t
