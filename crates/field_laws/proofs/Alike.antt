-- Alike fields are in the same lists, so cells start alike there, items do the same, and requirements are mapped to the same instances.
use Rattle.std.proofs.Common.{◌≡◌, ℕ, ◌==◌, ◌&&◌, inl, inr, Option, Some, None, List, [], ◌∷◌, refl, ap, ◌∙◌, option_map, slice_get, take, if◌then◌else◌, Contains}
use Rattle.std.specs.Option.{option_map_or}
use Rattle.vocabulary.specs.Prelude.{Value, plain, Cell, Place, Item, ItemBody, Req, Inst, Map, Tables, is_in, points_in, covers, uses_of, uses_of_item, mapped, inst_at, start, after_items, after_uses, wanted, changed}
use Rattle.value_terms.specs.declared.terms.Base.TheVariants.{Init}
use Rattle.semantics.specs.declared.tables.ItemBody.TheVariants as bodies
use Rattle.semantics.specs.SerialOrder.{serial, serial_place}
use Rattle.list_lemmas.proofs.lemmas.Contained.{found_at, find_same, only, Contains-nil, Contains-here, Contains-later}
use Rattle.list_lemmas.proofs.lemmas.Filtered.{of_filter}
use Rattle.list_lemmas.proofs.lemmas.Firsts.{cases_option, contains_at}
use Rattle.point_laws.specs.Axes.{ByField, cell_to}
use Rattle.field_laws.specs.Fields.{AreAlikeIn}
use Rattle.field_laws.proofs.Lists.{AreAmong, HasLists, body_lists}

abbrev place : ℕ → ℕ → ℕ → Place
place tree point field = record { tree = tree; point = point; field = field }

module _ (t : Tables) (lists : List (List ℕ)) (has : HasLists t lists) (f g : ℕ) (alike : AreAlikeIn lists f g) where
  pub mapped_alike : (r : Req) → mapped t r f ≡ mapped t r g
  mapped_alike r = ap (option_map (λ (m : Map). m.inst)) (find_same _ _ t.maps
      (λ m h. ap (λ b. (m.item == r.item) && ((m.number == r.number) && b)) (alike m.fields (has.2 m h))))

  pub starts_alike : (c : Cell) → start t (cell_to ByField f c) ≡ start t (cell_to ByField g c)
  starts_alike c = elim (cases_option (inst_at t c.inst)) [
    | inl none ↦ rw none refl
    | inr some ↦ rw (some.1, alike some.0.fields (has.1 some.0 (found_at (λ (i : Inst). i.id == c.inst) t.insts some.0 some.1).0)) refl
  ]

  -- ---- what items do at alike fields

  of_body : (item : ℕ) (i : Item) (b : ItemBody) → AreAmong lists (body_lists b) → (r : Req)
      → Contains (uses_of_item t item (record i { body = b })) r → Contains lists r.fields
  of_body item i bodies.Task among r m = has.0 r (of_filter (λ (r : Req). r.item == item) t.reqs r m).0
  of_body item i (bodies.Fill tree space fields n) among r m = rw (only m) (among fields (Contains-here []))

  uses_listed : (item : ℕ) (r : Req) → Contains (uses_of t item) r → Contains lists r.fields
  uses_listed item r m = elim (cases_option (slice_get t.items item)) [
    | inl none ↦ absurd (Contains-nil (rw none at m))
    | inr some ↦ of_body item some.0 some.0.body (has.3 some.0 (contains_at t.items item some.0 some.1)) r (rw some.1 at m)
  ]

  uses_alike : (i : Item) (rs : List Req) → ((r : Req) → Contains rs r → Contains lists r.fields) → (tree point : ℕ) (v : Value)
      → after_uses t i rs (place tree point f) v ≡ after_uses t i rs (place tree point g) v
  uses_alike i [] within tree point v = refl
  uses_alike i (r ∷ rs) within tree point v =
      ap (λ b. after_uses t i rs (place tree point f) (if (r.tree == tree) && (is_in (points_in t r.space) point && b) then changed i r v else v))
      (alike r.fields (within r (Contains-here rs)))
      ∙ uses_alike i rs (λ r m. within r (Contains-later rs m)) tree point (if covers t (place tree point g) r then changed i r v else v)

  one_alike : (item : ℕ) (o : Option Item) (tree point : ℕ) (v : Value)
      → option_map_or (λ i. after_uses t i (uses_of t item) (place tree point f) v) o v
      ≡ option_map_or (λ i. after_uses t i (uses_of t item) (place tree point g) v) o v
  one_alike item None tree point v = refl
  one_alike item (Some i) tree point v = uses_alike i (uses_of t item) (uses_listed item) tree point v

  items_alike : (items : List ℕ) (tree point : ℕ) (v : Value)
      → after_items t items (place tree point f) v ≡ after_items t items (place tree point g) v
  items_alike [] tree point v = refl
  items_alike (item ∷ items) tree point v =
      ap (after_items t items (place tree point f)) (one_alike item (slice_get t.items item) tree point v)
      ∙ items_alike items tree point _

  pub wanted_alike : (item tree point : ℕ) → wanted t item (place tree point f) ≡ wanted t item (place tree point g)
  wanted_alike item tree point = items_alike (take (serial_place t item) (serial t)) tree point (plain Init)
