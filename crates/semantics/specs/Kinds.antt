-- What items do where, and how two items interfere. Items are named by position.
use Rattle.std.specs.Prelude.{ℕ, ◌+◌, ◌-◌, ◌==◌, nat_lt, Bool, true, false, not, ◌&&◌, ◌||◌, List, [], ◌∷◌, map, filter, flat_map, length, Option, Some, None, slice_get, if◌then◌else◌}
use Rattle.std.specs.List.{range_with_len}
use Rattle.std.specs.Option.{option_map_or}
use Rattle.privilege.specs.declared.kinds.Priv.TheVariants.{Wd}
use Rattle.privilege.specs.declared.kinds.Coherence.TheVariants.{Exclusive}
use Rattle.privilege.specs.declared.kinds.Kind.{Kind}
use Rattle.privilege.specs.declared.kinds.Kind.TheVariants.{Free, Before}
use Rattle.privilege.specs.Interference.{kind_of, stronger}
use Rattle.semantics.specs.declared.places.Place.{Place}
use Rattle.semantics.specs.declared.tables.Item.{Item}
use Rattle.semantics.specs.declared.tables.ItemBody.TheVariants.{Task, Fill}
use Rattle.semantics.specs.declared.tables.Req.{Req}
use Rattle.semantics.specs.Tables.{Tables}
use Rattle.semantics.specs.Points.{is_in, points_in}

-- The requirements of an item, in the order of their lines, which is that of their numbers.
abbrev pub reqs_of : Tables → ℕ → List Req
reqs_of t item = filter (λ (r : Req). r.item == item) t.reqs

-- What an item asks for: a task its requirements; a fill to write, and to see nothing of the old contents.
abbrev pub uses_of_item : Tables → ℕ → Item → List Req
uses_of_item t item i = elim i.body [
  | Task ↦ reqs_of t item
  | Fill tree space fields n ↦ record {
    item = item;
    number = 0;
    line = i.line;
    tree = tree;
    space =
        space;
    fields = fields;
    access = Wd;
    coherence = Exclusive;
  } ∷ []
]

abbrev pub uses_of : Tables → ℕ → List Req
uses_of t item = option_map_or (uses_of_item t item) (slice_get t.items item) []

-- All pairs of a point and a field: point by point, and at each point field by field.
abbrev pub grid : List ℕ → List ℕ → List (ℕ × ℕ)
grid points fields = flat_map (λ x. map (λ f. (x, f)) fields) points

-- The points and fields of a requirement.
abbrev pub req_grid : Tables → Req → List (ℕ × ℕ)
req_grid t r = grid (points_in t r.space) r.fields

-- Whether a requirement covers a place.
abbrev pub covers : Tables → Place → Req → Bool
covers t p r = (r.tree == p.tree) && (is_in (points_in t r.space) p.point && is_in r.fields p.field)

-- The places that an item covers.
abbrev pub item_places : Tables → ℕ → List Place
item_places t item =
    flat_map (λ (r : Req). map (λ (p : ℕ × ℕ). record { tree = r.tree; point = p.0; field = p.1 })
    (req_grid t r)) (uses_of t item)

-- The strongest of some kinds, and `Free` of none.
abbrev pub strongest : List Kind → Kind
strongest [] = Free
strongest (k ∷ ks) = stronger k (strongest ks)

-- The kind of two items at a place: the strongest over the requirements of the one and of the other that
-- cover it.
abbrev pub kind_at : Tables → ℕ → ℕ → Place → Kind
kind_at t a b p = strongest (flat_map
    (λ (q : Req). map (λ (r : Req). kind_of q.access q.coherence r.access r.coherence)
    (filter (covers t p) (uses_of t b))) (filter (covers t p) (uses_of t a)))

-- The kind of two items: the strongest over the places that they cover.
abbrev pub item_kind : Tables → ℕ → ℕ → Kind
item_kind t a b = strongest (map (kind_at t a b) (item_places t a))

abbrev pub is_free : Kind → Bool
is_free Free = true
is_free _ = false

abbrev pub is_before : Kind → Bool
is_before Before = true
is_before _ = false

-- Two items interfere where their kind is not `Free`. These are the pairs that do, each in program order: by
-- the first item, and then by the second.
abbrev pub pairs : Tables → List (ℕ × ℕ)
pairs t = flat_map (λ a. map (λ b. (a, b))
    (filter (λ b. not (is_free (item_kind t a b))) (range_with_len (a + 1) (length t.items - (a + 1)))))
    (range_with_len 0 (length t.items))

-- Places, and cells, go by tree or instance, then by point, and then by field.
abbrev pub comes_first : ℕ × ℕ × ℕ → ℕ × ℕ × ℕ → Bool
comes_first p q = nat_lt p.0 q.0 || ((p.0 == q.0) && (nat_lt p.1 q.1 || ((p.1 == q.1) && nat_lt p.2 q.2)))

-- The least of some places.
abbrev pub lesser : Place → Option Place → Place
lesser p None = p
lesser p (Some q) = if comes_first (q.tree, q.point, q.field) (p.tree, p.point, p.field) then q else p

abbrev pub least_of : List Place → Option Place
least_of [] = None
least_of (p ∷ ps) = Some (lesser p (least_of ps))

-- The least place at which two items interfere. The kind there need not be the kind of the two items.
abbrev pub least_place : Tables → ℕ → ℕ → Option Place
least_place t a b = least_of (filter (λ p. not (is_free (kind_at t a b p))) (item_places t a))
