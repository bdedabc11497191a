-- Points, and which spaces lie below which.
use Rattle.std.specs.Prelude.{ℕ, zero, suc, ◌==◌, Bool, false, ◌&&◌, ◌||◌, List, [], ◌∷◌, length, Option, Some, None, option_map, option_and_then, find}
use Rattle.std.specs.List.{list_any, list_all}
use Rattle.std.specs.Option.{option_map_or}
use Rattle.semantics.specs.declared.places.Place.{Place}
use Rattle.semantics.specs.Tables.{Tables, Space, Part, Sub, FieldSpace, Tree}

-- Whether two places are one.
abbrev pub same_place : Place → Place → Bool
same_place p q = (p.tree == q.tree) && ((p.point == q.point) && (p.field == q.field))

-- Whether a number is in a list.
abbrev pub is_in : List ℕ → ℕ → Bool
is_in ns n = list_any (λ m. m == n) ns

-- Whether each number of the one list is in the other.
abbrev pub is_within : List ℕ → List ℕ → Bool
is_within ns ms = list_all (is_in ms) ns

-- Whether two lists have a number in common.
abbrev pub meets : List ℕ → List ℕ → Bool
meets ns ms = list_any (is_in ms) ns

-- The points of the space with this id. A space that is not declared has none.
abbrev pub points_in : Tables → ℕ → List ℕ
points_in t id = option_map_or (λ (s : Space). s.points) (find (λ (s : Space). s.id == id) t.spaces) []

-- The region tree with this id.
abbrev pub tree_at : Tables → ℕ → Option Tree
tree_at t id = find (λ (r : Tree). r.id == id) t.trees

-- The fields of a field space.
abbrev pub fields_in : Tables → ℕ → List ℕ
fields_in t id = option_map_or (λ (f : FieldSpace). f.fields)
    (find (λ (f : FieldSpace). f.id == id) t.field_spaces) []

-- The partition with this id.
abbrev pub part_at : Tables → ℕ → Option Part
part_at t id = find (λ (p : Part). p.id == id) t.parts

-- The space above a space: the one that is split by the partition of which it is a subspace.
abbrev pub space_above : Tables → ℕ → Option ℕ
space_above t space = option_and_then (λ (s : Sub). option_map (λ (p : Part). p.space) (part_at t s.part))
    (find (λ (s : Sub). s.space == space) t.subs)

-- A space, if there is one, and the spaces above it, the nearest first: so many at most.
abbrev pub upward : Tables → ℕ → Option ℕ → List ℕ
upward t zero space = []
upward t (suc n) None = []
upward t (suc n) (Some space) = space ∷ upward t n (space_above t space)

-- All spaces above a space. There are no more of them than subspaces, since no space lies above itself.
abbrev pub spaces_above : Tables → ℕ → List ℕ
spaces_above t space = upward t (length t.subs) (space_above t space)

-- Whether a space is the root space of a tree, or lies below it.
abbrev pub is_in_tree : Tables → ℕ → ℕ → Bool
is_in_tree t tree space = option_map_or
    (λ (r : Tree). (space == r.space) || is_in (spaces_above t space) r.space) (tree_at t tree) false
