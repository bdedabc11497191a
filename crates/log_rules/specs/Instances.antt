-- What rules ask of instances, and of the requirements that are mapped to them. A requirement, an instance or a
-- tree that is named may be none.
use Rattle.std.specs.Prelude.{ℕ, ◌==◌, ◌&&◌, not, Bool, false, List, [], Option}
use Rattle.std.specs.List.{list_any}
use Rattle.std.specs.Option.{option_map_or}
use Rattle.vocabulary.specs.Prelude.{Req, Inst, Tree, Map, Tables, points_in, is_within, meets}
use Rattle.semantics.specs.Rules.{fits, is_reduction}
use Rattle.log_tables.specs.Mapped.{names_field}

-- Whether an instance is of a tree.
abbrev pub is_inst_of : Option ℕ → Option Inst → Bool
is_inst_of tree inst = option_map_or (λ (i : Inst). option_map_or (λ n. i.tree == n) tree false) inst false

-- Whether it is a reduction instance.
abbrev pub is_reducing : Option Inst → Bool
is_reducing inst = option_map_or (λ (i : Inst). is_reduction i.kind) inst false

-- Whether a requirement may be mapped to an instance.
abbrev pub fits_inst : Option Req → Option Inst → Bool
fits_inst req inst =
    option_map_or (λ (r : Req). option_map_or (λ (i : Inst). fits r.access i.kind) inst false) req false

-- Whether an instance lacks one of these points or fields.
abbrev pub is_lacking : Tables → List ℕ → List ℕ → Option Inst → Bool
is_lacking t points fields inst = not (option_map_or
    (λ (i : Inst). is_within points (points_in t i.space) && is_within fields i.fields) inst false)

-- The points of the root space of a tree.
abbrev pub root_points : Tables → Option Tree → List ℕ
root_points t tree = option_map_or (λ (r : Tree). points_in t r.space) tree []

-- Whether a field of a requirement is mapped.
abbrev pub is_mapped : Tables → ℕ → ℕ → ℕ → Bool
is_mapped t item number field = list_any
    (λ (m : Map). names_field m.item m.number m.fields
    (record { item = item; number = number; field = field })) t.maps

-- Whether a map has one of some fields of a requirement.
abbrev pub is_any_mapped : Tables → ℕ → ℕ → List ℕ → Bool
is_any_mapped t item number fields =
    list_any (λ (m : Map). (m.item == item) && ((m.number == number) && meets m.fields fields)) t.maps
