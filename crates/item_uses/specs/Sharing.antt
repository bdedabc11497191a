-- What two items share, from their requirements alone.
use Rattle.std.specs.Prelude.{ℕ, ◌==◌, nat_lt, List, [], ◌∷◌, map, filter, flat_map, Option, Some, None, is_some, if◌then◌else◌}
use Rattle.std.specs.List.{filter_map}
use Rattle.vocabulary.specs.Prelude.{Kind, kind_of, Place, is_in, strongest, is_free, least_of, lesser}
use Rattle.privilege.specs.declared.kinds.Kind.TheVariants.{Free}
use Rattle.item_uses.specs.Usages.{Usage}

-- The least of some numbers.
abbrev pub less_or : ℕ → Option ℕ → ℕ
less_or n None = n
less_or n (Some m) = if nat_lt m n then m else n

abbrev pub least_number : List ℕ → Option ℕ
least_number [] = None
least_number (n ∷ ns) = Some (less_or n (least_number ns))

-- The least number of both lists.
abbrev pub least_shared : List ℕ → List ℕ → Option ℕ
least_shared ns ms = least_number (filter (is_in ms) ns)

-- A place, from its point and its field, where there are both.
abbrev pub place_at : ℕ → Option ℕ → Option ℕ → Option Place
place_at tree (Some point) (Some field) = Some (record { tree = tree; point = point; field = field })
place_at tree _ _ = None

-- The least place that two requirements share.
abbrev pub shared_place : Usage → Usage → Option Place
shared_place q r = if q.tree == r.tree
    then place_at q.tree (least_shared q.points r.points) (least_shared q.fields r.fields) else None

abbrev pub usage_kind : Usage → Usage → Kind
usage_kind q r = kind_of q.access q.coherence r.access r.coherence

-- How two requirements interfere: the kind where they share a place.
abbrev pub shared_kind : Usage → Usage → Kind
shared_kind q r = if is_some (shared_place q r) then usage_kind q r else Free

-- The least place at which two requirements interfere.
abbrev pub kind_place : Usage → Usage → Option Place
kind_place q r = if is_free (usage_kind q r) then None else shared_place q r

-- The same of two lists of requirements: the strongest kind, and the least place.
abbrev pub kind_between : List Usage → List Usage → Kind
kind_between qs rs = strongest (flat_map (λ q. map (shared_kind q) rs) qs)

abbrev pub place_between : List Usage → List Usage → Option Place
place_between qs rs = least_of (flat_map (λ q. filter_map (kind_place q) rs) qs)

-- The lesser of two places, where there are two.
abbrev pub lesser_place : Option Place → Option Place → Option Place
lesser_place None o = o
lesser_place (Some p) o = Some (lesser p o)
