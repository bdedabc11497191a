-- What groups and their children ask for, as claims, and what is shown of children.
use Rattle.std.specs.Prelude.{◌≡◌, ℕ, ◌+◌, ◌==◌, nat_lt, true, false, List, [], ◌∷◌, ◌++◌, map, filter, length, slice_index_or, slice_set, Option, None, option_map, if◌then◌else◌}
use Rattle.std.specs.List.{list_all, range_with_len}
use Rattle.vocabulary.specs.Prelude.{Place, Req, Tables, points_in}
use Rattle.semantics.specs.declared.groups.Child.{Child}
use Rattle.semantics.specs.declared.groups.Group as groups
use Rattle.semantics.specs.declared.groups.GroupMember.{GroupMember}
use Rattle.semantics.specs.declared.groups.GroupReq.{GroupReq}
use Rattle.semantics.specs.declared.groups.Unlicensed.{Unlicensed}
use Rattle.semantics.specs.Nesting.{Nesting, as_req, is_group, unlicensed_child}
use Rattle.licences.specs.Claims.{Claimed, claimed}

-- A requirement as a claim to the points of its space.
abbrev pub claim_of : Tables → Req → Claimed
claim_of t r = claimed r.number r.tree r.space (points_in t r.space) r.fields r.access

-- The privileges of a group, in the order of their numbers.
abbrev pub row_in : Tables → Nesting → ℕ → List Claimed
row_in t n group = map (λ (q : GroupReq). claim_of t (as_req q))
    (filter (λ (q : GroupReq). q.group == group) n.privileges)

-- Those of some privileges that are a group's.
abbrev pub row_among : Tables → List GroupReq → groups.Group → List Claimed
row_among t qs g = map (λ (q : GroupReq). claim_of t (as_req q))
    (filter (λ (q : GroupReq). q.group == g.id) qs)

-- The privileges of each group.
abbrev pub rows_in : Tables → Nesting → List (List Claimed)
rows_in t n = map (λ (g : groups.Group). row_in t n g.id) n.groups

-- What an item asks for by some requirements.
abbrev pub own_by : Tables → List Req → ℕ → List Claimed
own_by t rs item = map (claim_of t) (filter (λ (r : Req). r.item == item) rs)

-- What each item asks for, and one past the last, which stands for all that are unknown.
abbrev pub own_rows_by : Tables → List Req → List (List Claimed)
own_rows_by t rs = map (own_by t rs) (range_with_len 0 (length t.items + 1))

-- The rows with one claim more of an item, if there is such a row.
abbrev pub with_own : List (List Claimed) → ℕ → Claimed → List (List Claimed)
with_own rows item c = if nat_lt item (length rows)
    then slice_set rows item (slice_index_or rows item [] ++ c ∷ []) else rows

-- Each privilege is one of a group that there is.
abbrev pub AreNamed : Nesting → Type 0
AreNamed n = list_all (λ (q : GroupReq). is_group n q.group) n.privileges ≡ true

-- What is shown of a child that is refused at a place, with the number of its requirement.
abbrev pub shown_as : Child → Option (ℕ × Place) → Option Unlicensed
shown_as child o = option_map (λ (p : ℕ × Place). record { child = child; req = p.0; place = p.1 }) o

-- What is shown of a group as a child, if it is one.
abbrev pub shown_group : Tables → Nesting → groups.Group → Option Unlicensed
shown_group t n g = if g.parent == 0 then None
    else unlicensed_child t n (record { leaf = false; id = g.id; group = g.parent })

-- What is shown of a member.
abbrev pub shown_member : Tables → Nesting → GroupMember → Option Unlicensed
shown_member t n m = unlicensed_child t n (record { leaf = true; id = m.task; group = m.group })
