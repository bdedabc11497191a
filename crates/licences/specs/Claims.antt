-- What is asked for at places, or allowed there.
use Rattle.std.specs.Prelude.{◌≡◌, ℕ, ◌==◌, All, Bool, not, ◌&&◌, List, [], ◌∷◌, map, filter, Option, Some, None}
use Rattle.std.specs.Option.{option_map, option_or}
use Rattle.std.specs.List.{list_any}
use Rattle.privilege.specs.Allowed.{contains}
use Rattle.vocabulary.specs.Prelude.{Priv, Place, agree, grid, is_in, meets, least_of, lesser}

-- Some fields of the points of a space of a tree, and a privilege, with the number that it has among others.
pub record Claimed : Type 0 where
  pub number : ℕ
  pub tree : ℕ
  pub space : ℕ
  pub points : List ℕ
  pub fields : List ℕ
  pub access : Priv

abbrev pub claimed : ℕ → ℕ → ℕ → List ℕ → List ℕ → Priv → Claimed
claimed number tree space points fields access =
    record { number = number; tree = tree; space = space; points = points; fields = fields; access = access }

-- Those of some claims that are to one space with another are to the same points.
abbrev pub AreOfSpaces : List Claimed → Claimed → Type 0
AreOfSpaces cs c = All (λ (d : Claimed). d.space ≡ c.space → d.points ≡ c.points) cs

-- Whether a claim covers a place.
abbrev pub holds : Place → Claimed → Bool
holds p c = (c.tree == p.tree) && (is_in c.points p.point && is_in c.fields p.field)

-- Whether one of some claims covers a place, and its privilege contains this one.
abbrev pub allows : List Claimed → Place → Priv → Bool
allows cs p access = list_any (λ c. holds p c && contains c.access access) cs

-- The places of a claim.
abbrev pub places : Claimed → List Place
places c = map (λ (p : ℕ × ℕ). record { tree = c.tree; point = p.0; field = p.1 }) (grid c.points c.fields)

-- The least place of a claim at which none of these allows what it asks for.
abbrev pub refused : List Claimed → Claimed → Option Place
refused cs c = least_of (filter (λ p. not (allows cs p c.access)) (places c))

-- The number of the first of some claims that is refused, and the least place at which it is.
abbrev pub first_refused : List Claimed → List Claimed → Option (ℕ × Place)
first_refused cs [] = None
first_refused cs (c ∷ rest) = option_or (option_map (λ p. (c.number, p)) (refused cs c))
    (first_refused cs rest)

-- Whether two claims share a place, and their privileges do not agree.
abbrev pub conflict : Claimed → Claimed → Bool
conflict c d = (c.tree == d.tree) &&
    (meets c.fields d.fields && (meets c.points d.points && not (agree c.access d.access)))

-- The lesser of two places, where there are two.
abbrev pub lesser_place : Option Place → Option Place → Option Place
lesser_place None o = o
lesser_place (Some p) None = Some p
lesser_place (Some p) (Some q) = Some (lesser p (Some q))
