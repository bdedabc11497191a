-- Claims that are clear of later ones, and items that stand in serial order as in program order.
use Rattle.std.specs.Prelude.{◌≡◌, ℕ, ◌<◌, ◌≤◌, true, List, Contains}
use Rattle.privilege.specs.declared.kinds.Kind.TheVariants.{Before}
use Rattle.vocabulary.specs.Prelude.{Place, Tables, is_in, points_in, item_kind, kind_of}
use Rattle.semantics.specs.SerialOrder.{serial_place}
use Rattle.serial_scan.specs.declared.claims.Claim.{Claim}

-- A claim covers a place at one of these points.
pub record IsAtFirst (t : Tables) (firsts : List ℕ) (c : Claim) (p : Place) : Type 0 where
  pub in_tree : p.tree ≡ c.tree
  pub listed : is_in firsts p.point ≡ true
  pub at_point : is_in (points_in t c.space) p.point ≡ true
  pub at_field : is_in c.fields.now p.field ≡ true

-- The claims of later items that cover one of these places too, and may not change places with it, are not
-- earlier in serial order.
abbrev pub IsClear : Tables → List ℕ → List Claim → Claim → Type 0
IsClear t firsts claims c = (p : Place) → IsAtFirst t firsts c p → (d : Claim) → Contains claims d
    → c.item < d.item → IsAtFirst t firsts d p
    → kind_of c.one.access c.one.coherence d.one.access d.one.coherence ≡ Before
    → c.one.position ≤ d.one.position

-- The claims of all items before one are.
abbrev pub AreClearBefore : Tables → List ℕ → List Claim → ℕ → Type 0
AreClearBefore t firsts claims first = (c : Claim) → Contains claims c → c.item < first
    → IsClear t firsts claims c

-- No item before one is the first of a pair of kind `Before` that stands against program order.
abbrev pub NoneTurnedBefore : Tables → ℕ → Type 0
NoneTurnedBefore t start = (a b : ℕ) → a < start → a < b → item_kind t a b ≡ Before
    → serial_place t a ≤ serial_place t b
