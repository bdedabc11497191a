-- What items ask for, as claims.
use Rattle.std.specs.Prelude.{◌≡◌, ℕ, List, Contains}
use Rattle.vocabulary.specs.Prelude.{Req, Tables, uses_of}
use Rattle.semantics.specs.SerialOrder.{serial_place}
use Rattle.serial_scan.specs.declared.claims.Claim.{Claim}

-- A claim is a requirement of an item, with the place of the item in serial order.
pub record ClaimOf (t : Tables) (item : ℕ) (r : Req) (c : Claim) : Type 0 where
  pub item_is : c.item ≡ item
  pub tree_is : c.tree ≡ r.tree
  pub space_is : c.space ≡ r.space
  pub fields_are : c.fields.now ≡ r.fields
  pub position_is : c.one.position ≡ serial_place t item
  pub access_is : c.one.access ≡ r.access
  pub coherence_is : c.one.coherence ≡ r.coherence

-- Some claim is.
pub record HasClaim (t : Tables) (claims : List Claim) (item : ℕ) (r : Req) : Type 0 where
  pub c : Claim
  pub listed : Contains claims c
  pub is : ClaimOf t item r c

-- No claim is lost.
abbrev pub Keeps : List Claim → List Claim → Type 0
Keeps old new = (c : Claim) → Contains old c → Contains new c

-- All that items ask for is among the claims.
abbrev pub AreAllClaims : Tables → List Claim → Type 0
AreAllClaims t claims = (item : ℕ) (r : Req) → Contains (uses_of t item) r → HasClaim t claims item r
