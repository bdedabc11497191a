-- Items of kind `Before` meet so at a first point.
use Rattle.std.proofs.Common.{◌≡◌, ℕ, true, ◌==◌, List, [], ◌∷◌, Contains, map, refl, sym, ap, ap₂, ◌∙◌, arith}
use Rattle.vocabulary.specs.Prelude.{Kind, Place, Req, Tables, is_in, points_in, uses_of, kind_of, kind_at, item_kind, item_places, strongest, stronger}
use Rattle.privilege.specs.declared.kinds.Kind.TheVariants.{Free, Turn, Before}
use Rattle.point_laws.specs.Alike.{AreFirsts}
use Rattle.point_laws.proofs.lemmas.Values.{first_in, in_both}
use Rattle.log_laws.proofs.lemmas.Members.{is_in_of}
use Rattle.item_uses.proofs.lemmas.ItemKinds.{kinds_at, meets_here}
use Rattle.serial_scan.specs.declared.claims.Claim.{Claim}
use Rattle.serial_scan.specs.Claims.{AreAllClaims, ClaimOf}
use Rattle.serial_scan.specs.Scanned.{AreClearBefore, IsAtFirst, NoneTurnedBefore}
use Rattle.list_lemmas.proofs.lemmas.Contained.{member_map, Contains-here, Contains-later}

turn_before : (k : Kind) → stronger Turn k ≡ Before → k ≡ Before
turn_before Before e = refl
turn_before _ e = absurd cc

strongest_before : (ks : List Kind) → strongest ks ≡ Before → Contains ks Before
strongest_before [] e = absurd cc
strongest_before (Free ∷ ks) e = Contains-later ks (strongest_before ks e)
strongest_before (Turn ∷ ks) e = Contains-later ks (strongest_before ks (turn_before (strongest ks) e))
strongest_before (Before ∷ ks) e = Contains-here ks

-- Two requirements, at a place of a first point.
pub record MeetsBefore (t : Tables) (firsts : List ℕ) (a b : ℕ) : Type 0 where
  pub q : Req
  pub r : Req
  pub tree : ℕ
  pub point : ℕ
  pub field : ℕ
  pub of_a : Contains (uses_of t a) q
  pub of_b : Contains (uses_of t b) r
  pub trees : (tree ≡ q.tree) × (tree ≡ r.tree)
  pub listed : is_in firsts point ≡ true
  pub points : (is_in (points_in t q.space) point ≡ true) × (is_in (points_in t r.space) point ≡ true)
  pub fields : (is_in q.fields field ≡ true) × (is_in r.fields field ≡ true)
  pub before : kind_of q.access q.coherence r.access r.coherence ≡ Before

pub meets_before : (t : Tables) (firsts : List ℕ) → AreFirsts t firsts → (a b : ℕ) → item_kind t a b ≡ Before → MeetsBefore t firsts a b
meets_before t firsts are_firsts a b e =
    let at = member_map (kind_at t a b) (item_places t a) Before (strongest_before (map (kind_at t a b) (item_places t a)) e) in
    let h = meets_here t a b at.0 Before (strongest_before (kinds_at t a b at.0) (sym at.2)) in
    let one = is_in_of (points_in t h.q.space) at.0.point h.q_covers.1 in
    let other = is_in_of (points_in t h.r.space) at.0.point h.r_covers.1 in
    let f = first_in t firsts are_firsts h.q.space at.0.point one in
    record {
      q = h.q;
      r = h.r;
      tree = at.0.tree;
      point = f.first;
      field = at.0.field;
      of_a = h.of_a;
      of_b = h.of_b;
      trees = (sym h.q_covers.0, sym h.r_covers.0);
      listed = f.listed;
      points = (in_both t f.first at.0.point f.alike h.q.space ∙ one, in_both t f.first at.0.point f.alike h.r.space ∙ other);
      fields = (is_in_of h.q.fields at.0.field h.q_covers.2, is_in_of h.r.fields at.0.field h.r_covers.2);
      before = sym h.is;
    }

claimed_at : (t : Tables) (firsts : List ℕ) (item : ℕ) (r : Req) (c : Claim) (p : Place) → ClaimOf t item r c → p.tree ≡ r.tree
    → is_in firsts p.point ≡ true → is_in (points_in t r.space) p.point ≡ true → is_in r.fields p.field ≡ true → IsAtFirst t firsts c p
claimed_at t firsts item r c p of tree listed point field = record {
  in_tree = tree ∙ sym of.tree_is;
  listed = listed;
  at_point = ap (λ s. is_in (points_in t s) p.point) of.space_is ∙ point;
  at_field = ap (λ fs. is_in fs p.field) of.fields_are ∙ field;
}

pub none_turned : (t : Tables) (firsts : List ℕ) (claims : List Claim) (start : ℕ) → AreFirsts t firsts → AreAllClaims t claims
    → AreClearBefore t firsts claims start → NoneTurnedBefore t start
none_turned t firsts claims start are_firsts all clear a b early order e =
    let m = meets_before t firsts are_firsts a b e in
    let one = all a m.q m.of_a in
    let other = all b m.r m.of_b in
    let p : Place = record { tree = m.tree; point = m.point; field = m.field } in
    let same_item : one.c.item ≡ a = one.is.item_is in
    let other_item : other.c.item ≡ b = other.is.item_is in
    let kinds = ap₂ (λ p q. kind_of p one.c.one.coherence q other.c.one.coherence) one.is.access_is other.is.access_is
    ∙ (ap₂ (λ c d. kind_of m.q.access c m.r.access d) one.is.coherence_is other.is.coherence_is ∙ m.before) in
    let le = clear one.c one.listed (omega (arith, early, same_item)) p
    (claimed_at t firsts a m.q one.c p one.is m.trees.0 m.listed m.points.0 m.fields.0) other.c other.listed
    (omega (arith, order, same_item, other_item))
    (claimed_at t firsts b m.r other.c p other.is m.trees.1 m.listed m.points.1 m.fields.1) kinds in
    let here = one.is.position_is in
    let there = other.is.position_is in
    omega (arith, le, here, there)
