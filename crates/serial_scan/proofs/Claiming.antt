-- Claims of what items ask for.
use Rattle.std.proofs.Common.{◌≡◌, ℕ, ◌<◌, ◌==◌, inl, inr, true, false, List, [], ◌∷◌, ◌++◌, Contains, length, get_or, slice_get, Option, Some, None, refl, sym, ap, ◌∙◌, subst}
use Rattle.std.specs.Option.{option_map_or}
use Rattle.std.specs.List.Sorted.{IsPermutation}
use Rattle.std.proofs.lemmas.Bool.{cases_Bool, true≢false, eqb-true}
use Rattle.std.proofs.lemmas.List.Sorted.{Contains-permutation}
use Rattle.std.proofs.lemmas.Option.{slice_get-get_or, slice_get_within}
use Rattle.privilege.specs.declared.kinds.Priv.TheVariants.{Wd}
use Rattle.privilege.specs.declared.kinds.Coherence.TheVariants.{Exclusive}
use Rattle.vocabulary.specs.Prelude.{Item, ItemBody, Req, Tables, reqs_of, uses_of, uses_of_item}
use Rattle.semantics.specs.declared.tables.ItemBody.TheVariants.{Task, Fill}
use Rattle.semantics.specs.Rules.{is_task}
use Rattle.semantics.specs.SerialOrder.{serial_place}
use Rattle.semantics.specs.Shown.{is_task_at}
use Rattle.std.proofs.lemmas.List.Elements.{Contains-append_left, Contains-append_right, Contains-append_cases}
use Rattle.list_lemmas.proofs.lemmas.Contained.{only, Contains-here, Contains-nil}
use Rattle.list_lemmas.proofs.lemmas.Filtered.{of_filter}
use Rattle.list_lemmas.proofs.lemmas.Firsts.{cases_option}
use Rattle.serial_scan.specs.declared.claims.Claim.{Claim}
use Rattle.serial_scan.specs.Claims.{AreAllClaims, ClaimOf, HasClaim, Keeps}

-- ---- lists of claims that grow

pub kept_more : (old new : List Claim) (c : Claim) → new ≡ old ++ c ∷ [] → Keeps old new
kept_more old new c is d m = subst (λ cs. Contains cs d) (sym is) (Contains-append_left old (c ∷ []) d m)

pub claim_more : (t : Tables) (old new : List Claim) (c : Claim) (item : ℕ) (r : Req) → new ≡ old ++ c ∷ [] → ClaimOf t item r c
    → HasClaim t new item r
claim_more t old new c item r is of = record {
  c = c;
  listed = subst (λ cs. Contains cs c) (sym is) (Contains-append_right old (c ∷ []) c (Contains-here []));
  is = of;
}

pub claim_still : (t : Tables) (old new : List Claim) (item : ℕ) (r : Req) → Keeps old new → HasClaim t old item r
    → HasClaim t new item r
claim_still t old new item r keeps h = record { c = h.c; listed = keeps h.c h.listed; is = h.is }

pub kept_moved : (old new : List Claim) → IsPermutation old new → Keeps old new
kept_moved old new moved c m = Contains-permutation old new c moved m

-- The claims of all of some requirements.
abbrev pub AreAdded : Tables → List Claim → List Req → Type 0
AreAdded t claims reqs = (r : Req) → Contains reqs r → r.item < length t.items → HasClaim t claims r.item r

pub reqs_more : (t : Tables) (old new : List Claim) (reqs : List Req) (r : Req) → Keeps old new → AreAdded t old reqs
    → (r.item < length t.items → HasClaim t new r.item r) → AreAdded t new (reqs ++ r ∷ [])
reqs_more t old new reqs r keeps h own q m lt = elim (Contains-append_cases reqs (r ∷ []) q m) [
  | inl early ↦ claim_still t old new q.item q keeps (h q early lt)
  | inr late ↦
      let is : q ≡ r = only late in
      subst (λ (q : Req). HasClaim t new q.item q) (sym is) (own (subst (λ (q : Req). q.item < length t.items) is lt))
]

-- ---- what an item asks for

body_uses : (t : Tables) (a : ℕ) (i : Item) → is_task i.body ≡ true → (r : Req) → Contains (uses_of_item t a i) r
    → Contains t.reqs r × (r.item ≡ a)
body_uses t a i e r m = by i.body e m
  where
    by : (b : ItemBody) → is_task b ≡ true
        → Contains (elim b [
          | Task ↦ reqs_of t a
          | Fill tree space fields n ↦ record {
            item = a;
            number = 0;
            line = i.line;
            tree = tree;
            space = space;
            fields = fields;
            access = Wd;
            coherence = Exclusive;
          } ∷ []
        ]) r → Contains t.reqs r × (r.item ≡ a)
    by Task e m = let f = of_filter (λ (r : Req). r.item == a) t.reqs r m in (f.0, eqb-true r.item a f.1)
    by (Fill tree space fields n) e m = absurd (true≢false (sym e))

pub task_req : (t : Tables) (a : ℕ) (r : Req) → is_task_at t a ≡ true → Contains (uses_of t a) r → Contains t.reqs r × (r.item ≡ a)
task_req t a r = by (slice_get t.items a)
  where
    by : (o : Option Item) → option_map_or (λ (i : Item). is_task i.body) o false ≡ true
        → Contains (option_map_or (uses_of_item t a) o []) r → Contains t.reqs r × (r.item ≡ a)
    by None e m = absurd (true≢false (sym e))
    by (Some i) e m = body_uses t a i e r m

pub asks_within : (t : Tables) (a : ℕ) (r : Req) → Contains (uses_of t a) r → a < length t.items
asks_within t a r m = elim (cases_option (slice_get t.items a)) [
  | inl none ↦ absurd (Contains-nil (subst (λ o. Contains (option_map_or (uses_of_item t a) o []) r) none m))
  | inr some ↦ slice_get_within t.items a some.0 some.1
]

-- The claims of all requirements, and those of what items ask for by themselves, are all.
pub all_claims : (t : Tables) (claims : List Claim)
    → ((r : Req) → Contains t.reqs r → r.item < length t.items → HasClaim t claims r.item r)
    → ((item : ℕ) → item < length t.items → is_task_at t item ≡ false → (r : Req) → Contains (uses_of t item) r
    → HasClaim t claims item r) → AreAllClaims t claims
all_claims t claims tasks fills item r m =
    let within = asks_within t item r m in
    elim (cases_Bool (is_task_at t item)) [
      | inl task ↦
          let of = task_req t item r task m in
          subst (λ a. HasClaim t claims a r) of.1 (tasks r of.0 (subst (λ a. a < length t.items) (sym of.1) within))
      | inr other ↦ fills item within other r m
    ]

-- What a fill asks for.
abbrev fill_req : ℕ → Item → ℕ → ℕ → List ℕ → Req
fill_req a i tree space fields = record {
  item = a;
  number = 0;
  line = i.line;
  tree = tree;
  space = space;
  fields = fields;
  access = Wd;
  coherence = Exclusive;
}

-- A fill asks for one thing.
fill_asks : (t : Tables) (a : ℕ) (i : Item) (tree space : ℕ) (fields : List ℕ) (n : ℕ) → slice_get t.items a ≡ Some i
    → i.body ≡ Fill tree space fields n → (r : Req) → Contains (uses_of t a) r → r ≡ fill_req a i tree space fields
fill_asks t a i tree space fields n at body r m = only (rw (at, body) at m)

pub fill_claim : (t : Tables) (a : ℕ) (i : Item) (tree space : ℕ) (fields : List ℕ) (n : ℕ) (c : Claim)
    → slice_get t.items a ≡ Some i → i.body ≡ Fill tree space fields n
    → c.item ≡ a → c.tree ≡ tree → c.space ≡ space → c.fields.now ≡ fields → c.one.position ≡ serial_place t a → c.one.access ≡ Wd
    → c.one.coherence ≡ Exclusive → (r : Req) → Contains (uses_of t a) r → ClaimOf t a r c
fill_claim t a i tree space fields n c at body item_is tree_is space_is fields_are position_is access_is coherence_is r m =
    let e = fill_asks t a i tree space fields n at body r m in
    record {
      item_is = item_is;
      tree_is = tree_is ∙ sym (ap (λ (r : Req). r.tree) e);
      space_is = space_is ∙ sym (ap (λ (r : Req). r.space) e);
      fields_are = fields_are ∙ sym (ap (λ (r : Req). r.fields) e);
      position_is = position_is;
      access_is = access_is ∙ sym (ap (λ (r : Req). r.access) e);
      coherence_is = coherence_is ∙ sym (ap (λ (r : Req). r.coherence) e);
    }

-- A task.
pub task_is : (t : Tables) (a : ℕ) (i : Item) → slice_get t.items a ≡ Some i → i.body ≡ Task → is_task_at t a ≡ true
task_is t a i at body = rw (at, body) refl

-- The item at a position of a list that is that of the items.
pub item_here : (its items : List Item) (a : ℕ) (i : Item) → its ≡ items → a < length its → i ≡ get_or its a i
    → slice_get items a ≡ Some i
item_here its items a i same lt at = ap (λ xs. slice_get xs a) (sym same) ∙ slice_get-get_or its a i lt ∙ ap (λ z. Some z) (sym at)
