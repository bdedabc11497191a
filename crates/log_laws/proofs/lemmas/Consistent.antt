-- What the rules on records make of the tables: requirements, maps and instances fit each other.
use Rattle.std.proofs.Common.{◌≡◌, ◌≢◌, ℕ, ◌<◌, ◌≤◌, ◌⊎◌, inl, inr, true, false, not, ◌&&◌, ◌==◌, List, [], ◌∷◌, ◌++◌, refl, sym, ap, ◌∙◌, arith, Option, Some, option_map, is_some, Contains, AllPairs}
use Rattle.std.specs.List.{list_any, list_all}
use Rattle.std.specs.Option.{option_map_or}
use Rattle.std.proofs.lemmas.Bool.{not-false, eq-eqb, eqb-true}
use Rattle.std.proofs.lemmas.List.Sums.{sum_by-append}
use Rattle.std.proofs.lemmas.List.Folds.{list_any-append}
use Rattle.vocabulary.specs.Prelude.{Rect, Record, Priv, agree, Req, Inst, Map, Tables, Space, with_space, with_record, no_tables, place_of, reqs_before, meets, points_in, grid, req_grid, req_at, inst_at}
use Rattle.spy_grammar.specs.declared.record.Record.TheVariants as records
use Rattle.privilege.specs.declared.kinds.Priv.TheVariants as privileges
use Rattle.semantics.specs.Rules.{is_declared, names, space_id, lacks_req, interferes_with_own, is_of_wrong_tree}
use Rattle.log_laws.proofs.lemmas.Members.{meets_of}
use Rattle.log_laws.proofs.lemmas.Apart.{member_grid}
use Rattle.list_lemmas.proofs.lemmas.Contained.{each_more, none_at, all_at, find_any, find_still, Contains-nil}
use Rattle.list_lemmas.proofs.lemmas.Pairs.{Apart, AllPairs-so, AllPairs-push, AllPairs-cases, AllPairs-nil}

-- Two requirements agree, if they share a place.
abbrev pub AgreeWhere : Tables → Req → Req → Type 0
AgreeWhere t q r = (p : ℕ × ℕ) → Contains (req_grid t q) p → Contains (req_grid t r) p → q.tree ≡ r.tree → agree q.access r.access ≡ true

-- Of two requirements of one item the later has the larger number, and they agree where they share a place.
abbrev pub FitTogether : Tables → Req → Req → Type 0
FitTogether t q r = q.item ≡ r.item → (q.number < r.number) × AgreeWhere t q r

-- A map names a requirement and an instance, which are of one tree.
abbrev Names : Tables → Map → Type 0
Names t m = (r : Req) × (i : Inst) × (req_at t m.item m.number ≡ Some r) × (inst_at t m.inst ≡ Some i) × (i.tree ≡ r.tree)

-- No number of a requirement is above the count of its item's, and its space is declared. Requirements fit together, and each map names one.
pub record AreConsistent (t : Tables) : Type 0 where
  pub known : (r : Req) → Contains t.reqs r → (r.number ≤ reqs_before t.reqs r.item) × (is_declared t (space_id r.space) ≡ true)
  pub reqs : AllPairs (FitTogether t) t.reqs
  pub named : (x : Map) → Contains t.maps x → Names t x

-- The rules that matter here.
pub record Keeps (t : Tables) (r : Record) : Type 0 where
  pub declared : list_all (is_declared t) (names r) ≡ true
  pub named : lacks_req t r ≡ false
  pub own : interferes_with_own t r ≡ false
  pub tree : is_of_wrong_tree t r ≡ false

-- ---- one entry more

grid_stays : (t : Tables) (s : Space) (r : Req) → is_declared t (space_id r.space) ≡ true
    → req_grid (record t { spaces = t.spaces ++ s ∷ [] }) r ≡ req_grid t r
grid_stays t s r e =
    let found = find_any (λ (s : Space). s.id == r.space) t.spaces e in
    ap (λ o. grid (option_map_or (λ (s : Space). s.points) o []) r.fields)
    (find_still (λ (s : Space). s.id == r.space) t.spaces (s ∷ []) found.0 found.1 ∙ sym found.1)

-- A requirement that does not interfere with its own task's agrees with each of them where they share a place.
agrees : (t : Tables) (item tree space : ℕ) (fields : List ℕ) (access : Priv)
    → list_any (λ (q : Req). (q.item == item) &&
    ((q.tree == tree) && (meets (points_in t q.space) (points_in t space)
    && (meets q.fields fields && not (agree q.access access))))) t.reqs ≡ false
    → (q : Req) → Contains t.reqs q → q.item ≡ item → (p : ℕ × ℕ) → Contains (req_grid t q) p → Contains (grid (points_in t space) fields) p
    → q.tree ≡ tree → agree q.access access ≡ true
agrees t item tree space fields access none q m at p in_q in_r of =
    let a = member_grid (points_in t q.space) q.fields p in_q in
    let b = member_grid (points_in t space) fields p in_r in
    not-false _ (rw (
      eq-eqb q.item item at,
      eq-eqb q.tree tree of,
      meets_of (points_in t q.space) (points_in t space) p.0 a.0 b.0,
      meets_of q.fields fields p.1 a.1 b.1,
    ) at (none_at _ t.reqs q none m))

-- Where a `map` names a requirement, and an instance of its tree, these are found.
named_by : (o : Option Req) (p : Option Inst) → not (is_some o) ≡ false
    → not (option_map_or (λ (i : Inst). option_map_or (λ n. i.tree == n) (option_map (λ (r : Req). r.tree) o) false) p false) ≡ false
    → (r : Req) × (i : Inst) × (o ≡ Some r) × (p ≡ Some i) × (i.tree ≡ r.tree)
named_by (Some r) (Some i) known of = (r, i, refl, refl, eqb-true i.tree r.tree (not-false _ of))
named_by _ _ known of = absurd cc

with_one : (t : Tables) (id : ℕ) (points : List ℕ) (rects : List Rect) → AreConsistent t → AreConsistent (with_space t id points rects)
with_one t id points rects h = record {
  known = λ r m. ((h.known r m).0, list_any-append (λ (s : Space). s.id == r.space) t.spaces _ ∙ rw (h.known r m).1 refl);
  reqs = AllPairs-so (FitTogether t) (FitTogether (with_space t id points rects)) t.reqs (λ q r a b fit item. (
    (fit item).0,
    rw (grid_stays t _ q (h.known q a).1, grid_stays t _ r (h.known r b).1) (fit item).1,
  )) h.reqs;
  named = h.named;
}

-- The tables stay consistent with each record that keeps the rules.
pub with_kept : (t : Tables) (line : ℕ) (r : Record) → Keeps t r → AreConsistent t → AreConsistent (with_record t line r)
with_kept t line (records.Ispace id set) k h = with_one t id _ _ h
with_kept t line (records.Plane id quads) k h = with_one t id _ _ h
with_kept t line (records.Req task tree space fields access atomic) k h =
    let declared = all_at (is_declared t) (names (records.Req task tree space fields access atomic)) (space_id space) k.declared
    (2, omega arith, refl) in
    record {
      known = each_more _ t.reqs _ (λ r m. (omega (arith, sum_by-append {X = Req}, (h.known r m).0), (h.known r m).1))
          (rw (sum_by-append, eq-eqb (place_of t.items task) (place_of t.items task) refl) (omega arith), declared);
      reqs = AllPairs-push (FitTogether t) t.reqs _ h.reqs
          (λ q m item. (omega (arith, (h.known q m).0, ap (reqs_before t.reqs) item), agrees t _ tree space fields _ k.own q m item));
      named = λ m is. let n = h.named m is in (
        n.0,
        n.1,
        find_still (λ (r : Req). (r.item == m.item) && (r.number == m.number)) t.reqs _ n.0 n.2,
        n.3,
        n.4,
      );
    }
with_kept t line (records.Inst id tree space fields kind) k h = record {
  known = h.known;
  reqs = h.reqs;
  named = λ m is. let n = h.named m is in (n.0, n.1, n.2, find_still (λ (i : Inst). i.id == m.inst) t.insts _ n.1 n.3, n.4);
}
with_kept t line (records.Map task number fields inst) k h =
    record { known = h.known; reqs = h.reqs; named = each_more (Names t) t.maps _ h.named (named_by _ _ k.named k.tree) }
with_kept t line _ k h = record { known = h.known; reqs = h.reqs; named = h.named }

pub nothing_consistent : AreConsistent no_tables
nothing_consistent = record { known = λ r m. absurd (Contains-nil m); reqs = AllPairs-nil (FitTogether no_tables); named = λ m is. absurd (Contains-nil is) }

-- ---- what follows

agree_back : (p q : Priv) → agree p q ≡ true → agree q p ≡ true
agree_back privileges.Ro privileges.Ro e = refl
agree_back (privileges.Red a) (privileges.Red b) e = eq-eqb b a (sym (eqb-true a b e))
agree_back _ _ e = absurd cc

-- Two requirements of one item are one, or they have different numbers and agree where they share a place.
pub two_reqs : (t : Tables) → AreConsistent t → (q r : Req) → Contains t.reqs q → Contains t.reqs r → q.item ≡ r.item → (q ≡ r)
    ⊎ ((q.number ≢ r.number) × AgreeWhere t q r)
two_reqs t consistent q r a b item = elim (AllPairs-cases (FitTogether t) t.reqs consistent.reqs q r a b) [
  | inl is ↦ inl is
  | inr (inl before) ↦ let fit = before item in inr (λ e. omega (arith, fit.0, e), fit.1)
  | inr (inr after) ↦ let fit = after (sym item) in
      inr (λ e. omega (arith, fit.0, e), λ p in_q in_r tree. agree_back r.access q.access (fit.1 p in_r in_q (sym tree)))
]

pub reqs_apart : (t : Tables) → AreConsistent t → Apart t.reqs
reqs_apart t consistent = AllPairs-so (FitTogether t) (λ q r. q ≢ r) t.reqs
    (λ q r _ _ fit e. omega (arith, (fit (ap (λ (r : Req). r.item) e)).0, ap (λ (r : Req). r.number) e)) consistent.reqs
