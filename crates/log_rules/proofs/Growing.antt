-- What one record more adds to tables, and what it leaves as it was.
use Rattle.std.proofs.Common.{◌≡◌, ℕ, ◌+◌, ◌*◌, ◌-◌, ◌<◌, ◌≤◌, ◌==◌, ◌^◌, nat_lt, Bool, true, false, not, ◌&&◌, ◌||◌, List, [], ◌∷◌, ◌++◌, filter, find, take, length, Option, Some, None, refl, sym, ap, ◌∙◌, lit<, inl, inr, arith, sum_by}
use Rattle.std.specs.List.{list_any, list_all}
use Rattle.std.specs.Option.{option_map_or}
use Rattle.std.proofs.lemmas.Bool.{and_from, and_parts, cases_Bool, eqb-true, false≢true, ltb-false}
use Rattle.std.proofs.lemmas.List.Folds.{list_all-append, list_any-append}
use Rattle.std.proofs.lemmas.Grind.{flat_map-append}
use Rattle.std.proofs.lemmas.List.{append-nil}
use Rattle.std.proofs.lemmas.List.Sums.{sum_by-cons, sum_by_push, length-filter}
use Rattle.std.proofs.Math.Bool.{or-false}
use Rattle.point_set.specs.declared.rect.Rect.{Rect}
use Rattle.vocabulary.specs.Prelude.{InstKind, Priv, agree, Record, Tables, Space, points_of, plane_points, place_of, privilege_of, coherence_of, reqs_before, with_record, is_in, points_in}
use Rattle.spy_grammar.specs.declared.record.Record.TheVariants.{Ispace, Plane, Req, Fill, Serial, Inst, Copy, Put, Reset, Fold, End}
use Rattle.semantics.specs.declared.tables.Req as reqs
use Rattle.semantics.specs.declared.tables.Inst as insts
use Rattle.semantics.specs.declared.tables.Serial as serials
use Rattle.semantics.specs.SerialOrder.{listed}
use Rattle.semantics.specs.Rules.{size_of, cells_of, asked, accesses, points_declared, is_planar, is_end, is_declared, space_id, names, names_unknown, lacks_req, has_many_points, has_many_cells, has_many_accesses}
use Rattle.log_rules.specs.declared.claims.OwnPlace.{OwnPlace}
use Rattle.log_rules.specs.Counts.{point_total, cell_total, access_total, points_asked, cells_asked, size_asked}
use Rattle.log_limits.specs.Sums.{cut}
use Rattle.log_rules.specs.Listing.{ids_listed}
use Rattle.log_rules.specs.declared.claims.Claims.{Claims}
use Rattle.log_rules.specs.declared.claims.TheConstants.{FEW}
use Rattle.log_rules.specs.Own.{AddsAt, AreClaims, claims_at, claimed, clashes_in, clashes_at, few_clash_at, req_clashes_at}
use Rattle.log_rules.specs.Tallied.{knows_space, AreKnown}
use Rattle.log_rules.proofs.ListTests.{all_few, any_few-snoc}

-- ---- Spaces that are declared keep their points.

pub record Grows (t u : Tables) : Type 0 where
  pub points : (id : ℕ) → is_declared t (space_id id) ≡ true → points_in u id ≡ points_in t id
  pub declared : (id : ℕ) → is_declared t (space_id id) ≡ true → is_declared u (space_id id) ≡ true

found_first : (id : ℕ) (xs ys : List Space) → list_any (λ (s : Space). s.id == id) xs ≡ true
    → find (λ (s : Space). s.id == id) (xs ++ ys) ≡ find (λ (s : Space). s.id == id) xs
found_first id [] ys h = absurd (false≢true h)
found_first id (x ∷ xs) ys h =
    elim (cases_Bool (x.id == id)) [
      | inl hit ↦ rw hit refl
      | inr miss ↦ let rest : list_any (λ (s : Space). s.id == id) xs ≡ true =
          ap (λ b. b || list_any (λ (s : Space). s.id == id) xs) (sym miss) ∙ h in rw miss (found_first id xs ys rest)
    ]

grows_by : (t u : Tables) (s : Space) → u.spaces ≡ t.spaces ++ s ∷ [] → Grows t u
grows_by t u s is = record {
  points = λ id known. ap (λ (xs : List Space). option_map_or (λ (s : Space). s.points) (find (λ (s : Space). s.id == id) xs) []) is
      ∙ ap (λ o. option_map_or (λ (s : Space). s.points) o []) (found_first id t.spaces (s ∷ []) known);
  declared = λ id known. ap (list_any (λ (s : Space). s.id == id)) is ∙ list_any-append (λ (s : Space). s.id == id) t.spaces (s ∷ [])
      ∙ ap (λ b. b || list_any (λ (s : Space). s.id == id) (s ∷ [])) known;
}

pub grows : (t : Tables) (line : ℕ) (r : Record) → Grows t (with_record t line r)
grows t line (Ispace id set) = grows_by t (with_record t line (Ispace id set)) (record { id = id; points = points_of set }) refl
grows t line (Plane id quads) = grows_by t (with_record t line (Plane id quads)) (record { id = id; points = plane_points quads }) refl
grows t line _ = record { points = λ other known. refl; declared = λ other known. known }

-- ---- Sums over lists.

sum-known : {A : Type 0} (p : A → Bool) (f g : A → ℕ) (xs : List A) → ((x : A) → p x ≡ true → f x ≡ g x) → list_all p xs ≡ true
    → sum_by f xs ≡ sum_by g xs
sum-known p f g [] same all = refl
sum-known p f g (x ∷ xs) same all =
    let head = same x (and_parts (p x) (list_all p xs) all).0 in
    let tail = sum-known p f g xs same (and_parts (p x) (list_all p xs) all).1 in
    omega (arith, head, tail, sum_by-cons f x xs, sum_by-cons g x xs)

any-known : {A : Type 0} (p f g : A → Bool) (xs : List A) → ((x : A) → p x ≡ true → f x ≡ g x) → list_all p xs ≡ true
    → list_any f xs ≡ list_any g xs
any-known p f g [] same all = refl
any-known p f g (x ∷ xs) same all = rw (
  same x (and_parts (p x) (list_all p xs) all).0,
  any-known p f g xs same (and_parts (p x) (list_all p xs) all).1,
) refl

all-known : {A : Type 0} (p q : A → Bool) (xs : List A) → ((x : A) → p x ≡ true → q x ≡ true) → list_all p xs ≡ true → list_all q xs ≡ true
all-known p q [] then all = refl
all-known p q (x ∷ xs) then all = ap (λ b. b && list_all q xs) (then x (and_parts (p x) (list_all p xs) all).0) ∙ all-known p q xs
    then (and_parts (p x) (list_all p xs) all).1

all-snoc : {A : Type 0} (p : A → Bool) (xs : List A) (x : A) → list_all p xs ≡ true → p x ≡ true → list_all p (xs ++ x ∷ []) ≡ true
all-snoc p xs x all here = list_all-append p xs (x ∷ []) ∙ and_from (list_all p xs) (p x && true) all (and_from (p x) true here refl)

within : (sum more limit old : ℕ) → old ≡ sum → nat_lt limit (sum + more) ≡ false → limit < 2 ^ 128 - 1 → cut (old + more) ≡ sum + more
within sum more limit old is fits small = let low : sum + more ≤ limit = ltb-false limit (sum + more) fits in omega arith

-- ---- The record's own names are declared.

knows_all : (t : Tables) (r : Record) → names_unknown t r ≡ false → list_all (is_declared t) (names r) ≡ true
knows_all t r h = told (list_all (is_declared t) (names r)) (lacks_req t r) h
  where
    told : (a b : Bool) → (not a || b) ≡ false → a ≡ true
    told true b h = refl
    told false b h = sym h

second : (a b : Bool) (c : Bool) → (a && (b && c)) ≡ true → b ≡ true
second a b c h = (and_parts b c (and_parts a (b && c) h).1).0

third : (a b c d : Bool) → (a && (b && (c && d))) ≡ true → c ≡ true
third a b c d h = second b c d (and_parts a (b && (c && d)) h).1

knows_asked : (t : Tables) (r : Record) → list_all (is_declared t) (names r) ≡ true → knows_space t r ≡ true
knows_asked t (Req task tree space fields access atomic) h = third _ _ _ _ h
knows_asked t (Fill id tree space fields n) h = second _ _ _ h
knows_asked t (Copy src dst space fields done waits) h = third _ _ _ _ h
knows_asked t (Put inst space fields n done waits) h = second _ _ _ h
knows_asked t (Reset inst space fields done waits) h = second _ _ _ h
knows_asked t (Fold src dst space fields done waits) h = third _ _ _ _ h
knows_asked t _ h = refl

-- ---- Points, cells and accesses.

pub point_total-add : (t : Tables) (line : ℕ) (r : Record) → point_total (with_record t line r) ≡ point_total t + points_asked r
point_total-add t line (Ispace id set) = let h =
    sum_by_push (λ (s : Space). length s.points) t.spaces (record { id = id; points = points_of set }) in omega (arith, h)
point_total-add t line (Plane id quads) = let h =
    sum_by_push (λ (s : Space). length s.points) t.spaces (record { id = id; points = plane_points quads }) in omega (arith, h)
point_total-add t line _ = omega arith

pub flat_asked : (t : Tables) (r : Record) → is_planar t ≡ false → accesses t r ≡ size_asked t r
flat_asked t r flat = rw flat refl

size-grows : (t u : Tables) (space : ℕ) (fields : List ℕ) → Grows t u → is_declared t (space_id space) ≡ true
    → size_of u space fields ≡ size_of t space fields
size-grows t u space fields g known = ap (λ (xs : List ℕ). length xs * length fields) (g.points space known)

cells_grow : (t u : Tables) → Grows t u → list_all (λ (i : insts.Inst). is_declared t (space_id i.space)) t.insts ≡ true
    → sum_by (λ (i : insts.Inst). size_of u i.space i.fields) t.insts ≡ cell_total t
cells_grow t u g known = sum-known (λ (i : insts.Inst). is_declared t (space_id i.space)) (λ (i : insts.Inst). size_of u i.space i.fields)
    (λ (i : insts.Inst). size_of t i.space i.fields) t.insts (λ (i : insts.Inst) here. size-grows t u i.space i.fields g here) known

pub cell_total-add : (t : Tables) (line : ℕ) (r : Record) → list_all (λ (i : insts.Inst). is_declared t (space_id i.space)) t.insts ≡ true
    → names_unknown t r ≡ false → cell_total (with_record t line r) ≡ cell_total t + cells_asked t r
cell_total-add t line (Inst id tree space fields kind) known named =
    let h = sum_by_push (λ (i : insts.Inst). size_of t i.space i.fields) t.insts
    (record { id = id; tree = tree; space = space; fields = fields; kind = kind }) in
    omega (arith, h)
cell_total-add t line (Ispace id set) known named = let h =
    cells_grow t (with_record t line (Ispace id set)) (grows t line (Ispace id set)) known in omega (arith, h)
cell_total-add t line (Plane id quads) known named = let h =
    cells_grow t (with_record t line (Plane id quads)) (grows t line (Plane id quads)) known in omega (arith, h)
cell_total-add t line _ known named = omega arith

accesses-grow : (t u : Tables) (r : Record) → Grows t u → is_planar t ≡ false → is_planar u ≡ false → knows_space t r ≡ true
    → accesses u r ≡ accesses t r
accesses-grow t u r g flat flat_u known = flat_asked u r flat_u ∙ by (asked r) known ∙ sym (flat_asked t r flat)
  where
    by : (o : Option (ℕ × List ℕ)) → option_map_or (λ p. is_declared t (space_id p.0)) o true ≡ true
        → option_map_or (λ p. size_of u p.0 p.1) o 0 ≡ option_map_or (λ p. size_of t p.0 p.1) o 0
    by None h = refl
    by (Some p) h = size-grows t u p.0 p.1 g h

pub access_total-add : (earlier : List Record) (t : Tables) (line : ℕ) (r : Record) → is_planar t ≡ false
    → is_planar (with_record t line r) ≡ false → list_all (knows_space t) earlier ≡ true
    → names_unknown t r ≡ false → access_total (with_record t line r) (earlier ++ r ∷ []) ≡ access_total t earlier + accesses t r
access_total-add earlier t line r flat flat_u known named =
    let u = with_record t line r in
    let g = grows t line r in
    let h = sum_by_push (accesses u) earlier r in
    let e = sum-known (knows_space t) (accesses u) (accesses t) earlier (λ x here. accesses-grow t u x g flat flat_u here) known in
    let l = accesses-grow t u r g flat flat_u (knows_asked t r (knows_all t r named)) in
    omega (arith, h, e, l)

-- ---- Listed items.

is_in-append : (xs ys : List ℕ) (n : ℕ) → is_in (xs ++ ys) n ≡ (is_in xs n || is_in ys n)
is_in-append xs ys n = list_any-append (λ m. m == n) xs ys

pub listed-add : (t : Tables) (line : ℕ) (r : Record) (n : ℕ)
    → is_in (listed (with_record t line r)) n ≡ (is_in (listed t) n || is_in (ids_listed r) n)
listed-add t line (Serial ids) n =
    ap (λ (xs : List ℕ). is_in xs n) (flat_map-append (λ (s : serials.Serial). s.ids) t.serials (record { line = line; ids = ids } ∷ []))
    ∙ is_in-append (listed t) (ids ++ []) n
    ∙ ap (λ (xs : List ℕ). is_in (listed t) n || is_in xs n) (append-nil ids)
listed-add t line _ n = sym (or-false (is_in (listed t) n))

-- ---- Claims.

-- What is added to the claims with one requirement more. It is one of the first few itself, or what it claims is added.
joined : (few old more low : Bool) → ((few || (low && more)) || (old || (not low && more))) ≡ ((few || old) || more)
joined true old more low = refl
joined false old more false = refl
joined false true true true = refl
joined false true false true = refl
joined false false true true = refl
joined false false false true = refl

untouched : (few old low : Bool) → ((few || false) || (old || (not low && false))) ≡ ((few || old) || false)
untouched true old low = refl
untouched false true low = refl
untouched false false true = refl
untouched false false false = refl

added : (few old new at more ours low small : Bool) → (few || old) ≡ at → new ≡ (old || (not low && more))
    → (ours ≡ true → low ≡ small) → (ours ≡ false → more ≡ false)
    → ((few || (ours && (small && more))) || new) ≡ (at || more)
added few old new at more true low small is adds same other =
    ap (λ b. (few || (small && more)) || b) (adds ∙ ap (λ b. old || (not b && more)) (same refl))
    ∙ joined few old more small ∙ ap (λ b. b || more) is
added few old new at more false low small is adds same other =
    ap (λ b. (few || false) || b) (adds ∙ ap (λ b. old || (not low && b)) (other refl))
    ∙ untouched few old low ∙ ap (λ b. b || false) is ∙ sym (ap (λ b. at || b) (other refl))

req_clashes_at-grow : (t u : Tables) (k : OwnPlace) (a : Priv) → Grows t u → (q : reqs.Req) → is_declared t (space_id q.space) ≡ true
    → req_clashes_at u k a q ≡ req_clashes_at t k a q
req_clashes_at-grow t u k a g q here = ap (λ (xs : List ℕ). claims_at q.item q.tree xs q.fields q.access k a) (g.points q.space here)

claims_stay : (all : Option (List Rect)) (t u : Tables) (old new : Claims) → Grows t u → u.reqs ≡ t.reqs → AreClaims all t old
    → list_all (λ (q : reqs.Req). is_declared t (space_id q.space)) t.reqs ≡ true → AddsAt all old new (λ k a. false) → AreClaims all u new
claims_stay all t u old new g same are known adds = λ k a begins.
    let here = λ (q : reqs.Req). is_declared t (space_id q.space) in
    let ours : reqs.Req → Bool = λ q. q.item == k.item in
    ap (λ b. b || clashes_in new k a) (ap (λ (rs : List reqs.Req). list_any (req_clashes_at u k a) (take FEW (filter ours rs))) same
    ∙ any-known here (req_clashes_at u k a) (req_clashes_at t k a) (take FEW (filter ours t.reqs)) (req_clashes_at-grow t u k a g)
    (all_few here ours FEW t.reqs known))
    ∙ ap (λ b. few_clash_at t k a || b) (adds k a begins ∙ or-false (clashes_in old k a))
    ∙ are k a begins
    ∙ sym (ap (list_any (req_clashes_at u k a)) same
    ∙ any-known here (req_clashes_at u k a) (req_clashes_at t k a) t.reqs (req_clashes_at-grow t u k a g) known)

pub AreClaims-add : (all : Option (List Rect)) (t : Tables) (line : ℕ) (r : Record) (old new : Claims) → AreClaims all t old
    → list_all (λ (q : reqs.Req). is_declared t (space_id q.space)) t.reqs ≡ true → AddsAt all old new (claimed t r)
    → AreClaims all (with_record t line r) new
AreClaims-add all t line (Req task tree space fields access atomic) old new are known adds = λ k a begins.
    let I = place_of t.items task in
    let n = reqs_before t.reqs I in
    let one : reqs.Req = record {
      item = I;
      number = n + 1;
      line = line;
      tree = tree;
      space = space;
      fields = fields;
      access =
          privilege_of access;
      coherence = coherence_of atomic;
    } in
    let more = claims_at I tree (points_in t space) fields (privilege_of access) k a in
    let f : reqs.Req → Bool = req_clashes_at t k a in
    let ours : reqs.Req → Bool = λ q. q.item == k.item in
    let count : length (filter ours t.reqs) ≡ reqs_before t.reqs k.item = length-filter ours t.reqs in
    ap (λ b. b || clashes_in new k a) (any_few-snoc f ours FEW t.reqs one)
    ∙ added (few_clash_at t k a) (clashes_in old k a) (clashes_in new k a) (clashes_at t k a) more (I == k.item) (nat_lt n FEW)
    (nat_lt (length (filter ours t.reqs)) FEW) (are k a begins) (adds k a begins)
    (λ same. ap (λ i. nat_lt (reqs_before t.reqs i) FEW) (eqb-true I k.item same) ∙ sym (ap (λ m. nat_lt m FEW) count))
    (λ other. ap (λ b. b && ((tree == k.tree) && (is_in (points_in t space) k.point
    && (is_in fields k.field && not (agree (privilege_of access) a))))) other)
    ∙ ap (λ b. clashes_at t k a || b) (sym (or-false more))
    ∙ sym (list_any-append f t.reqs (one ∷ []))
AreClaims-add all t line (Ispace id set) old new are known adds =
    claims_stay all t (with_record t line (Ispace id set)) old new (grows t line (Ispace id set)) refl are known adds
AreClaims-add all t line (Plane id quads) old new are known adds =
    claims_stay all t (with_record t line (Plane id quads)) old new (grows t line (Plane id quads)) refl are known adds
AreClaims-add all t line _ old new are known adds = λ k a begins.
    ap (λ b. few_clash_at t k a || b) (adds k a begins ∙ or-false (clashes_in old k a)) ∙ are k a begins

-- ---- What is known stays known.

reqs_known : (t : Tables) (line : ℕ) (r : Record) → list_all (λ (q : reqs.Req). is_declared t (space_id q.space)) t.reqs ≡ true
    → list_all (is_declared t) (names r) ≡ true → list_all (λ (q : reqs.Req). is_declared (with_record t line r) (space_id q.space))
    (with_record t line r).reqs ≡ true
reqs_known t line (Req task tree space fields access atomic) known named =
    all-snoc (λ (q : reqs.Req). is_declared t (space_id q.space)) t.reqs _ known (third _ _ _ _ named)
reqs_known t line (Ispace id set) known named =
    all-known (λ (q : reqs.Req). is_declared t (space_id q.space)) _ t.reqs
    (λ (q : reqs.Req) here. (grows t line (Ispace id set)).declared q.space here) known
reqs_known t line (Plane id quads) known named =
    all-known (λ (q : reqs.Req). is_declared t (space_id q.space)) _ t.reqs
    (λ (q : reqs.Req) here. (grows t line (Plane id quads)).declared q.space here) known
reqs_known t line _ known named = known

insts_known : (t : Tables) (line : ℕ) (r : Record) → list_all (λ (i : insts.Inst). is_declared t (space_id i.space)) t.insts ≡ true
    → list_all (is_declared t) (names r) ≡ true → list_all (λ (i : insts.Inst). is_declared (with_record t line r) (space_id i.space))
    (with_record t line r).insts ≡ true
insts_known t line (Inst id tree space fields kind) known named =
    all-snoc (λ (i : insts.Inst). is_declared t (space_id i.space)) t.insts _ known (second _ _ _ named)
insts_known t line (Ispace id set) known named =
    all-known (λ (i : insts.Inst). is_declared t (space_id i.space)) _ t.insts
    (λ (i : insts.Inst) here. (grows t line (Ispace id set)).declared i.space here) known
insts_known t line (Plane id quads) known named =
    all-known (λ (i : insts.Inst). is_declared t (space_id i.space)) _ t.insts
    (λ (i : insts.Inst) here. (grows t line (Plane id quads)).declared i.space here) known
insts_known t line _ known named = known

still_asked : (t u : Tables) (o : Option (ℕ × List ℕ)) → Grows t u → option_map_or (λ p. is_declared t (space_id p.0)) o true ≡ true
    → option_map_or (λ p. is_declared u (space_id p.0)) o true ≡ true
still_asked t u None g h = refl
still_asked t u (Some p) g h = g.declared p.0 h

pub AreKnown-add : (earlier : List Record) (t : Tables) (line : ℕ) (r : Record) → AreKnown earlier t → names_unknown t r ≡ false
    → AreKnown (earlier ++ r ∷ []) (with_record t line r)
AreKnown-add earlier t line r known named =
    let u = with_record t line r in
    let g = grows t line r in
    let named_all = knows_all t r named in
    record {
      reqs = reqs_known t line r known.reqs named_all;
      insts = insts_known t line r known.insts named_all;
      accesses =
          all-snoc (knows_space u) earlier r
          (all-known (knows_space t) (knows_space u) earlier (λ x here. still_asked t u (asked x) g here) known.accesses)
          (still_asked t u (asked r) g (knows_asked t r named_all));
    }

-- ---- Sums within their limits are exact.

pub points-exact : (t : Tables) (r : Record) (old : ℕ) → old ≡ point_total t → old < 2 ^ 128 → is_planar t ≡ false → has_many_points t r ≡ false
    → cut (old + points_asked r) ≡ point_total t + points_asked r
points-exact t r old is small flat fits = by (points_declared r) (rw flat at fits)
  where
    by : (o : Option (List ℕ)) → option_map_or (λ points. nat_lt 1048576 (point_total t + length points)) o false ≡ false
        → cut (old + option_map_or (λ points. length points) o 0) ≡ point_total t + option_map_or (λ points. length points) o 0
    by None few = omega arith
    by (Some points) few = within (point_total t) (length points) 1048576 old is few (lit< tt)

pub cells-exact : (t : Tables) (r : Record) (old : ℕ) → old ≡ cell_total t → old < 2 ^ 128 → is_planar t ≡ false → has_many_cells t r ≡ false
    → cut (old + cells_asked t r) ≡ cell_total t + cells_asked t r
cells-exact t (Inst id tree space fields kind) old is small flat fits =
    within (cell_total t) (size_of t space fields) 1048576 old is (rw flat at fits) (lit< tt)
cells-exact t _ old is small flat fits = omega arith

pub few_accesses : (earlier : List Record) (t : Tables) (r : Record) → is_planar t ≡ false → has_many_accesses earlier t r ≡ false
    → nat_lt 4194304 (access_total t earlier + accesses t r) ≡ false
few_accesses earlier t r flat fits = ap (λ b. (not b || is_end r) && nat_lt 4194304 (access_total t earlier + accesses t r)) (sym flat) ∙ fits

pub accesses-exact : (earlier : List Record) (t : Tables) (r : Record) (old : ℕ) → old ≡ access_total t earlier → is_planar t ≡ false
    → has_many_accesses earlier t r ≡ false → cut (old + size_asked t r) ≡ access_total t earlier + accesses t r
accesses-exact earlier t r old is flat fits =
    ap (λ m. cut (old + m)) (sym (flat_asked t r flat))
    ∙ within (access_total t earlier) (accesses t r) 4194304 old is (few_accesses earlier t r flat fits) (lit< tt)

-- ---- What is judged of such sums.

pub judged_cells : (t : Tables) (id tree space : ℕ) (fields : List ℕ) (kind : InstKind) → is_planar t ≡ false
    → nat_lt 1048576 (cell_total t + size_of t space fields) ≡ has_many_cells t (Inst id tree space fields kind)
judged_cells t id tree space fields kind flat = rw flat refl

pub no_cells : (t : Tables) (n : ℕ) → is_planar t ≡ false → false ≡ has_many_cells t (End n)
no_cells t n flat = rw flat refl

pub no_points : (t : Tables) (r : Record) → points_declared r ≡ None → false ≡ has_many_points t r
no_points t r is = by (is_planar t) (points_declared r) is
  where
    by : (planar : Bool) (o : Option (List ℕ)) → o ≡ None
        → false ≡ (not planar && option_map_or (λ points. nat_lt 1048576 (point_total t + length points)) o false)
    by true o e = refl
    by false None e = refl
    by false (Some points) e = absurd cc

-- ---- What is judged at the end of a log of the second version.

pub planar_cells : (t : Tables) (n : ℕ) → is_planar t ≡ true → nat_lt 1048576 (0 + cells_of t) ≡ has_many_cells t (End n)
planar_cells t n planar = let none : 0 + cells_of t ≡ cells_of t = omega arith in ap (nat_lt 1048576) none ∙ rw planar refl

pub planar_accesses : (earlier : List Record) (t : Tables) (r : Record) → is_planar t ≡ true → is_end r ≡ true
    → nat_lt 4194304 (0 + access_total t earlier) ≡ has_many_accesses earlier t r
planar_accesses earlier t (End n) planar end =
    let none : 0 + access_total t earlier ≡ access_total t earlier + 0 = omega arith in
    ap (nat_lt 4194304) none ∙ rw planar refl
planar_accesses earlier t _ planar end = absurd (false≢true end)
