-- At which lines the rule on interference is broken, when one record more is written.
use Rattle.std.proofs.Common.{◌≡◌, ℕ, ◌<◌, ◌≤◌, nat_lt, Bool, true, IsTrue, List, [], ◌∷◌, ◌++◌, ◌⊎◌, Contains, filter, length, map, get_or, replicate, refl, sym, ap, subst, ◌∙◌, inl, inr, arith, append-nil}
use Rattle.std.specs.List.{list_any, zip}
use Rattle.std.proofs.lemmas.Bool.{le-ltb, lt-ltb}
use Rattle.std.proofs.lemmas.List.{get_or_default}
use Rattle.std.proofs.lemmas.List.Elements.{Contains-append_cases, Contains-append_left, Contains-append_right, filter-append}
use Rattle.std.proofs.lemmas.Slice.Zip.{length-zip, get_or-zip, seconds-zip}
use Rattle.vocabulary.specs.Prelude.{LRecord, Record, lined, tables_of}
use Rattle.semantics.specs.Launches.{TaskLaunch, Expanded, clash, declared_by, interferes_in_launch, writes}
use Rattle.launches.specs.Interfering.{BreaksAt, written_before}
use Rattle.list_lemmas.proofs.lemmas.Contained.{any_at, any_found, map_member, member_map}

-- ---- lists with a line beside each element

pub zip_parts : {X : Type 0} (ns : List ℕ) (xs : List X) (p : ℕ × X) → Contains (zip ns xs) p → Contains ns p.0 × Contains xs p.1
zip_parts {X = X} ns xs p h =
    let k = h.0 in
    let low : k < length ns = omega (arith, h.1, length-zip ns xs) in
    let high : k < length xs = omega (arith, h.1, length-zip ns xs) in
    let is : (get_or ns k p.0, get_or xs k p.1) ≡ p = sym (get_or-zip ns xs k p low high) ∙ h.2 in
    ((k, low, ap (λ (q : ℕ × X). q.0) is), (k, high, ap (λ (q : ℕ × X). q.1) is))

pub zip_has : {X : Type 0} (ns : List ℕ) (xs : List X) (x : X) → length ns ≡ length xs → Contains xs x → (n : ℕ) × Contains ns n
    × Contains (zip ns xs) (n, x)
zip_has {X = X} ns xs x long h =
    let k = h.0 in
    let high = h.1 in
    let low : k < length ns = omega (arith, long, high) in
    let n = get_or ns k 0 in
    let at : get_or ns k n ≡ n = get_or_default ns k n 0 low in (
      n,
      (k, low, at),
      (
        k,
        omega (arith, low, high, length-zip ns xs),
        get_or-zip ns xs k (n, x) low high
            ∙ ap (λ (m : ℕ). (m, get_or xs k x)) at ∙ ap (λ (y : X). (n, y)) h.2,
      ),
    )

-- with one line beside each
abbrev pub on_line : {X : Type 0} → ℕ → List X → List (ℕ × X)
on_line {X} t xs = map (λ (x : X). (t, x)) xs

zip_same : {X : Type 0} (t : ℕ) (xs : List X) → zip (replicate (length xs) t) xs ≡ on_line t xs
zip_same {X = X} t [] = refl
zip_same {X = X} t (x ∷ xs) = ap (λ (ps : List (ℕ × X)). (t, x) ∷ ps) (zip_same t xs)

pub zip_more : {X : Type 0} (t : ℕ) (ns : List ℕ) (xs ys : List X) → length ns ≡ length xs
    → zip (ns ++ replicate (length ys) t) (xs ++ ys) ≡ zip ns xs ++ on_line t ys
zip_more {X = X} t [] [] ys long = zip_same t ys
zip_more {X = X} t [] (x ∷ xs) ys long = absurd (omega (arith, long))
zip_more {X = X} t (n ∷ ns) [] ys long = absurd (omega (arith, long))
zip_more {X = X} t (n ∷ ns) (x ∷ xs) ys long = ap (λ (ps : List (ℕ × X)). (n, x) ∷ ps) (zip_more t ns xs ys (omega (arith, long)))

pub zip_shorter : {X : Type 0} (ns : List ℕ) (xs ys : List X) → length ns ≡ length xs → zip ns (xs ++ ys) ≡ zip ns xs
zip_shorter {X = X} [] [] ys long = refl
zip_shorter {X = X} [] (x ∷ xs) ys long = refl
zip_shorter {X = X} (n ∷ ns) [] ys long = absurd (omega (arith, long))
zip_shorter {X = X} (n ∷ ns) (x ∷ xs) ys long = ap (λ (ps : List (ℕ × X)). (n, x) ∷ ps) (zip_shorter ns xs ys (omega (arith, long)))

-- ---- one record more, on a line after those of all others

abbrev pub IsEarlier : {X : Type 0} → ℕ → List (ℕ × X) → Type 0
IsEarlier {X} t xs = (x : ℕ × X) → Contains xs x → x.0 < t

pub old_or_new : {X : Type 0} (t : ℕ) (xs : List (ℕ × X)) (ys : List X) (x : ℕ × X) → Contains (xs ++ on_line t ys) x → Contains xs x
    ⊎ ((x.0 ≡ t) × Contains ys x.1)
old_or_new {X = X} t xs ys x h = elim (Contains-append_cases xs (on_line t ys) x h) [
  | inl old ↦ inl old
  | inr new ↦
      let r = member_map (λ (y : X). (t, y)) ys x new in
      inr (ap (λ (p : ℕ × X). p.0) r.2, subst (λ (y : X). Contains ys y) (sym (ap (λ (p : ℕ × X). p.1) r.2)) r.1)
]

new_in : {X : Type 0} (t : ℕ) (xs : List (ℕ × X)) (ys : List X) (y : X) → Contains ys y → Contains (xs ++ on_line t ys) (t, y)
new_in {X = X} t xs ys y h = Contains-append_right xs (on_line t ys) (t, y) (map_member (λ (y : X). (t, y)) ys y h)

none_new : (n t : ℕ) (rs : List Record) → n ≤ t → filter (λ (w : ℕ × Record). nat_lt w.0 n) (on_line t rs) ≡ []
none_new n t [] le = refl
none_new n t (r ∷ rs) le = rw (le-ltb t n le) (none_new n t rs le)

before_same : (n t : ℕ) (ws : List (ℕ × Record)) (rs : List Record) → n ≤ t → written_before n (ws ++ on_line t rs) ≡ written_before n ws
before_same n t ws rs le =
    let test : ℕ × Record → Bool = λ (w : ℕ × Record). nat_lt w.0 n in
    ap (λ (xs : List (ℕ × Record)). map (λ (w : ℕ × Record). w.1) xs) (filter-append test ws (on_line t rs)
    ∙ ap (λ (xs : List (ℕ × Record)). filter test ws ++ xs) (none_new n t rs le) ∙ append-nil (filter test ws))

all_earlier : (t : ℕ) (ws : List (ℕ × Record)) → IsEarlier t ws → filter (λ (w : ℕ × Record). nat_lt w.0 t) ws ≡ ws
all_earlier t [] h = refl
all_earlier t (w ∷ ws) h = rw (lt-ltb w.0 t (h w (0, omega arith, refl)))
    (ap (λ (xs : List (ℕ × Record)). w ∷ xs) (all_earlier t ws (λ x k. h x (Contains-append_right (w ∷ []) ws x k))))

pub breaks_later : (ls : List (ℕ × TaskLaunch)) (ws : List (ℕ × Record)) (nl : List TaskLaunch) (nr : List Record) (t n : ℕ) → n ≤ t
    → BreaksAt ls ws n → BreaksAt (ls ++ on_line t nl) (ws ++ on_line t nr) n
breaks_later ls ws nl nr t n le b = record {
  launch = b.launch;
  own = b.own;
  other = b.other;
  launched = Contains-append_left ls (on_line t nl) b.launch b.launched;
  writes = Contains-append_left ws (on_line t nr) b.own b.writes;
  has = Contains-append_left ws (on_line t nr) b.other b.has;
  earlier = b.earlier;
  at = b.at;
  until = b.until;
  clash = subst (λ (rs : List Record). IsTrue (clash (tables_of (lined rs)) b.launch.1 b.own.1 b.other.1))
      (sym (before_same n t ws nr le)) b.clash;
}

earlier_only : {X : Type 0} (t : ℕ) (xs : List (ℕ × X)) (ys : List X) (x : ℕ × X) → x.0 < t → Contains (xs ++ on_line t ys) x
    → Contains xs x
earlier_only t xs ys x lt h = elim (old_or_new t xs ys x h) [ inl old ↦ old | inr new ↦ absurd (let e = new.0 in omega (arith, lt, e)) ]

pub breaks_earlier : (ls : List (ℕ × TaskLaunch)) (ws : List (ℕ × Record)) (nl : List TaskLaunch) (nr : List Record) (t n : ℕ) → n < t
    → BreaksAt (ls ++ on_line t nl) (ws ++ on_line t nr) n → BreaksAt ls ws n
breaks_earlier ls ws nl nr t n lt b =
    let earlier = b.earlier in
    let at = b.at in
    let until = b.until in
    record {
      launch = b.launch;
      own = b.own;
      other = b.other;
      launched = earlier_only t ls nl b.launch (omega arith) b.launched;
      writes = earlier_only t ws nr b.own (omega arith) b.writes;
      has = earlier_only t ws nr b.other (omega arith) b.has;
      earlier = earlier;
      at = at;
      until = until;
      clash = subst (λ (rs : List Record). IsTrue (clash (tables_of (lined rs)) b.launch.1 b.own.1 b.other.1))
          (before_same n t ws nr (omega arith)) b.clash;
    }

-- what is launched and written so far, with the lines beside it
pub record Beside (e : Expanded) (ns ms : List ℕ) : Type 0 where
  pub launched : length ns ≡ length e.launches
  pub written : length ms ≡ length e.written

written_until : (e : Expanded) (ns ms : List ℕ) (nr : List Record) (t : ℕ) → Beside e ns ms → IsEarlier t (zip ms e.written)
    → written_before t (zip ms e.written ++ on_line t nr) ≡ e.written
written_until e ns ms nr t beside before =
    before_same t t (zip ms e.written) nr (omega arith)
    ∙ ap (λ (xs : List (ℕ × Record)). map (λ (w : ℕ × Record). w.1) xs) (all_earlier t (zip ms e.written) before)
    ∙ seconds-zip ms e.written (sym beside.written)

pub interferes_now : (e : Expanded) (r : LRecord) (ns ms : List ℕ) (nl : List TaskLaunch) (t : ℕ) → Beside e ns ms
    → IsEarlier t (zip ms e.written)
    → BreaksAt (zip ns e.launches ++ on_line t nl) (zip ms e.written ++ on_line t (writes e r)) t → interferes_in_launch e r ≡ true
interferes_now e r ns ms nl t beside before b =
    let ls = zip ns e.launches in
    let ws = zip ms e.written in
    let nr = writes e r in
    let all = e.written ++ nr in
    let d = declared_by e in
    let at = b.at in
    let l = (zip_parts ns e.launches b.launch (earlier_only t ls nl b.launch b.earlier b.launched)).1 in
    let own : Contains nr b.own.1 =
    elim (old_or_new t ws nr b.own b.writes) [
      | inl old ↦ absurd (let lt = before b.own old in omega (arith, lt, at))
      | inr new ↦
          new.1
    ] in
    let other : Contains all b.other.1 = elim (old_or_new t ws nr b.other b.has) [
      | inl old ↦ Contains-append_left e.written nr b.other.1 (zip_parts ms e.written b.other old).1
      | inr new ↦ Contains-append_right e.written nr b.other.1 new.1
    ] in
    let told = subst (λ (rs : List Record). IsTrue (clash (tables_of (lined rs)) b.launch.1 b.own.1 b.other.1))
    (written_until e ns ms nr t beside before) b.clash in
    any_at (λ (x : TaskLaunch). list_any (λ q. list_any (clash d x q) all) nr) e.launches b.launch.1 l
    (any_at (λ q. list_any (clash d b.launch.1 q) all) nr b.own.1 own
    (any_at (clash d b.launch.1 b.own.1) all b.other.1 other told))

pub breaks_now : (e : Expanded) (r : LRecord) (ns ms : List ℕ) (nl : List TaskLaunch) (t : ℕ) → Beside e ns ms
    → IsEarlier t (zip ns e.launches) → IsEarlier t (zip ms e.written)
    → interferes_in_launch e r ≡ true → BreaksAt (zip ns e.launches ++ on_line t nl) (zip ms e.written ++ on_line t (writes e r)) t
breaks_now e r ns ms nl t beside earlier before h =
    let ls = zip ns e.launches in
    let ws = zip ms e.written in
    let nr = writes e r in
    let all = e.written ++ nr in
    let d = declared_by e in
    let l = any_found (λ (x : TaskLaunch). list_any (λ q. list_any (clash d x q) all) nr) e.launches h in
    let q = any_found (λ q. list_any (clash d l.0 q) all) nr l.2 in
    let w = any_found (clash d l.0 q.0) all q.2 in
    let launched = zip_has ns e.launches l.0 beside.launched l.1 in
    let other : (n : ℕ) × Contains (ws ++ on_line t nr) (n, w.0) × (n ≤ t) = elim (Contains-append_cases e.written nr w.0 w.1) [
      | inl old ↦
          let has = zip_has ms e.written w.0 beside.written old in
          let lt = before (has.0, w.0) has.2 in
          (has.0, Contains-append_left ws (on_line t nr) (has.0, w.0) has.2, omega (arith, lt))
      | inr new ↦ (t, new_in t ws nr w.0 new, omega arith)
    ] in
    record {
      launch = (launched.0, l.0);
      own = (t, q.0);
      other = (other.0, w.0);
      launched = Contains-append_left ls (on_line t nl) (launched.0, l.0) launched.2;
      writes = new_in t ws nr q.0 q.1;
      has = other.1;
      earlier = earlier (launched.0, l.0) launched.2;
      at = refl;
      until = other.2;
      clash = subst (λ (rs : List Record). IsTrue (clash (tables_of (lined rs)) l.0 q.0 w.0))
          (sym (written_until e ns ms nr t beside before)) w.2;
    }
