-- Rows of pairs, one item at a time.
use Rattle.std.proofs.Common.{inl, inr, ◌≡◌, ℕ, zero, suc, ◌+◌, ◌-◌, ◌<◌, ◌≤◌, true, false, not, List, [], ◌∷◌, ◌++◌, length, refl, sym, ap, ◌∙◌, subst, arith, min, ◌^◌, flat_map, map, Option}
use Rattle.std.specs.List.{range_with_len}
use Rattle.std.proofs.Math.Path.{ap₂}
use Rattle.std.proofs.lemmas.Bool.{cases_lt, and_right, and_parts, and_from}
use Rattle.std.proofs.lemmas.List.{append_assoc}
use Rattle.privilege.specs.declared.kinds.Kind.TheVariants.{Free}
use Rattle.vocabulary.specs.Prelude.{is_free}
use Rattle.item_uses.specs.Usages.{Usage, usages_at}
use Rattle.item_uses.specs.Sharing.{kind_between}
use Rattle.interference.specs.declared.pair.Pair.{Pair}
use Rattle.item_uses.specs.Representatives.{AreRepresentatives}
use Rattle.interference.specs.Pairing.{is_asked, met_at, pair_between, IsMeeting, StartsRow, StartsLeft, row, rows, left}
use Rattle.interference.specs.Stretched.{AreAlikeTo, StartsWith}

abbrev pub meeting : List (List Usage) → ℕ → ℕ → Pair
meeting us a b = pair_between a b (usages_at us a) (usages_at us b)

row_from_same : (asked : Option (List ℕ)) (us : List (List Usage)) (a b n : ℕ) → length us - b ≡ suc n → length us - (b + 1) ≡ n
    → met_at asked us a b ≡ true → row asked us a b ≡ meeting us a b ∷ row asked us a (b + 1)
row_from_same asked us a b n e f k = rw (e, f, k) refl

row_from_other : (asked : Option (List ℕ)) (us : List (List Usage)) (a b n : ℕ) → length us - b ≡ suc n → length us - (b + 1) ≡ n
    → met_at asked us a b ≡ false → row asked us a b ≡ row asked us a (b + 1)
row_from_other asked us a b n e f k = rw (e, f, k) refl

row_same : (asked : Option (List ℕ)) (us : List (List Usage)) (a b : ℕ) → b < length us → met_at asked us a b ≡ true
    → row asked us a b ≡ meeting us a b ∷ row asked us a (b + 1)
row_same asked us a b lt k = row_from_same asked us a b (length us - (b + 1)) (omega arith) refl k

pub row_other : (asked : Option (List ℕ)) (us : List (List Usage)) (a b : ℕ) → b < length us → met_at asked us a b ≡ false
    → row asked us a b ≡ row asked us a (b + 1)
row_other asked us a b lt k = row_from_other asked us a b (length us - (b + 1)) (omega arith) refl k

row_end : (asked : Option (List ℕ)) (us : List (List Usage)) (a b : ℕ) → length us ≤ b → row asked us a b ≡ []
row_end asked us a b le = let e : length us - b ≡ 0 = omega arith in rw e refl

rows_end : (asked : Option (List ℕ)) (us : List (List Usage)) (a : ℕ) → length us ≤ a → rows asked us a ≡ []
rows_end asked us a le = let e : length us - a ≡ 0 = omega arith in rw e refl

rows_from : (asked : Option (List ℕ)) (us : List (List Usage)) (a n : ℕ) → length us - a ≡ suc n → length us - (a + 1) ≡ n
    → rows asked us a ≡ left asked us a (a + 1)
rows_from asked us a n e f =
    rw e (ap (λ (m : ℕ). row asked us a (a + 1) ++ flat_map (λ i. row asked us i (i + 1)) (range_with_len (a + 1) m)) (sym f))

pub rows_step : (asked : Option (List ℕ)) (us : List (List Usage)) (a : ℕ) → rows asked us a ≡ left asked us a (a + 1)
rows_step asked us a =
    elim (cases_lt a (length us)) [
      | inl lt ↦ rows_from asked us a (length us - (a + 1)) (omega arith) refl
      | inr le ↦ rows_end asked us a le ∙ sym (ap (λ (r : List Pair). r ++ rows asked us (a + 1)) (row_end asked us a (a + 1) (omega arith))
          ∙ rows_end asked us (a + 1) (omega arith))
    ]

next_row : (asked : Option (List ℕ)) (us : List (List Usage)) (a from : ℕ) → row asked us a from ≡ []
    → left asked us a from ≡ left asked us (a + 1) (a + 2)
next_row asked us a from none = ap (λ (r : List Pair). r ++ rows asked us (a + 1)) none ∙ rows_step asked us (a + 1)
    ∙ (let e : a + 1 + 1 ≡ a + 2 = omega arith in rw e refl)

pub none_left : (asked : Option (List ℕ)) (us : List (List Usage)) (a from : ℕ) → length us ≤ a → a ≤ from → left asked us a from ≡ []
none_left asked us a from le order = rw (row_end asked us a from (omega arith), rows_end asked us (a + 1) (omega arith)) refl

pub next_from : (asked : Option (List ℕ)) (us : List (List Usage)) (a from next : ℕ) → row asked us a from ≡ []
    → next ≡ min (a + 2) (2 ^ 64 - 1) → length us < 2 ^ 64 → a < length us → (left asked us a from ≡ left asked us (a + 1) next)
    × (a + 1 ≤ next)
next_from asked us a from next none is small lt =
    elim (cases_lt (a + 1) (length us)) [
      | inl more ↦ let e : next ≡ a + 2 = omega arith in (next_row asked us a from none ∙ ap (left asked us (a + 1)) (sym e), omega arith)
      | inr last ↦ (
        next_row asked us a from none ∙ none_left asked us (a + 1) (a + 2) last (omega arith)
            ∙ sym (none_left asked us (a + 1) next last (omega arith)),
        omega arith,
      )
    ]

-- ---- pairs of one item with items in a row

-- A pair with another second item.
abbrev pub paired : Pair → ℕ → Pair
paired p i = record { a = p.a; b = i; kind = p.kind; place = p.place }

-- The pair of an item with another that asks for the same as the second of a pair.
alike_meets : (asked : Option (List ℕ)) (us : List (List Usage)) (p : Pair) (i : ℕ) → IsMeeting asked us p.a p.b p
    → usages_at us i ≡ usages_at us p.b → is_asked asked p.a i ≡ true
    → (met_at asked us p.a i ≡ true) × (meeting us p.a i ≡ paired p i)
alike_meets asked us p i h same asks =
    let meets = (and_parts (is_asked asked p.a p.b) (not (is_free (kind_between (usages_at us p.a) (usages_at us p.b)))) h.met).1 in (
      rw same (and_from (is_asked asked p.a i) (not (is_free (kind_between (usages_at us p.a) (usages_at us p.b)))) asks meets),
      rw same (sym (ap (λ (q : Pair). paired q i) h.pair)),
    )

row_along : (asked : Option (List ℕ)) (us : List (List Usage)) (p : Pair) (b m : ℕ) → b + m ≤ length us
    → ((i : ℕ) → b ≤ i → i < b + m → (met_at asked us p.a i ≡ true) × (meeting us p.a i ≡ paired p i))
    → row asked us p.a b ≡ map (paired p) (range_with_len b m) ++ row asked us p.a (b + m)
row_along asked us p b zero le each = let same : b ≡ b + 0 = omega arith in ap (row asked us p.a) same
row_along asked us p b (suc m) le each =
    let same : b + 1 + m ≡ b + suc m = omega arith in
    let here = each b (omega arith) (omega arith) in
    row_same asked us p.a b (omega (arith, le)) here.0
    ∙ ap₂ (λ (q : Pair) (qs : List Pair). q ∷ qs) here.1
    (row_along asked us p (b + 1) m (omega (arith, le)) (λ i low high. each i (omega (arith, low)) (omega (arith, high))))
    ∙ ap (λ n. paired p b ∷ (map (paired p) (range_with_len (b + 1) m) ++ row asked us p.a n)) same

pub stretched : (asked : Option (List ℕ)) (us : List (List Usage)) (standing : List ℕ) (a from : ℕ) (p : Pair) (to : ℕ)
    → StartsLeft asked us a from p → AreRepresentatives standing us → AreAlikeTo asked standing p.a p.b to
    → StartsWith (left asked us a from) (left asked us p.a to) (record { a = p.a; from = p.b; to = to; kind = p.kind; place = p.place })
stretched asked us standing a from p to starts stand alike =
    let m = to - (p.b + 1) in
    let first : to - p.b ≡ suc m = omega (arith, alike.order) in
    let end : p.b + 1 + m ≡ to = omega (arith, alike.order) in
    let each = λ (i : ℕ) (low : p.b + 1 ≤ i) (high : i < p.b + 1 + m).
    let after : p.b < i = omega (arith, low) in
    let before : i < to = omega (arith, high, end) in
    alike_meets asked us p i starts.meets
    (sym (stand.same i (omega (arith, before, alike.within, stand.each))) ∙ ap (usages_at us) (alike.same i after before)
    ∙ stand.same p.b starts.within) (alike.asks i after before) in
    let along = row_along asked us p (p.b + 1) m (omega (arith, end, alike.within, stand.each)) each in
    let pairs = map (paired p) (range_with_len (p.b + 1) m) in
    record {
      some = alike.order;
      parts = starts.head
          ∙ ap (λ (qs : List Pair). p ∷ (qs ++ rows asked us (p.a + 1))) (along ∙ ap (λ n. pairs ++ row asked us p.a n) end)
          ∙ ap (λ (qs : List Pair). p ∷ qs) (append_assoc pairs (row asked us p.a to) (rows asked us (p.a + 1)))
          ∙ sym (ap (λ n. map (paired p) (range_with_len p.b n) ++ left asked us p.a to) first);
    }

-- ---- the same with what the code has found

pub row_starts : (asked : Option (List ℕ)) (us : List (List Usage)) (a from b : ℕ) (p : Pair) → a ≤ b → b < length us
    → row asked us a from ≡ row asked us a b → IsMeeting asked us a b p → StartsRow asked us a from p
row_starts asked us a from b p order within so_far is =
    let first = ap (λ (p : Pair). p.a) is.pair in
    let second = ap (λ (p : Pair). p.b) is.pair in
    record {
      head = so_far ∙ row_same asked us a b within is.met ∙ ap (λ (q : Pair). q ∷ row asked us a (q.b + 1)) (sym is.pair);
      meets = subst (λ n. IsMeeting asked us p.a n p) (sym second) (subst (λ n. IsMeeting asked us n b p) (sym first) is);
      first = first;
      order = omega (arith, second, order);
      within = omega (arith, second, within);
    }

-- Items that do not interfere are passed over at once.
pub free_not_met : (asked : Option (List ℕ)) (us : List (List Usage)) (a b : ℕ) → kind_between (usages_at us a) (usages_at us b) ≡ Free
    → met_at asked us a b ≡ false
free_not_met asked us a b free = and_right (is_asked asked a b) (not (is_free (kind_between (usages_at us a) (usages_at us b))))
    (ap (λ k. not (is_free k)) free)

row_skip : (asked : Option (List ℕ)) (us : List (List Usage)) (a b m : ℕ) → b + m ≤ length us
    → ((i : ℕ) → b ≤ i → i < b + m → kind_between (usages_at us a) (usages_at us i) ≡ Free) → row asked us a b ≡ row asked us a (b + m)
row_skip asked us a b zero le free = let same : b ≡ b + 0 = omega arith in ap (row asked us a) same
row_skip asked us a b (suc m) le free =
    let same : b + 1 + m ≡ b + suc m = omega arith in
    row_other asked us a b (omega (arith, le)) (free_not_met asked us a b (free b (omega arith) (omega arith)))
    ∙ row_skip asked us a (b + 1) m (omega (arith, le)) (λ i low high. free i (omega (arith, low)) (omega (arith, high)))
    ∙ ap (row asked us a) same

pub row_to : (asked : Option (List ℕ)) (us : List (List Usage)) (a b c : ℕ) → b ≤ c → c ≤ length us
    → ((i : ℕ) → b ≤ i → i < c → kind_between (usages_at us a) (usages_at us i) ≡ Free) → row asked us a b ≡ row asked us a c
row_to asked us a b c low high free =
    let same : b + (c - b) ≡ c = omega arith in
    row_skip asked us a b (c - b) (omega arith) (λ i p q. free i p (omega (arith, q))) ∙ ap (row asked us a) same
