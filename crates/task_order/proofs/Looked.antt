-- The first pair of tasks that is not run in serial order, block by block.
use Rattle.std.proofs.Common.{◌≡◌, ℕ, ◌+◌, ◌-◌, ◌<◌, ◌≤◌, ◌&&◌, ◌||◌, ◌∙◌, inl, inr, Bool, true, false, List, Option, Some, None, length, min, refl, sym, subst, arith}
use Rattle.std.specs.Option.{option_map_or}
use Rattle.std.proofs.lemmas.Bool.{cases_lt, cases_eq, cases_Bool, true≢false, and_parts, and_from}
use Rattle.vocabulary.specs.Prelude.{Tables}
use Rattle.semantics.specs.Shown.{IsKept}
use Rattle.order_laws.specs.Turns.{do_interfere, AreKeptBut, IsFirstUnkept}
use Rattle.bit_words.specs.Bits.{has_bit}
use Rattle.order_laws.proofs.lemmas.TaskUses.{interfering_within}
use Rattle.task_order.specs.Rows.{IsRow, IsKeptWith, IsFirstOf, IsFoundIn, IsFoundBefore}

module _ (t : Tables) where
  -- One item more.
  pub kept_more : (low high a : ℕ) → IsKeptWith t low high a → (a < high → do_interfere t a high ≡ true → IsKept t (a, high))
      → IsKeptWith t low (high + 1) a
  kept_more low high a h here b le lt order meet = elim (cases_eq b high) [
    | inl is ↦ subst (λ b. IsKept t (a, b)) (sym is) (here (omega (arith, is, order)) (subst (λ b. do_interfere t a b ≡ true) is meet))
    | inr other ↦ h b le (omega (arith, lt, other)) order meet
  ]

  -- One stretch after the other.
  kept_both : (low mid high a : ℕ) → IsKeptWith t low mid a → IsKeptWith t mid high a → IsKeptWith t low high a
  kept_both low mid high a h g b le lt order meet = elim (cases_lt b mid) [
    | inl less ↦ h b le less order meet
    | inr more ↦ g b more lt order meet
  ]

  -- No item is later, or none is there.
  none_later : (low high a : ℕ) → high ≤ a → IsKeptWith t low high a
  none_later low high a over b le lt order meet = absurd (omega (arith, over, lt, order))

  none_there : (low high a : ℕ) → length t.items ≤ a → IsKeptWith t low high a
  none_there low high a over b le lt order meet =
      let within = interfering_within t a b meet in
      absurd (omega (arith, within, over, order))

  first_wider : (low mid high a b : ℕ) → mid ≤ high → IsFirstOf t low mid a b → IsFirstOf t low high a b
  first_wider low mid high a b le h =
      let lt = h.high_is in
      record {
        low_is = h.low_is;
        high_is = omega (arith, lt, le);
        order = h.order;
        interfere = h.interfere;
        unkept = h.unkept;
        earlier = h.earlier;
      }

  first_longer : (low mid high a b : ℕ) → low ≤ mid → IsKeptWith t low mid a → IsFirstOf t mid high a b → IsFirstOf t low high a b
  first_longer low mid high a b le kept h =
      let at = h.low_is in
      record {
        low_is = omega (arith, at, le);
        high_is = h.high_is;
        order = h.order;
        interfere = h.interfere;
        unkept = h.unkept;
        earlier = kept_both low mid b a kept h.earlier;
      }

  module _ (base items count : ℕ) (is_items : items ≡ length t.items) where
    abbrev next : ℕ
    next = base + 1024

    -- An item that has a row, or one that needs none.
    row_kept : (bound : ℕ) → count ≡ min bound next → ((a : ℕ) → a < count → IsKeptWith t base next a) → (a : ℕ) → a < bound
        → IsKeptWith t base next a
    row_kept bound is h a lt = elim (cases_lt a count) [
      | inl less ↦ h a less
      | inr more ↦ none_later base next a (omega (arith, is, lt, more))
    ]

    pub none_found : (found : Option (ℕ × ℕ)) → count ≡ min (option_map_or (λ (p : ℕ × ℕ). p.0) found items) next
        → IsFoundBefore t base found
        → IsFoundIn t base next count None → IsFoundBefore t next found
    none_found None is h g = λ a. kept_both 0 base next a (h a) (elim (cases_lt a items) [
      | inl less ↦ row_kept items is g a less
      | inr more ↦ none_there base next a (omega (arith, more, is_items))
    ])
    none_found (Some p) is h g = (
      first_wider 0 base next p.0 p.1 (omega arith) h.0,
      λ a lt. kept_both 0 base next a (h.1 a lt) (row_kept p.0 is g a lt),
    )

    pub some_found : (found : Option (ℕ × ℕ)) → count ≡ min (option_map_or (λ (p : ℕ × ℕ). p.0) found items) next
        → IsFoundBefore t base found
        → (p : ℕ × ℕ) → IsFoundIn t base next count (Some p) → IsFoundBefore t next (Some p)
    some_found None is h p g = (
      first_longer 0 base next p.0 p.1 (omega arith) (h p.0) g.1,
      λ a lt. kept_both 0 base next a (h a) (g.2 a lt),
    )
    some_found (Some q) is h p g =
        let lt : p.0 < q.0 = (let c = g.0 in omega (arith, is, c)) in (
          first_longer 0 base next p.0 p.1 (omega arith) (h.1 p.0 lt) g.1,
          λ a less. kept_both 0 base next a (h.1 a (omega (arith, less, lt))) (g.2 a less),
        )

  -- Before no item all is kept.
  pub none_before : IsFoundBefore t 0 None
  none_before a b le lt order meet = absurd (omega (arith, lt))

  less_wide : (n base a : ℕ) → n ≤ base → IsKeptWith t 0 base a → IsKeptWith t 0 n a
  less_wide n base a le h b low lt = h b low (omega (arith, lt, le))

  -- Past the last item nothing more is found.
  pub found_all : (base : ℕ) → length t.items ≤ base → (found : Option (ℕ × ℕ)) → IsFoundBefore t base found
      → IsFoundBefore t (length t.items) found
  found_all base le None h = λ a. less_wide (length t.items) base a le (h a)
  found_all base le (Some p) h = (
    record {
      low_is = h.0.low_is;
      high_is = interfering_within t p.0 p.1 h.0.interfere;
      order = h.0.order;
      interfere = h.0.interfere;
      unkept = h.0.unkept;
      earlier = h.0.earlier;
    },
    λ a lt. less_wide (length t.items) base a le (h.1 a lt),
  )

  pub is_first : (p : ℕ × ℕ) → IsFoundBefore t (length t.items) (Some p) → IsFirstUnkept t p.0 p.1
  is_first p h = record {
    order = h.0.order;
    interfere = h.0.interfere;
    unkept = h.0.unkept;
    earlier = λ c d lt side meet. elim side [
      | inl less ↦ h.1 c less d (omega arith) (interfering_within t c d meet) lt meet
      | inr same ↦ subst (λ c. IsKept t (c, d)) (sym same.0)
          (h.0.earlier d (omega arith) same.1 (subst (λ c. c < d) same.0 lt) (subst (λ c. do_interfere t c d ≡ true) same.0 meet))
    ];
  }

  pub all_kept : IsFoundBefore t (length t.items) None → (a b : ℕ) → a < b → do_interfere t a b ≡ true → IsKept t (a, b)
  all_kept h a b lt meet = h a b (omega arith) (interfering_within t a b meet) lt meet

  -- What is known of a pair without a bit.
  pub unset_kept : (base a : ℕ) (row : List ℕ) → IsRow t base a row → ((i : ℕ) → i < 1024 → has_bit row i ≡ false)
      → IsKeptWith t base (base + 1024) a
  unset_kept base a row is_row unset b low high order meet =
      let i = b - base in
      let at : base + i ≡ b = omega (arith, low) in
      let lt : i < 1024 = omega (arith, low, high) in
      elim (is_row.whole i lt (subst (λ n. a < n) (sym at) order) (subst (λ n. do_interfere t a n ≡ true) (sym at) meet)) [
        | inl bit ↦ absurd (true≢false (sym bit ∙ unset i lt))
        | inr kept ↦ subst (λ n. IsKept t (a, n)) at kept
      ]

  -- A row without the bits of pairs of which no item is left out.
  pub sifted_row : (out : ℕ → Bool) → AreKeptBut t out → (base a : ℕ) (row sifted : List ℕ)
      → ((i : ℕ) → i < 1024 → has_bit row i ≡ do_interfere t a (base + i))
      → ((i : ℕ) → i < 1024 → has_bit sifted i ≡ (has_bit row i && (out a || out (base + i)))) → IsRow t base a sifted
  sifted_row out kept base a row sifted bits sift = record {
    sound = λ i lt e. sym (bits i lt) ∙ (and_parts (has_bit row i) (out a || out (base + i)) (sym (sift i lt) ∙ e)).0;
    whole = λ i lt order meet. elim (cases_Bool (out a || out (base + i))) [
      | inl unordered ↦ inl (sift i lt ∙ and_from (has_bit row i) (out a || out (base + i)) (bits i lt ∙ meet) unordered)
      | inr neither ↦
          let free = or_false (out a) (out (base + i)) neither in
          inr (kept a (base + i) order meet free.0 free.1)
    ];
  }
    where
      or_false : (b c : Bool) → (b || c) ≡ false → (b ≡ false) × (c ≡ false)
      or_false false false e = (refl, refl)
      or_false false true e = absurd (true≢false e)
      or_false true c e = absurd (true≢false e)
