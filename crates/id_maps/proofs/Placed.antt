-- Where the value of an id stands.
use Rattle.std.proofs.Common.{◌≡◌, ℕ, zero, suc, ◌<◌, ◌≤◌, ◌==◌, cond, nat_eq, List, [], ◌∷◌, ◌++◌, length, set, Option, Some, None, slice_get, Result, Ok, Err, refl, sym, ap, ◌∙◌, inl, inr, arith, if◌then◌else◌}
use Rattle.std.specs.HashMap.{get}
use Rattle.std.specs.Result.{OnErr}
use Rattle.std.proofs.lemmas.Bool.{cases_Bool, cases_lt, eqb-false, eqb-true, le-ltb, lt-ltb, ne_eqb}
use Rattle.id_maps.specs.declared.IdMap.{IdMap}
use Rattle.id_maps.specs.declared.TheConstants.{TABLE_END}
use Rattle.id_maps.specs.Entries.{entry_at, held}

module _ {T : Type 0} where
  pub in_table : (m : IdMap T) (id : ℕ) → id < TABLE_END → entry_at m id ≡ held (slice_get m.table.items id)
  unfolding entry_at
  in_table m id low = ap (λ b. if b then held (slice_get m.table.items id) else get nat_eq m.others id) (lt-ltb id TABLE_END low)

  pub in_others : (m : IdMap T) (id : ℕ) → TABLE_END ≤ id → entry_at m id ≡ get nat_eq m.others id
  unfolding entry_at
  in_others m id high = ap (λ b. if b then held (slice_get m.table.items id) else get nat_eq m.others id) (le-ltb id TABLE_END high)

  -- A place more, which holds nothing.
  pub one_more : (xs : List (Option T)) (k : ℕ) → held (slice_get (xs ++ None ∷ []) k) ≡ held (slice_get xs k)
  one_more [] zero = refl
  one_more [] (suc k) = refl
  one_more (x ∷ xs) zero = refl
  one_more (x ∷ xs) (suc k) = one_more xs k

  -- Where two maps hold the same at each place, each id has the same.
  pub same_entries : (m n : IdMap T) → ((k : ℕ) → held (slice_get n.table.items k) ≡ held (slice_get m.table.items k))
      → ((e : ℕ) → get nat_eq n.others e ≡ get nat_eq m.others e) → (id : ℕ) → entry_at n id ≡ entry_at m id
  same_entries m n table others id = elim (cases_lt id TABLE_END) [
    | inl low ↦ in_table n id low ∙ table id ∙ sym (in_table m id low)
    | inr high ↦ in_others n id high ∙ others id ∙ sym (in_others m id high)
  ]

  -- One value more among the others.
  pub put_in_others : (m n : IdMap T) (id : ℕ) (value : T) → TABLE_END ≤ id → n.table.items ≡ m.table.items
      → ((e : ℕ) → get nat_eq n.others e ≡ cond (id == e) (Some value) (get nat_eq m.others e))
      → (e : ℕ) → entry_at n e ≡ cond (id == e) (Some value) (entry_at m e)
  put_in_others m n id value high table others e = elim (cases_lt e TABLE_END) [
    | inl low ↦
        in_table n e low ∙ ap (λ (xs : List (Option T)). held (slice_get xs e)) table ∙ sym (in_table m e low)
        ∙ sym (ap (λ b. cond b (Some value) (entry_at m e)) (ne_eqb id e (λ same. omega (arith, same, low, high))))
    | inr above ↦ in_others n e above ∙ others e ∙ ap (cond (id == e) (Some value)) (sym (in_others m e above))
  ]

  -- One value more in the table.
  set_here : (xs : List (Option T)) (k : ℕ) (value : T) → k < length xs → held (slice_get (set xs k (Some value)) k) ≡ Some value
  set_here [] k value lt = absurd (omega (arith, lt))
  set_here (x ∷ xs) zero value lt = refl
  set_here (x ∷ xs) (suc k) value lt = set_here xs k value (omega (arith, lt))

  set_elsewhere : (xs : List (Option T)) (k e : ℕ) (value : T) → (k ≡ e → ⊥)
      → held (slice_get (set xs k (Some value)) e) ≡ held (slice_get xs e)
  set_elsewhere [] k e value apart = refl
  set_elsewhere (x ∷ xs) zero zero value apart = absurd (apart refl)
  set_elsewhere (x ∷ xs) zero (suc e) value apart = refl
  set_elsewhere (x ∷ xs) (suc k) zero value apart = refl
  set_elsewhere (x ∷ xs) (suc k) (suc e) value apart = set_elsewhere xs k e value (λ same. apart (ap suc same))

  put_at : (xs : List (Option T)) (k : ℕ) (value : T) → k < length xs → (e : ℕ)
      → held (slice_get (set xs k (Some value)) e) ≡ cond (k == e) (Some value) (held (slice_get xs e))
  put_at xs k value lt e = elim (cases_Bool (k == e)) [
    | inl hit ↦
        ap (λ j. held (slice_get (set xs k (Some value)) j)) (sym (eqb-true k e hit)) ∙ set_here xs k value lt
        ∙ sym (ap (λ b. cond b (Some value) (held (slice_get xs e))) hit)
    | inr miss ↦
        set_elsewhere xs k e value (eqb-false k e miss) ∙ sym (ap (λ b. cond b (Some value) (held (slice_get xs e))) miss)
  ]

  pub put_in_table : (m n : IdMap T) (grown : List (Option T)) (id : ℕ) (value : T) → id < TABLE_END → id < length grown
      → ((k : ℕ) → held (slice_get grown k) ≡ held (slice_get m.table.items k)) → n.table.items ≡ set grown id (Some value)
      → ((e : ℕ) → get nat_eq n.others e ≡ get nat_eq m.others e) → (e : ℕ) → entry_at n e ≡ cond (id == e) (Some value) (entry_at m e)
  put_in_table m n grown id value low long same table others e = elim (cases_lt e TABLE_END) [
    | inl below ↦
        in_table n e below ∙ ap (λ xs. held (slice_get xs e)) table ∙ put_at grown id value long e
        ∙ ap (cond (id == e) (Some value)) (same e ∙ sym (in_table m e below))
    | inr high ↦
        in_others n e high ∙ others e ∙ sym (in_others m e high)
        ∙ sym (ap (λ b. cond b (Some value) (entry_at m e)) (ne_eqb id e (λ same. omega (arith, same, low, high))))
  ]

pub after_err : {X E P : Type 0} (r : Result X E) → P → OnErr r P
after_err (Ok x) p = tt
after_err (Err e) p = p
