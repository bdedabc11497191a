-- Numbers of what is wanted at places.
use Rattle.std.proofs.Common.{◌≡◌, ◌≢◌, ℕ, ◌+◌, ◌-◌, ◌^◌, ◌<◌, ◌≤◌, true, false, cond, inl, inr, List, [], ◌∷◌, ◌++◌, take, length, get_or, refl, sym, ap, subst, ◌∙◌, arith}
use Rattle.std.proofs.lemmas.Bool.{cases_Bool, cases_lt, eq-eqb, true≢false}
use Rattle.std.proofs.lemmas.List.{append-nil, get_or_append_left, length-append, length-take, take-append-le}
use Rattle.std.proofs.Math.Seq.{get_or-append_seam, take-append_seam}
use Rattle.value_terms.specs.declared.terms.Base.TheVariants.{Init}
use Rattle.vocabulary.specs.Prelude.{Value, plain, weight_of, same_value, Place, same_place}
use Rattle.value_terms.proofs.lemmas.Equality.{value_decides}
use Rattle.semantics.proofs.lemmas.SamePlaces.{same_place-true}
use Rattle.shared_values.specs.Arenas.{value_at, Keeps}
use Rattle.serial_exec.specs.declared.change.Change.{Change}
use Rattle.serial_exec.specs.declared.place_lists.PlaceLists.{PlaceLists}
use Rattle.serial_exec.specs.Changes.{acted_by, after_changes, AreFirst}
use Rattle.serial_exec.specs.Histories.{listed}
use Rattle.serial_exec.specs.Kept.{Kept, changes_in}
use Rattle.serial_exec.proofs.lemmas.OneByOne.{after-more, after-light}
use Rattle.inst_steps.specs.Stores.{IsNumberOf}
use Rattle.replay.specs.Wanting.{AreNumbers, AreWanted}
use Rattle.value_terms.specs.declared.terms.Base.{Base}
use Rattle.serial_exec.specs.declared.change.Action.TheVariants.{Put}

still_number : (old new : List Value) (v : Value) (n : ℕ) → Keeps old new → IsNumberOf old v n → IsNumberOf new v n
still_number old new v n kept h = record {
  known = let k = h.known in let l = kept.longer in omega (arith, k, l);
  is = kept.same n h.known ∙ h.is;
}

-- What numbers stood for they stand for.
pub still_wanted : (old new : List Value) (k : Kept) (w : PlaceLists ℕ) → Keeps old new → AreWanted old k w → AreWanted new k w
still_wanted old new k w kept h p i d lt = still_number old new _ _ kept (h p i d lt)

-- The numbers of the first changes.
pub of_first : (values : List Value) (cs first : List Change) (ns : List ℕ) → AreFirst cs first → length ns ≤ length first
    → AreNumbers values cs ns → AreNumbers values first ns
of_first values cs first ns of few h i d lt =
    subst (λ xs. IsNumberOf values (after_changes xs (plain Init)) (get_or ns i d))
    (ap (take i) of.1 ∙ take-append-le i first of.0 (omega (arith, few, lt))) (h i d lt)

-- The number of all of them.
pub at_first : (values : List Value) (cs first : List Change) (ns : List ℕ) (d : ℕ) → AreFirst cs first → length first < length ns
    → AreNumbers values cs ns → IsNumberOf values (after_changes first (plain Init)) (get_or ns (length first) d)
at_first values cs first ns d of lt h =
    subst (λ xs. IsNumberOf values (after_changes xs (plain Init)) (get_or ns (length first) d))
    (ap (take (length first)) of.1 ∙ take-append_seam first of.0) (h (length first) d lt)

-- The last of some numbers, and the one after it.
module _ (values : List Value) (cs : List Change) (ns : List ℕ) (made d : ℕ) (h : AreNumbers values cs ns) (all : made ≡ length ns)
    (some : made ≡ 0 → ⊥) where
  last_is : IsNumberOf values (after_changes (take (made - 1) cs) (plain Init)) (get_or ns (made - 1) d)
  last_is = h (made - 1) d (omega (arith, some, all))

  pub last_known : get_or ns (made - 1) d < length values
  last_known = last_is.known

  pub last_light : made < 2 ^ 64 → weight_of (value_at values (get_or ns (made - 1) d)) < 2 ^ 64 - 1
  last_light fits =
      let is = ap weight_of last_is.is in
      let light = after-light (take (made - 1) cs) (plain Init) in
      let few = length-take (made - 1) cs in
      omega (arith, is, light, few, fits, some)

  pub next_is : (new : List Value) (e : Change) (m : ℕ) → made ≤ length cs
      → IsNumberOf new (acted_by (get_or cs (made - 1) e).action (value_at values (get_or ns (made - 1) d))) m
      → IsNumberOf new (after_changes (take made cs) (plain Init)) m
  next_is new e m few told =
      let more : made - 1 + 1 ≡ made = omega (arith, some) in
      record {
        known = told.known;
        is = told.is ∙ ap (acted_by (get_or cs (made - 1) e).action) last_is.is
            ∙ sym (after-more cs (made - 1) e (plain Init) (omega (arith, few, some)))
            ∙ ap (λ n. after_changes (take n cs) (plain Init)) more;
      }

-- One number more.
numbers_more : (values : List Value) (cs : List Change) (ns : List ℕ) (n : ℕ) → AreNumbers values cs ns
    → IsNumberOf values (after_changes (take (length ns) cs) (plain Init)) n → AreNumbers values cs (ns ++ n ∷ [])
numbers_more values cs ns n h last i d lt = elim (cases_lt i (length ns)) [
  | inl before ↦ subst (IsNumberOf values (after_changes (take i cs) (plain Init))) (sym (get_or_append_left ns (n ∷ []) d i before))
      (h i d before)
  | inr past ↦
      let more = length-append ns (n ∷ []) in
      let at : length ns ≡ i = omega (arith, more, lt, past) in
      subst (λ j. IsNumberOf values (after_changes (take j cs) (plain Init)) (get_or (ns ++ n ∷ []) j d)) at
      (subst (IsNumberOf values (after_changes (take (length ns) cs) (plain Init))) (sym (get_or-append_seam ns n [] d)) last)
]

pub wanted_more : (old new : List Value) (k : Kept) (w v : PlaceLists ℕ) (place : Place) (first : List Change) (n : ℕ) → Keeps old new
    → AreFirst (changes_in k place) first → length (listed w place) ≤ length first
    → ((p : Place) → listed v p ≡ listed w p ++ cond (same_place place p) (n ∷ []) [])
    → IsNumberOf new (after_changes (take (length (listed w place)) first) (plain Init)) n
    → AreWanted old k w → AreWanted new k v
wanted_more old new k w v place first n kept of few pushed is h p =
    let still = still_wanted old new k w kept h in
    elim (cases_Bool (same_place place p)) [
      | inl same ↦
          let last = subst (λ xs. IsNumberOf new (after_changes xs (plain Init)) n)
          (sym (ap (take (length (listed w place))) of.1 ∙ take-append-le (length (listed w place)) first of.0 few)) is in
          let here = numbers_more new (changes_in k place) (listed w place) n (still place) last in
          let moved = subst (λ q. AreNumbers new (changes_in k q) (listed w q ++ n ∷ [])) (same_place-true place p same) here in
          subst (AreNumbers new (changes_in k p)) (sym (pushed p ∙ ap (λ b. listed w p ++ cond b (n ∷ []) []) same)) moved
      | inr other ↦
          subst (AreNumbers new (changes_in k p)) (sym (pushed p ∙ ap (λ b. listed w p ++ cond b (n ∷ []) []) other ∙ append-nil (listed w p)))
          (still p)
    ]

-- The list of a place is longer by the number that is pushed there.
pub longer : (w v : PlaceLists ℕ) (place : Place) (n : ℕ)
    → ((p : Place) → listed v p ≡ listed w p ++ cond (same_place place p) (n ∷ []) [])
    → length (listed v place) ≡ length (listed w place) + 1
longer w v place n pushed =
    let here : same_place place place ≡ true = rw (
      eq-eqb place.tree place.tree refl,
      eq-eqb place.point place.point refl,
      eq-eqb place.field place.field refl,
    ) refl in
    ap length (pushed place ∙ ap (λ b. listed w place ++ cond b (n ∷ []) []) here) ∙ length-append (listed w place) (n ∷ [])

-- ---- what is compared

pub agrees_with : (old new : List Value) (got n : ℕ) (v : Value) → Keeps old new → got < length old → IsNumberOf new v n
    → same_value (value_at new got) (value_at new n) ≡ true → value_at old got ≡ v
agrees_with old new got n v kept known is same =
    sym (kept.same got known) ∙ (value_decides (value_at new got) (value_at new n)).0 same ∙ is.is

pub differs_from : (old new : List Value) (got n : ℕ) (v : Value) → Keeps old new → got < length old → IsNumberOf new v n
    → same_value (value_at new got) (value_at new n) ≡ false → value_at old got ≢ v
differs_from old new got n v kept known is other e =
    true≢false (sym ((value_decides (value_at new got) (value_at new n)).1 (kept.same got known ∙ e ∙ sym is.is)) ∙ other)

-- At first nothing is kept.
pub none_wanted : (values : List Value) (k : Kept) (w : PlaceLists ℕ) → ((p : Place) → listed w p ≡ []) → AreWanted values k w
none_wanted values k w none p i d lt = let e = ap length (none p) in absurd (omega (arith, e, lt))

-- What was put last is what changes make.
pub put_last : (front : List Change) (c : Change) (base : Base) (v : Value) → c.action ≡ Put base
    → after_changes (front ++ c ∷ []) v ≡ plain base
put_last [] c base v is = ap (λ a. acted_by a v) is
put_last (x ∷ front) c base v is = put_last front c base (acted_by x.action v) is
