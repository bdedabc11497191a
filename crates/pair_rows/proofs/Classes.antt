-- The users of a place, class by class.
use Rattle.std.proofs.Common.{◌≡◌, ◌≢◌, ℕ, ◌+◌, ◌-◌, ◌<◌, ◌≤◌, ◌⊎◌, inl, inr, Bool, true, false, not, ◌==◌, ◌&&◌, ◌||◌, List, ◌++◌, Contains, refl, sym, ap, ◌∙◌, subst, arith, take, drop, get_or, length, min, append_assoc}
use Rattle.std.specs.List.{list_any}
use Rattle.std.proofs.lemmas.Bool.{cases_lt, true≢false, and_parts, and_from, eqb-true, eq-eqb, false_from_ne_true, not-true, or_right}
use Rattle.std.proofs.lemmas.List.{take-append-drop, drop-drop, take_at, length-take, length-drop, length-append, get_or-take, get_or-drop, get_or_default}
use Rattle.std.proofs.lemmas.List.Elements.{Contains-append_left, Contains-append_right, Contains-append_cases}
use Rattle.std.proofs.lemmas.List.Folds.{Any-from_list_any, list_any-from_Any, list_any-append}
use Rattle.pair_rows.specs.declared.users.User.{User}
use Rattle.pair_rows.specs.Meetings.{uses_it, meets, met, HasOneClass, AreByClass, IsClassEnd}

abbrev pub IsApart : List User → List User → Type 0
IsApart front back = (u v : User) → Contains front u → Contains back v → u.class ≢ v.class

-- ---- tests

any_at : (p : User → Bool) (xs : List User) (x : User) → Contains xs x → p x ≡ true → list_any p xs ≡ true
any_at p xs x c e = list_any-from_Any p xs (c.0, x, c.1, c.2, e)

any_found : (p : User → Bool) (xs : List User) → list_any p xs ≡ true → (x : User) × Contains xs x × (p x ≡ true)
any_found p xs e = let a = Any-from_list_any p xs e in (a.1, (a.0, a.2, a.3), a.4)

both_ways : (b c : Bool) → (b ≡ true → c ≡ true) → (c ≡ true → b ≡ true) → b ≡ c
both_ways true c h k = sym (h refl)
both_ways false true h k = k refl
both_ways false false h k = refl

or_cases : (b c : Bool) → (b || c) ≡ true → (b ≡ true) ⊎ (c ≡ true)
or_cases true c e = inl refl
or_cases false c e = inr e

-- A place that none of some items uses meets none of them.
pub met_none : (users some : List User) (a b : ℕ) → uses_it users b ≡ false → met some users a b ≡ false
met_none users some a b none = false_from_ne_true (met some users a b) (λ e.
    let u = any_found (λ (u : User). (u.item == a) && list_any (λ (v : User). (v.item == b) && meets u v) users) some e in
    let p = and_parts (u.0.item == a) (list_any (λ (v : User). (v.item == b) && meets u.0 v) users) u.2 in
    let v = any_found (λ (v : User). (v.item == b) && meets u.0 v) users p.1 in
    let q = and_parts (v.0.item == b) (meets u.0 v.0) v.2 in
    true≢false (sym (any_at (λ (u : User). u.item == b) users v.0 v.1 q.0) ∙ none))

-- ---- a run of users of one class

module _ (users front run back : List User) (class : ℕ) (parts : users ≡ front ++ (run ++ back)) (once : HasOneClass users)
    (same : (u : User) → Contains run u → u.class ≡ class)
    (before : (u : User) → Contains front u → u.class ≢ class) (behind : (u : User) → Contains back u → u.class ≢ class) where
  in_run : (u : User) → Contains run u → Contains users u
  in_run u c = subst (λ xs. Contains xs u) (sym parts) (Contains-append_right front (run ++ back) u (Contains-append_left run back u c))

  side : (u : User) → Contains users u → Contains run u ⊎ (u.class ≢ class)
  side u c = elim (Contains-append_cases front (run ++ back) u (subst (λ xs. Contains xs u) parts c)) [
    | inl f ↦ inr (before u f)
    | inr r ↦ elim (Contains-append_cases run back u r) [ inl here ↦ inl here | inr b ↦ inr (behind u b) ]
  ]

  abbrev told : ℕ → ℕ → Bool
  told a b = uses_it run a && (uses_it users b && ((class == 0) || not (uses_it run b)))

  there : (a b : ℕ) → met run users a b ≡ true → told a b ≡ true
  there a b e =
      let u = any_found (λ (u : User). (u.item == a) && list_any (λ (v : User). (v.item == b) && meets u v) users) run e in
      let p = and_parts (u.0.item == a) (list_any (λ (v : User). (v.item == b) && meets u.0 v) users) u.2 in
      let v = any_found (λ (v : User). (v.item == b) && meets u.0 v) users p.1 in
      let q = and_parts (v.0.item == b) (meets u.0 v.0) v.2 in
      let of : u.0.class ≡ class = same u.0 u.1 in
      and_from (uses_it run a) _ (any_at (λ (u : User). u.item == a) run u.0 u.1 p.0)
      (and_from (uses_it users b) _ (any_at (λ (u : User). u.item == b) users v.0 v.1 q.0)
      (elim (or_cases (u.0.class == 0) (not (u.0.class == v.0.class)) q.1) [
        | inl zero ↦ ap (λ z. z || not (uses_it run b)) (ap (λ n. n == 0) (sym of) ∙ zero)
        | inr differ ↦ or_right (class == 0) (not (uses_it run b)) (ap not (false_from_ne_true (uses_it run b) (λ mine.
            let w = any_found (λ (u : User). u.item == b) run mine in
            let item : v.0.item ≡ w.0.item = eqb-true v.0.item b q.0 ∙ sym (eqb-true w.0.item b w.2) in
            let one : v.0.class ≡ w.0.class = once v.0 w.0 v.1 (in_run w.0 w.1) item in
            let is : u.0.class ≡ v.0.class = of ∙ (sym (same w.0 w.1) ∙ sym one) in
            true≢false (sym (eq-eqb u.0.class v.0.class is) ∙ not-true (u.0.class == v.0.class) differ))))
      ]))

  back_again : (a b : ℕ) → told a b ≡ true → met run users a b ≡ true
  back_again a b e =
      let p = and_parts (uses_it run a) (uses_it users b && ((class == 0) || not (uses_it run b))) e in
      let q = and_parts (uses_it users b) ((class == 0) || not (uses_it run b)) p.1 in
      let u = any_found (λ (u : User). u.item == a) run p.0 in
      let v = any_found (λ (u : User). u.item == b) users q.0 in
      let of : u.0.class ≡ class = same u.0 u.1 in
      let meet : meets u.0 v.0 ≡ true = elim (or_cases (class == 0) (not (uses_it run b)) q.1) [
        | inl zero ↦ ap (λ z. z || not (u.0.class == v.0.class)) (ap (λ n. n == 0) of ∙ zero)
        | inr not_mine ↦ or_right (u.0.class == 0) (not (u.0.class == v.0.class))
            (ap not (false_from_ne_true (u.0.class == v.0.class) (λ same_class. elim (side v.0 v.1) [
              | inl mine ↦ true≢false (sym (any_at (λ (u : User). u.item == b) run v.0 mine v.2) ∙ not-true (uses_it run b) not_mine)
              | inr other ↦ other (sym (eqb-true u.0.class v.0.class same_class) ∙ of)
            ])))
      ] in
      any_at (λ (u : User). (u.item == a) && list_any (λ (v : User). (v.item == b) && meets u v) users) run u.0 u.1
      (and_from (u.0.item == a) _ u.2 (any_at (λ (v : User). (v.item == b) && meets u.0 v) users v.0 v.1
      (and_from (v.0.item == b) (meets u.0 v.0) v.2 meet)))

  pub met_run : (a b : ℕ) → met run users a b ≡ told a b
  met_run a b = both_ways (met run users a b) (told a b) (there a b) (back_again a b)

  pub met_more : (a b : ℕ) (old : Bool) → ((old || met front users a b) || told a b) ≡ (old || met (front ++ run) users a b)
  met_more a b old = or_assoc old (met front users a b) (told a b)
      ∙ ap (λ c. old || c) (ap (λ c. met front users a b || c) (sym (met_run a b))
      ∙ sym (list_any-append (λ (u : User). (u.item == a) && list_any (λ (v : User). (v.item == b) && meets u v) users) front run))
    where
      or_assoc : (x y z : Bool) → ((x || y) || z) ≡ (x || (y || z))
      or_assoc true y z = refl
      or_assoc false y z = refl

-- ---- the next class

module _ (users : List User) (from end : ℕ) (x : IsClassEnd users from end) (sorted : AreByClass users)
    (apart : IsApart (take from users) (drop from users)) where
  abbrev run_of : List User
  run_of = take (end - from) (drop from users)

  drop_parts : drop from users ≡ run_of ++ drop end users
  drop_parts =
      let behind = x.behind in
      let e : from + (end - from) ≡ end = omega (arith, behind) in
      sym (take-append-drop (end - from) (drop from users)) ∙ ap (λ zs. run_of ++ zs)
      (drop-drop (end - from) from users ∙ ap (λ n. drop n users) e)

  whole : users ≡ take from users ++ (run_of ++ drop end users)
  whole = sym (take-append-drop from users) ∙ ap (λ zs. take from users ++ zs) drop_parts

  take_end : take end users ≡ take from users ++ run_of
  take_end =
      let behind = x.behind in
      let within = x.within in
      let long : length (take from users ++ run_of) ≡ end = rw (
        length-append (take from users) run_of,
        length-take from users,
        length-take (end - from)
            (drop from users),
        length-drop from users,
      ) (omega (arith, behind, within)) in
      ap (take end) (whole ∙ sym (append_assoc (take from users) run_of (drop end users)))
      ∙ take_at (take from users ++ run_of) (drop end users) end long

  run_class : (u : User) → Contains run_of u → u.class ≡ (get_or users from u).class
  run_class u c =
      let behind = x.behind in
      let within = x.within in
      let short : min (end - from) (length (drop from users)) ≡ end - from =
      rw (length-drop from users) (omega (arith, behind, within)) in
      let n : c.0 < end - from = subst (λ n. c.0 < n) (length-take (end - from) (drop from users) ∙ short) c.1 in
      let is : get_or users (from + c.0) u ≡ u = sym (get_or-take (end - from) (drop from users) c.0 u n
      ∙ get_or-drop from users c.0 u) ∙ c.2 in
      ap (λ (u : User). u.class) (sym is) ∙ x.same (from + c.0) u (omega arith) (omega (arith, n, behind))

  later_class : (v : User) → Contains (drop end users) v → (get_or users from v).class < v.class
  later_class v c =
      let behind = x.behind in
      let lt : end + c.0 < length users = (let l = subst (λ n. c.0 < n) (length-drop end users) c.1 in omega (arith, l)) in
      let is : get_or users (end + c.0) v ≡ v = sym (get_or-drop end users c.0 v) ∙ c.2 in
      let cls : (get_or users (end + c.0) v).class ≡ v.class = ap (λ (u : User). u.class) is in
      let ne = x.other v (omega (arith, lt)) in
      let up = sorted from end v (omega (arith, behind)) (omega (arith, lt)) in
      let on : (get_or users end v).class ≤ (get_or users (end + c.0) v).class = elim (cases_lt 0 c.0) [
        | inl some ↦ sorted end (end + c.0) v (omega arith) lt
        | inr none ↦ let z : end + c.0 ≡ end = omega (arith, none) in
            let same : (get_or users (end + c.0) v).class ≡ (get_or users end v).class = ap (λ n. (get_or users n v).class) z in
            omega (arith, same)
      ] in
      omega (arith, ne, up, on, cls)

  module _ (class : ℕ) (d : User) (is : class ≡ (get_or users from d).class) where
    at_from : (e : User) → (get_or users from e).class ≡ class
    at_from e = ap (λ (u : User). u.class) (get_or_default users from e d
        (let behind = x.behind in let within = x.within in omega (arith, behind, within))) ∙ sym is

    same_here : (u : User) → Contains run_of u → u.class ≡ class
    same_here u c = run_class u c ∙ at_from u

    before_here : (u : User) → Contains (take from users) u → u.class ≢ class
    before_here u c e =
        let behind = x.behind in
        let within = x.within in
        let here : Contains (drop from users) (get_or users from d) =
        (0, rw (length-drop from users) (omega (arith, behind, within)), get_or-drop from users 0 (get_or users from d) ∙ first) in
        apart u (get_or users from d) c here (e ∙ is)
      where
        first : get_or users (from + 0) (get_or users from d) ≡ get_or users from d
        first = let z : from + 0 ≡ from = omega arith in ap (λ n. get_or users n (get_or users from d)) z
            ∙ get_or_default users from (get_or users from d) d
            (let behind = x.behind in let within = x.within in omega (arith, behind, within))

    behind_here : (u : User) → Contains (drop end users) u → u.class ≢ class
    behind_here u c e = let l = later_class u c in let a = at_from u in omega (arith, l, a, e)

    pub apart_more : IsApart (take end users) (drop end users)
    apart_more u v m n e = elim (Contains-append_cases (take from users) run_of u (subst (λ xs. Contains xs u) take_end m)) [
      | inl front ↦ apart u v front (subst (λ xs. Contains xs v) (sym drop_parts) (Contains-append_right run_of (drop end users) v n)) e
      | inr here ↦ behind_here v n (sym e ∙ same_here u here)
    ]

    pub met_next : HasOneClass users → (a b : ℕ) (old all : Bool) → all ≡ uses_it users b
        → ((old || met (take from users) users a b) || (uses_it run_of a && (all && ((class == 0) || not (uses_it run_of b))))) ≡
        (old || met (take end users) users a b)
    met_next once a b old all e =
        ap (λ z. (old || met (take from users) users a b) || (uses_it run_of a && (z && ((class == 0) || not (uses_it run_of b))))) e
        ∙ met_more users (take from users) run_of (drop end users) class whole once same_here before_here behind_here a b old
        ∙ ap (λ xs. old || met xs users a b) (sym take_end)
