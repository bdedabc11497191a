-- Claims that records up to a number ask for, seen one by one.
use Rattle.std.proofs.Common.{◌≡◌, ℕ, ◌+◌, ◌<◌, ◌≤◌, max, Bool, true, cond, nat_lt, List, [], ◌∷◌, ◌++◌, filter, length, get_or, take, All, Contains, Option, Some, None, IsTrue, IfSome, refl, sym, ap, subst, ◌∙◌, inl, inr, ◌↔◌, arith, append-nil}
use Rattle.std.specs.List.Sorted.{IsPermutation}
use Rattle.std.proofs.lemmas.Bool.{cases_lt, cases_Bool, lt-ltb, le-ltb, ltb-true}
use Rattle.std.proofs.lemmas.List.{get_or_default, get_or-take, length-take, take_more}
use Rattle.std.proofs.lemmas.List.Elements.{All-nil, All-cons, All-weaker, All-filter, All-contains, All-contains_itself, All-take, filter_passes, filter_more, Contains-append_right, Contains-push_cases, Contains-get_or}
use Rattle.std.proofs.lemmas.Option.{none-some}
use Rattle.std.proofs.lemmas.List.Sorted.{Contains-permutation, IsPermutation-sym}
use Rattle.privilege.specs.declared.kinds.Priv.TheVariants.{Ro}
use Rattle.launch_claims.specs.declared.claim.Claim.{Claim}
use Rattle.launch_claims.specs.Claims.{clashes, HasClash, asked_below, IsFirstClash}
use Rattle.launch_claims.specs.Reaches.{IsBefore, AreInOrder, IsBehind, ClashesWithSome, StartsClash, IsFirstUpTo}
use Rattle.launch_claims.proofs.Clashing.{clash_told, clash_from, clash_back}

-- what a filter keeps
kept_all : (p : Claim → Bool) (xs : List Claim) → All (λ x. p x ≡ true → Contains (filter p xs) x) xs
kept_all p [] = All-nil (λ x. p x ≡ true → Contains (filter p []) x)
kept_all p (x ∷ xs) =
    let later : (y : Claim) → Contains (filter p xs) y → Contains (filter p (x ∷ xs)) y = λ y h. elim (cases_Bool (p x)) [
      | inl passes ↦ rw passes (Contains-append_right (x ∷ []) (filter p xs) y h)
      | inr fails ↦ rw fails h
    ] in
    All-cons (λ y. p y ≡ true → Contains (filter p (x ∷ xs)) y) x xs
    (λ passes. rw passes (0, omega arith, refl))
    (All-weaker (λ y. p y ≡ true → Contains (filter p xs) y) (λ y. p y ≡ true → Contains (filter p (x ∷ xs)) y)
    (λ y h passes. later y (h passes)) xs (kept_all p xs))

pub asked_from : (n : ℕ) (claims : List Claim) (c : Claim) → Contains claims c → c.record < n → Contains (asked_below n claims) c
asked_from n claims c h lt =
    let test : Claim → Bool = λ (x : Claim). nat_lt x.record n in
    let all = kept_all test claims in
    All-contains (λ x. test x ≡ true → Contains (filter test claims) x) claims c all h (lt-ltb c.record n lt)

pub asked_in : (n : ℕ) (claims : List Claim) (c : Claim) → Contains (asked_below n claims) c → Contains claims c × (c.record < n)
asked_in n claims c h =
    let test : Claim → Bool = λ (x : Claim). nat_lt x.record n in (
      All-contains (Contains claims) (filter test claims) c (All-filter test (Contains claims) claims (All-contains_itself claims)) h,
      ltb-true c.record n (All-contains (λ x. test x ≡ true) (filter test claims) c (filter_passes test claims) h),
    )

-- one claim more is seen, or passed over
pub seen_more : (n : ℕ) (claims : List Claim) (k : ℕ) (d : Claim) → k < length claims → (get_or claims k d).record < n
    → asked_below n (take (k + 1) claims) ≡ asked_below n (take k claims) ++ get_or claims k d ∷ []
seen_more n claims k d within lt =
    let test : Claim → Bool = λ (x : Claim). nat_lt x.record n in
    filter_more test claims k d within ∙ ap (λ b. filter test (take k claims) ++ cond b (get_or claims k d ∷ []) [])
    (lt-ltb (get_or claims k d).record n lt)

pub seen_same : (n : ℕ) (claims : List Claim) (k : ℕ) (d : Claim) → k < length claims → n ≤ (get_or claims k d).record
    → asked_below n (take (k + 1) claims) ≡ asked_below n (take k claims)
seen_same n claims k d within far =
    let test : Claim → Bool = λ (x : Claim). nat_lt x.record n in
    filter_more test claims k d within ∙ ap (λ b. filter test (take k claims) ++ cond b (get_or claims k d ∷ []) [])
    (le-ltb (get_or claims k d).record n far) ∙ append-nil (filter test (take k claims))

seen_before : (claims : List Claim) (k : ℕ) (d : Claim) → AreInOrder claims → k < length claims → (c : Claim) → Contains (take k claims) c
    → IsBefore c (get_or claims k d)
seen_before claims k d order within c h =
    let lt : h.0 < k = omega (arith, h.1, length-take k claims) in
    let there = order h.0 k c lt within in
    let here = subst (λ (x : Claim). IsBefore (get_or claims h.0 c) x) (get_or_default claims k c d within) there in
    subst (λ (x : Claim). IsBefore x (get_or claims k d)) (sym (get_or-take k claims h.0 c lt) ∙ h.2) here

pub seen_behind : (n : ℕ) (claims : List Claim) (k : ℕ) (d : Claim) → AreInOrder claims → k < length claims
    → IsBehind (asked_below n (take k claims)) (get_or claims k d)
seen_behind n claims k d order within c h = seen_before claims k d order within c (asked_in n (take k claims) c h).0

-- clashes among claims
pub clash_moved : (xs ys : List Claim) → ((c : Claim) → Contains xs c → Contains ys c) → HasClash xs → HasClash ys
clash_moved xs ys into h = (h.0, h.1, into h.0 h.2, into h.1 h.3, h.4)

pub none_more : (seen : List Claim) (d : Claim) → ¬ HasClash seen → ¬ ClashesWithSome seen d → ¬ HasClash (seen ++ d ∷ [])
none_more seen d none apart h =
    let told = clash_told h.0 h.1 h.4 in
    elim (Contains-push_cases seen d h.0 h.2) [
      | inl c_seen ↦ elim (Contains-push_cases seen d h.1 h.3) [
        | inl e_seen ↦ none (h.0, h.1, c_seen, e_seen, h.4)
        | inr is ↦ apart (h.0, c_seen, subst (λ x. IsTrue (clashes h.0 x)) (sym is) h.4)
      ]
      | inr is ↦ elim (Contains-push_cases seen d h.1 h.3) [
        | inl e_seen ↦ apart (h.1, e_seen, subst (λ x. IsTrue (clashes h.1 x)) (sym is) (clash_from h.1 h.0 (clash_back h.0 h.1 told)))
        | inr also ↦ told.tasks (ap (λ (x : Claim). x.task) (sym is ∙ also))
      ]
    ]

asked_wider : (n : ℕ) (xs ys : List Claim) → ((c : Claim) → Contains xs c → Contains ys c) → (c : Claim) → Contains (asked_below n xs) c
    → Contains (asked_below n ys) c
asked_wider n xs ys into c h = let k = asked_in n xs c h in asked_from n ys c (into c k.0) k.1

pub clash_found : (n : ℕ) (claims : List Claim) (k : ℕ) (d : Claim) → k < length claims → (get_or claims k d).record < n
    → ClashesWithSome (asked_below n (take k claims)) (get_or claims k d) → HasClash (asked_below n claims)
clash_found n claims k d within lt some =
    let here = get_or claims k d in
    let told = asked_in n (take k claims) some.0 some.1 in
    let seen : Contains claims some.0 = All-contains (Contains claims) (take k claims) some.0
    (All-take (Contains claims) k claims (All-contains_itself claims)) told.0 in
    (some.0, here, asked_from n claims some.0 seen told.1, asked_from n claims here (Contains-get_or claims k d within) lt, some.2)

-- the claims in order are the claims
pub clash_sorted : (n : ℕ) (claims sorted : List Claim) → IsPermutation claims sorted → HasClash (asked_below n claims)
    → HasClash (asked_below n sorted)
clash_sorted n claims sorted perm = clash_moved (asked_below n claims) (asked_below n sorted)
    (asked_wider n claims sorted (λ c. Contains-permutation claims sorted c perm))

-- the first record at which claims clash
asks_at : (claims : List Claim) (n : ℕ) → StartsClash claims n → (c : Claim) × Contains claims c × (c.record ≡ n)
asks_at claims n starts =
    let h = starts.0 in
    let c = asked_in (n + 1) claims h.0 h.2 in
    let d = asked_in (n + 1) claims h.1 h.3 in
    elim (cases_lt h.0.record n) [
      | inr le ↦ (h.0, c.0, omega (arith, le, c.1))
      | inl lt ↦ elim (cases_lt h.1.record n) [
        | inr le ↦ (h.1, d.0, omega (arith, le, d.1))
        | inl also ↦ absurd (starts.1 (h.0, h.1, asked_from n claims h.0 c.0 lt, asked_from n claims h.1 d.0 also, h.4))
      ]
    ]

starts_sorted : (claims sorted : List Claim) (n : ℕ) → IsPermutation claims sorted → StartsClash sorted n → StartsClash claims n
starts_sorted claims sorted n perm starts = (
  clash_sorted (n + 1) sorted claims (IsPermutation-sym claims sorted perm) starts.0,
  λ h. starts.1 (clash_sorted n claims sorted perm h),
)

pub first_found : (claims sorted : List Claim) (most : ℕ) (o : Option ℕ) → IsPermutation claims sorted → IsFirstUpTo sorted most o
    → IfSome o (IsFirstClash claims)
first_found claims sorted most None perm found = tt
first_found claims sorted most (Some n) perm found =
    let starts = starts_sorted claims sorted n perm found in
    record { asks = asks_at claims n starts; clash = starts.0; first = starts.1 }

pub clash_within : (n : ℕ) (claims : List Claim) → HasClash (asked_below n claims) → HasClash claims
clash_within n claims = clash_moved (asked_below n claims) claims (λ c h. (asked_in n claims c h).0)

clash_up_to : (most : ℕ) (claims : List Claim) → ((c : Claim) → Contains claims c → c.record ≤ most) → HasClash claims
    → HasClash (asked_below (most + 1) claims)
clash_up_to most claims above = clash_moved claims (asked_below (most + 1) claims)
    (λ c h. asked_from (most + 1) claims c h (omega (arith, above c h)))

pub none_found : (claims sorted : List Claim) (most : ℕ) (o : Option ℕ) → IsPermutation claims sorted
    → ((c : Claim) → Contains sorted c → c.record ≤ most)
    → IsFirstUpTo sorted most o → (o ≡ None) ↔ (¬ HasClash claims)
none_found claims sorted most None perm above none = (
  λ is h. none (clash_up_to most sorted above (clash_moved claims sorted (λ c. Contains-permutation claims sorted c perm) h)),
  λ h. refl,
)
none_found claims sorted most (Some n) perm above starts = (
  λ is. absurd (none-some n (sym is)),
  λ h. absurd (h (clash_within (n + 1) claims (starts_sorted claims sorted n perm starts).0)),
)

-- what a place beyond the end of a list reads as
abbrev pub blank : Claim
blank = record { tree = 0; field = 0; first = 0; last = 0; task = 0; access = Ro; «record» = 0 }

-- no record has a number below 0
pub none_below_zero : (claims : List Claim) → ¬ HasClash (asked_below 0 claims)
none_below_zero claims h = let lt = (asked_in 0 claims h.0 h.2).1 in omega (arith, lt)

-- the highest number so far
pub highest_more : (claims : List Claim) (k most : ℕ) (d : Claim) → k < length claims
    → ((c : Claim) → Contains (take k claims) c → c.record ≤ most) → (c : Claim) → Contains (take (k + 1) claims) c
    → c.record ≤ max (get_or claims k d).record most
highest_more claims k most d within so_far c h =
    elim (Contains-push_cases (take k claims) (get_or claims k d) c
    (subst (λ (xs : List Claim). Contains xs c) (take_more claims k d within) h)) [
      | inl earlier ↦ let le = so_far c earlier in omega arith
      | inr is ↦ let same = ap (λ (x : Claim). x.record) is in omega arith
    ]
