-- Requirements of a launch, compared pair by pair.
use Rattle.std.proofs.Common.{◌≡◌, ◌↔◌, ℕ, ◌+◌, ◌<◌, ◌≤◌, min, Bool, true, false, IsTrue, List, [], ◌∷◌, ◌++◌, ◌⊎◌, Contains, Option, Some, None, length, get_or, take, sym, subst, inl, inr, arith}
use Rattle.std.specs.List.{Any}
use Rattle.std.specs.List.Sorted.{IsPermutation}
use Rattle.std.proofs.lemmas.Bool.{both_ways, cases_lt}
use Rattle.std.proofs.lemmas.List.{take_all, take_more}
use Rattle.std.proofs.lemmas.List.Elements.{Contains-append_left, Contains-push, Contains-push_cases}
use Rattle.std.proofs.lemmas.List.Sorted.{Contains-permutation, IsPermutation-sym}
use Rattle.launch_claims.specs.declared.requirement.LaunchTasks.{LaunchTasks}
use Rattle.launch_claims.specs.declared.requirement.Requirement.{Requirement}
use Rattle.launch_claims.proofs.lemmas.Least.{least_same}
use Rattle.launch_claims.specs.Interference.{Conflict, InterferesAt, InterferesIn, IsKnownAt, IsLeast, IsOfLaunch, least_with, lesser}
use Rattle.list_lemmas.proofs.lemmas.Parts.{take_with}

-- At the record of this number, one of the first requirements that it asks for is in conflict with one of all.
abbrev pub AmongPairs : {P : Type 0} → (P → List ℕ) → LaunchTasks → List (Requirement P) → List (Requirement P) → ℕ → Type 0
AmongPairs {P = P} points l some all n = (u : Requirement P) × (v : Requirement P) × Contains some u × Contains all v
    × IsKnownAt l n u v × Conflict points u v

pub least_either : (P Q : ℕ → Type 0) (o p : Option ℕ) → IsLeast P o → IsLeast Q p → IsLeast (λ n. P n ⊎ Q n) (lesser o p)
least_either P Q None None h k = λ n e. elim e [ inl a ↦ h n a | inr b ↦ k n b ]
least_either P Q None (Some m) h k = (inr k.0, λ n e. elim e [ inl a ↦ absurd (h n a) | inr b ↦ k.1 n b ])
least_either P Q (Some m) None h k = (inl h.0, λ n e. elim e [ inl a ↦ h.1 n a | inr b ↦ absurd (k n b) ])
least_either P Q (Some m) (Some q) h k =
    let below : (n : ℕ) → P n ⊎ Q n → min m q ≤ n = λ n e. elim e [
      | inl a ↦ let le = h.1 n a in omega arith
      | inr b ↦ let le = k.1 n b in omega arith
    ] in
    elim (cases_lt q m) [
      | inl lt ↦ let is : q ≡ min m q = omega (arith, lt) in (inr (subst Q is k.0), below)
      | inr le ↦ let is : m ≡ min m q = omega (arith, le) in (inl (subst P is h.0), below)
    ]

-- what the requirement of one task asks
abbrev AsksAt : {P : Type 0} → (P → List ℕ) → LaunchTasks → Requirement P → List (Requirement P) → ℕ → Type 0
AsksAt {P = P} points l u all n = (v : Requirement P) × Contains all v × IsKnownAt l n u v × Conflict points u v

among_more : {P : Type 0} (points : P → List ℕ) (l : LaunchTasks) (reqs : List (Requirement P)) (k : ℕ) (u : Requirement P)
    → take (k + 1) reqs ≡ take k reqs ++ u ∷ [] → (n : ℕ)
    → AsksAt points l u reqs n ⊎ AmongPairs points l (take k reqs) reqs n → AmongPairs points l (take (k + 1) reqs) reqs n
among_more {P = P} points l reqs k u more n e =
    subst (λ (xs : List (Requirement P)). AmongPairs points l xs reqs n) (sym more) (elim e [
      | inl a ↦ (u, a.0, Contains-push (take k reqs) u, a.1, a.2, a.3)
      | inr b ↦ (b.0, b.1, Contains-append_left (take k reqs) (u ∷ []) b.0 b.2, b.3, b.4, b.5)
    ])

among_before : {P : Type 0} (points : P → List ℕ) (l : LaunchTasks) (reqs : List (Requirement P)) (k : ℕ) (u : Requirement P)
    → take (k + 1) reqs ≡ take k reqs ++ u ∷ [] → (n : ℕ)
    → AmongPairs points l (take (k + 1) reqs) reqs n → AsksAt points l u reqs n ⊎ AmongPairs points l (take k reqs) reqs n
among_before {P = P} points l reqs k u more n a =
    let h : AmongPairs points l (take k reqs ++ u ∷ []) reqs n =
    subst (λ (xs : List (Requirement P)). AmongPairs points l xs reqs n) more a in
    elim (Contains-push_cases (take k reqs) u h.0 h.2) [
      | inl earlier ↦ inr (h.0, h.1, earlier, h.3, h.4, h.5)
      | inr is ↦ inl (subst (λ (x : Requirement P). AsksAt points l x reqs n) (sym is) (h.1, h.3, h.4, h.5))
    ]

abbrev pub SaysWhether : {P : Type 0} → (P → List ℕ) → LaunchTasks → Requirement P → List (Requirement P) → Bool → Type 0
SaysWhether points l u all b = IsTrue b ↔ Any (λ v. IsKnownAt l u.record u v × Conflict points u v) all

asks_first : {P : Type 0} (points : P → List ℕ)
    (l : LaunchTasks) (u : Requirement P) (reqs : List (Requirement P)) (b : Bool) → SaysWhether points l u reqs b → b ≡ true
    → IsLeast (AsksAt points l u reqs) (Some u.record)
asks_first points l u reqs b told yes_told =
    let a = told.0 yes_told in
    ((a.1, (a.0, a.2, a.3), a.4.0, a.4.1), λ n h. let is = h.2.asks in omega (arith, is))

asks_none : {P : Type 0} (points : P → List ℕ)
    (l : LaunchTasks) (u : Requirement P) (reqs : List (Requirement P)) (b : Bool) → SaysWhether points l u reqs b → b ≡ false → (n : ℕ)
    → ¬ AsksAt points l u reqs n
asks_none points l u reqs b told no_told n h =
    let known : IsKnownAt l u.record u h.0 = subst (λ m. IsKnownAt l m u h.0) (sym h.2.asks) h.2 in
    both_ways b no_told (told.1 (h.1.0, h.0, h.1.1, h.1.2, (known, h.3)))

pub pairs_found : {P : Type 0} (points : P → List ℕ) (l : LaunchTasks) (reqs : List (Requirement P)) (k : ℕ) (u : Requirement P)
    (o : Option ℕ) (b : Bool) → k < length reqs → u ≡ get_or reqs k u → SaysWhether points l u reqs b → b ≡ true
    → IsLeast (AmongPairs points l (take k reqs) reqs) o
    → IsLeast (AmongPairs points l (take (k + 1) reqs) reqs) (Some (least_with u.record o))
pairs_found points l reqs k u o b lt is told yes_told h =
    let more = take_with reqs k u lt is in
    least_same (λ n. AsksAt points l u reqs n ⊎ AmongPairs points l (take k reqs) reqs n) (AmongPairs points l (take (k + 1) reqs) reqs)
    (among_more points l reqs k u more) (among_before points l reqs k u more) (Some (least_with u.record o))
    (least_either (AsksAt points l u reqs) (AmongPairs points l (take k reqs) reqs) (Some u.record) o
    (asks_first points l u reqs b told yes_told) h)

pub pairs_passed : {P : Type 0} (points : P → List ℕ) (l : LaunchTasks) (reqs : List (Requirement P)) (k : ℕ) (u : Requirement P)
    (o : Option ℕ) (b : Bool) → k < length reqs → u ≡ get_or reqs k u → SaysWhether points l u reqs b → b ≡ false
    → IsLeast (AmongPairs points l (take k reqs) reqs) o → IsLeast (AmongPairs points l (take (k + 1) reqs) reqs) o
pairs_passed points l reqs k u o b lt is told no_told h =
    let more = take_with reqs k u lt is in
    least_same (AmongPairs points l (take k reqs) reqs) (AmongPairs points l (take (k + 1) reqs) reqs)
    (λ n a. among_more points l reqs k u more n (inr a))
    (λ n a. elim (among_before points l reqs k u more n a) [
      | inl asks ↦ absurd (asks_none points l u reqs b told no_told n asks)
      | inr earlier ↦ earlier
    ]) o h

pub pairs_all : {P : Type 0} (points : P → List ℕ)
    (l : LaunchTasks) (reqs : List (Requirement P)) (k : ℕ) (o : Option ℕ) → length reqs ≤ k
    → IsLeast (AmongPairs points l (take k reqs) reqs) o → IsLeast (InterferesIn points l reqs) o
pairs_all {P = P} points l reqs k o le h =
    subst (λ (xs : List (Requirement P)). IsLeast (AmongPairs points l xs reqs) o) (take_all k reqs le) h

-- ---- one launch after the other

launches_more : {P : Type 0} (points : P → List ℕ)
    (launches : List LaunchTasks) (reqs own : List (Requirement P)) (k : ℕ) (d : LaunchTasks) → k < length launches
    → ((u : Requirement P) → Contains own u ↔ IsOfLaunch (get_or launches k d) reqs u)
    → (n : ℕ) → InterferesAt points (take k launches) reqs n ⊎ InterferesIn points (get_or launches k d) own n
    → InterferesAt points (take (k + 1) launches) reqs n
launches_more points launches reqs own k d lt of n e =
    let l = get_or launches k d in
    subst (λ (ls : List LaunchTasks). InterferesAt points ls reqs n) (sym (take_more launches k d lt)) (elim e [
      | inl a ↦ (a.0, Contains-append_left (take k launches) (l ∷ []) a.0 a.1, a.2)
      | inr b ↦ (l, Contains-push (take k launches) l, (b.0, b.1, (of b.0).0 b.2, (of b.1).0 b.3, b.4, b.5))
    ])

launches_before : {P : Type 0} (points : P → List ℕ)
    (launches : List LaunchTasks) (reqs own : List (Requirement P)) (k : ℕ) (d : LaunchTasks) → k < length launches
    → ((u : Requirement P) → Contains own u ↔ IsOfLaunch (get_or launches k d) reqs u)
    → (n : ℕ) → InterferesAt points (take (k + 1) launches) reqs n → InterferesAt points (take k launches) reqs n
    ⊎ InterferesIn points (get_or launches k d) own n
launches_before points launches reqs own k d lt of n a =
    let l = get_or launches k d in
    let h : InterferesAt points (take k launches ++ l ∷ []) reqs n =
    subst (λ (ls : List LaunchTasks). InterferesAt points ls reqs n) (take_more launches k d lt) a in
    elim (Contains-push_cases (take k launches) l h.0 h.1) [
      | inl earlier ↦ inl (h.0, earlier, h.2)
      | inr is ↦
          let u = h.2.0 in
          let v = h.2.1 in
          let at : IsOfLaunch l reqs u × IsOfLaunch l reqs v × IsKnownAt l n u v × Conflict points u v =
          subst (λ (x : LaunchTasks). IsOfLaunch x reqs u × IsOfLaunch x reqs v × IsKnownAt x n u v × Conflict points u v) (sym is) (
            h.2.2,
            h.2.3,
            h.2.4,
            h.2.5,
          ) in
          inr (u, v, (of u).1 at.0, (of v).1 at.1, at.2, at.3)
    ]

pub launch_judged : {P : Type 0} (points : P → List ℕ)
    (launches : List LaunchTasks) (reqs own : List (Requirement P)) (k : ℕ) (d : LaunchTasks) (first next : Option ℕ)
    → k < length launches → ((u : Requirement P) → Contains own u ↔ IsOfLaunch (get_or launches k d) reqs u)
    → IsLeast (InterferesAt points (take k launches) reqs) first → IsLeast (InterferesIn points (get_or launches k d) own) next
    → IsLeast (InterferesAt points (take (k + 1) launches) reqs) (lesser first next)
launch_judged points launches reqs own k d first next lt of h one =
    let l = get_or launches k d in
    least_same (λ n. InterferesAt points (take k launches) reqs n ⊎ InterferesIn points l own n)
    (InterferesAt points (take (k + 1) launches) reqs)
    (launches_more points launches reqs own k d lt of) (launches_before points launches reqs own k d lt of) (lesser first next)
    (least_either (InterferesAt points (take k launches) reqs) (InterferesIn points l own) first next h one)

pub launches_all : {P : Type 0} (points : P → List ℕ)
    (launches : List LaunchTasks) (reqs : List (Requirement P)) (k : ℕ) (o : Option ℕ) → length launches ≤ k
    → IsLeast (InterferesAt points (take k launches) reqs) o → IsLeast (InterferesAt points launches reqs) o
launches_all points launches reqs k o le h =
    subst (λ (ls : List LaunchTasks). IsLeast (InterferesAt points ls reqs) o) (take_all k launches le) h

pub none_launched : {P : Type 0} (points : P → List ℕ) (reqs : List (Requirement P)) (n : ℕ) → ¬ InterferesAt points [] reqs n
none_launched points reqs n h = let lt = h.1.1 in omega (arith, lt)

pub none_among : {P : Type 0} (points : P → List ℕ)
    (l : LaunchTasks) (reqs : List (Requirement P)) (n : ℕ) → ¬ AmongPairs points l [] reqs n
none_among points l reqs n h = let lt = h.2.1 in omega (arith, lt)

moved : {P : Type 0} (points : P → List ℕ)
    (launches : List LaunchTasks) (xs ys : List (Requirement P)) → ((u : Requirement P) → Contains xs u → Contains ys u) → (n : ℕ)
    → InterferesAt points launches xs n → InterferesAt points launches ys n
moved points launches xs ys into n h =
    (h.0, h.1, (h.2.0, h.2.1, (into h.2.0 h.2.2.0, h.2.2.1), (into h.2.1 h.2.3.0, h.2.3.1), h.2.4, h.2.5))

pub first_moved : {P : Type 0} (points : P → List ℕ)
    (launches : List LaunchTasks) (reqs sorted : List (Requirement P)) (o : Option ℕ) → IsPermutation reqs sorted
    → IsLeast (InterferesAt points launches sorted) o → IsLeast (InterferesAt points launches reqs) o
first_moved points launches reqs sorted o perm h =
    least_same (InterferesAt points launches sorted) (InterferesAt points launches reqs)
    (moved points launches sorted reqs (λ u. Contains-permutation sorted reqs u (IsPermutation-sym reqs sorted perm)))
    (moved points launches reqs sorted (λ u. Contains-permutation reqs sorted u perm)) o h
