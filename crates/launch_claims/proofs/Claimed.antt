-- What requirements claim, and when it clashes.
use Rattle.std.proofs.Common.{◌≡◌, All, true, ◌↔◌, ℕ, ◌+◌, ◌*◌, ◌^◌, ◌<◌, ◌≤◌, max, Bool, false, IsTrue, nat_lt, List, [], ◌∷◌, ◌++◌, ◌⊎◌, Contains, Option, Some, None, IfSome, length, get_or, map, take, refl, sym, ap, subst, ◌∙◌, inl, inr, arith}
use Rattle.std.specs.List.{Any}
use Rattle.std.proofs.lemmas.Bool.{both_ways, cases_lt, false≢true, lt-ltb, ltb-true}
use Rattle.std.proofs.lemmas.List.{get_or_default, take_all}
use Rattle.std.proofs.lemmas.List.Elements.{All-contains, Contains-append_cases, Contains-append_left, Contains-append_right, Contains-get_or, Contains-push, Contains-push_cases}
use Rattle.privilege.specs.declared.kinds.Priv.{Priv}
use Rattle.privilege.specs.Interference.{agree}
use Rattle.point_set.specs.declared.rect.Rect.{Rect}
use Rattle.point_set.specs.Least.{IsGreatestOf}
use Rattle.point_set.specs.Rects.{Holds, rect_at}
use Rattle.point_set.proofs.lemmas.Columns.{of_has, to_has}
use Rattle.arena_sets.specs.Pieces.{AreRectsOf}
use Rattle.launch_claims.specs.declared.claim.Claim.{Claim}
use Rattle.launch_claims.specs.declared.requirement.LaunchTasks.{LaunchTasks}
use Rattle.launch_claims.specs.declared.requirement.Requirement.{Requirement}
use Rattle.launch_claims.specs.Claiming.{AreClaims, AreInFirstColumn, IsClaimOf, IsClaimed, claim_on, claims_by, rows_of}
use Rattle.launch_claims.specs.Claims.{HasClash, IsFirstClash, asked_below}
use Rattle.launch_claims.specs.Interference.{AllAgree, Conflict, InterferesIn, IsKnownAt, IsLeast}
use Rattle.launch_claims.proofs.Clashing.{Clash, agree_same, clash_back, clash_from, clash_told, one_field, share_from}
use Rattle.launch_claims.proofs.Passing.{asked_from, asked_in, clash_moved, clash_within}
use Rattle.list_lemmas.proofs.lemmas.Contained.{flat_member, map_member, member_flat, member_map}
use Rattle.list_lemmas.proofs.lemmas.Parts.{take_with}

-- ---- claims of requirements

-- the points of rectangles in the first column are their rows
row_in : (points : List ℕ) (rects : List Rect) (x : ℕ) → AreInFirstColumn points → AreRectsOf points rects → Contains points x
    → (r : Rect) × Contains rects r × (r.y0 ≤ x) × (x ≤ r.y1)
row_in points rects x column are h =
    let at = to_has rects x are.0.1 (subst (λ (ps : List ℕ). Contains ps x) (sym are.1) h) in
    let k = at.has.place in
    let fits = All-contains (λ (p : ℕ). p < 2 ^ 32) points x column h in
    let is = at.is in
    let row : at.y ≡ x = omega arith in
    let low = at.has.holds.low in
    let high = at.has.holds.high in
    (rect_at rects k, Contains-get_or rects k (record { x0 = 0; x1 = 0; y0 = 0; y1 = 0 }) at.has.within, omega arith, omega arith)

of_row : (points : List ℕ) (rects : List Rect) (r : Rect) (x : ℕ) → AreInFirstColumn points → AreRectsOf points rects → Contains rects r
    → r.y0 ≤ x → x ≤ r.y1 → Contains points x
of_row points rects r x column are h low high =
    let none : Rect = record { x0 = 0; x1 = 0; y0 = 0; y1 = 0 } in
    let k = h.0 in
    let is : rect_at rects k ≡ r = get_or_default rects k none r h.1 ∙ h.2 in
    let some = are.0.0.some k none h.1 in
    let wide = subst (λ (s : Rect). s.x0 ≤ s.x1) is some.0 in
    let holds : Holds r r.x0 x = record { left = omega arith; right = wide; low = low; high = high } in
    let here : Contains points (r.x0 * 2 ^ 32 + x) =
    subst (λ (ps : List ℕ). Contains ps (r.x0 * 2 ^ 32 + x)) are.1
    (of_has rects r.x0 x (record { place = k; within = h.1; holds = subst (λ (s : Rect). Holds s r.x0 x) (sym is) holds })) in
    let fits = All-contains (λ (p : ℕ). p < 2 ^ 32) points (r.x0 * 2 ^ 32 + x) column here in
    let first : r.x0 * 2 ^ 32 + x ≡ x = omega (arith, fits) in
    subst (Contains points) first here

-- the last point tells whether points lie in the first column
pub column_told : (points : List ℕ) (last : ℕ) → IsGreatestOf points (Some last) → IsTrue (nat_lt last 4294967296) ↔ AreInFirstColumn points
column_told points last greatest = (
  λ h k d lt.
      let below = ltb-true last 4294967296 h in
      let le = greatest.1 (get_or points k d) (Contains-get_or points k d lt) in
      omega (arith, below, le),
  λ h. lt-ltb last 4294967296 (All-contains (λ (p : ℕ). p < 2 ^ 32) points last h greatest.0),
)

pub none_in_column : (points : List ℕ) → IsGreatestOf points None → AreInFirstColumn points
none_in_column points none = λ k d lt. absurd (none (get_or points k d) (Contains-get_or points k d lt))

-- a requirement claims its fields and points, and nothing else
claim_in : {P : Type 0} (l : LaunchTasks) (u : Requirement P) (rects : List Rect) (f : ℕ) (r : Rect) → Contains u.fields.now f
    → Contains rects r → Contains (claims_by l u rects) (rows_of (claim_on l u f) r)
claim_in l u rects f r has h =
    flat_member (λ (field : ℕ). map (rows_of (claim_on l u field)) rects) u.fields.now f (rows_of (claim_on l u f) r) has
    (map_member (rows_of (claim_on l u f)) rects r h)

claim_of : {P : Type 0} (points : P → List ℕ) (l : LaunchTasks) (u : Requirement P) (rects : List Rect) (c : Claim)
    → AreInFirstColumn (points u.set) → AreRectsOf (points u.set) rects
    → Contains (claims_by l u rects) c → IsClaimOf points l u c
claim_of points l u rects c column are h =
    let f = member_flat (λ (field : ℕ). map (rows_of (claim_on l u field)) rects) u.fields.now c h in
    let r = member_map (rows_of (claim_on l u f.0)) rects c f.2 in
    record {
      field = f.0;
      rect = r.0;
      has = f.1;
      is = sym r.2;
      points = λ x low high. of_row (points u.set) rects r.0 x column are r.1 low high;
    }

pub no_claims : {P : Type 0} (points : P → List ℕ) (l : LaunchTasks) → AreClaims points l [] []
no_claims points l = record {
  sound = λ c h. absurd (let lt = h.1 in omega (arith, lt));
  whole = λ r field x h has in_set. absurd (let lt = h.1 in omega (arith, lt));
}

-- the claims of one requirement more
pub claims_more : {P : Type 0} (points : P → List ℕ) (l : LaunchTasks) (reqs : List (Requirement P)) (k : ℕ) (u : Requirement P)
    (rects : List Rect) (old new : List Claim) → k < length reqs → u ≡ get_or reqs k u → AreInFirstColumn (points u.set)
    → AreRectsOf (points u.set) rects → new ≡ old ++ claims_by l u rects
    → AreClaims points l (take k reqs) old → AreClaims points l (take (k + 1) reqs) new
claims_more {P = P} points l reqs k u rects old new lt is column are added before =
    let more = claims_by l u rects in
    let told : AreClaims points l (take k reqs ++ u ∷ []) (old ++ more) = record {
      sound = λ c h. elim (Contains-append_cases old more c h) [
        | inl earlier ↦ let s = before.sound c earlier in (s.0, Contains-append_left (take k reqs) (u ∷ []) s.0 s.1, s.2)
        | inr later ↦ (u, Contains-push (take k reqs) u, claim_of points l u rects c column are later)
      ];
      whole = λ r field x h has in_set. elim (Contains-push_cases (take k reqs) u r h) [
        | inl earlier ↦
            let w = before.whole r field x earlier has in_set in
            record {
              rect = w.rect;
              claimed = Contains-append_left old more (rows_of (claim_on l r field) w.rect) w.claimed;
              low = w.low;
              high = w.high;
            }
        | inr same ↦ subst (λ (s : Requirement P). Contains s.fields.now field → Contains (points s.set) x
            → IsClaimed l s field x (old ++ more)) same
            (λ of_field of_set.
            let r = row_in (points u.set) rects x column are of_set in
            record {
              rect = r.0;
              claimed = Contains-append_right old more (rows_of (claim_on l u field) r.0) (claim_in l u rects field r.0 of_field r.1);
              low = r.2;
              high = r.3;
            }) has in_set
      ];
    } in
    subst (λ (rs : List (Requirement P)). AreClaims points l rs new) (sym (take_with reqs k u lt is))
    (subst (AreClaims points l (take k reqs ++ u ∷ [])) (sym added) told)

pub claims_all : {P : Type 0} (points : P → List ℕ) (l : LaunchTasks) (reqs : List (Requirement P)) (k : ℕ) (claims : List Claim)
    → length reqs ≤ k → AreClaims points l (take k reqs) claims → AreClaims points l reqs claims
claims_all {P = P} points l reqs k claims le h = subst (λ (rs : List (Requirement P)). AreClaims points l rs claims) (take_all k reqs le) h

-- ---- what claims tell

-- where requirements interfere, their claims up to that number clash
clash_there : {P : Type 0} (points : P → List ℕ) (l : LaunchTasks) (reqs : List (Requirement P)) (claims : List Claim) (n : ℕ)
    → AreClaims points l reqs claims → InterferesIn points l reqs n → HasClash (asked_below (n + 1) claims)
clash_there points l reqs claims n are h =
    let u = h.0 in
    let v = h.1 in
    let known = h.4 in
    let conflict = h.5 in
    let f = conflict.fields.0 in
    let x = conflict.points.0 in
    let p = are.whole u f x h.2 conflict.fields.1 conflict.points.1 in
    let q = are.whole v f x h.3 conflict.fields.2 conflict.points.2 in
    let c = rows_of (claim_on l u f) p.rect in
    let d = rows_of (claim_on l v f) q.rect in
    let launched = known.launched in
    let asks = known.asks in
    let declared = known.declared in
    let others = known.others in
    let others_declared = known.others_declared in
    let low = p.low in
    let high = p.high in
    let its_low = q.low in
    let its_high = q.high in
    let clash : Clash c d = record {
      field = share_from c d (record { tree = conflict.tree; field = refl });
      points = omega arith;
      tasks = conflict.tasks;
      accesses = conflict.accesses;
    } in
    let one : max l.number (max u.record u.declared) < n + 1 = omega arith in
    let other : max l.number (max v.record v.declared) < n + 1 = omega arith in (
      c,
      d,
      asked_from (n + 1) claims c p.claimed one,
      asked_from (n + 1) claims d q.claimed other,
      clash_from c d clash,
    )

-- where claims clash, their requirements are in conflict
conflict_of : {P : Type 0} (points : P → List ℕ) (l : LaunchTasks) (u v : Requirement P) (c d : Claim) → IsClaimOf points l u c
    → IsClaimOf points l v d → Clash c d → Conflict points u v
conflict_of points l u v c d m k h =
    let one = rows_of (claim_on l u m.field) m.rect in
    let other = rows_of (claim_on l v k.field) k.rect in
    let clash : Clash one other = subst (λ (x : Claim). Clash x other) (sym m.is) (subst (λ (x : Claim). Clash c x) (sym k.is) h) in
    let same = one_field one other clash.field in
    let meet = clash.points in
    let x = max m.rect.y0 k.rect.y0 in
    record {
      tasks = clash.tasks;
      tree = same.tree;
      fields = (m.field, m.has, subst (λ n. Contains v.fields.now n) (sym same.field) k.has);
      points = (x, m.points x (omega arith) (omega (arith, meet)), k.points x (omega arith) (omega (arith, meet)));
      accesses = clash.accesses;
    }

made_at : {P : Type 0} (points : P → List ℕ) (l : LaunchTasks) (u : Requirement P) (c : Claim) → IsClaimOf points l u c
    → max l.number (max u.record u.declared) ≡ c.record
made_at points l u c m = ap (λ (x : Claim). x.record) m.is

-- Neither the launch nor the points of a requirement come with this number.
abbrev pub IsTimely : {P : Type 0} → LaunchTasks → List (Requirement P) → ℕ → Type 0
IsTimely l reqs n = ¬ ((l.number ≡ n) ⊎ Any (λ r. r.declared ≡ n) reqs)

-- the later of two claims tells where they interfere
interferes_there : {P : Type 0} (points : P → List ℕ) (l : LaunchTasks) (reqs : List (Requirement P)) (claims : List Claim) (n : ℕ)
    (c d : Claim) → AreClaims points l reqs claims → IsTimely l reqs n → Contains claims c → Contains claims d → Clash c d
    → c.record ≡ n → d.record ≤ n → InterferesIn points l reqs n
interferes_there points l reqs claims n c d are timely in_c in_d clash at le =
    let m = are.sound c in_c in
    let k = are.sound d in_d in
    let u = m.0 in
    let v = k.0 in
    let here = made_at points l u c m.2 in
    let there = made_at points l v d k.2 in
    let launched : ¬ (l.number ≡ n) = λ e. timely (inl e) in
    let ours : ¬ (u.declared ≡ n) = λ e. timely (inr (m.1.0, u, m.1.1, m.1.2, e)) in
    let theirs : ¬ (v.declared ≡ n) = λ e. timely (inr (k.1.0, v, k.1.1, k.1.2, e)) in
    let known : IsKnownAt l n u v = record {
      launched = omega arith;
      asks = omega arith;
      declared = omega arith;
      others = omega arith;
      others_declared = omega arith;
    } in
    (u, v, m.1, k.1, known, conflict_of points l u v c d m.2 k.2 clash)

first_there : {P : Type 0} (points : P → List ℕ) (l : LaunchTasks) (reqs : List (Requirement P)) (claims : List Claim) (n : ℕ)
    → AreClaims points l reqs claims → IsTimely l reqs n → IsFirstClash claims n → InterferesIn points l reqs n
first_there points l reqs claims n are timely first =
    let h = first.clash in
    let c = asked_in (n + 1) claims h.0 h.2 in
    let d = asked_in (n + 1) claims h.1 h.3 in
    let clash = clash_told h.0 h.1 h.4 in
    elim (cases_lt h.0.record n) [
      | inr le ↦
          interferes_there points l reqs claims n h.0 h.1 are timely c.0 d.0 clash (omega (arith, le, c.1)) (omega (arith, d.1))
      | inl lt ↦ elim (cases_lt h.1.record n) [
        | inr le ↦ interferes_there points l reqs claims n h.1 h.0 are timely d.0 c.0 (clash_back h.0 h.1 clash) (omega (arith, le, d.1))
            (omega (arith, c.1))
        | inl also ↦ absurd (first.first (h.0, h.1, asked_from n claims h.0 c.0 lt, asked_from n claims h.1 d.0 also, h.4))
      ]
    ]

none_before : {P : Type 0} (points : P → List ℕ) (l : LaunchTasks) (reqs : List (Requirement P)) (claims : List Claim) (m n : ℕ)
    → AreClaims points l reqs claims → IsFirstClash claims m → InterferesIn points l reqs n → m ≤ n
none_before points l reqs claims m n are first h = elim (cases_lt n m) [
  | inr le ↦ le
  | inl lt ↦
      absurd (first.first (clash_moved (asked_below (n + 1) claims) (asked_below m claims) (λ c k. let e = asked_in (n + 1) claims c k in
      asked_from m claims c e.0 (omega (arith, lt, e.1))) (clash_there points l reqs claims n are h)))
]

pub none_clash : {P : Type 0} (points : P → List ℕ) (l : LaunchTasks) (reqs : List (Requirement P)) (claims : List Claim) (o : Option ℕ)
    → AreClaims points l reqs claims → ((o ≡ None) ↔ (¬ HasClash claims)) → o ≡ None → (n : ℕ) → ¬ InterferesIn points l reqs n
none_clash points l reqs claims o are told none n h =
    told.0 none (clash_within (n + 1) claims (clash_there points l reqs claims n are h))

pub first_clashes : {P : Type 0} (points : P → List ℕ) (l : LaunchTasks) (reqs : List (Requirement P)) (claims : List Claim) (o : Option ℕ)
    (n : ℕ) (late : Bool) → AreClaims points l reqs claims → IfSome o (IsFirstClash claims) → o ≡ Some n
    → (IsTrue late ↔ ((l.number ≡ n) ⊎ Any (λ r. r.declared ≡ n) reqs)) → late ≡ false → IsLeast (InterferesIn points l reqs) (Some n)
first_clashes points l reqs claims o n late are told some judged timely =
    let first : IsFirstClash claims n = subst (λ x. IfSome x (IsFirstClash claims)) some told in (
      first_there points l reqs claims n are (λ h. both_ways late timely (judged.1 h)) first,
      λ m h. none_before points l reqs claims n m are first h,
    )

-- ---- where all privileges agree

pub agreed : {P : Type 0} (p : Priv) (reqs : List (Requirement P)) → All (λ (r : Requirement P). agree p r.access ≡ true) reqs
    → AllAgree reqs
agreed {P = P} p reqs all u v in_u in_v =
    let one = All-contains (λ (r : Requirement P). agree p r.access ≡ true) reqs u all in_u in
    let other = All-contains (λ (r : Requirement P). agree p r.access ≡ true) reqs v all in_v in
    subst (λ (q : Priv). agree q v.access ≡ true) (agree_same p u.access one) other

pub none_where_agreed : {P : Type 0} (points : P → List ℕ) (l : LaunchTasks) (reqs : List (Requirement P)) → AllAgree reqs → (n : ℕ)
    → ¬ InterferesIn points l reqs n
none_where_agreed points l reqs all n h = absurd (false≢true (sym h.5.accesses ∙ all h.0 h.1 h.2 h.3))
