-- How far claims reach, and what clashes with the next.
use Rattle.std.proofs.Common.{◌≡◌, ◌≢◌, ℕ, ◌<◌, ◌≤◌, max, Bool, true, false, List, [], ◌∷◌, ◌++◌, Contains, Option, Some, None, IsTrue, refl, sym, subst, ◌∙◌, inl, inr, arith}
use Rattle.std.proofs.lemmas.Bool.{cases_lt, cases_eq, cases_Bool, true≢false, false_from_ne_true}
use Rattle.std.proofs.lemmas.List.Elements.{Contains-append_left, Contains-push, Contains-push_cases}
use Rattle.privilege.specs.Interference.{agree}
use Rattle.launch_claims.specs.declared.claim.Claim.{Claim}
use Rattle.launch_claims.specs.declared.reach.Reach.{Reach}
use Rattle.launch_claims.specs.Claims.{share_field, HasClash}
use Rattle.launch_claims.specs.Reaches.{IsFieldBefore, IsBehind, ClashesWithSome, IsOfOtherTask, IsOfOtherAccess, IsReachOf, IsAsFar, counted, Measures, MeasuresSoFar, HasNoneOfField}
use Rattle.launch_claims.proofs.Clashing.{agree_same, OneField, one_field, share_from, share_back, share_also, share_same, clash_told, clash_from}

-- two tests that the same claims pass
pub reach_alike : (P Q : Claim → Type 0) (seen : List Claim) (o : Option ℕ) → ((c : Claim) → P c → Q c) → ((c : Claim) → Q c → P c)
    → IsReachOf P seen o → IsReachOf Q seen o
reach_alike P Q seen None there back h = λ c in_seen q. h c in_seen (back c q)
reach_alike P Q seen (Some last) there back h = ((h.0.0, h.0.1, there h.0.0 h.0.2, h.0.3), λ c in_seen q. h.1 c in_seen (back c q))

far_one : (P : Claim → Type 0) (seen : List Claim) (o : Option ℕ) (point : ℕ) → IsReachOf P seen o → IsAsFar o point → (c : Claim)
    × Contains seen c × P c × (point ≤ c.last)
far_one P seen None point h far = absurd far
far_one P seen (Some last) point h far = (h.0.0, h.0.1, h.0.2, omega (arith, far, h.0.3))

far_all : (P : Claim → Type 0) (seen : List Claim) (o : Option ℕ) (point : ℕ) → IsReachOf P seen o → (c : Claim) → Contains seen c → P c
    → point ≤ c.last → IsAsFar o point
far_all P seen None point h c in_seen p le = h c in_seen p
far_all P seen (Some last) point h c in_seen p le = omega (arith, h.1 c in_seen p, le)

-- of other tasks and accesses than those of a claim
pub tasks_as_far : (seen : List Claim) (r : Reach) (d : Claim) → r.furthest.task ≡ d.task → Measures r seen
    → IsTrue (share_field r.furthest d) → IsReachOf (IsOfOtherTask d) seen r.other_tasks
tasks_as_far seen r d same h share =
    reach_alike (IsOfOtherTask r.furthest) (IsOfOtherTask d) seen r.other_tasks
    (λ c p. (share_also c r.furthest d p.0 share, λ e. p.1 (e ∙ sym same)))
    (λ c q. (share_also c d r.furthest q.0 (share_back r.furthest d share), λ e. q.1 (e ∙ same)))
    h.tasks

pub accesses_as_far : (seen : List Claim) (r : Reach) (d : Claim) → agree r.furthest.access d.access ≡ true → Measures r seen
    → IsTrue (share_field r.furthest d) → IsReachOf (IsOfOtherAccess d) seen r.other_accesses
accesses_as_far seen r d agrees h share =
    let same = agree_same r.furthest.access d.access agrees in
    reach_alike (IsOfOtherAccess r.furthest) (IsOfOtherAccess d) seen r.other_accesses
    (λ c p. (share_also c r.furthest d p.0 share, subst (λ x. agree c.access x ≡ false) same p.1))
    (λ c q. (share_also c d r.furthest q.0 (share_back r.furthest d share), subst (λ x. agree c.access x ≡ false) (sym same) q.1))
    (h.accesses (subst (λ x. agree r.furthest.access x ≡ true) (sym same) agrees))

-- claims that reach a point beyond their first have it in common
no_clash : (seen : List Claim) (c d : Claim) (point : ℕ) → ¬ HasClash seen → Contains seen c → Contains seen d → IsTrue (share_field c d)
    → c.first ≤ point → d.first ≤ point → point ≤ c.last → point ≤ d.last → c.task ≢ d.task → agree c.access d.access ≡ true
no_clash seen c d point none in_c in_d share fc fd lc ld apart = elim (cases_Bool (agree c.access d.access)) [
  | inl agrees ↦ agrees
  | inr differ ↦ absurd (none (
    c,
    d,
    in_c,
    in_d,
    clash_from c d (record { field = share; points = omega arith; tasks = apart; accesses = differ }),
  ))
]

-- some claim of another task and some of another access reach the next, so one does both
both_clash : (seen : List Claim) (d x y : Claim) → ¬ HasClash seen → IsBehind seen d → d.first ≤ d.last → Contains seen x
    → IsOfOtherTask d x → d.first ≤ x.last → Contains seen y → IsOfOtherAccess d y → d.first ≤ y.last → ClashesWithSome seen d
both_clash seen d x y none behind run in_x task_x far_x in_y access_y far_y =
    let fx = (behind x in_x).points task_x.0 in
    let fy = (behind y in_y).points access_y.0 in
    elim (cases_eq y.task d.task) [
      | inr apart ↦ (y, in_y, clash_from y d (record { field = access_y.0; points = omega arith; tasks = apart; accesses = access_y.1 }))
      | inl same ↦
          let share = share_also x d y task_x.0 (share_back y d access_y.0) in
          let agrees = no_clash seen x y d.first none in_x in_y share fx fy far_x far_y (λ e. task_x.1 (e ∙ same)) in
          let one = agree_same x.access y.access agrees in (
            x,
            in_x,
            clash_from x d (record {
              field = task_x.0;
              points = omega arith;
              tasks = task_x.1;
              accesses =
                  subst (λ p. agree p d.access ≡ false) (sym one) access_y.1;
            }),
          )
    ]

pub clash_where_both : (seen : List Claim) (d : Claim) (o p : Option ℕ) → IsReachOf (IsOfOtherTask d) seen o
    → IsReachOf (IsOfOtherAccess d) seen p → IsBehind seen d → d.first ≤ d.last → ¬ HasClash seen → IsAsFar o d.first → IsAsFar p d.first
    → ClashesWithSome seen d
clash_where_both seen d o p tasks accesses behind run none far also =
    let x = far_one (IsOfOtherTask d) seen o d.first tasks far in
    let y = far_one (IsOfOtherAccess d) seen p d.first accesses also in
    both_clash seen d x.0 y.0 none behind run x.1 x.2 x.3 y.1 y.2 y.3

pub both_where_clash : (seen : List Claim) (d : Claim) (o p : Option ℕ) → IsReachOf (IsOfOtherTask d) seen o
    → IsReachOf (IsOfOtherAccess d) seen p → ClashesWithSome seen d → IsAsFar o d.first × IsAsFar p d.first
both_where_clash seen d o p tasks accesses some =
    let c = some.0 in
    let h = clash_told c d some.2 in (
      far_all (IsOfOtherTask d) seen o d.first tasks c some.1 (h.field, h.tasks) (omega (arith, h.points)),
      far_all (IsOfOtherAccess d) seen p d.first accesses c some.1 (h.field, h.accesses) (omega (arith, h.points)),
    )

pub no_point : (seen : List Claim) (d : Claim) → d.last < d.first → ClashesWithSome seen d → ⊥
no_point seen d less some = let h = clash_told some.0 d some.2 in omega (arith, h.points, less)

-- where the last field that was seen is not that of the next claim, none that was seen is
fields_same : (c d : Claim) → IsFieldBefore c d → IsFieldBefore d c → OneField c d
fields_same c d h k =
    let tree : c.tree ≡ d.tree = omega (arith, h.tree, k.tree) in
    record { tree = tree; field = omega (arith, h.field tree, k.field (sym tree)) }

field_moved : (b c d : Claim) → OneField b c → IsFieldBefore b d → IsFieldBefore c d
field_moved b c d o h = record {
  tree = omega (arith, o.tree, h.tree);
  field = λ e. let t = h.field (o.tree ∙ e) in omega (arith, o.field, t);
}

field_same : (c d : Claim) → IsTrue (share_field c d) → IsFieldBefore c d
field_same c d share = let o = one_field c d share in record { tree = omega (arith, o.tree); field = λ e. omega (arith, o.field) }

pub other_field : (seen : List Claim) (r : Reach) (d : Claim) → share_field r.furthest d ≡ false → Measures r seen → IsBehind seen d
    → (c : Claim) → Contains seen c → share_field c d ≡ false
other_field seen r d apart h behind c in_seen = false_from_ne_true (share_field c d) (λ shared.
    let o = one_field c d shared in
    let after = field_moved c d r.furthest o (h.latest c in_seen) in
    let before = (behind r.furthest h.found).fields in
    let same = share_from r.furthest d (fields_same r.furthest d before after) in
    true≢false (sym same ∙ apart))

pub no_clash_apart : (seen : List Claim) (r : Reach) (d : Claim) → share_field r.furthest d ≡ false → Measures r seen → IsBehind seen d
    → ClashesWithSome seen d → ⊥
no_clash_apart seen r d apart h behind some =
    let told = clash_told some.0 d some.2 in
    true≢false (sym told.field ∙ other_field seen r d apart h behind some.0 some.1)

-- one claim more
all_seen : (seen : List Claim) (d : Claim) (P : Claim → Type 0) → ((c : Claim) → Contains seen c → P c) → P d → (c : Claim)
    → Contains (seen ++ d ∷ []) c → P c
all_seen seen d P before here c h = elim (Contains-push_cases seen d c h) [
  | inl earlier ↦ before c earlier
  | inr is ↦ subst P is here
]

reach_passed : (P : Claim → Type 0) (seen : List Claim) (o : Option ℕ) (d : Claim) → IsReachOf P seen o → ¬ P d
    → IsReachOf P (seen ++ d ∷ []) o
reach_passed P seen None d h not_here = all_seen seen d (λ c. ¬ P c) h not_here
reach_passed P seen (Some last) d h not_here = (
  (h.0.0, Contains-append_left seen (d ∷ []) h.0.0 h.0.1, h.0.2, h.0.3),
  all_seen seen d (λ c. P c → c.last ≤ last) h.1 (λ p. absurd (not_here p)),
)

pub reach_counted : (P : Claim → Type 0) (seen : List Claim) (o : Option ℕ) (b : Bool) (d : Claim) → (b ≡ true → P d) → (b ≡ false → ¬ P d)
    → IsReachOf P seen o → IsReachOf P (seen ++ d ∷ []) (counted o b d.last)
reach_counted P seen o false d here not_here h = reach_passed P seen o d h (not_here refl)
reach_counted P seen None true d here not_here h = (
  (d, Contains-push seen d, here refl, refl),
  all_seen seen d (λ c. P c → c.last ≤ d.last) (λ c in_seen p. absurd (h c in_seen p)) (λ p. omega arith),
)
reach_counted P seen (Some last) true d here not_here h = (
  elim (cases_lt d.last last) as (λ _. (c : Claim) × Contains (seen ++ d ∷ []) c × P c × (c.last ≡ max last d.last)) [
    | inl lt ↦ (h.0.0, Contains-append_left seen (d ∷ []) h.0.0 h.0.1, h.0.2, omega (arith, h.0.3, lt))
    | inr le ↦ (d, Contains-push seen d, here refl, omega (arith, le))
  ],
  all_seen seen d (λ c. P c → c.last ≤ max last d.last) (λ c in_seen p. let k = h.1 c in_seen p in omega arith) (λ p. omega arith),
)

pub first_reaches : (seen : List Claim) (d : Claim) → IsBehind seen d → HasNoneOfField d seen
    → Measures (record { furthest = d; other_tasks = None; other_accesses = None }) (seen ++ d ∷ [])
first_reaches seen d behind apart = record {
  found = Contains-push seen d;
  latest = all_seen seen d (λ c. IsFieldBefore c d) (λ c h. (behind c h).fields) (field_same d d (share_same d));
  furthest = all_seen seen d (λ c. IsTrue (share_field c d) → c.last ≤ d.last) (λ c h share. absurd (true≢false (sym share ∙ apart c h)))
      (λ share. omega arith);
  tasks = all_seen seen d (λ c. ¬ IsOfOtherTask d c) (λ c h p. true≢false (sym p.0 ∙ apart c h)) (λ p. p.1 refl);
  accesses = λ agrees. all_seen seen d (λ c. ¬ IsOfOtherAccess d c) (λ c h p. true≢false (sym p.0 ∙ apart c h))
      (λ p. true≢false (sym agrees ∙ p.1));
}

pub longer_reaches : (seen : List Claim) (r : Reach) (d : Claim) (o p : Option ℕ) → Measures r seen → IsBehind seen d
    → IsTrue (share_field r.furthest d) → r.furthest.last < d.last → IsReachOf (IsOfOtherTask d) seen o
    → IsReachOf (IsOfOtherAccess d) seen p → Measures (record { furthest = d; other_tasks = o; other_accesses = p }) (seen ++ d ∷ [])
longer_reaches seen r d o p h behind share longer tasks accesses = record {
  found = Contains-push seen d;
  latest = all_seen seen d (λ c. IsFieldBefore c d) (λ c k. (behind c k).fields) (field_same d d (share_same d));
  furthest = all_seen seen d (λ c. IsTrue (share_field c d) → c.last ≤ d.last) (λ c k same. let le =
      h.furthest c k (share_also c d r.furthest same (share_back r.furthest d share)) in omega arith) (λ same. omega arith);
  tasks = reach_passed (IsOfOtherTask d) seen o d tasks (λ other. other.1 refl);
  accesses = λ agrees. reach_passed (IsOfOtherAccess d) seen p d accesses (λ other. true≢false (sym agrees ∙ other.1));
}

pub shorter_reaches : (seen : List Claim) (r : Reach) (d : Claim) (b e : Bool) (o p : Option ℕ)
    → (b ≡ true → d.task ≢ r.furthest.task) → (b ≡ false → d.task ≡ r.furthest.task) → o ≡ counted r.other_tasks b d.last
    → (e ≡ true → agree d.access r.furthest.access ≡ false) → (e ≡ false → agree d.access r.furthest.access ≡ true)
    → p ≡ counted r.other_accesses e d.last
    → Measures r seen → IsTrue (share_field r.furthest d) → d.last ≤ r.furthest.last
    → Measures (record { furthest = r.furthest; other_tasks = o; other_accesses = p }) (seen ++ d ∷ [])
shorter_reaches seen r d b e o p other_task its_task is_o other_access its_access is_p h share shorter =
    let a = r.furthest in
    let back = share_back a d share in
    record {
      found = Contains-append_left seen (d ∷ []) a h.found;
      latest = all_seen seen d (λ c. IsFieldBefore c a) h.latest (field_same d a back);
      furthest = all_seen seen d (λ c. IsTrue (share_field c a) → c.last ≤ a.last) h.furthest (λ same. shorter);
      tasks =
          subst (IsReachOf (IsOfOtherTask a) (seen ++ d ∷ [])) (sym is_o)
          (reach_counted (IsOfOtherTask a) seen r.other_tasks b d (λ counts. (back, other_task counts))
          (λ left other. other.1 (its_task left)) h.tasks);
      accesses = λ agrees.
          subst (IsReachOf (IsOfOtherAccess a) (seen ++ d ∷ [])) (sym is_p)
          (reach_counted (IsOfOtherAccess a) seen r.other_accesses e d (λ counts. (back, other_access counts))
          (λ left other. true≢false (sym (its_access left) ∙ other.1)) (h.accesses agrees));
    }

-- where nothing was seen
pub none_clashes : (seen : List Claim) (d : Claim) → MeasuresSoFar None seen → ClashesWithSome seen d → ⊥
none_clashes seen d none some = none some.0 some.1
