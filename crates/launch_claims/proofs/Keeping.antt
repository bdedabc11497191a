-- The few blocks of which it is enough to know.
use Rattle.std.proofs.Common.{◌≡◌, ◌≢◌, ℕ, ◌+◌, ◌<◌, ◌≤◌, ◌||◌, not, nat_le, true, false, List, [], ◌∷◌, ◌++◌, ◌⊎◌, Contains, IsTrue, length, get_or, drop, refl, sym, ap, subst, ◌∙◌, inl, inr, arith, append_assoc, append-nil}
use Rattle.std.proofs.lemmas.Bool.{and_parts, cases_Bool, cases_eq, leb-true, not-true, true≢false}
use Rattle.std.proofs.lemmas.List.{drop_more, drop_all}
use Rattle.std.proofs.lemmas.List.Elements.{Contains-append_cases, Contains-append_left, Contains-append_right, Contains-get_or, Contains-push, Contains-push_cases}
use Rattle.privilege.specs.declared.kinds.Priv.{Priv}
use Rattle.privilege.specs.Interference.{agree}
use Rattle.launch_claims.specs.declared.block.Block.{Block}
use Rattle.launch_claims.specs.Claims.{clashes, share_field}
use Rattle.launch_claims.specs.Reaches.{IsBefore}
use Rattle.launch_claims.specs.Blocks.{ComeBefore, IsNeedless, RowsClash, StandFor, covers}
use Rattle.launch_claims.proofs.Clashing.{agree_same, clash_from, clash_told, one_field, share_also, share_from}
use Rattle.list_lemmas.proofs.lemmas.Contained.{Contains-cases}

disagrees : (p q r : Priv) → (agree p q || not (agree p p)) ≡ true → agree q r ≡ false → agree p r ≡ false
disagrees p q r h apart = elim (cases_Bool (agree p r)) [
  | inr differs ↦ differs
  | inl same_kind ↦ elim (cases_Bool (agree p q)) [
    | inl agrees ↦ absurd (true≢false (sym (subst (λ s. agree s r ≡ true) (agree_same p q agrees) same_kind) ∙ apart))
    | inr differ ↦
        let self : not (agree p p) ≡ true = rw differ at h in
        let same : agree p p ≡ true = subst (λ s. agree p s ≡ true) (sym (agree_same p r same_kind)) same_kind in
        absurd (true≢false (sym same ∙ not-true (agree p p) self))
  ]
]

-- a claim that covers another clashes with what that clashes with, unless that is of its task
covered : (seen : List Block) (b x e : Block) → Contains seen b → ComeBefore seen e → IsTrue (covers b.claim x.claim)
    → IsTrue (clashes x.claim e.claim) → b.claim.task ≢ e.claim.task → IsTrue (clashes b.claim e.claim)
covered seen b x e in_b behind cover h apart =
    let one = and_parts (share_field b.claim x.claim) _ cover in
    let two = and_parts (nat_le x.claim.last b.claim.last) _ one.1 in
    let far = leb-true x.claim.last b.claim.last two.0 in
    let told = clash_told x.claim e.claim h in
    let share = share_also b.claim x.claim e.claim one.0 told.field in
    let first = (behind b in_b).points share in
    let points = told.points in
    clash_from b.claim e.claim (record {
      field = share;
      points = omega arith;
      tasks = apart;
      accesses = disagrees b.claim.access x.claim.access e.claim.access two.1 told.accesses;
    })

needless_told : (kept seen : List Block) (x e : Block) → ((b : Block) → Contains kept b → Contains seen b) → ComeBefore seen e
    → IsNeedless kept x → IsTrue (clashes x.claim e.claim) → RowsClash kept e
needless_told kept seen x e into behind n h =
    let b = n.1 in
    let in_b : Contains kept b = (n.0, n.2, n.3) in
    let told = clash_told x.claim e.claim h in
    elim (cases_eq b.claim.task e.claim.task) [
      | inr apart ↦ (b, in_b, covered seen b x e (into b in_b) behind n.4.0 h apart)
      | inl same ↦ elim n.4.1 [
        | inl its ↦ absurd (told.tasks (sym its ∙ same))
        | inr other ↦
            let d = other.1 in
            let in_d : Contains kept d = (other.0, other.2, other.3) in
            (d, in_d, covered seen d x e (into d in_d) behind other.4.0 h (λ q. other.4.1 (q ∙ sym same)))
      ]
    ]

-- one block more is seen, and kept
pub stand_more : (kept seen : List Block) (d : Block) → StandFor kept seen → StandFor (d ∷ kept) (seen ++ d ∷ [])
stand_more kept seen d s = record {
  among = λ b h. elim (Contains-cases kept h) [
    | inl is ↦ subst (Contains (seen ++ d ∷ [])) (sym is) (Contains-push seen d)
    | inr later ↦ Contains-append_left seen (d ∷ []) b (s.among b later)
  ];
  told = λ e behind some. elim (Contains-push_cases seen d some.0 some.1) [
    | inl earlier ↦
        let r = s.told e (λ b h. behind b (Contains-append_left seen (d ∷ []) b h)) (some.0, earlier, some.2) in
        (r.0, Contains-append_right (d ∷ []) kept r.0 r.1, r.2)
    | inr is ↦ (some.0, subst (Contains (d ∷ kept)) is (0, omega arith, refl), some.2)
  ];
}

-- or it is needless
pub stand_needless : (kept seen : List Block) (d : Block) → StandFor kept seen → IsNeedless kept d → StandFor kept (seen ++ d ∷ [])
stand_needless kept seen d s needless = record {
  among = λ b h. Contains-append_left seen (d ∷ []) b (s.among b h);
  told = λ e behind some.
      let before : ComeBefore seen e = λ b h. behind b (Contains-append_left seen (d ∷ []) b h) in
      elim (Contains-push_cases seen d some.0 some.1) [
        | inl earlier ↦ s.told e before (some.0, earlier, some.2)
        | inr is ↦ needless_told kept seen d e s.among before needless (subst (λ (b : Block). IsTrue (clashes b.claim e.claim))
            (sym is) some.2)
      ];
}

-- a kept block is let go
dropped : (front back seen : List Block) (x : Block) → StandFor (front ++ x ∷ back) seen
    → ((e : Block) → ComeBefore seen e → IsTrue (clashes x.claim e.claim) → RowsClash front e) → StandFor (front ++ back) seen
dropped front back seen x s idle = record {
  among = λ b h. elim (Contains-append_cases front back b h) [
    | inl first ↦ s.among b (Contains-append_left front (x ∷ back) b first)
    | inr later ↦ s.among b (Contains-append_right front (x ∷ back) b (Contains-append_right (x ∷ []) back b later))
  ];
  told = λ e behind some.
      let r = s.told e behind some in
      elim (Contains-append_cases front (x ∷ back) r.0 r.1) [
        | inl first ↦ (r.0, Contains-append_left front back r.0 first, r.2)
        | inr later ↦ elim (Contains-cases back later) [
          | inl is ↦
              let other = idle e behind (subst (λ (b : Block). IsTrue (clashes b.claim e.claim)) is r.2) in
              (other.0, Contains-append_left front back other.0 other.1, other.2)
          | inr last ↦ (r.0, Contains-append_right front back r.0 last, r.2)
        ]
      ];
}

-- a block of an earlier field clashes with none behind one of a later field
field_over : (x d e : Block) → IsBefore x.claim d.claim → IsBefore d.claim e.claim → share_field x.claim d.claim ≡ false
    → IsTrue (clashes x.claim e.claim) → ⊥
field_over x d e before behind apart h =
    let told = clash_told x.claim e.claim h in
    let o = one_field x.claim e.claim told.field in
    let one = before.fields.tree in
    let two = behind.fields.tree in
    let same = o.tree in
    let tree : x.claim.tree ≡ d.claim.tree = omega arith in
    let three = before.fields.field tree in
    let four = behind.fields.field (sym tree ∙ same) in
    let also = o.field in
    let field : x.claim.field ≡ d.claim.field = omega arith in
    true≢false (sym (share_from x.claim d.claim (record { tree = tree; field = field })) ∙ apart)

-- Whatever was seen: the kept blocks so far, with those that are to be looked at, stand for it.
abbrev pub StillStandFor : List Block → List Block → Block → List Block → List Block → Type 0
StillStandFor old kept d more rest = (seen : List Block) → StandFor (old ++ kept) seen → ComeBefore kept d → Contains seen d
    → StandFor (more ++ rest) seen

pub yet_pushed : (old kept more next : List Block) (d : Block) (k : ℕ) (z : Block) → k < length kept
    → StillStandFor old kept d more (drop k kept) → next ≡ more ++ get_or kept k z ∷ [] → StillStandFor old kept d next (drop (k + 1) kept)
yet_pushed old kept more next d k z lt yet is seen stand before in_d =
    let x = get_or kept k z in
    let back = drop (k + 1) kept in
    let same : more ++ drop k kept ≡ next ++ back =
    ap (λ (bs : List Block). more ++ bs) (drop_more kept k z lt) ∙ sym (append_assoc more (x ∷ []) back)
    ∙ ap (λ (bs : List Block). bs ++ back) (sym is) in
    subst (λ (bs : List Block). StandFor bs seen) same (yet seen stand before in_d)

pub yet_dropped : (old kept more : List Block) (d : Block) (k : ℕ) (z : Block) → k < length kept
    → StillStandFor old kept d more (drop k kept)
    → (share_field (get_or kept k z).claim d.claim ≡ false) ⊎ IsNeedless more (get_or kept k z)
    → StillStandFor old kept d more (drop (k + 1) kept)
yet_dropped old kept more d k z lt yet idle seen stand before in_d =
    let x = get_or kept k z in
    let back = drop (k + 1) kept in
    let now : StandFor (more ++ x ∷ back) seen =
    subst (λ (bs : List Block). StandFor (more ++ bs) seen) (drop_more kept k z lt) (yet seen stand before in_d) in
    dropped more back seen x now (λ e behind h. elim idle [
      | inl apart ↦ absurd (field_over x d e (before x (Contains-get_or kept k z lt)) (behind d in_d) apart h)
      | inr needless ↦ needless_told more seen x e (λ b m. now.among b (Contains-append_left more (x ∷ back) b m)) behind needless h
    ])

pub yet_all : (old kept more : List Block) (d : Block) (k : ℕ) → length kept ≤ k → StillStandFor old kept d more (drop k kept)
    → (seen : List Block) → StandFor (old ++ kept) seen → ComeBefore kept d → Contains seen d → StandFor more seen
yet_all old kept more d k le yet seen stand before in_d =
    subst (λ (bs : List Block). StandFor bs seen) (ap (λ (bs : List Block). more ++ bs) (drop_all k kept le) ∙ append-nil more)
    (yet seen stand before in_d)
