-- Numbers that tell kinds of fields, and the first field of each kind.
use Rattle.std.proofs.Common.{◌≡◌, ℕ, ◌<◌, ◌⊎◌, inl, inr, true, List, [], ◌∷◌, ◌++◌, Contains, length, replicate, get_or, refl, sym, ap, ◌∙◌, subst, arith}
use Rattle.std.specs.List.Sorted.{IsStrictlyIncreasing}
use Rattle.std.proofs.lemmas.Bool.{true≢false}
use Rattle.std.proofs.lemmas.List.{length-replicate, get_or_default}
use Rattle.std.proofs.lemmas.List.Elements.{Contains-append_cases, Contains-append_right}
use Rattle.spy_grammar.specs.declared.record.Record.TheVariants as records
use Rattle.vocabulary.specs.Prelude.{Lined, Record, is_in}
use Rattle.list_lemmas.proofs.lemmas.Contained.{only, Contains-nil, Contains-cases, Contains-here, Contains-later, map_member, member_flat}
use Rattle.log_laws.proofs.lemmas.Members.{is_in_of}
use Rattle.field_laws.specs.Fields.{AreFirsts, field_lists, fields_of}
use Rattle.partings.specs.Parted.{AreLeads, IsParted}
use Rattle.field_kinds.specs.Kinds.{AreKinds}
use Rattle.field_kinds.specs.Lists.{listed, lists_of}
use Rattle.field_kinds.specs.Places.{ArePlaces}
use Rattle.field_kinds.proofs.Placed.{place_in, placed}

-- Before the first list.
pub kinds_start : (fields : List ℕ) → AreKinds ([] ∷ []) fields (replicate (length fields) 0)
kinds_start fields = record {
  each = length-replicate (length fields) 0;
  alike = λ i j _ _ _ list c. subst (λ fs. is_in fs (get_or fields i 0) ≡ is_in fs (get_or fields j 0)) (sym (only c)) refl;
  whole = λ list c f has. absurd (true≢false (sym has ∙ ap (λ fs. is_in fs f) (only c)));
}

-- One list more.
pub kinds_more : (lists : List (List ℕ)) (list fields places old new : List ℕ) → IsStrictlyIncreasing fields → AreKinds lists fields old
    → ArePlaces list fields places → IsParted (is_in places) old new → AreKinds (lists ++ list ∷ []) fields new
kinds_more lists list fields places old new ascend kinds are parted = record {
  each = parted.each ∙ kinds.each;
  alike = λ i j in_i in_j e.
      let h = (parted.parted i j (old_within i in_i) (old_within j in_j)).0 e in
      let before = kinds.alike i j in_i in_j h.0 in
      λ other c. elim (Contains-append_cases lists (list ∷ []) other c) [
        | inl earlier ↦ before other earlier
        | inr last ↦
            subst (λ fs. is_in fs (get_or fields i 0) ≡ is_in fs (get_or fields j 0)) (sym (only last))
            (sym (place_in list fields places ascend are i in_i) ∙ (h.1 ∙ place_in list fields places ascend are j in_j))
      ];
  whole = λ other c f has. elim (Contains-append_cases lists (list ∷ []) other c) [
    | inl earlier ↦ kinds.whole other earlier f has
    | inr last ↦ placed list fields places are f (subst (λ fs. is_in fs f ≡ true) (only last) has)
  ];
}
  where
    old_within : (i : ℕ) → i < length fields → i < length old
    old_within i within = omega (arith, within, kinds.each)

-- Lists that are no others tell no more fields apart; nor does a list of no field.
pub kinds_of_some : (lists some : List (List ℕ)) (fields numbers : List ℕ) → AreKinds lists fields numbers
    → ((list : List ℕ) → Contains some list → (list ≡ []) ⊎ Contains lists list) → AreKinds some fields numbers
kinds_of_some lists some fields numbers kinds h = record {
  each = kinds.each;
  alike = λ i j in_i in_j e list c. elim (h list c) [
    | inl none ↦ subst (λ fs. is_in fs (get_or fields i 0) ≡ is_in fs (get_or fields j 0)) (sym none) refl
    | inr in_lists ↦ kinds.alike i j in_i in_j e list in_lists
  ];
  whole = λ list c f has. elim (h list c) [
    | inl none ↦ absurd (true≢false (sym has ∙ ap (λ fs. is_in fs f) none))
    | inr in_lists ↦ kinds.whole list in_lists f has
  ];
}

-- The list that was taken is the one before the next.
pub kinds_taken : (before list : List ℕ) (lists : List (List ℕ)) (fields numbers : List ℕ)
    → AreKinds ((before ∷ lists) ++ list ∷ []) fields numbers → AreKinds (list ∷ (lists ++ list ∷ [])) fields numbers
kinds_taken before list lists fields numbers kinds =
    kinds_of_some ((before ∷ lists) ++ list ∷ []) (list ∷ (lists ++ list ∷ [])) fields numbers kinds (λ other c.
    elim (Contains-cases (lists ++ list ∷ []) c) [
      | inl first ↦
          inr (Contains-append_right (before ∷ lists) (list ∷ []) other (subst (Contains (list ∷ [])) (sym first) (Contains-here [])))
      | inr later ↦ inr (Contains-later (lists ++ list ∷ []) later)
    ])

-- A list that is passed over has no field, or is the one before it.
pub kinds_passed : (before list : List ℕ) (lists : List (List ℕ)) (fields numbers : List ℕ) → (list ≡ []) ⊎ (list ≡ before)
    → AreKinds (before ∷ lists) fields numbers → AreKinds (before ∷ (lists ++ list ∷ [])) fields numbers
kinds_passed before list lists fields numbers is kinds =
    kinds_of_some (before ∷ lists) (before ∷ (lists ++ list ∷ [])) fields numbers kinds (λ other c.
    elim (Contains-cases (lists ++ list ∷ []) c) [
      | inl first ↦ inr (subst (Contains (before ∷ lists)) (sym first) (Contains-here lists))
      | inr later ↦
          elim (Contains-append_cases lists (list ∷ []) other later) [
            | inl earlier ↦ inr (Contains-later lists earlier)
            | inr last ↦
                elim is [
                  | inl none ↦ inl (only last ∙ none)
                  | inr same ↦ inr (subst (Contains (before ∷ lists)) (sym (only last ∙ same)) (Contains-here lists))
                ]
          ]
    ])

pub kinds_rest : (before : List ℕ) (lists : List (List ℕ)) (fields numbers : List ℕ) → AreKinds (before ∷ lists) fields numbers
    → AreKinds lists fields numbers
kinds_rest before lists fields numbers kinds =
    kinds_of_some (before ∷ lists) lists fields numbers kinds (λ list c. inr (Contains-later lists c))

-- A list of fields that a record has is the one that it lists.
one_list : (r : Record) (fields : List ℕ) → Contains (fields_of r) fields → fields ≡ listed r
one_list (records.Req task tree space fs access atomic) fields c = only c
one_list (records.Fill i tree space fs n) fields c = only c
one_list (records.Inst i tree space fs kind) fields c = only c
one_list (records.Map task number fs inst) fields c = only c
one_list (records.Copy src dst space fs done waits) fields c = only c
one_list (records.Put inst space fs n done waits) fields c = only c
one_list (records.Reset inst space fs done waits) fields c = only c
one_list (records.Fold src dst space fs done waits) fields c = only c
one_list (records.Header version) fields c = absurd (Contains-nil c)
one_list (records.Ispace i set) fields c = absurd (Contains-nil c)
one_list (records.Plane i rects) fields c = absurd (Contains-nil c)
one_list (records.Part i space disjoint) fields c = absurd (Contains-nil c)
one_list (records.Sub part colour space) fields c = absurd (Contains-nil c)
one_list (records.Fields i fs) fields c = absurd (Contains-nil c)
one_list (records.Tree i space fspace) fields c = absurd (Contains-nil c)
one_list (records.Redop i) fields c = absurd (Contains-nil c)
one_list (records.Task i) fields c = absurd (Contains-nil c)
one_list (records.Serial items) fields c = absurd (Contains-nil c)
one_list (records.Run task done waits) fields c = absurd (Contains-nil c)
one_list (records.Merge done waits) fields c = absurd (Contains-nil c)
one_list (records.End n) fields c = absurd (Contains-nil c)

in_lists : (log : List Lined) (fields : List ℕ) → Contains (field_lists log) fields → Contains (lists_of log) fields
in_lists log fields c =
    let m = member_flat (λ (l : Lined). fields_of l.rec) log fields c in
    let is = one_list m.0.rec fields m.2 in
    subst (Contains (lists_of log)) (sym is) (map_member (λ (l : Lined). listed l.rec) log m.0 m.1)

-- What stands at the first place of each number is one field of each kind.
pub firsts_of_kinds : (log : List Lined) (fields numbers firsts : List ℕ) → AreKinds (lists_of log) fields numbers
    → AreLeads (length fields) numbers fields firsts → AreFirsts (field_lists log) firsts
firsts_of_kinds log fields numbers firsts kinds are list c f has =
    let at = kinds.whole list (in_lists log list c) f has in
    let is : get_or fields at.0 0 ≡ f = get_or_default fields at.0 0 f at.1 ∙ at.2 in
    let lead = are.listed at.0 at.1 in
    let within : lead.lead < length fields = omega (arith, lead.not_later, at.1) in
    let alike = kinds.alike lead.lead at.0 within at.1 lead.same in
    record {
      first = get_or fields lead.lead 0;
      listed = is_in_of firsts (get_or fields lead.lead 0) lead.listed;
      alike = λ other in_log. alike other (in_lists log other in_log) ∙ ap (is_in other) is;
    }
