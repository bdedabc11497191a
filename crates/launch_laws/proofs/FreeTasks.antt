-- Two tasks of one launch do not interfere.
use Rattle.std.proofs.Common.{◌≡◌, ◌≢◌, ℕ, ◌+◌, ◌==◌, ◌&&◌, true, false, inl, inr, List, [], ◌∷◌, ◌++◌, refl, sym, ap, ◌∙◌, subst, Some, None, slice_get, length, append_assoc, Contains}
use Rattle.std.proofs.lemmas.Bool.{and_parts, eq-eqb, eqb-true, ne_eqb}
use Rattle.std.proofs.lemmas.Option.{same_Some, slice_get_within}
use Rattle.vocabulary.specs.Prelude.{Priv, Coherence, agree, kind_of, Record, LLined, Place, Item, Req, lined, records_of, Tables, tables_of, place_of, privilege_of, coherence_of, is_in, points_in, covers, item_kind, reqs_of, uses_of}
use Rattle.privilege.specs.declared.kinds.Priv.TheVariants.{Ro, Red}
use Rattle.privilege.specs.declared.kinds.Kind.TheVariants.{Free}
use Rattle.spy_grammar.specs.declared.record.Record.TheVariants as records
use Rattle.semantics.specs.declared.tables.ItemBody.TheVariants as bodies
use Rattle.semantics.specs.Faults.{records_fault, declaration_fault, header_fault, ended_fault, count_fault}
use Rattle.semantics.specs.Launches.{TaskLaunch, not_expanded, expanded, launch_records, written_log, is_launched, clash, framed, launches_fault, launch_fault}
use Rattle.log_laws.proofs.lemmas.Members.{member_in, meets_of}
use Rattle.std.proofs.lemmas.List.Elements.{Contains-append_right}
use Rattle.list_lemmas.proofs.lemmas.Contained.{both_none, Contains-here}
use Rattle.list_lemmas.proofs.lemmas.Filtered.{of_filter}
use Rattle.list_lemmas.proofs.lemmas.Firsts.{contains_at}
use Rattle.list_lemmas.proofs.lemmas.Pairs.{AllPairs-cases}
use Rattle.list_lemmas.proofs.lemmas.Parts.{split_at}
use Rattle.log_laws.proofs.lemmas.Numbered.{records_numbered}
use Rattle.log_laws.proofs.lemmas.Admitted.{no_broken_rule}
use Rattle.log_laws.proofs.lemmas.Listed.{are_listed}
use Rattle.log_laws.proofs.lemmas.SerialOrder.{items_placed}
use Rattle.launch_laws.specs.Stretches.{IsTurned}
use Rattle.launch_laws.specs.LaunchOrders.{IsTaskOf, AgreeButFor, launch_tables, launches_of}
use Rattle.launch_laws.proofs.FreeUses.{free_agree, free_from_uses}
use Rattle.launch_laws.proofs.Growth.{tables_more, stays, item_stays}
use Rattle.launch_laws.proofs.Authors.{HasAuthor, record_of, all_have_authors}
use Rattle.launch_laws.proofs.Clashes.{asked_by, no_clash}
use Rattle.launch_laws.proofs.NoClashes.{Holds, walked, nothing_holds}

agree_back : (p q : Priv) → agree p q ≡ true → agree q p ≡ true
agree_back Ro Ro e = refl
agree_back (Red a) (Red b) e = eq-eqb b a (sym (eqb-true a b e))
agree_back _ _ e = absurd cc

free_back : (p q : Priv) (c d : Coherence) → kind_of p c q d ≡ Free → kind_of q d p c ≡ Free
free_back p q c d e = rw (agree_back p q (free_agree p q c d e)) refl

same_kind : (p a q b : Priv) (c e d f : Coherence) → p ≡ a → c ≡ e → q ≡ b → d ≡ f → kind_of p c q d ≡ kind_of a e b f
same_kind p a q b c e d f one two three four = rw (one, two, three, four) refl

-- What it means that a requirement covers a place.
record Covers (t : Tables) (p : Place) (r : Req) : Type 0 where
  tree : r.tree ≡ p.tree
  point : Contains (points_in t r.space) p.point
  field : Contains r.fields p.field

covers_so : (t : Tables) (p : Place) (r : Req) → covers t p r ≡ true → Covers t p r
covers_so t p r e =
    let parts = and_parts (r.tree == p.tree) (is_in (points_in t r.space) p.point && is_in r.fields p.field) e in
    let more = and_parts (is_in (points_in t r.space) p.point) (is_in r.fields p.field) parts.1 in
    record {
      tree = eqb-true r.tree p.tree parts.0;
      point = member_in (points_in t r.space) p.point more.0;
      field =
          member_in r.fields p.field more.1;
    }

-- A task that is written is an item.
task_declared : (written : List Record) (id : ℕ) → Contains written (records.Task id) → (j : Item)
    × Contains (tables_of (lined written)).items j × (j.id ≡ id) × (j.body ≡ bodies.Task)
task_declared written id m =
    let cut = split_at written (records.Task id) m in
    let before : Tables = tables_of (lined cut.0) in
    let j : Item = record { id = id; line = 1 + length cut.0; body = bodies.Task } in
    let here : Contains (tables_of (lined (cut.0 ++ records.Task id ∷ []))).items j =
    subst (λ (t : Tables). Contains t.items j) (sym (tables_more cut.0 (records.Task id ∷ [])))
    (Contains-append_right before.items (j ∷ []) j (Contains-here [])) in
    let there = stays (λ t. Contains t.items j) (item_stays j) (cut.0 ++ records.Task id ∷ []) cut.1 here in (
      j,
      subst (λ ws. Contains (tables_of (lined ws)).items j)
          (append_assoc cut.0 (records.Task id ∷ []) cut.1 ∙ sym cut.2) there,
      refl,
      refl,
    )

no_launch_fault : (lines : ℕ) (log : List LLined) → launch_fault lines log ≡ None → launches_fault not_expanded log ≡ None
unfolding launch_fault
no_launch_fault lines log e =
    let header = both_none (header_fault lines (framed log)) _ e in
    let ended = both_none (ended_fault lines (framed log)) _ header.1 in
    (both_none (count_fault (framed log)) _ ended.1).1

module _ (lines count : ℕ) (log : List LLined) (no_fault : launch_fault lines log ≡ None)
    (declared : declaration_fault count (lined (written_log log)) ≡ None) (l : TaskLaunch) (of : Contains (launches_of log) l) where
  abbrev t : Tables
  t = launch_tables log

  abbrev written : List Record
  written = written_log log

  no_rule : records_fault (records_of (lined written)) [] (lined written) ≡ None
  no_rule = no_broken_rule count (lined written) declared

  numbered : records_of (lined written) ≡ written
  numbered = records_numbered 1 written

  none_broken : records_fault written [] (lined written) ≡ None
  none_broken = subst (λ ws. records_fault ws [] (lined written) ≡ None) numbered no_rule

  holds : Holds (expanded (launch_records log)) none_broken (expanded (launch_records log))
  holds = walked (expanded (launch_records log)) none_broken not_expanded log (no_launch_fault lines log no_fault) refl
      (nothing_holds (expanded (launch_records log)) none_broken)

  -- A task of the launch is a task, whose uses are its requirements.
  is_task_body : (a : ℕ) (i : Item) → slice_get t.items a ≡ Some i → is_launched l i.id ≡ true → i.body ≡ bodies.Task
  is_task_body a i at launched =
      let j = task_declared written i.id (holds.made l of i.id launched) in
      elim (AllPairs-cases (λ (i j : Item). i.id ≢ j.id) t.items (are_listed (lined written) no_rule).ids i j.0
      (contains_at t.items a i at) j.1) [
        | inl is ↦ ap (λ (i : Item). i.body) is ∙ j.3
        | inr (inl differ) ↦ absurd (differ (sym j.2))
        | inr (inr differ) ↦ absurd (differ j.2)
      ]

  use_is_req : (a : ℕ) (i : Item) → slice_get t.items a ≡ Some i → i.body ≡ bodies.Task → (q : Req) → Contains (uses_of t a) q
      → Contains t.reqs q × (q.item ≡ a)
  use_is_req a i at body q m =
      let here : Contains (reqs_of t a) q = rw (at, body) at m in
      let both = of_filter (λ (r : Req). r.item == a) t.reqs q here in
      (both.0, eqb-true q.item a both.1)

  -- The record of a requirement of an item names the id of the item.
  author : (a : ℕ) (i : Item) → slice_get t.items a ≡ Some i → (q : Req) → Contains t.reqs q → q.item ≡ a
      → (w : HasAuthor written t.items q)
      × (w.task ≡ i.id)
  author a i at q m is =
      let w : HasAuthor written t.items q = subst (λ ws. HasAuthor ws t.items q) numbered (all_have_authors (lined written) no_rule q m) in
      (w, sym w.id ∙ ap (λ (i : Item). i.id) (same_Some w.item i (sym w.at ∙ ap (slice_get t.items) is ∙ at)))

  -- Two items of one id are one.
  one_item : (a b : ℕ) (i j : Item) → slice_get t.items a ≡ Some i → slice_get t.items b ≡ Some j → i.id ≡ j.id → a ≡ b
  one_item a b i j at_a at_b same =
      let back : (k : ℕ) (i : Item) → slice_get t.items k ≡ Some i → place_of t.items i.id ≡ k =
      λ k i at. subst (λ id. place_of t.items id ≡ k) (rw at refl)
      (items_placed (lined written) no_rule k (slice_get_within t.items k i at)) in
      sym (back a i at_a) ∙ ap (place_of t.items) same ∙ back b j at_b

  -- Requirements whose records do not clash are free of each other where they share a place.
  free_apart : (q r : Req) (v : HasAuthor written t.items q) (w : HasAuthor written t.items r) → v.task ≢ w.task
      → is_launched l v.task ≡ true → is_launched l w.task ≡ true
      → (p : Place) → Covers t p q → Covers t p r → clash t l (record_of written t.items q v) (record_of written t.items r w) ≡ false
      → kind_of q.access q.coherence r.access r.coherence ≡ Free
  free_apart q r v w differ one two p c d apart =
      same_kind q.access (privilege_of v.access) r.access (privilege_of w.access) q.coherence (coherence_of v.atomic) r.coherence
      (coherence_of w.atomic) v.is_access v.is_coherence w.is_access w.is_coherence
      ∙ no_clash t l v.task q.tree q.space q.fields v.access v.atomic w.task r.tree r.space r.fields w.access w.atomic apart one two
      (ne_eqb v.task w.task differ)
      (eq-eqb q.tree r.tree (c.tree ∙ sym d.tree)) (meets_of q.fields r.fields p.field c.field d.field)
      (meets_of (points_in t q.space) (points_in t r.space) p.point c.point d.point)

  free_written : (q r : Req) (v : HasAuthor written t.items q) (w : HasAuthor written t.items r) → v.task ≢ w.task
      → is_launched l v.task ≡ true → is_launched l w.task ≡ true
      → (p : Place) → Covers t p q → Covers t p r → kind_of q.access q.coherence r.access r.coherence ≡ Free
  free_written q r v w differ one two p c d =
      elim (AllPairs-cases (λ x y. clash t l y x ≡ false) written (holds.apart l of) (record_of written t.items q v)
      (record_of written t.items r w) v.of_log w.of_log) [
        | inl same ↦ absurd (differ (ap (λ (p : ℕ × ℕ). p.0) (same_Some (v.task, q.space) (w.task, r.space) (ap asked_by same))))
        | inr (inl later) ↦ free_back r.access q.access r.coherence q.coherence
            (free_apart r q w v (λ e. differ (sym e)) two one p d c later)
        | inr (inr later) ↦ free_apart q r v w differ one two p c d later
      ]

  free_uses : (a b : ℕ) → IsTaskOf t l a → IsTaskOf t l b → a ≢ b → (p : Place) (q r : Req) → Contains (uses_of t a) q
      → Contains (uses_of t b) r → covers t p q ≡ true → covers t p r ≡ true
      → kind_of q.access q.coherence r.access r.coherence ≡ Free
  free_uses a b x y differ p q r m n c d =
      let q_in = use_is_req a x.task x.at (is_task_body a x.task x.at x.launched) q m in
      let r_in = use_is_req b y.task y.at (is_task_body b y.task y.at y.launched) r n in
      let v = author a x.task x.at q q_in.0 q_in.1 in
      let w = author b y.task y.at r r_in.0 r_in.1 in
      free_written q r v.0 w.0 (λ same. differ (one_item a b x.task y.task x.at y.at (sym v.1 ∙ same ∙ w.1))) (ap (is_launched l) v.1
      ∙ x.launched) (ap (is_launched l) w.1 ∙ y.launched)
      p (covers_so t p q c) (covers_so t p r d)

  -- Two tasks of one launch do not interfere.
  pub tasks_free : (a b : ℕ) → IsTaskOf t l a → IsTaskOf t l b → a ≢ b → item_kind t a b ≡ Free
  tasks_free a b x y differ = free_from_uses t a b (free_uses a b x y differ)

  -- So orders that agree but for tasks of a launch differ in a stretch of items that do not interfere.
  pub tasks_turned : (order other : List ℕ) (h : AgreeButFor t l order other) → IsTurned t h.here h.there
  tasks_turned order other h = record {
    once = h.once;
    other_once = h.other_once;
    same = h.same;
    free = λ a b m n differ. tasks_free a b (h.tasks a m) (h.tasks b n) differ;
  }
