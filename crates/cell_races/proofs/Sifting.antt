-- The accesses of a cell that are taken into groups, and those whose places are noted.
use Rattle.std.proofs.Common.{◌≡◌, ℕ, zero, suc, ◌<◌, ◌⊎◌, inl, inr, Bool, true, false, not, List, [], ◌∷◌, ◌++◌, None, Contains, refl, sym, ap, ◌∙◌, subst, map, length, set, replicate, if◌then◌else◌, AllPairs}
use Rattle.std.proofs.lemmas.Bool.{cases_Bool, cases_eq, true≢false, and_parts, not-true}
use Rattle.std.proofs.lemmas.List.{map-append, get_or-set_same, get_or-set_other, length-set, length-replicate}
use Rattle.std.proofs.lemmas.List.Elements.{Contains-append_cases, Contains-append_left, Contains-append_right, Contains-push}
use Rattle.list_lemmas.proofs.lemmas.Pairs.{AllPairs-parts, AllPairs-push}
use Rattle.list_lemmas.proofs.lemmas.Contained.{member_map, any_found, only, Contains-here, Contains-nil}
use Rattle.cell_races.specs.declared.access.NodeAccess.{NodeAccess}
use Rattle.cell_races.specs.declared.cell_accesses.CellAccess.{CellAccess}
use Rattle.cell_races.specs.Accesses.{conflicts}
use Rattle.cell_races.specs.Groups.{Groups, no_groups, with_node_access, fails_at}
use Rattle.cell_races.specs.Races.{is_unordered, race_in, IsTransitive}
use Rattle.cell_races.specs.Turns.{is_noted, AreInTurnBut, IsUnorderedAt, NotesMore, AreNoted}
use Rattle.cell_races.specs.NodeAccesses.{node_access_of}
use Rattle.cell_races.proofs.Cells.{IsApart, NotAfter, place_after}
use Rattle.cell_races.proofs.Firsts.{race_push}
use Rattle.cell_races.proofs.AreGroupsOf.{AreGroupsOf, stands_none, stands_more, tells}
use Rattle.cell_races.proofs.Turning.{run_in_turn}

-- ---- notes

noted_at : (noted : List Bool) (place k : ℕ) → place < length noted → (k ≡ place) ⊎ (is_noted noted k ≡ true)
    → is_noted (set noted place true) k ≡ true
noted_at noted place k lt (inl is) = rw is (get_or-set_same noted place true false lt)
noted_at noted place k lt (inr old) = elim (cases_eq k place) [
  | inl is ↦ rw is (get_or-set_same noted place true false lt)
  | inr other ↦ get_or-set_other noted place k true false other ∙ old
]

noted_of : (noted : List Bool) (place k : ℕ) → is_noted (set noted place true) k ≡ true → (k ≡ place) ⊎ (is_noted noted k ≡ true)
noted_of noted place k e = elim (cases_eq k place) [
  | inl is ↦ inl is
  | inr other ↦ inr (sym (get_or-set_other noted place k true false other) ∙ e)
]

pairs_front : {X : Type 0} (R : X → X → Type 0) (xs : List X) (x : X) → AllPairs R (xs ++ x ∷ [])
    → AllPairs R xs × ((y : X) → Contains xs y → R y x)
pairs_front R xs x h = let parts = AllPairs-parts R xs (x ∷ []) h in (parts.0, λ y m. parts.2 y x m (Contains-here []))

-- ---- the accesses of one cell

-- What is known where some accesses of a cell are sifted.
pub record IsSifted (before : ℕ → ℕ → Bool) (order : List ℕ) (seen : List CellAccess) (g : Groups) (old new : List Bool) : Type 0 where
  pub taken : List CellAccess
  pub of_seen : (x : CellAccess) → Contains taken x → Contains seen x
  pub in_order : AllPairs NotAfter seen → AllPairs NotAfter taken
  pub race_free : race_in before (map (node_access_of order) taken) ≡ None
  pub stands : AreGroupsOf before (map (node_access_of order) taken) g
  pub whole : (x : CellAccess) → Contains seen x → Contains taken x ⊎ (is_noted new x.place ≡ true)
  pub each : length new ≡ length old
  pub kept : (k : ℕ) → is_noted old k ≡ true → is_noted new k ≡ true
  pub sound : (k : ℕ) → is_noted new k ≡ true → (is_noted old k ≡ true)
      ⊎ (AllPairs NotAfter seen → ((x y : CellAccess) → Contains seen x → Contains seen y → x.cell ≡ y.cell) → IsUnorderedAt before order seen k)

pub sifted_none : (before : ℕ → ℕ → Bool) (order : List ℕ) (noted : List Bool) → IsSifted before order [] no_groups noted noted
sifted_none before order noted = record {
  taken = [];
  of_seen = λ x m. m;
  in_order = λ o. o;
  race_free = refl;
  stands = stands_none before;
  whole = λ x m. absurd (Contains-nil m);
  each = refl;
  kept = λ k e. e;
  sound = λ k e. inl e;
}

module _ (before : ℕ → ℕ → Bool) (goes : IsTransitive before) (order : List ℕ) (seen : List CellAccess) (x : CellAccess) (g : Groups)
    (old mid : List Bool) (h : IsSifted before order seen g old mid) where
  abbrev v : NodeAccess
  v = node_access_of order x

  abbrev more : List CellAccess
  more = seen ++ x ∷ []

  old_in : (y : CellAccess) → Contains seen y → Contains more y
  old_in y m = Contains-append_left seen (x ∷ []) y m

  x_in : Contains more x
  x_in = Contains-push seen x

  wider : (k : ℕ) → (AllPairs NotAfter seen → ((x y : CellAccess) → Contains seen x → Contains seen y → x.cell ≡ y.cell)
      → IsUnorderedAt before order seen k)
      → AllPairs NotAfter more → ((x y : CellAccess) → Contains more x → Contains more y → x.cell ≡ y.cell) → IsUnorderedAt before order more k
  wider k f o one =
      let l = f (pairs_front NotAfter seen x o).0 (λ a b m n. one a b (old_in a m) (old_in b n)) in
      record {
        x = l.x;
        y = l.y;
        x_in = (old_in l.x l.x_in);
        y_in = (old_in l.y l.y_in);
        same = l.same;
        at_place = l.at_place;
        conflict = l.conflict;
        not_later = l.not_later;
        not_before = l.not_before;
      }

  -- The access is noted.
  sifted_noted : x.place < length mid → fails_at before g v ≡ true → IsSifted before order more g old (set mid x.place true)
  sifted_noted lt fails = record {
    taken = h.taken;
    of_seen = λ y m. old_in y (h.of_seen y m);
    in_order = λ o. h.in_order (pairs_front NotAfter seen x o).0;
    race_free = h.race_free;
    stands = h.stands;
    whole = λ y m. elim (Contains-append_cases seen (x ∷ []) y m) [
      | inl before_it ↦ elim (h.whole y before_it) [ inl t ↦ inl t | inr n ↦ inr (noted_at mid x.place y.place lt (inr n)) ]
      | inr it ↦ inr (noted_at mid x.place y.place lt (inl (ap (λ (z : CellAccess). z.place) (only it))))
    ];
    each = length-set mid x.place true ∙ h.each;
    kept = λ k e. noted_at mid x.place k lt (inr (h.kept k e));
    sound = λ k e. elim (noted_of mid x.place k e) [
      | inl is ↦ inr (λ o one.
          let w = any_found (is_unordered before v) (map (node_access_of order) h.taken) (sym (tells goes h.stands v) ∙ fails) in
          let y = member_map (node_access_of order) h.taken w.0 w.1 in
          let y_in = h.of_seen y.0 y.1 in
          let l = and_parts (conflicts w.0.access v.access) (not (before w.0.node v.node)) w.2 in
          let same = one y.0 x (old_in y.0 y_in) x_in in
          record {
            x = y.0;
            y = x;
            x_in = (old_in y.0 y_in);
            y_in = x_in;
            same = same;
            at_place = sym is;
            conflict = ap (λ (u : NodeAccess). conflicts u.access v.access) (sym y.2) ∙ l.0;
            not_later = place_after y.0 x same ((pairs_front NotAfter seen x o).1 y.0 y_in);
            not_before = ap (λ (u : NodeAccess). before u.node v.node) (sym y.2) ∙ not-true (before w.0.node v.node) l.1;
          })
      | inr old_note ↦ elim (h.sound k old_note) [ inl first ↦ inl first | inr f ↦ inr (wider k f) ]
    ];
  }

  -- The access is taken.
  sifted_taken : fails_at before g v ≡ false → IsSifted before order more (with_node_access g v) old mid
  sifted_taken race_free =
      let node_accesses = map (node_access_of order) h.taken in
      let none = sym (tells goes h.stands v) ∙ race_free in
      let seam = map-append (node_access_of order) h.taken (x ∷ []) in
      record {
        taken = h.taken ++ x ∷ [];
        of_seen = λ y m. elim (Contains-append_cases h.taken (x ∷ []) y m) [
          | inl before_it ↦ old_in y (h.of_seen y before_it)
          | inr it ↦ subst (Contains more) (sym (only it)) x_in
        ];
        in_order = λ o. let f = pairs_front NotAfter seen x o in
            AllPairs-push NotAfter h.taken x (h.in_order f.0) (λ y m. f.1 y (h.of_seen y m));
        race_free = ap (race_in before) seam ∙ race_push before node_accesses v h.race_free none;
        stands = subst (λ vs. AreGroupsOf before vs (with_node_access g v)) (sym seam) (stands_more goes h.stands v race_free);
        whole = λ y m. elim (Contains-append_cases seen (x ∷ []) y m) [
          | inl before_it ↦ elim (h.whole y before_it) [ inl t ↦ inl (Contains-append_left h.taken (x ∷ []) y t) | inr n ↦ inr n ]
          | inr it ↦ inl (Contains-append_right h.taken (x ∷ []) y it)
        ];
        each = h.each;
        kept = h.kept;
        sound = λ k e. elim (h.sound k e) [ inl first ↦ inl first | inr f ↦ inr (wider k f) ];
      }

  pub sifted_more : (next : Groups) (new : List Bool) → x.place < length mid
      → next ≡ (if fails_at before g v then g else with_node_access g v)
      → new ≡ (if fails_at before g v then set mid x.place true else mid) → IsSifted before order more next old new
  sifted_more next new lt groups notes = elim (cases_Bool (fails_at before g v)) [
    | inl fails ↦ subst (λ next. IsSifted before order more next old new) (sym (groups ∙ by_true g (with_node_access g v) fails))
        (subst (λ new. IsSifted before order more g old new) (sym (notes ∙ by_true (set mid x.place true) mid fails))
        (sifted_noted lt fails))
    | inr race_free ↦ subst (λ next. IsSifted before order more next old new) (sym (groups ∙ by_false g (with_node_access g v) race_free))
        (subst (λ new. IsSifted before order more (with_node_access g v) old new) (sym (notes ∙ by_false (set mid x.place true) mid race_free))
        (sifted_taken race_free))
  ]
    where
      by_true : {A : Type 0} (a b : A) {c : Bool} → c ≡ true → (if c then a else b) ≡ a
      by_true a b e = rw e refl

      by_false : {A : Type 0} (a b : A) {c : Bool} → c ≡ false → (if c then a else b) ≡ b
      by_false a b e = rw e refl

pub sifted_all : (before : ℕ → ℕ → Bool) (order : List ℕ) (cell_accesses : List CellAccess) (g : Groups) (old new : List Bool)
    → IsSifted before order cell_accesses g old new → AllPairs NotAfter cell_accesses
    → ((x y : CellAccess) → Contains cell_accesses x → Contains cell_accesses y → x.cell ≡ y.cell) → NotesMore before order cell_accesses old new
sifted_all before order cell_accesses g old new h o one = record {
  each = h.each;
  kept = h.kept;
  sound = λ k e. elim (h.sound k e) [ inl first ↦ inl first | inr f ↦ inr (f o one) ];
  turn = λ x y xm ym same lt c x_free y_free. elim (h.whole x xm) [
    | inl x_taken ↦ elim (h.whole y ym) [
      | inl y_taken ↦ run_in_turn before order h.taken (h.in_order o) h.race_free x y x_taken y_taken same lt c
      | inr y_noted ↦ absurd (true≢false (sym y_noted ∙ y_free))
    ]
    | inr x_noted ↦ absurd (true≢false (sym x_noted ∙ x_free))
  ];
}

-- ---- cell by cell

notes_kept : {before : ℕ → ℕ → Bool} {order : List ℕ} {cell_accesses : List CellAccess} {old new : List Bool}
    → NotesMore before order cell_accesses old new
    → (k : ℕ) → is_noted new k ≡ false → is_noted old k ≡ false
notes_kept {before} {order} {cell_accesses} {old} {new} h k free = elim (cases_Bool (is_noted old k)) [
  | inl noted ↦ absurd (true≢false (sym (h.kept k noted) ∙ free))
  | inr none ↦ none
]

unordered_in : (before : ℕ → ℕ → Bool) (order : List ℕ) (some all : List CellAccess) (k : ℕ) → ((x : CellAccess) → Contains some x → Contains all x)
    → IsUnorderedAt before order some k → IsUnorderedAt before order all k
unordered_in before order some all k inside l = record {
  x = l.x;
  y = l.y;
  x_in = inside l.x l.x_in;
  y_in = inside l.y l.y_in;
  same = l.same;
  at_place = l.at_place;
  conflict = l.conflict;
  not_later = l.not_later;
  not_before = l.not_before;
}

-- What is in turn at the cells of two lists is so at those of both.
pub turn_both : (before : ℕ → ℕ → Bool) (order : List ℕ) (front run : List CellAccess) (noted : List Bool) → IsApart front run
    → AreInTurnBut before order front noted → AreInTurnBut before order run noted → AreInTurnBut before order (front ++ run) noted
turn_both before order front run noted far h g x y xm ym same lt c x_free y_free = elim (Contains-append_cases front run x xm) [
  | inl x_front ↦ elim (Contains-append_cases front run y ym) [
    | inl y_front ↦ h x y x_front y_front same lt c x_free y_free
    | inr y_run ↦ absurd (far x y x_front y_run same)
  ]
  | inr x_run ↦ elim (Contains-append_cases front run y ym) [
    | inl y_front ↦ absurd (far y x y_front x_run (sym same))
    | inr y_run ↦ g x y x_run y_run same lt c x_free y_free
  ]
]

pub notes_both : (before : ℕ → ℕ → Bool) (order : List ℕ) (front run : List CellAccess) (old mid new : List Bool) → IsApart front run
    → NotesMore before order front old mid → NotesMore before order run mid new → NotesMore before order (front ++ run) old new
notes_both before order front run old mid new far h g =
    let left : (x : CellAccess) → Contains front x → Contains (front ++ run) x =
    λ x m. (Contains-append_left front run x m) in
    let right : (x : CellAccess) → Contains run x → Contains (front ++ run) x =
    λ x m. (Contains-append_right front run x m) in
    record {
      each = g.each ∙ h.each;
      kept = λ k e. g.kept k (h.kept k e);
      sound = λ k e. elim (g.sound k e) [
        | inl earlier ↦ elim (h.sound k earlier) [
          | inl first ↦ inl first
          | inr l ↦
              inr (unordered_in before order front (front ++ run) k left l)
        ]
        | inr l ↦ inr (unordered_in before order run (front ++ run) k right l)
      ];
      turn = turn_both before order front run new far
          (λ x y xm ym same lt c x_free y_free. h.turn x y xm ym same lt c (notes_kept g x.place x_free) (notes_kept g y.place y_free)) g.turn;
    }

none_noted : (n k : ℕ) → is_noted (replicate n false) k ≡ false
none_noted zero k = refl
none_noted (suc n) zero = refl
none_noted (suc n) (suc k) = none_noted n k

pub notes_all : (before : ℕ → ℕ → Bool) (order : List ℕ) (cell_accesses : List CellAccess) (start noted : List Bool)
    → start ≡ replicate (length order) false
    → NotesMore before order cell_accesses start noted → AreNoted before order cell_accesses noted
notes_all before order cell_accesses start noted is h = record {
  each = h.each ∙ (ap (λ (bs : List Bool). length bs) is ∙ length-replicate (length order) false);
  sound = λ k e. elim (h.sound k e) [
    | inl at_start ↦ absurd (true≢false (sym at_start ∙ (ap (λ bs. is_noted bs k) is ∙ none_noted (length order) k)))
    | inr l ↦ l
  ];
  turn = h.turn;
}
