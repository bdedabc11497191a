-- What is traced back from a read is where it came from.
use Rattle.std.proofs.Common.{◌≡◌, ◌↔◌, ℕ, ◌==◌, ◌&&◌, ◌<◌, ◌≤◌, ◌+◌, inl, inr, Bool, true, false, cond, List, [], ◌∷◌, ◌++◌, map, filter, reverse, length, take, drop, get_or, position, refl, sym, ap, ◌∙◌, subst, Some, None, arith, nat_lt, take-append-drop, Contains}
use Rattle.std.specs.List.{position_or_len}
use Rattle.std.proofs.lemmas.Bool.{true≢false, cases_Bool, and_parts, eqb-true, eq-eqb, ltb-false, false_from_ne_true}
use Rattle.std.proofs.lemmas.List.{reverse-append, map-append, drop_more}
use Rattle.std.proofs.lemmas.List.Quantifiers.{position-Some}
use Rattle.std.proofs.lemmas.List.Sums.{fails_before_first}
use Rattle.semantics.specs.declared.command.Command.TheVariants.{Check}
use Rattle.vocabulary.specs.Prelude.{Ask, Link, Cell, Move, Tables, tables_of, HasNoCycle, Step, steps, IsInterleaving, IsRaceFree, replay_steps}
use Rattle.semantics.specs.declared.links.LinkKind.TheVariants as kinds
use Rattle.semantics.specs.declared.moves.Move.TheVariants.{Read}
use Rattle.semantics.specs.Faults.{unmapped_fault}
use Rattle.semantics.specs.Links.{Source, sources_of, cell_read, ComesFrom, IsTrail, is_asked, IsNoRead, AreLinksOf, TellValue, EndsInOrigin}
use Rattle.logs.specs.Faultless.{AreDeclared}
use Rattle.std.proofs.lemmas.List.Elements.{Contains-append_left, Contains-append_right}
use Rattle.list_lemmas.proofs.lemmas.Contained.{member_map, Contains-nil, Contains-cases, Contains-first, Contains-later}
use Rattle.list_lemmas.proofs.lemmas.Filtered.{in_filter}
use Rattle.log_laws.proofs.lemmas.Admitted.{IsFaultless, no_broken_rule}
use Rattle.log_laws.proofs.lemmas.Laws.{replay_interleaves}
use Rattle.point_laws.specs.Alike.{is_at}
use Rattle.trail_laws.proofs.lemmas.CopiedCells.{CopyStays, copies_stay}
use Rattle.trail_laws.proofs.lemmas.Trails as trails
use Rattle.provenance.specs.declared.taking.Taken.{Taken}
use Rattle.provenance.specs.Listing.{step_of, at_field}
use Rattle.provenance.specs.Tracing.{links_behind}
use Rattle.provenance.proofs.Back.{comes_back}

-- ---- the laws

-- What a log that maps each field keeps, where it has no cycle and no race.
pub record Keeps (t : Tables) : Type 0 where
  pub replay : IsInterleaving t (replay_steps t)
  pub stays : (x : Step) → Contains (steps t) x → CopyStays x.move
  pub trails : (x : Step) (ls : List Source) → ComesFrom [] (replay_steps t) x ls → IsTrail t x ls
  pub value : (ask : Ask) (ls : List Link) → AreLinksOf t ask ls → TellValue t ask ls
  pub ends : (ask : Ask) (ls : List Link) → AreLinksOf t ask ls → EndsInOrigin ls
  pub starts : (ask : Ask) (ls : List Link) → AreLinksOf t ask ls → (l : Link) → Contains ls l → (l.done ≡ 0) ↔ (l.kind ≡ kinds.Start)

-- The laws ask for no more of a log than that its fields are mapped.
admitted : (t : Tables) (d : AreDeclared t) → unmapped_fault t ≡ None → IsFaultless Check d.log
admitted t d mapped = record {
  records = no_broken_rule d.lines d.log d.faultless;
  maps =
      subst (λ u. unmapped_fault u ≡ None) d.tables mapped;
}

pub keeps : (t : Tables) → AreDeclared t → unmapped_fault t ≡ None → HasNoCycle t → IsRaceFree t → Keeps t
keeps t d mapped no_cycle free =
    let f = admitted t d mapped in
    let acyclic : HasNoCycle (tables_of d.log) = subst HasNoCycle d.tables no_cycle in
    subst Keeps (sym d.tables) (record {
      replay = replay_interleaves d.log d.good f acyclic;
      stays = copies_stay d.log f;
      trails = trails.trail_of_replay d.log d.good f acyclic (subst IsRaceFree d.tables free);
      value = trails.tell_value d.log d.good f acyclic;
      ends = trails.ends d.log d.good f acyclic;
      starts = trails.starts d.log d.good f acyclic;
    })

-- ---- the read that is asked for

pub asked_reads : (ask : Ask) (m : Move) → is_asked ask m ≡ true → (task : ℕ) × (req : ℕ) × (cell : Cell) × (m ≡ Read task req cell)
asked_reads ask (Read task req cell) e = (task, req, cell, refl)
asked_reads ask _ e = absurd cc

asked_there : (ask : Ask) (node : ℕ) (m : Move) → is_asked ask m ≡ true → (is_at (ask.point ∷ []) (record { node = node; move = m }) ≡ true)
    × (at_field ask.field (record { node = node; move = m }) ≡ true)
asked_there ask node (Read task req cell) e =
    let both = and_parts ((task == ask.task) && (req == ask.req)) ((cell.point == ask.point) && (cell.field == ask.field)) e in
    let here = and_parts (cell.point == ask.point) (cell.field == ask.field) both.1 in
    (rw (eq-eqb ask.point cell.point (sym (eqb-true cell.point ask.point here.0))) refl, here.1)
asked_there ask node _ e = absurd cc

none_before : {X : Type 0} (p : X → Bool) (xs : List X) → position p xs ≡ None → (x : X) → Contains xs x → p x ≡ false
none_before p xs e x m =
    let first = position_or_len p xs in
    elim (cases_Bool (nat_lt first (length xs))) [
      | inl less ↦ let bad = sym (ap (λ b. cond b (Some first) None) less) ∙ e in absurd cc
      | inr other ↦
          let past : length xs ≤ first = ltb-false first (length xs) other in
          let far : m.0 < first = omega (arith, m.1, past) in
          ap p (sym m.2) ∙ fails_before_first p xs m.0 x far
    ]

member_reverse : {X : Type 0} (xs : List X) (x : X) → Contains xs x → Contains (reverse xs) x
member_reverse [] x m = absurd (Contains-nil m)
member_reverse (y ∷ ys) x m = subst (λ zs. Contains zs x) (sym (reverse-append (y ∷ []) ys))
    (elim (Contains-cases ys m) [
      | inl is ↦ Contains-append_right (reverse ys) (y ∷ []) x (Contains-first [] is)
      | inr later ↦ Contains-append_left (reverse ys) (y ∷ []) x (member_reverse ys x later)
    ])

abbrev listed_there : Tables → Ask → List Step
listed_there t ask = filter (at_field ask.field) (filter (is_at (ask.point ∷ [])) (replay_steps t))

pub none_asked : (t : Tables) (ask : Ask) (items : List Taken) → IsInterleaving t (replay_steps t)
    → map step_of items ≡ reverse (listed_there t ask)
    → position (λ (x : Taken). is_asked ask x.step) items ≡ None → IsNoRead t ask
none_asked t ask items il same none x is = false_from_ne_true (is_asked ask x.move) (λ asked.
    let here = asked_there ask x.node x.move asked in
    let at_point = in_filter (is_at (ask.point ∷ [])) (replay_steps t) x (il.whole x is) here.0 in
    let there = in_filter (at_field ask.field) (filter (is_at (ask.point ∷ [])) (replay_steps t)) x at_point here.1 in
    let listed = subst (λ zs. Contains zs x) (sym same) (member_reverse (listed_there t ask) x there) in
    let y = member_map step_of items x listed in
    true≢false (sym (ap (λ (z : Step). is_asked ask z.move) (sym y.2) ∙ asked)
    ∙ none_before (λ (x : Taken). is_asked ask x.step) items none y.0 y.1))

-- ---- its links

comes_member : (earlier xs : List Step) (e : Step) (ls : List Source) → ComesFrom earlier xs e ls → Contains xs e
comes_member earlier [] e ls h = absurd h
comes_member earlier (x ∷ xs) e ls (inl h) = Contains-first xs h.0
comes_member earlier (x ∷ xs) e ls (inr h) = Contains-later xs (comes_member (x ∷ earlier) xs e ls h)

parted : {X : Type 0} (xs : List X) (k : ℕ) (x : X) → k < length xs → x ≡ get_or xs k x → take k xs ++ x ∷ drop (k + 1) xs ≡ xs
parted xs k x lt is = ap (λ y. take k xs ++ y ∷ drop (k + 1) xs) is ∙ ap (λ ys. take k xs ++ ys) (sym (drop_more xs k x lt))
    ∙ take-append-drop k xs

pub traced : (t : Tables) (k : Keeps t) (ask : Ask) (items : List Taken) (place : ℕ) (x : Taken) (task req : ℕ) (cell : Cell)
    (found : List Link)
    → map step_of items ≡ reverse (listed_there t ask)
    → position (λ (x : Taken). is_asked ask x.step) items ≡ Some place → x ≡ get_or items place x → x.step ≡ Read task req cell
    → found ≡ links_behind t (drop (place + 1) items) cell → AreLinksOf t ask found
traced t k ask items place x task req cell found same at is reads links_are =
    let first = position-Some (λ (x : Taken). is_asked ask x.step) items place x at in
    let front = map step_of (take place items) in
    let back = map step_of (drop (place + 1) items) in
    let parts : front ++ step_of x ∷ back ≡ map step_of items =
    sym (map-append step_of (take place items) (x ∷ drop (place + 1) items)) ∙ ap (map step_of) (parted items place x first.0 is) in
    let xs = replay_steps t in
    let sources = sources_of back cell 0 in
    let comes : ComesFrom [] xs (step_of x) sources =
    comes_back (ask.point ∷ []) ask.field xs front back (step_of x) cell (λ y m. k.stays y (k.replay.in_log y m))
    (ap cell_read reads) (parts ∙ same) in
    record {
      read = step_of x;
      is_step = k.replay.in_log (step_of x) (comes_member [] xs (step_of x) sources comes);
      asked = ap (λ (y : Taken). is_asked ask y.step) is ∙ first.1;
      sources = sources;
      links_are = links_are;
      trail = k.trails (step_of x) sources comes;
    }
