-- The links of the reads that are asked for, in a log without a fault and a cycle: they are one list, and tell what is read. Where there is no race each read has them.
use Rattle.std.proofs.Common.{◌≡◌, ◌≢◌, ◌↔◌, ◌⊎◌, ◌≤◌, ℕ, inl, inr, List, [], ◌∷◌, map, Option, Some, None, refl, sym, ap, ◌∙◌, subst, arith, Contains}
use Rattle.std.specs.List.{AllByRecursion, list_any}
use Rattle.std.specs.Option.{option_map_or}
use Rattle.std.proofs.lemmas.Bool.{cases_Bool}
use Rattle.vocabulary.specs.Prelude.{Priv, Value, Lined, Good, Ask, Link, Cell, Move, LogNode, Op, records_of, Tables, tables_of, points_in, reqs_of, grid, graph_of, AreLinked, HasNoCycle, Step, steps, id_of, cell_in, mapped_cell, at_cells, move_of, moves_of, start, ReadsIn, IsInterleaving, IsRaceFree, replay_steps}
use Rattle.privilege.specs.declared.kinds.Priv.TheVariants as privileges
use Rattle.semantics.specs.declared.command.Command.TheVariants.{Check, Why}
use Rattle.semantics.specs.declared.links.LinkKind.TheVariants as kinds
use Rattle.semantics.specs.declared.moves.Move.TheVariants as moves
use Rattle.semantics.specs.declared.tables.Op.TheVariants as operations
use Rattle.semantics.specs.DataOps.{Copies, Puts, Resets, Folds}
use Rattle.semantics.specs.Shown.{event_of}
use Rattle.semantics.specs.Faults.{log_fault}
use Rattle.semantics.specs.Links.{Source, cell_read, ComesFrom, IsTrail, is_asked, IsNoRead, kind_of, link_of, AreLinksOf, put_by, put_at, value_put, last_put, TellValue, EndsInOrigin}
use Rattle.std.proofs.lemmas.List.Elements.{Contains-append_cases}
use Rattle.list_lemmas.proofs.lemmas.Contained.{member_map, any_found, none_at, Contains-here, Contains-nil, Contains-later}
use Rattle.log_laws.proofs.lemmas.Admitted.{IsFaultless}
use Rattle.log_laws.proofs.lemmas.StepLists.{of_node}
use Rattle.log_laws.proofs.lemmas.OwnConflicts.{place, is_of, read_is, change_of, change_tells, reads, changes}
use Rattle.log_laws.proofs.lemmas.Laws.{faultless_linked, faultless_by_reads, replay_interleaves}
use Rattle.log_laws.proofs.lemmas.Turns.{seen_once, once, all_agree}
use Rattle.trail_laws.proofs.Followed.{Origins, follow, looks, held, seen_from, from_seen, turn, keep}
use Rattle.trail_laws.proofs.LastPut.{HasNoAdds, KeepsAway, own_put, own_value, last_value, told, shows_start, reads_member, comes}
use Rattle.trail_laws.proofs.Away.{steps_kept}
use Rattle.trail_laws.proofs.Copied.{AreThere, comes_ends, comes_of, comes_there}
use Rattle.trail_laws.proofs.lemmas.Runs.{event_positive, found_by_event}
use Rattle.trail_laws.proofs.OneRead.{asked_tells, one_asked}

-- ---- single links

abbrev source : Option Step → Cell → ℕ → Source
source o c n = record { by = o; cell = c; adds = n }

never_start : (m : Move) → kind_of m ≢ kinds.Start
never_start (moves.Write task cell) = λ k. cc
never_start (moves.Put cell n) = λ k. cc
never_start _ = λ k. cc

-- Exactly the start has no operation.
start_link : (t : Tables) (o : Option Step) (c : Cell) (n : ℕ) → ((x : Step) → o ≡ Some x → 1 ≤ event_of t x.node)
    → ((link_of t (source o c n)).done ≡ 0) ↔ ((link_of t (source o c n)).kind ≡ kinds.Start)
start_link t None c n h = (λ _. refl, λ _. refl)
start_link t (Some x) c n h = (λ e. let lt = h x refl in absurd (omega (arith, lt, e)), λ k. absurd (never_start x.move k))

adds_of : (t : Tables) (o : Option Step) (c : Cell) (n : ℕ) → (link_of t (source o c n)).adds ≡ n
adds_of t None c n = refl
adds_of t (Some x) c n = refl

no_adds : (t : Tables) (ls : List Source) → AllByRecursion (λ (l : Link). l.adds ≡ 0) (map (link_of t) ls) → HasNoAdds ls
no_adds t [] h = tt
no_adds t (s ∷ ls) h = (sym (adds_of t s.by s.cell s.adds) ∙ h.0, no_adds t ls h.1)

-- ---- what the last link puts

-- What a step of an operation puts of its own is what the operation does.
changes_put : (t : Tables) (item number : ℕ) (access : Priv) (c : Cell) (v : Value)
    → own_put (change_of (id_of t item) number access c) ≡ Some v → put_by t (operations.Run item) ≡ Some v
changes_put t item number (privileges.Red op) c v e = absurd cc
changes_put t item number privileges.Ro c v e = e
changes_put t item number privileges.Rw c v e = e
changes_put t item number privileges.Wd c v e = e

of_map : {X : Type 0} (f : X → Move) (xs : List X) (m : Move) (o : Option Value) → ((x : X) → own_put (f x) ≡ o) → Contains (map f xs) m
    → own_put m ≡ o
of_map f xs m o all is = let x = member_map f xs m is in ap own_put x.2 ∙ all x.0

none_put : (m : Move) (v : Value) (o : Option Value) → own_put m ≡ None → own_put m ≡ Some v → o ≡ Some v
none_put m v o none e = let bad = sym none ∙ e in absurd cc

move_puts : (t : Tables) (op : Op) (m : Move) (v : Value) → Contains (moves_of t op) m → own_put m ≡ Some v → put_by t op ≡ Some v
move_puts t (operations.Run item) m v is e =
    let task = id_of t item in
    let rs = reqs_of t item in
    elim (Contains-append_cases (at_cells t (reads task) rs) (at_cells t (changes task) rs) m is) [
      | inl r ↦
          let of = is_of t rs (reads task) m r in
          let bad = sym (ap own_put (read_is task of.req.number of.req.access (mapped_cell t of.req of.at) m of.is_done)) ∙ e in
          absurd cc
      | inr c ↦
          let of = is_of t rs (changes task) m c in
          let is = (change_tells task of.req.number of.req.access (mapped_cell t of.req of.at) m of.is_done).0 in
          changes_put t item of.req.number of.req.access (mapped_cell t of.req of.at) v (sym (ap own_put is) ∙ e)
    ]
move_puts t (operations.Copy src dst space fields) m v is e =
    none_put m v None (of_map (move_of t (Copies src dst)) (grid (points_in t space) fields) m None (λ p. refl) is) e
move_puts t (operations.Put inst space fields n) m v is e =
    sym (of_map (move_of t (Puts inst n)) (grid (points_in t space) fields) m (put_by t (operations.Put inst space fields n))
    (λ p. refl) is) ∙ e
move_puts t (operations.Reset inst space fields) m v is e =
    none_put m v None (of_map (move_of t (Resets inst)) (grid (points_in t space) fields) m None (λ p. refl) is) e
move_puts t (operations.Fold src dst space fields) m v is e =
    none_put m v None (of_map (move_of t (Folds src dst)) (grid (points_in t space) fields) m None (λ p. refl) is) e
move_puts t operations.Merge m v is e = absurd (Contains-nil is)

-- A link puts what the operation with its event puts.
kind_puts : (t : Tables) (ask : Ask) (m : Move) (event inst n : ℕ) (v : Value) → own_put m ≡ Some v → put_at t event ≡ Some v
    → value_put t ask (record { kind = kind_of m; done = event; inst = inst; adds = n }) ≡ Some v
kind_puts t ask (moves.Write task cell) event inst n v e put = put
kind_puts t ask (moves.Put cell k) event inst n v e put = put
kind_puts t ask _ event inst n v e put = absurd cc

module _ (t : Tables) (graph : AreLinked (graph_of t.nodes)) (ask : Ask) where
  link_puts : (o : Option Step) (c : Cell) (n : ℕ) → ((x : Step) → o ≡ Some x → Contains (steps t) x) → place c ≡ (ask.point, ask.field)
      → (v : Value) → own_value t (source o c n) ≡ Some v → value_put t ask (link_of t (source o c n)) ≡ Some v
  link_puts None c n taken there v e = ap (λ p. Some (start t (cell_in c.inst p))) (sym there) ∙ e
  link_puts (Some x) c n taken there v e =
      let of = of_node t _ x (taken x refl) in
      let put = ap (λ o. option_map_or (λ (n : LogNode). put_by t n.op) o None) (found_by_event t graph x.node of.node of.is_node)
      ∙ move_puts t of.node.op x.move v of.is_move e in
      kind_puts t ask x.move (event_of t x.node) c.inst n v e put

  last_puts : (ls : List Source) → ((s : Source) (x : Step) → Contains ls s → s.by ≡ Some x → Contains (steps t) x)
      → ((s : Source) → Contains ls s → place s.cell ≡ (ask.point, ask.field))
      → (v : Value) → last_value t ls ≡ Some v → last_put t ask (map (link_of t) ls) ≡ Some v
  last_puts [] taken there v e = absurd cc
  last_puts (s ∷ []) taken there v e = link_puts s.by s.cell s.adds (λ x is. taken s x (Contains-here []) is) (there s (Contains-here [])) v e
  last_puts (s ∷ r ∷ rest) taken there v e = last_puts (r ∷ rest)
      (λ q x m is. taken q x (Contains-later (r ∷ rest) m) is) (λ q m. there q (Contains-later (r ∷ rest) m)) v e

-- ---- the links of a read

-- The faults that are asked for with a read are those of a check.
pub why_faults : (ask : Ask) (lines : ℕ) (log : List Lined) → log_fault (Why ask) lines log ≡ log_fault Check lines log
unfolding log_fault
why_faults ask lines log = refl

module _ (log : List Lined) (good : AllByRecursion Good (records_of log)) (f : IsFaultless Check log)
    (no_cycle : HasNoCycle (tables_of log)) where
  abbrev t : Tables
  t = tables_of log

  replay : IsInterleaving t (replay_steps t)
  replay = replay_interleaves log good f no_cycle

  -- No read has two lists of links.
  pub one_list : (ask : Ask) (ls ms : List Link) → AreLinksOf t ask ls → AreLinksOf t ask ms → ls ≡ ms
  one_list ask ls ms a b =
      let xs = replay_steps t in
      let same : a.read ≡ b.read = one_asked log f ask a.read b.read a.is_step b.is_step a.asked b.asked in
      let mine : ComesFrom [] xs b.read a.sources = subst (λ x. ComesFrom [] xs x a.sources) same (a.trail xs replay) in
      let sources : a.sources ≡ b.sources = seen_once follow looks xs (held []) b.read a.sources b.sources (once t xs replay)
      (seen_from [] xs b.read a.sources mine) (seen_from [] xs b.read b.sources (b.trail xs replay)) in
      a.links_are ∙ ap (map (link_of t)) sources ∙ sym b.links_are

  -- A read that is not there has none.
  pub not_both : (ask : Ask) (ls : List Link) → AreLinksOf t ask ls → IsNoRead t ask → ⊥
  not_both ask ls a no_read = let e = sym a.asked ∙ no_read a.read a.is_step in cc

  -- There is a link; all but the last are copies, and the last is none.
  pub ends : (ask : Ask) (ls : List Link) → AreLinksOf t ask ls → EndsInOrigin ls
  ends ask ls a = let xs = replay_steps t in subst EndsInOrigin (sym a.links_are) (comes_ends t [] xs a.read a.sources (a.trail xs replay))

  taken : (ask : Ask) (ls : List Link) → (a : AreLinksOf t ask ls) → (s : Source) (x : Step) → Contains a.sources s → s.by ≡ Some x
      → Contains (steps t) x
  taken ask ls a s x m is =
      let xs = replay_steps t in
      elim (comes_of [] xs a.read a.sources (a.trail xs replay) s x m is) [
        | inl before ↦ absurd (Contains-nil before)
        | inr in_xs ↦
            (replay.in_log x in_xs)
      ]

  -- Exactly the start has no operation.
  pub starts : (ask : Ask) (ls : List Link) → AreLinksOf t ask ls → (l : Link) → Contains ls l → (l.done ≡ 0) ↔ (l.kind ≡ kinds.Start)
  starts ask ls a l is =
      let s = member_map (link_of t) a.sources l (subst (λ ls. Contains ls l) a.links_are is) in
      subst (λ (l : Link). (l.done ≡ 0) ↔ (l.kind ≡ kinds.Start)) (sym s.2) (start_link t s.0.by s.0.cell s.0.adds (λ x e.
      let of = of_node t _ x (taken ask ls a s.0 x s.1 e) in event_positive Check log good f x.node of.node of.is_node))

  -- Where nothing was added on the way, what is read is what the last link puts.
  pub tell_value : (ask : Ask) (ls : List Link) → AreLinksOf t ask ls → TellValue t ask ls
  tell_value ask ls a no_add xs il x asked v r =
      let in_log : Contains (steps t) x = il.in_log x (reads_member xs (start t) x v r) in
      let same : x ≡ a.read = one_asked log f ask x a.read in_log a.is_step asked a.asked in
      let kept : (y : Step) → Contains xs y → KeepsAway t y.move =
      λ y m. steps_kept log f y (il.in_log y m) in
      let comes_so : ComesFrom [] xs a.read a.sources = a.trail xs il in
      let value : last_value t a.sources ≡ Some v = told t [] xs (start t) (once t xs il) kept (shows_start t) a.read a.sources comes_so
      (no_adds t a.sources (subst (AllByRecursion (λ (l : Link). l.adds ≡ 0)) a.links_are no_add)) v
      (subst (λ x. ReadsIn xs (start t) x v) same r) in
      let tells = asked_tells ask a.read.move a.asked in
      let there : AreThere tells.cell a.sources =
      comes_there t [] xs (λ y m. absurd (Contains-nil m)) kept a.read a.sources comes_so tells.cell (ap cell_read tells.is) in
      let at : place tells.cell ≡ (ask.point, ask.field) = λ i. (tells.at_point i, tells.at_field i) in
      subst (λ ls. last_put t ask ls ≡ Some v) (sym a.links_are)
      (last_puts t (faultless_linked Check log good f) ask a.sources (taken ask ls a) (λ s m. there s m ∙ at) v value)

  module _ (free : IsRaceFree (tables_of log)) where
    -- What a read came from in one interleaving it came from in every other.
    pub alike : (xs ys : List Step) → IsInterleaving t xs → IsInterleaving t ys → (x : Step) (ls : List Source) → ComesFrom [] xs x ls
        → ComesFrom [] ys x ls
    alike xs ys a b x ls h = from_seen [] ys x ls
        ((all_agree Origins (List Source) follow looks turn keep t (faultless_by_reads log f) free ys xs b a).sights (held []) x ls
        (seen_from [] xs x ls h))

    -- So what it came from in the replay is its trail.
    pub trail_of_replay : (x : Step) (ls : List Source) → ComesFrom [] (replay_steps t) x ls → IsTrail t x ls
    trail_of_replay x ls h xs a = alike (replay_steps t) xs replay a x ls h

    -- Each read has links.
    pub some_list : (ask : Ask) → ((ls : List Link) × AreLinksOf t ask ls) ⊎ IsNoRead t ask
    some_list ask = elim (cases_Bool (list_any (λ (x : Step). is_asked ask x.move) (steps t))) [
      | inl some ↦
          let x = any_found (λ (x : Step). is_asked ask x.move) (steps t) some in
          let is_step = x.1 in
          let tells = asked_tells ask x.0.move x.2 in
          let found = comes [] (replay_steps t) x.0 tells.cell (replay.whole x.0 is_step)
          (ap cell_read tells.is) in
          inl (
            map (link_of t) found.0,
            record {
              read = x.0;
              is_step = is_step;
              asked = x.2;
              sources = found.0;
              links_are = refl;
              trail =
                  trail_of_replay x.0 found.0 found.1;
            },
          )
      | inr none ↦ inr (λ x is. none_at (λ (x : Step). is_asked ask x.move) (steps t) x none is)
    ]
