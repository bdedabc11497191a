-- The steps of a log without a cycle, taken node by node in replay order, are an interleaving.
use Rattle.std.proofs.Common.{slice_get, ◌≢◌, get_or, Contains, AllPairs, arith, ◌≡◌, ℕ, ◌<◌, inl, inr, true, false, List, [], length, sym, ap, ◌∙◌, map}
use Rattle.std.specs.List.{range_with_len}
use Rattle.std.proofs.lemmas.Bool.{true≢false, false_from_ne_true}
use Rattle.std.proofs.lemmas.List.{length-map}
use Rattle.vocabulary.specs.Prelude.{Move, LogNode, Op, Tables, reqs_of, Node, Before, graph_of, IsCycle, AreLinked, Step, id_of, moves_of, steps, steps_by, is_read, IsInterleaving}
use Rattle.semantics.specs.declared.tables.Op.TheVariants as operations
use Rattle.semantics.specs.ReplayOrder.{replay_order, is_stuck}
use Rattle.list_lemmas.proofs.lemmas.Contained.{member_flat, flat_member}
use Rattle.list_lemmas.proofs.lemmas.Firsts.{contains_at, cases_option}
use Rattle.list_lemmas.proofs.lemmas.Pairs.{Apart, apart_flat, apart_map, AllPairs-append, AllPairs-map, AllPairs-where, AllPairs-flat, AllPairs-nil}
use Rattle.list_lemmas.proofs.lemmas.Ranges.{numbers_apart, number_in, number_within}
use Rattle.log_laws.proofs.lemmas.StepLists.{moves_at, steps_at, MayFollow, step_at}
use Rattle.log_laws.proofs.lemmas.OwnConflicts.{is_of, a_read, no_read}
use Rattle.log_laws.proofs.lemmas.Rounds.{once, taken_within, in_turn, not_before_itself, replay, listed}
use Rattle.log_laws.proofs.lemmas.Cycles.{stuck_in, stuck_cycle}

-- ---- the moves of one node: reads come first

abbrev ReadsFirst : Move → Move → Type 0
ReadsFirst m n = is_read n ≡ true → is_read m ≡ false → ⊥

-- Moves of which none reads.
none_reads : {X : Type 0} (f : X → Move) (xs : List X) → ((x : X) → is_read (f x) ≡ true → ⊥) → AllPairs ReadsFirst (map f xs)
none_reads f xs none = AllPairs-map ReadsFirst f xs (AllPairs-where (λ x y. ReadsFirst (f x) (f y)) xs (λ x y m n read e. none y read))

reads_first : (t : Tables) (op : Op) → AllPairs ReadsFirst (moves_of t op)
reads_first t (operations.Run item) = AllPairs-append ReadsFirst _ _
    (AllPairs-where ReadsFirst _ (λ m n a b read e. true≢false
    (sym (a_read (id_of t item) t (reqs_of t item) m (is_of t (reqs_of t item) _ m a)) ∙ e)))
    (AllPairs-where ReadsFirst _ (λ m n a b read e. true≢false (sym read
    ∙ no_read (id_of t item) t (reqs_of t item) n (is_of t (reqs_of t item) _ n b))))
    (λ m n a b read e. true≢false (sym read ∙ no_read (id_of t item) t (reqs_of t item) n (is_of t (reqs_of t item) _ n b)))
reads_first t operations.Merge = AllPairs-nil ReadsFirst
reads_first t op = none_reads _ _ (λ x read. true≢false (sym read))

pub at_position : (t : Tables) (P : List Move → Type 0) → P [] → ((n : LogNode) → Contains t.nodes n → P (moves_of t n.op)) → (k : ℕ)
    → P (moves_at t k)
at_position t P none some k = elim (cases_option (slice_get t.nodes k)) [
  | inl nothing ↦ rw nothing none
  | inr node ↦ rw node.1 (some node.0 (contains_at t.nodes k node.0 node.1))
]

-- ---- the steps in replay order

-- All steps of some nodes are steps of more nodes.
among : (t : Tables) (ks ls : List ℕ) → ((k : ℕ) → Contains ks k → Contains ls k) → (x : Step) → Contains (steps_by t ks) x
    → Contains (steps_by t ls) x
among t ks ls more x c =
    let at = member_flat (steps_at t) ks x c in
    (flat_member (steps_at t) ls at.0 x (more at.0 at.1) at.2)

-- A log lists no step twice, where no node does.
pub steps_once : (t : Tables) → ((k : ℕ) → Apart (moves_at t k)) → Apart (steps t)
steps_once t moves = apart_flat (steps_at t) (range_with_len 0 (length t.nodes))
    (λ k m. apart_map (λ m. record { node = k; move = m }) (moves_at t k) (λ m n e. ap (λ (x : Step). x.move) e) (moves k))
    (λ k l x _ _ m n. sym (step_at t k x m).0 ∙ (step_at t l x n).0)
    (numbers_apart 0 (length t.nodes))

module _ (t : Tables) (linked : AreLinked (graph_of t.nodes)) (moves : (k : ℕ) → Apart (moves_at t k)) where
  abbrev nodes : List Node
  nodes = graph_of t.nodes

  abbrev order : List ℕ
  order = replay_order nodes

  may_follow : (x y : Step) → x ≢ y → (Before nodes y.node x.node → ⊥) → (x.node ≡ y.node → ReadsFirst x.move y.move) → MayFollow t x y
  may_follow x y differ before reads = (differ, λ must. elim must [ inl b ↦ before b | inr same ↦ reads (sym same.0) same.1 same.2 ])

  within_node : (k : ℕ) → Contains order k → AllPairs (MayFollow t) (steps_at t k)
  within_node k m = AllPairs-map (MayFollow t) (λ m. record { node = k; move = m }) (moves_at t k)
      (λ i j d lt within. may_follow _ _
      (λ e. (moves k) i j d lt within (ap (λ (x : Step). x.move) e))
      (not_before_itself (replay nodes).taken linked k m)
      (λ same. (at_position t (AllPairs ReadsFirst) (AllPairs-nil ReadsFirst) (λ n at. reads_first t n.op) k) i j d lt within))

  between_nodes : AllPairs (λ k l. (x y : Step) → Contains (steps_at t k) x → Contains (steps_at t l) y → MayFollow t x y) order
  between_nodes i j d lt within x y m n =
      let k : x.node ≡ get_or order i d = (step_at t (get_or order i d) x m).0 in
      let l : y.node ≡ get_or order j d = (step_at t (get_or order j d) y n).0 in
      let differ : x.node ≢ y.node = λ e. once (replay nodes).taken i j d lt within (sym k ∙ e ∙ l) in
      let turn = in_turn (replay nodes).taken linked i j d (omega arith) within in
      may_follow x y (λ e. differ (ap (λ (x : Step). x.node) e)) (λ before. turn (rw (k, l) at before)) (λ same. absurd (differ same))

  steps_in_turn : AllPairs (MayFollow t) (steps_by t order)
  steps_in_turn = (AllPairs-flat (MayFollow t) (steps_at t) order within_node between_nodes)

  pub interleaves : ((c : List ℕ) → IsCycle nodes c → ⊥) → IsInterleaving t (steps_by t order)
  interleaves no_cycle =
      let free : (k : ℕ) → k < length nodes → is_stuck nodes k ≡ false =
      λ k lt. false_from_ne_true (is_stuck nodes k) (λ stuck. no_cycle _ (stuck_cycle nodes linked k (stuck_in nodes k lt stuck))) in
      let all : length nodes ≡ length t.nodes = length-map t.nodes _ in
      record {
        once = λ i j d lt within. (steps_in_turn i j d lt within).0;
        in_log = among t order (range_with_len 0 (length t.nodes))
            (λ k m. number_in (length t.nodes) k (rw all at (taken_within (replay nodes).taken k m)));
        whole = among t (range_with_len 0 (length t.nodes)) order
            (λ k m. listed nodes k (free k (rw all (number_within (length t.nodes) k m))));
        in_order = λ i j d lt within. (steps_in_turn i j d lt within).1;
      }
