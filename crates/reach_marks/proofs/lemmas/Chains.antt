-- Chains of waits.
use Rattle.std.proofs.Common.{◌≡◌, ◌∷◌, ◌++◌, [], ℕ, List, inl, inr, sym, subst, Contains, slice_get, Some}
use Rattle.std.proofs.lemmas.Option.{slice_get_within, get_or_from_slice_get}
use Rattle.list_lemmas.proofs.lemmas.Firsts.{cases_option}
use Rattle.vocabulary.specs.Prelude.{Node, WaitsOn, Before}
use Rattle.event_graph.specs.Orders.{IsWait}
use Rattle.event_graph.proofs.lemmas.Placed.{node_at}
use Rattle.reach_marks.proofs.lemmas.Transitive.{chains_join}

-- What a node lists is what it waits on.
pub waited : (nodes : List Node) (node k on : ℕ) → IsWait nodes node k on → WaitsOn nodes node on
waited nodes node k on w =
    let m = node_at nodes on w.event w.done in
    elim (cases_option (slice_get nodes node)) [
      | inl none ↦ let bad = rw none at w.listed in absurd cc
      | inr some ↦
          let listed : slice_get some.0.waits k ≡ Some w.event = rw some.1 at w.listed in
          record {
            on = m.0;
            by = some.0;
            on_is = m.1;
            by_is = some.1;
            listed = subst (Contains some.0.waits) (sym m.2)
                (k, slice_get_within some.0.waits k w.event listed, get_or_from_slice_get some.0.waits k w.event w.event listed);
          }
    ]

-- One wait is a chain, two are, and a chain goes on by a wait.
pub one_wait : (nodes : List Node) (a b : ℕ) → WaitsOn nodes b a → Before nodes a b
one_wait nodes a b w = ([], w)

pub two_waits : (nodes : List Node) (a between b : ℕ) → WaitsOn nodes between a → WaitsOn nodes b between → Before nodes a b
two_waits nodes a between b first second = (between ∷ [], (first, second))

pub one_more : (nodes : List Node) (a between b : ℕ) → Before nodes a between → WaitsOn nodes b between → Before nodes a b
one_more nodes a between b before w = (before.0 ++ between ∷ [], chains_join nodes a before.0 between [] b before.1 w)
