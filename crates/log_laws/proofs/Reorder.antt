-- Without a race all interleavings agree in what cells hold and in what steps read of it.
use mathlib.Core.Path.{fun_ext}
use Rattle.std.proofs.Common.{◌≡◌, List, Option, [], ◌∷◌, inl, inr, refl, ap, ◌∙◌, sym}
use Rattle.vocabulary.specs.Prelude.{Value, Cell, Tables, Step, State, effect, executed, sees, ReadsIn, IsInterleaving, NodesConflictByReads, IsRaceFree}
use Rattle.log_laws.proofs.lemmas.Swap.{swapped_state, swapped_sight}
use Rattle.log_laws.proofs.lemmas.Turns as turns

pub record Agrees (xs ys : List Step) : Type 0 where
  pub state : (s : State) (cell : Cell) → executed xs s cell ≡ executed ys s cell
  pub reads : (s : State) (e : Step) (v : Value) → ReadsIn ys s e v → ReadsIn xs s e v

abbrev after : Step → State → State
after x s = effect x.move s

abbrev seen : Step → State → Option Value
seen x s = sees x.move s

reached_is : (xs : List Step) (s : State) → turns.reached after xs s ≡ executed xs s
reached_is [] s = refl
reached_is (x ∷ xs) s = reached_is xs (effect x.move s)

to_seen : (xs : List Step) (s : State) (e : Step) (v : Value) → ReadsIn xs s e v → turns.SeesIn after seen xs s e v
to_seen [] s e v r = r
to_seen (x ∷ xs) s e v (inl r) = inl r
to_seen (x ∷ xs) s e v (inr r) = inr (to_seen xs (effect x.move s) e v r)

of_seen : (xs : List Step) (s : State) (e : Step) (v : Value) → turns.SeesIn after seen xs s e v → ReadsIn xs s e v
of_seen [] s e v r = r
of_seen (x ∷ xs) s e v (inl r) = inl r
of_seen (x ∷ xs) s e v (inr r) = inr (of_seen xs (effect x.move s) e v r)

pub all_agree : (t : Tables) → NodesConflictByReads t → IsRaceFree t → (xs ys : List Step) → IsInterleaving t xs → IsInterleaving t ys → Agrees xs ys
all_agree t by_reads free xs ys a b =
    let both = turns.all_agree State Value after seen (λ x y independent s. fun_ext (swapped_state x.move y.move independent s))
    (λ x y independent s. swapped_sight x.move y.move independent s) t by_reads free xs ys a b in
    record {
      state = λ s cell. ap (λ (state : State). state cell) (sym (reached_is xs s) ∙ both.state s ∙ reached_is ys s);
      reads = λ s e v r. of_seen xs s e v (both.sights s e v (to_seen ys s e v r));
    }
