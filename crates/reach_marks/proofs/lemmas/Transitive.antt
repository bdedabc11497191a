-- A node that is before another is before all that this one is before.
use Rattle.std.proofs.Common.{◌≡◌, ℕ, true, List, [], ◌∷◌, ◌++◌}
use Rattle.vocabulary.specs.Prelude.{Node, IsChain}
use Rattle.reach_marks.specs.Reached.{AreMarksOf, Marks, before_in}

pub chains_join : (nodes : List Node) (a : ℕ) (first : List ℕ) (b : ℕ) (second : List ℕ) (c : ℕ) → IsChain nodes a first b
    → IsChain nodes b second c → IsChain nodes a (first ++ b ∷ second) c
chains_join nodes a [] b second c one two = (one, two)
chains_join nodes a (next ∷ first) b second c one two = (one.0, chains_join nodes next first b second c one.1 two)

pub transitive : (nodes : List Node) (m : Marks) → AreMarksOf nodes m → (a b c : ℕ) → before_in m a b ≡ true → before_in m b c ≡ true
    → before_in m a c ≡ true
transitive nodes m h a b c one two =
    let w = h.within a b one in
    let v = h.within b c two in
    let x = (h.exact a b w.0 w.1).0 one in
    let y = (h.exact b c v.0 v.1).0 two in
    (h.exact a c w.0 v.1).1 (x.0 ++ b ∷ y.0, chains_join nodes a x.0 b y.0 c x.1 y.1)
