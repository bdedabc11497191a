-- Questions, as the list of members grows.
use Rattle.std.proofs.Common.{◌≡◌, ℕ, suc, ◌+◌, ◌-◌, ◌≤◌, ◌⊎◌, inl, inr, true, false, List, [], ◌∷◌, ◌++◌, Some, length, take, drop, map, arith, refl, ap, sym, subst, ◌∙◌, All}
use Rattle.std.proofs.lemmas.List.{take_all, take-append-drop, take-append-le, drop-append-le, length-drop, length-take-le, map-append}
use Rattle.std.proofs.lemmas.List.Elements.{All-pop, All-weaker}
use Rattle.vocabulary.specs.Prelude.{Node}
use Rattle.cell_races.specs.declared.access.Access.{Access}
use Rattle.cell_races.specs.declared.access.NodeAccess.{NodeAccess}
use Rattle.cell_races.specs.declared.questions.Question.{Question}
use Rattle.cell_races.specs.Accesses.{conflicts}
use Rattle.cell_races.specs.Groups.{asked}
use Rattle.cell_races.specs.Questions.{AreAnswered, IsAnswered, IsPart, asked_by, part}

pub part_kept : (members more : List ℕ) (from end : ℕ) → from ≤ end → end ≤ length members
    → part (members ++ more) from end ≡ part members from end
part_kept members more from end ordered within =
    ap (take (end - from)) (drop-append-le from members more (omega (arith, ordered, within)))
    ∙ take-append-le (end - from) (drop from members) more (omega (arith, within, length-drop from members))

-- What was asked stays what it was.
pub asked_kept : (members more : List ℕ) (asked : List Question) → All (IsPart (length members)) asked
    → map (asked_by (members ++ more)) asked ≡ map (asked_by members) asked
asked_kept members more [] are = refl
asked_kept members more (q ∷ qs) are =
    let first = are 0 q (omega arith) in
    rw (part_kept members more q.from q.end first.0 first.1, asked_kept members more qs (λ k d lt. are (suc k) d (omega (arith, lt)))) refl

pub parts_wider : (m n : ℕ) (asked : List Question) → m ≤ n → All (IsPart m) asked → All (IsPart n) asked
parts_wider m n asked le are = All-weaker (IsPart m) (IsPart n) (λ q h. let within = h.1 in (h.0, omega (arith, within, le))) asked are

-- The same where members are let go of which nothing is asked.
pub asked_left : (members : List ℕ) (kept : ℕ) (asked : List Question) → kept ≤ length members → All (IsPart kept) asked
    → map (asked_by (take kept members)) asked ≡ map (asked_by members) asked
asked_left members kept asked le are =
    let long : length (take kept members) ≡ kept = length-take-le kept members le in
    sym (asked_kept (take kept members) (drop kept members) asked (subst (λ n. All (IsPart n) asked) (sym long) are))
    ∙ ap (λ ms. map (asked_by ms) asked) (take-append-drop kept members)

-- The part of the members that a node has to come after.
pub asked_part : (members : List ℕ) (earlier group : ℕ) (access : Access) (v : NodeAccess) (from end : ℕ)
    → ((conflicts access v.access ≡ true) × (from ≡ group) × (end ≡ length members))
    ⊎ ((conflicts access v.access ≡ false) × (from ≡ earlier) × (end ≡ group))
    → part members from end ≡ asked (record { earlier = part members earlier group; group = drop group members; access = access }) v
asked_part members earlier group access v from end (inl next) = rw (next.0, next.1, next.2)
    (take_all (length members - group) (drop group members) (omega (arith, length-drop group members)))
asked_part members earlier group access v from end (inr same) = rw (same.0, same.1, same.2) refl

-- What is asked last is answered, and what was asked before.
pub both_answered : (nodes : List Node) (members : List ℕ) (asked : List Question) (q : Question)
    → AreAnswered nodes (map (asked_by members) (asked ++ q ∷ []))
    → AreAnswered nodes (map (asked_by members) asked) × IsAnswered nodes (asked_by members q)
both_answered nodes members asked q = All-pop (IsAnswered nodes) (map (asked_by members) (asked ++ q ∷ [])) (map (asked_by members) asked)
    (Some (asked_by members q)) (map-append (asked_by members) asked (q ∷ []))
