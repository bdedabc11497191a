-- How far questions are answered.
use Rattle.std.proofs.Common.{◌≡◌, ℕ, ◌+◌, ◌-◌, ◌<◌, ◌≤◌, inl, inr, List, length, drop, set, get_or, arith, ◌∙◌, sym, subst, All}
use Rattle.std.proofs.Math.ListN.{length-set}
use Rattle.std.proofs.lemmas.Bool.{cases_eq, cases_lt}
use Rattle.std.proofs.lemmas.Grind.{get_or-set_at}
use Rattle.std.proofs.lemmas.List.{get_or-take, get_or-drop, get_or_default, get_or-set_other, length-take, length-drop}
use Rattle.std.proofs.lemmas.List.Elements.{All-map}
use Rattle.vocabulary.specs.Prelude.{Node, Before}
use Rattle.cell_races.specs.declared.questions.Question.{Question}
use Rattle.cell_races.specs.declared.questions.Questions.{Questions}
use Rattle.cell_races.specs.Questions.{AreAnswered, AreKnown, IsAnswered, IsKnownUpTo, asked_by, asked_in, part}

-- A question is answered where its node comes after all members up to the end of its group.
answered : (nodes : List Node) (members : List ℕ) (q : Question) (next : ℕ) → IsKnownUpTo nodes members q next → q.end ≤ next
    → All (λ m. Before nodes m q.node) (part members q.from q.end)
answered nodes members q next known done j d lt =
    let within = length-take (q.end - q.from) (drop q.from members) in
    let long = length-drop q.from members in
    let less : j < q.end - q.from = omega (arith, lt, within) in
    let here : q.from + j < length members = omega (arith, lt, within, long) in
    let is : get_or (part members q.from q.end) j d ≡ get_or members (q.from + j) 0 =
    get_or-take (q.end - q.from) (drop q.from members) j d less ∙ get_or-drop q.from members j d ∙ get_or_default members (q.from + j) d 0 here in
    subst (λ m. Before nodes m q.node) (sym is) (known (q.from + j) (omega arith) (omega (arith, less, done)))

pub all_answered : (nodes : List Node) (questions : Questions) (nexts : List ℕ) → AreKnown nodes questions nexts
    → ((j : ℕ) (d : Question) → j < length questions.asked.items → (get_or questions.asked.items j d).end ≤ get_or nexts j 0)
    → AreAnswered nodes (asked_in questions)
all_answered nodes questions nexts known done = All-map (IsAnswered nodes) (asked_by questions.members.items) questions.asked.items
    (λ k q lt. answered nodes questions.members.items (get_or questions.asked.items k q) (get_or nexts k 0) (known.known k q lt) (done k q lt))

-- A question is answered up to a later member.
pub known_more : (nodes : List Node) (questions : Questions) (nexts : List ℕ) (k stop : ℕ) → k < length questions.asked.items
    → AreKnown nodes questions nexts
    → ((q : Question) (i : ℕ) → get_or nexts k 0 ≤ i → i < stop
    → Before nodes (get_or questions.members.items i 0) (get_or questions.asked.items k q).node)
    → AreKnown nodes questions (set nexts k stop)
known_more nodes questions nexts k stop within known more = record {
  each = length-set nexts k stop ∙ known.each;
  known = λ j q lt i from less. elim (cases_eq j k) [
    | inl same ↦
        let is : get_or (set nexts k stop) j 0 ≡ stop = get_or-set_at nexts k j stop 0 same (omega (arith, within, known.each)) in
        elim (cases_lt i (get_or nexts k 0)) [
          | inl early ↦ known.known j q lt i from (subst (λ n. i < get_or nexts n 0) (sym same) early)
          | inr late ↦ subst (λ n. Before nodes (get_or questions.members.items i 0) (get_or questions.asked.items n q).node) (sym same)
              (more q i late (subst (λ n. i < n) is less))
        ]
    | inr other ↦ known.known j q lt i from (subst (λ n. i < n) (get_or-set_other nexts k j stop 0 other) less)
  ];
}
