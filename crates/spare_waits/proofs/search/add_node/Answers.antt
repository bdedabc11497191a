use Rattle.std.proofs.Common.{◌≡◌, ◌∙◌, ◌<◌, ◌||◌, ℕ, List, Bool, false, length, map, take, get_or, ap, sym, subst, All}
use Rattle.std.specs.List.{list_any}
use Rattle.vocabulary.specs.Prelude.{is_in}
use Rattle.reach_marks.specs.Reached.{before_in}
use Rattle.reach_marks.proofs.lemmas.Transitive.{transitive}
use Rattle.spare_laws.proofs.lemmas.Growing.{node_more}
use Rattle.spare_waits.proofs.Judged.{told, group_within}
use Rattle.spare_waits.proofs.search.add_node.Goals as goal

pub before_some-requires-clause-group : goal.before_some-requires-clause-group
before_some-requires-clause-group c =
    subst (All (λ a. a < length c.args.reach.now.places)) (sym c.as_slice.ensures.value)
    (group_within c.args.graph.now c.len-linked.ensures.linked c.args.reach.now c.requires.reach c.args.node c.in_ok-waits.waits.items c.in_ok-waits.ensures.each c.in_ok-waits.ensures.listed c.in_ok-waits.ensures.waits)

pub before_some-requires-clause-passed : goal.before_some-requires-clause-passed
before_some-requires-clause-passed c = transitive c.args.graph.now c.args.reach.now c.requires.reach

pub returns : goal.returns
returns c =
    let nodes = c.args.graph.now in
    let reach = c.args.reach.now in
    let waits = c.in_ok-waits.waits.items in
    let before = c.in_ok-before.before.items in
    let marks = c.in_ok-marks.marks.items in
    let many : length marks ≡ length waits = c.in_ok-marks.ensures.each ∙ ap (λ (ws : List ℕ). length ws) c.as_slice-2.ensures.value in
    let is : before ≡ map (λ a. list_any (before_in reach a) waits) waits =
    c.in_ok-before.ensures ∙ ap (λ (ws : List ℕ). map (λ a. list_any (before_in reach a) ws) ws) c.as_slice.ensures.value in
    let tells : (k : ℕ) → k < length waits → get_or marks k false ≡ (is_in (take k waits) (get_or waits k 0) || get_or before k false) =
    subst (λ (bs : List Bool). (k : ℕ) → k < length waits
    → get_or marks k false ≡ (is_in (take k waits) (get_or waits k 0) || get_or bs k false)) c.as_slice-3.ensures.value
    (subst (λ (ws : List ℕ). (k : ℕ) → k < length ws
    → get_or marks k false ≡ (is_in (take k ws) (get_or ws k 0)
    || get_or c.as_slice-3.result.now k false)) c.as_slice-2.ensures.value c.in_ok-marks.ensures.marks) in
    let more = node_more nodes c.args.node c.args.list.now.items marks c.requires.node (many ∙ c.in_ok-waits.ensures.each) c.requires.list
    (told nodes c.len-linked.ensures.linked reach c.requires.reach c.args.node waits c.in_ok-waits.ensures.each c.in_ok-waits.ensures.listed c.in_ok-waits.ensures.waits marks before many is tells) in
    rw (c.in_ok-add_marked.ensures, c.as_slice-4.ensures.value) more
