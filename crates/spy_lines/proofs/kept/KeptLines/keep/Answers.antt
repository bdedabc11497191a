use Rattle.std.proofs.Common.{◌≡◌, ◌+◌, ◌++◌, List, ℕ, length, take, drop, ap, ◌∙◌, arith, rules}
use Rattle.std.proofs.lemmas.List.{with_items_is, places}
use Rattle.spy_lines.specs.LinesOf.{lines_of, with_ends}
use Rattle.spy_lines.proofs.FirstLine.{next_len, lines_behind, first_is}
use Rattle.spy_lines.proofs.kept.KeptLines.keep.Goals as goal

pub invariant_of-self : goal.invariant_of-self
invariant_of-self c =
    let inside = c.self.inside in
    let moved = with_items_is inside.bytes c.move_down.new.bytes (search (rules, places)) in
    let size : length c.move_down.new.bytes ≡ length inside.bytes.items = search (rules, places) in
    let next = next_len (inside.at + inside.len) c.line_len-self-inside.result c.deref.result.now _ c.deref.ensures.value (omega (arith, ap length moved, size, c.self.invariant.1)) c.line_len-self-inside.ensures in
    (omega (arith, c.self.invariant.0), next.0, next.1)

pub returns-clause-kept : goal.returns-clause-kept
returns-clause-kept c =
    let inside = c.self.inside in
    let moved = with_items_is inside.bytes c.move_down.new.bytes (search (rules, places)) in
    ap (take (inside.to + inside.len)) moved ∙ c.move_down.ensures.moved
    ∙ ap (λ (bs : List ℕ). take inside.to bs ++ take inside.len (drop inside.at bs)) c.deref_mut.ensures.value
    ∙ ap (λ bs. take inside.to inside.bytes.items ++ bs) (first_is inside.len (drop inside.at inside.bytes.items) c.self.invariant.2)
    ∙ ap (λ k. k.kept ++ with_ends (take 1 k.rest)) c.self.view_is

pub returns-clause-rest : goal.returns-clause-rest
returns-clause-rest c =
    let inside = c.self.inside in
    let moved = with_items_is inside.bytes c.move_down.new.bytes (search (rules, places)) in
    ap (λ (bs : List ℕ). lines_of (drop (inside.at + inside.len) bs)) moved ∙ ap lines_of c.move_down.ensures.behind
    ∙ ap (λ (bs : List ℕ). lines_of (drop (inside.at + inside.len) bs)) c.deref_mut.ensures.value
    ∙ lines_behind inside.at inside.len inside.bytes.items c.self.invariant.2 ∙ ap (λ k. drop 1 k.rest) c.self.view_is
