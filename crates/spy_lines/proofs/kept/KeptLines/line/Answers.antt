use Rattle.std.proofs.Common.{◌≡◌, ◌+◌, ◌-◌, List, ℕ, Some, take, drop, ap, ◌∙◌, arith, rules}
use Rattle.std.specs.Prelude.{slice_get}
use Rattle.spy_lines.proofs.FirstLine.{line_is}
use Rattle.spy_lines.proofs.kept.KeptLines.line.Goals as goal

pub returns : goal.returns
returns c =
    let inside = c.self.inside in
    let end = c.in_ok-end.end in
    let count : inside.at + end - inside.at ≡ end = omega arith in
    let cut : end + 1 ≡ inside.len = search rules in
    ap Some (ap (λ n. take n (drop inside.at c.deref.result.now)) count ∙ ap (λ (bs : List ℕ). take end (drop inside.at bs)) c.deref.ensures.value)
    ∙ line_is end inside.len (drop inside.at inside.bytes.items) cut c.self.invariant.2 ∙ ap (λ k. slice_get k.rest 0) c.self.view_is
