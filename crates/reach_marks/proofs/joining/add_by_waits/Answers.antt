use Rattle.std.proofs.Common.{arith, ◌≡◌, ◌/◌, ◌<◌, ◌||◌, ◌∙◌, ap, sym, List, ℕ, length}
use Rattle.vocabulary.specs.Prelude.{is_in}
use Rattle.reach_marks.specs.Unions.{bits_have}
use Rattle.reach_marks.proofs.JoinedRows.{still_reached, reached_is}
use Rattle.reach_marks.proofs.joining.add_by_waits.Goals as goal

pub add_union-requires-clause-whole : goal.add_union-requires-clause-whole
add_union-requires-clause-whole c = λ q lt. still_reached c.args.rows c.args.waits.now q (c.requires.whole q lt)

pub add_union-requires-clause-bits : goal.add_union-requires-clause-bits
add_union-requires-clause-bits c = λ q lt.
    let waits = c.args.waits.now in
    let value = c.as_slice.ensures.value in
    let count : length c.as_slice.result.now ≡ length c.in_ok-blocks.blocks.items =
    ap (λ (bs : List (List ℕ)). length bs) value ∙ c.mark_all.ensures.each in
    let here : q / 1024 < length c.in_ok-blocks.blocks.items = omega (arith, lt, count) in
    ap (λ (bs : List (List ℕ)). bits_have bs q) value ∙ c.mark_all.ensures.places q here
    ∙ ap (λ b. b || is_in waits q) (c.in_ok-blocks.ensures.places q here) ∙ sym (reached_is c.args.rows waits q)
