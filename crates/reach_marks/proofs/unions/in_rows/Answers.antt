use Rattle.std.proofs.Common.{arith, ◌∙◌, ◌<◌, ℕ, List, length, map, ap, sym}
use Rattle.std.proofs.lemmas.List.{map-id}
use Rattle.reach_marks.specs.Unions.{bits_have, in_some_row}
use Rattle.reach_marks.proofs.Joins.{member_all}
use Rattle.reach_marks.proofs.JoinedRows.{maps_same}
use Rattle.reach_marks.proofs.unions.in_rows.Goals as goal

pub returns : goal.returns
returns c =
    let rows = c.args.rows.now in
    let places = c.args.places.now in
    let blocks = c.in_ok-blocks.blocks.items in
    c.in_ok-marks.ensures ∙ ap (λ (bs : List (List ℕ)). map (bits_have bs) places) c.as_slice.ensures.value
    ∙ ap (λ (ps : List ℕ). map (bits_have blocks) ps) (sym (map-id places))
    ∙ maps_same (bits_have blocks) (λ p. p) (in_some_row rows places) places (λ p m.
    let known : p < length rows = member_all (λ p. p < length rows) places c.requires.known p m in
    c.in_ok-blocks.ensures.places p (omega (arith, known, c.in_ok-blocks.ensures.each)))
