use Rattle.std.proofs.Common.{◌≡◌, ◌∙◌, ◌<◌, ◌≤◌, ◌+◌, ◌*◌, ◌||◌, ◌-◌, ◌/◌, ◌%◌, ℕ, List, [], drop, length, get_or, true, refl, ap, sym, subst, arith}
use Rattle.reach_marks.specs.Blocks.{row_has}
use Rattle.reach_marks.specs.Unions.{bits_have, in_some_row}
use Rattle.reach_marks.proofs.JoinedRows.{bits_at, place_passed, place_joined}
use Rattle.reach_marks.proofs.unions.union_of.Goals as goal

pub join_row-requires-clause-whole : goal.join_row-requires-clause-whole
join_row-requires-clause-whole c = λ k i lt within less. sym (bits_at c.loop-i.blocks.items k i less)
    ∙ c.loop-i.invariant.whole (1024 * k + i) (omega (arith, lt, less)) (omega (arith, within, less))

pub loop-i-preserved-in-loop-i : goal.loop-i-preserved-in-loop-i
loop-i-preserved-in-loop-i c =
    let rows = c.args.rows.now in
    let places = c.args.places.now in
    let i = c.loop-i.i - 1 in
    let p = get_or places i 0 in
    let next : c.loop-i.i ≡ i + 1 = omega (arith, c.loop-i-test.true) in
    let within : i < length places = omega (arith, c.loop-i-test.true, c.loop-i.auto.i) in
    let joined = λ (q : ℕ) (lt : q / 1024 < length c.loop-i.blocks.items). c.join_row.ensures.joined (q / 1024) (q % 1024) lt (omega arith) in
    let here = λ (q : ℕ) (lt : q / 1024 < length c.join_row.new.blocks.items).
    subst (λ n. q / 1024 < n) c.join_row.ensures.each lt in
    record {
      each = c.join_row.ensures.each ∙ c.loop-i.invariant.each;
      whole = λ q lt less. joined q (here q less) ∙ ap (λ b. b || row_has (get_or rows p []) q) (c.loop-i.invariant.whole q lt (here q less));
      places = λ q ge lt.
          let was = c.loop-i.invariant.places q ge (here q lt) ∙ ap (λ n. in_some_row rows (drop n places) q) next in
          place_joined rows places i p q (get_or rows p []) (bits_have c.loop-i.blocks.items q)
          (bits_have c.join_row.new.blocks.items q) within refl refl was (joined q (here q lt));
    }

pub loop-i-preserved : goal.loop-i-preserved
loop-i-preserved c =
    let rows = c.args.rows.now in
    let places = c.args.places.now in
    let i = c.loop-i.i - 1 in
    let p = get_or places i 0 in
    let next : c.loop-i.i ≡ i + 1 = omega (arith, c.loop-i-test.true) in
    let within : i < length places = omega (arith, c.loop-i-test.true, c.loop-i.auto.i) in
    let known : p < length rows = c.requires.known i 0 within in
    let room : p / 1024 < length c.loop-i.blocks.items = omega (arith, known, c.loop-i.invariant.each) in
    let was = λ (q : ℕ) (ge : c.args.front ≤ q / 1024) (lt : q / 1024 < length c.loop-i.blocks.items). c.loop-i.invariant.places q ge lt
    ∙ ap (λ n. in_some_row rows (drop n places) q) next in
    let there : bits_have c.loop-i.blocks.items p ≡ true =
    ap (λ (bs : List (List ℕ)). bits_have bs p) (sym c.as_slice.ensures.value) ∙ (sym c.is_set_at.ensures ∙ c.if-not-is_set_at.false) in
    record {
      each = c.loop-i.invariant.each;
      whole = c.loop-i.invariant.whole;
      places = λ q ge lt. was q ge lt
          ∙ place_passed rows c.requires.passed places i p q within refl (sym (was p c.if-p-front.false room) ∙ there);
    }
