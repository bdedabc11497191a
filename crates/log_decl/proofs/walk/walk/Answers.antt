use Rattle.std.proofs.Common.{◌≡◌, ◌+◌, true, List, take, None, sym, ap, ◌∙◌, arith, [], length, refl, subst}
use Rattle.grid.specs.Cuts.{grid_of}
use Rattle.vocabulary.specs.Prelude.{Record, Tables, records_of}
use Rattle.semantics.specs.Rules.{is_planar}
use Rattle.log_decl.specs.Sizes.{plane_rects}
use Rattle.log_decl.specs.Walk.{broken_of}
use Rattle.log_decl.proofs.Walking.{stands_where, none_where, told_of, may_count, flat_here, listed_in, plane_at, rects_more, tables_more, records_more, keeps_more, tally_more, tally_named}
use Rattle.log_decl.proofs.walk.walk.Goals as goal
use Rattle.log_rules.specs.Tallied.{IsTally, Keeps}

pub loop-l-init : goal.loop-l-init
loop-l-init g c = record {
  at = refl;
  tables = c.requires.none;
  tally = subst (λ (t : Tables). IsTally (plane_rects c.args.records.now) [] t c.new-tally.result) (sym c.requires.none)
      (c.new-tally.ensures (plane_rects c.args.records.now) c.in_ok-grid.ensures);
  few = omega (arith, ap (λ (t : Tables). length t.reqs) c.requires.none);
  size = λ _. c.new-size.ensures ∙ sym (ap (λ (t : Tables). grid_of t.rects) c.requires.none);
  keep = tt;
}

pub returns-then-is_some : goal.returns-then-is_some
returns-then-is_some g c =
    let inv = c.loop-l.invariant in
    let log = c.args.records.now in
    let all = plane_rects log in
    let i = c.loop-l.l-index in
    let es = records_of (take i log) in
    let t = c.loop-l.tables in
    let r = c.l-item.result.rec in
    let measured = λ (planar : is_planar t ≡ true). let plane = c.is_plane_log-is_plane.ensures ∙ plane_at log i t c.requires.header inv.tables planar in
    (c.in_ok-cells.ensures t.rects plane (inv.size plane)).1 in
    let kept = subst (λ (u : Tables). Keeps u c.loop-l.tally c.remember.new.self) c.of-named.ensures.tables c.in_ok-remember.ensures all es inv.tally in
    let told = told_of c.args.whole.now es _ c.in_ok-cells.cells c.in_ok-code.code t _ r _ c.of-named.ensures.tables c.of-named.ensures.rec
    (λ has measured. c.in_ok-code.ensures es has (ap (λ n. records_of (take n log)) (sym inv.at)) measured)
    (record { all = all; is = kept }) measured in
    stands_where log c.loop-l.kept i t c.in_ok-code.code c.l-item.result inv.at inv.tables inv.keep (λ flat. (inv.tally.counts flat).within) c.loop-l-test.true c.l-item.is
    (sym c.is_some.ensures ∙ c.if-is_some.true)
    (told ∙ ap (λ (w : List Record). broken_of w es t r) c.requires.whole)

pub loop-l-preserved : goal.loop-l-preserved
loop-l-preserved g c =
    let inv = c.loop-l.invariant in
    let log = c.args.records.now in
    let all = plane_rects log in
    let i = c.loop-l.l-index in
    let es = records_of (take i log) in
    let t = c.loop-l.tables in
    let l = c.l-item.result in
    let r = c.l-item.result.rec in
    let measured = λ (planar : is_planar t ≡ true). let plane = c.is_plane_log-is_plane.ensures ∙ plane_at log i t c.requires.header inv.tables planar in
    (c.in_ok-cells.ensures t.rects plane (inv.size plane)).1 in
    let kept = subst (λ (u : Tables). Keeps u c.loop-l.tally c.remember.new.self) c.of-named.ensures.tables c.in_ok-remember.ensures all es inv.tally in
    let told = told_of c.args.whole.now es _ c.in_ok-cells.cells c.in_ok-code.code t _ r _ c.of-named.ensures.tables c.of-named.ensures.rec
    (λ has measured. c.in_ok-code.ensures es has (ap (λ n. records_of (take n log)) (sym inv.at)) measured)
    (record { all = all; is = kept }) measured in
    let none : broken_of (records_of log) es t r ≡ None =
    ap (λ (w : List Record). broken_of w es t r) (sym c.requires.whole) ∙ sym told
    ∙ none_where c.in_ok-code.code (sym c.is_some.ensures ∙ c.if-is_some.false) in
    let next = c.in_ok-add-2.ensures.ok in
    let tally = tally_named all es l.line _ _ t _ r _ c.of-named.ensures.tables c.of-named.ensures.rec (c.in_ok-add.ensures all es l.line) kept
    (may_count all (records_of log) es t r
    (flat_here log i t l c.requires.header inv.tables c.loop-l-test.true c.l-item.is)
    (omega (arith, inv.few, c.loop-l-test.true, c.requires.few)) (listed_in log i l c.loop-l-test.true c.l-item.is) none) in
    record {
      at = ap (λ n. n + 1) inv.at;
      tables = next ∙ tables_more log i t l inv.tables c.loop-l-test.true c.l-item.is;
      tally = tally_more _ _ _ _ _ _ tally (records_more log i l c.loop-l-test.true c.l-item.is) next;
      few = omega (arith, c.in_ok-add-2.ensures.few, inv.few);
      size = λ plane. (c.in_ok-cells.ensures t.rects plane (inv.size plane)).0 ∙ ap grid_of (sym (rects_more t l.line r))
          ∙ ap (λ (u : Tables). grid_of u.rects) (sym next);
      keep = keeps_more log i t l inv.tables inv.keep c.loop-l-test.true c.l-item.is none;
    }
