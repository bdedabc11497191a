use Rattle.std.proofs.Common.{sym, arith}
use Rattle.arena_sets.proofs.Cutting.{piece_more, pieces_done}
use Rattle.arena_sets.proofs.pieces.push_run.Goals as goal

pub loop-end-preserved : goal.loop-end-preserved
loop-end-preserved g c =
    let rect = c.first_piece-rect in
    let lt = c.if-end-last.false in
    record {
      order = omega (arith, lt);
      pieces =
          piece_more c.args.rects.now.items c.loop-end.rects.items c.push.new.self.items c.args.first c.loop-end.from c.point-end.result c.args.last rect.result
          c.loop-end.invariant.pieces rect.ensures.piece rect.ensures.begins (sym c.point-end.ensures)
          (let wide = rect.ensures.piece.wide in let tall = rect.ensures.piece.tall in
          omega (arith, rect.ensures.begins, c.point-end.ensures)) (omega (arith, lt)) c.in_ok-push.ensures.items;
    }

pub returns-then-end-last : goal.returns-then-end-last
returns-then-end-last g c =
    let rect = c.first_piece-rect in
    pieces_done c.args.rects.now.items c.loop-end.rects.items c.push.new.self.items c.args.first c.loop-end.from c.args.last rect.result
    c.loop-end.invariant.pieces rect.ensures.piece rect.ensures.begins
    (omega (arith, rect.ensures.within, c.point-end.ensures, c.if-end-last.true)) c.in_ok-push.ensures.items
