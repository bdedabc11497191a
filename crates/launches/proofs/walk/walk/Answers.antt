use Rattle.std.proofs.Common.{◌≡◌, [], ◌∷◌, All, List, length, Option, Some, None, refl, sym, ap, subst, ◌∙◌, arith}
use Rattle.std.specs.List.{AllByRecursion}
use Rattle.std.specs.Vec.Iter.{into_iter_items}
use Rattle.std.proofs.lemmas.List.{length-map}
use Rattle.std.proofs.lemmas.List.Elements.{All-nil, recursion_from_All}
use Rattle.vocabulary.specs.Prelude.{Fault, GoodLaunch, LLined, Record}
use Rattle.semantics.specs.Faults.{at_line}
use Rattle.launches.specs.declared.launched.Launched.{Launched}
use Rattle.launches.specs.Steps.{HasTaskIds, expanded_as, launch_seen}
use Rattle.launches.specs.Walks.{HasWalked}
use Rattle.launches.proofs.Walking.{Walks, launches_grow, walks_end, walks_fault, walks_more, walks_start}
use Rattle.launches.proofs.walk.walk.Goals as goal
use Rattle.launches.proofs.walk.walk.Goals.{in-None, in-Some+in_ok-code+in-Some-2}

nothing_left : {X : Type 0} (xs : List X) → length xs ≡ 0 → xs ≡ []
nothing_left [] e = refl
nothing_left (x ∷ xs) e = absurd (omega (arith, e))

pub loop-l-init : goal.loop-l-init
loop-l-init c =
    let all = c.into_iter-l-iterator.ensures.into_iter_gives.0 in
    record {
      can = tt;
      finite = tt;
      good = subst (AllByRecursion (λ (x : LLined). GoodLaunch x.rec)) (sym all)
          (recursion_from_All (λ (x : LLined). GoodLaunch x.rec) c.args.records.items c.requires.good);
      walks = walks_start c.args.records.items _ c.new-launches.result c.new-writing.result c.new-launched.result.items c.new-written.result.items c.requires.lines all c.new-launches.ensures c.new-writing.ensures c.new-launched.ensures.items c.new-written.ensures.items;
      fit = subst (All HasTaskIds) (sym c.new-launches.ensures) (All-nil HasTaskIds);
      few = let none = ap length c.new-writing.ensures in omega (arith, none);
      left = let gives = c.into_iter-l-iterator.ensures.into_iter_gives.1 in let same = ap length all in omega (arith, gives, same);
      none = refl;
    }

pub note-requires : goal.note-requires
note-requires c =
    launches_grow c.args.records.items _ (expanded_as c.loop-l.launches c.loop-l.writing)
    (expanded_as c.advance.new.launches c.advance.new.writing) c.loop-l.launched.items c.loop-l.written.items c.in-Some.l.rec c.len.result c.loop-l.invariant.walks
    (c.in_ok-code.ensures.step c.in_default.is) (c.len.ensures ∙ sym (length-map c.advance.new.launches launch_seen))

pub loop-l-preserved : goal.loop-l-preserved
loop-l-preserved c =
    let inv = c.loop-l.invariant in
    let l = c.in-Some.l in
    let rest = into_iter_items c.next.new.self in
    let e = expanded_as c.loop-l.launches c.loop-l.writing in
    let f = expanded_as c.advance.new.launches c.advance.new.writing in
    let none = c.in_default.is in
    let cut : into_iter_items c.loop-l.l-iterator ≡ l ∷ rest = c.in-Some.ensures.steps.0 in
    let so_far : Walks c.args.records.items (l ∷ rest) e c.loop-l.launched.items c.loop-l.written.items =
    subst (λ (xs : List LLined). Walks c.args.records.items xs e c.loop-l.launched.items c.loop-l.written.items) cut inv.walks in
    let good : AllByRecursion (λ (x : LLined). GoodLaunch x.rec) (l ∷ rest) =
    subst (AllByRecursion (λ (x : LLined). GoodLaunch x.rec)) cut inv.good in
    record {
      can = tt;
      finite = tt;
      good = good.1;
      walks = walks_more c.args.records.items rest l e f c.loop-l.launched.items c.loop-l.written.items c.note.new.lines.items c.note-in-loop-l.new.lines.items c.len.result c.len-in-loop-l.result so_far
          (sym c.in_ok-code.ensures.code ∙ none) (c.in_ok-code.ensures.step none)
          (c.len.ensures ∙ sym
          (length-map c.advance.new.launches launch_seen)) c.in_ok-note.ensures c.len-in-loop-l.ensures c.in_ok-note-2.ensures;
      fit = c.in_ok-code.ensures.fit;
      few = c.in_ok-code.ensures.few none;
      left =
          let gone = c.in-Some.ensures.steps.1 in
          let short = ap length cut in
          let left = inv.left in
          omega arith;
      none = inv.none;
    }

pub returns-clause-walked : goal.returns-clause-walked
returns-clause-walked c =
    let log = c.args.records.items in
    let ns = c.loop-l.launched.items in
    let ms = c.loop-l.written.items in
    let inv = c.loop-l.invariant in
    let e = expanded_as c.loop-l.launches c.loop-l.writing in
    elim c.match-next.branch [
      | in-None w ↦
          let empty : into_iter_items c.loop-l.l-iterator ≡ [] =
          nothing_left (into_iter_items c.loop-l.l-iterator) (sym inv.left ∙ w.in-None.ensures.steps.0) in
          let told : HasWalked log e ns ms None = walks_end log e ns ms
          (subst (λ (xs : List LLined). Walks log xs e ns ms) empty inv.walks) in
          subst (λ (ls : List Launched). HasWalked log (expanded_as ls c.match-next.writing) ns ms c.match-next.fault) (sym w.launches-is)
          (subst (λ (ws : List Record). HasWalked log (expanded_as c.loop-l.launches ws) ns ms c.match-next.fault) (sym w.writing-is)
          (subst (λ (o : Option Fault). HasWalked log e ns ms o) (sym (w.fault-is ∙ inv.none)) told))
      | in-Some+in_ok-code+in-Some-2 w ↦
          let l = w.in-Some.l in
          let rest = into_iter_items c.next.new.self in
          let f = expanded_as w.advance.new.launches w.advance.new.writing in
          let cut : into_iter_items c.loop-l.l-iterator ≡ l ∷ rest = w.in-Some.ensures.steps.0 in
          let told : HasWalked log f ns ms (Some (at_line w.in-Some-2.code l.line)) =
          walks_fault log rest l e f ns ms w.in-Some-2.code (subst (λ (xs : List LLined). Walks log xs e ns ms) cut inv.walks)
          (sym w.in_ok-code.ensures.code ∙ w.in-Some-2.is) w.in_ok-code.ensures.kept in
          subst (λ (ls : List Launched). HasWalked log (expanded_as ls c.match-next.writing) ns ms c.match-next.fault) (sym w.launches-is)
          (subst (λ (ws : List Record). HasWalked log (expanded_as w.advance.new.launches ws) ns ms c.match-next.fault) (sym w.writing-is)
          (subst (λ (o : Option Fault). HasWalked log f ns ms o) (sym w.fault-is) told))
    ]

pub returns-clause-fit : goal.returns-clause-fit
returns-clause-fit c = elim c.match-next.branch [
  | in-None w ↦ subst (All HasTaskIds) (sym w.launches-is) c.loop-l.invariant.fit
  | in-Some+in_ok-code+in-Some-2 w ↦ subst (All HasTaskIds) (sym w.launches-is) w.in_ok-code.ensures.fit
]
