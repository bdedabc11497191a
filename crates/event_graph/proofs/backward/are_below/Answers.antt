use Rattle.std.proofs.Common.{◌<◌, ℕ, All, [], ◌∷◌, take, get_or, sym, subst, arith}
use Rattle.std.proofs.lemmas.List.{take_all, take_more}
use Rattle.std.proofs.lemmas.List.Elements.{All-append, All-cons}
use Rattle.event_graph.proofs.backward.are_below.Goals as goal

pub loop-p-preserved : goal.loop-p-preserved
loop-p-preserved c =
    let numbers = c.args.numbers.now in
    let i = c.loop-p.p-index in
    let Below = λ (p : ℕ). p < c.args.k in
    subst (All Below) (sym (take_more numbers i 0 c.loop-p-test.true))
    (All-append Below (take i numbers) (get_or numbers i 0 ∷ []) c.loop-p.invariant
    (All-cons Below (get_or numbers i 0) [] (omega arith) (λ k d lt. absurd (omega (arith, lt)))))

pub returns : goal.returns
returns c = λ _. subst (All (λ (p : ℕ). p < c.args.k))
    (take_all c.loop-p.p-index c.args.numbers.now (omega arith)) c.loop-p.invariant
