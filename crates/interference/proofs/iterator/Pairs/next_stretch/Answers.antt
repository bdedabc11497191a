use Rattle.std.proofs.Common.{List, subst}
use Rattle.interference.specs.declared.pair.Pair.{Pair}
use Rattle.interference.specs.Pairing.{asked_of, left}
use Rattle.interference.specs.Stretched.{StartsWith}
use Rattle.interference.proofs.Rows.{stretched}
use Rattle.interference.proofs.iterator.Pairs.next_stretch.Goals as goal

pub returns-clause-some : goal.returns-clause-some
returns-clause-some g c =
    let pair = c.in_ok-pair.pair in
    let asked = asked_of c.self.inside.search.asked in
    let items = c.self.inside.search.items.now in
    subst (λ (ps : List Pair). StartsWith ps (left asked items pair.a c.alike_end-to.result)
    (record { a = pair.a; from = pair.b; to = c.alike_end-to.result; kind = pair.kind; place = pair.place })) c.self.view_is
    (stretched asked items c.self.inside.search.representatives.now c.self.inside.a c.self.inside.from pair c.alike_end-to.result c.in_ok-pair.ensures.some c.self.invariant.2.representatives c.alike_end-to.ensures)
