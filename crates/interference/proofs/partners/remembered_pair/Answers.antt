use Rattle.std.proofs.Common.{◌<◌, length, sym, ◌∙◌, arith}
use Rattle.interference.specs.Pairing.{asked_of}
use Rattle.interference.proofs.Answering.{how_same, some_starts}
use Rattle.interference.proofs.partners.remembered_pair.Goals as goal

pub returns : goal.returns
returns g c =
    let la : c.args.a < length c.args.search.now.items.now = omega (arith, c.requires.order, c.if-b-search.false) in
    let lb : c.args.b < length c.args.search.now.items.now = omega (arith, c.if-b-search.false) in
    some_starts (asked_of c.args.search.now.asked) c.args.search.now.items.now c.args.a c.args.b c.in_ok-found.found c.pair_with.result c.requires.order lb (sym c.is_asked.ensures ∙ c.if-not-is_asked.false)
    (how_same c.args.search.now.items.now c.args.search.now.representatives.now c.args.a c.args.b c.in_ok-found.found c.requires.search.representatives la lb (c.in_ok-found.ensures c.args.search.now.items.now c.requires.memory)) c.pair_with.ensures
