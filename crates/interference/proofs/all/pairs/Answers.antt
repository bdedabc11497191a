use Rattle.std.proofs.Common.{◌∙◌, sym, ap}
use Rattle.interference.specs.Pairing.{left, asked_of}
use Rattle.interference.proofs.AllPairs.{all_are}
use Rattle.interference.proofs.all.pairs.Goals as goal

pub returns : goal.returns
returns g c =
    let items = c.of-search.result.items.now in
    c.of.ensures ∙ ap (λ asked. left (asked_of asked) items 0 1) c.of-search.ensures.asked
    ∙ all_are c.args.log.now items (sym c.of-search.ensures.items)
