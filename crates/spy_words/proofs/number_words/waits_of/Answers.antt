use Rattle.std.proofs.Common.{ℕ, List, Ok, ap, sym, ◌∙◌}
use Rattle.spy_words.proofs.lemmas.ClassLaws.{one_wait}
use Rattle.spy_words.proofs.number_words.waits_of.Goals as goal

pub returns-in-Ok : goal.returns-in-Ok
returns-in-Ok c =
    ap (λ (ns : List ℕ). Ok ns) c.one.ensures ∙ sym (one_wait c.args.word.now c.in-Ok.event (sym c.number_of.ensures ∙ c.in-Ok.is))
