use Rattle.std.proofs.Common.{ℕ, IfSome, ◌≡◌, ◌∙◌, sym, ap, subst, length}
use Rattle.item_uses.specs.Blocks.{AreBlocks}
use Rattle.item_uses.specs.Representatives.{AreRepresentatives}
use Rattle.item_uses.proofs.lemmas.Growing.{usages_length}
use Rattle.interference.proofs.search.Search.of.Goals as goal

pub returns-clause-search : goal.returns-clause-search
returns-clause-search g c = record {
  asked = subst (λ (n : ℕ). IfSome c.args.asked (λ places. length places.now ≡ n)) (sym (usages_length c.args.log.now)
      ∙ sym (ap length c.uses-items.ensures)) c.requires;
  blocks = subst (AreBlocks c.blocks-spans.result.now) (sym c.uses-items.ensures) c.blocks-spans.ensures;
  representatives = subst (AreRepresentatives c.representatives-chosen.result.now)
      (sym c.uses-items.ensures) c.representatives-chosen.ensures;
}
