-- What a search for pairs goes by.
use Rattle.item_uses.specs.Blocks.{AreBlocks}
use Rattle.item_uses.specs.Representatives.{AreRepresentatives}
use Rattle.interference.specs.declared.search.Search.{Search}
use Rattle.interference.specs.Pairing.{IsFor}

-- If pairs are asked for by places, each item has one; the blocks are those of the items, and for each item
-- there is one that asks for the same.
pub record IsSearch {P : Type 0} (s : Search P) : Type 0 where
  pub asked : IsFor s.asked s.items.now
  pub blocks : AreBlocks s.blocks.now s.items.now
  pub representatives : AreRepresentatives s.representatives.now s.items.now
