use Rattle.std.proofs.Common.{◌≡◌, arith, refl}
use Rattle.std.proofs.Math.ListN.{replicate}
use Rattle.std.proofs.lemmas.List.Elements.{All-replicate}
use Rattle.bit_words.proofs.lemmas.Words.{none_set}
use Rattle.bit_words.proofs.bits.no_bits.Goals as goal

pub returns : goal.returns
returns c = λ i lt. none_set (replicate 16 0) (All-replicate (λ w. w ≡ 0) 16 0 refl) i (omega arith)
