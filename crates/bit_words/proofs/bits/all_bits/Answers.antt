use Rattle.std.proofs.Common.{◌≡◌, ◌^◌, ◌-◌, arith, refl}
use Rattle.std.proofs.Math.ListN.{replicate}
use Rattle.std.proofs.lemmas.List.Elements.{All-replicate}
use Rattle.bit_words.proofs.lemmas.Words.{all_set}
use Rattle.bit_words.proofs.bits.all_bits.Goals as goal

pub returns : goal.returns
returns c = λ i lt. all_set (replicate 16 (2 ^ 64 - 1)) (All-replicate (λ w. w ≡ 2 ^ 64 - 1) 16 (2 ^ 64 - 1) refl) i (omega arith)
