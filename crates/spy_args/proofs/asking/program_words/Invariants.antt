use Rattle.std.proofs.Common.{◌≡◌, ◌∷◌, map, string_bytes, take, codes}
use Rattle.spy_args.proofs.asking.program_words.Given as goal

abbrev pub invariant-loop-word : goal.invariant-loop-word
invariant-loop-word l = map (λ w. w.now) l.all.items ≡ codes "spy" ∷ map string_bytes (take l.word-index l.words.items)
