use Rattle.std.proofs.Common.{◌≡◌, length}
use Rattle.spy_words.specs.Faults.{each_after}
use Rattle.spy_words.specs.Reading.{each}
use Rattle.spy_words.proofs.parts.each_of.Given as goal

abbrev pub invariant-loop-word : goal.invariant-loop-word
invariant-loop-word g l = each_after (g.G.GatherParts.parts l.items, l.met) (g.G.Part.ListPart.reading l.least) l.words
    ≡ each (g.G.Part.ListPart.reading l.least) l.fn.words

abbrev pub decreases-loop-word : goal.decreases-loop-word
decreases-loop-word g l = length l.words
