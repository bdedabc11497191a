use Rattle.bit_words.specs.Bits.{has_bit}
use Rattle.reach_marks.proofs.Tagged.{adds_tag}
use Rattle.reach_marks.proofs.pushing.push_bits_tag.Goals as goal

pub returns : goal.returns
returns c = adds_tag c.args.pool.now.items c.tag_of_bits.new.pool.items c.args.column.now c.in_ok-tag.tag c.push.new.self
    (has_bit c.args.bits.now) c.in_ok-tag.ensures.grows c.requires.tags c.in_ok-tag.ensures.exact c.in_ok-tag.ensures.within
    c.in_ok-tag.ensures.places c.in_ok-push.ensures
