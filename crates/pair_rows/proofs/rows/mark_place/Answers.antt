use Rattle.std.proofs.Common.{◌+◌, ◌-◌, ◌||◌, ◌&&◌, ◌==◌, not, ◌≡◌, Bool, true, false, ◌∙◌, ap, sym, refl, get_or, take, drop}
use Rattle.pair_rows.specs.declared.users.User.{User}
use Rattle.bit_words.specs.Bits.{has_bit}
use Rattle.pair_rows.specs.Meetings.{row_bit, uses_it}
use Rattle.pair_rows.proofs.Classes.{apart_more, met_next, met_none}
use Rattle.pair_rows.proofs.rows.mark_place.Goals as goal

abbrev none : User
none = record { item = 0; class = 0 }

pub returns-then-not-has_member-clause-bits : goal.returns-then-not-has_member-clause-bits
returns-then-not-has_member-clause-bits c = λ a i lt less. sym (
    ap (λ z. row_bit c.args.rows.now.items a i || z)
    (met_none c.args.users.now c.args.users.now a (c.args.base + i) (c.has_member.ensures c.if-not-has_member.true i less))
    ∙ or_none (row_bit c.args.rows.now.items a i)
    )
  where
    or_none : (b : Bool) → (b || false) ≡ b
    or_none true = refl
    or_none false = refl

pub loop-from-preserved : goal.loop-from-preserved
loop-from-preserved c =
    let x = c.class_end-end.ensures in
    let h = c.loop-from.invariant in
    record {
      within = x.within;
      rows = c.mark_run.ensures.rows ∙ h.rows;
      apart = apart_more c.args.users.now c.loop-from.from c.class_end-end.result x c.requires.classes h.apart
          (get_or c.args.users.now c.loop-from.from none).class none refl;
      bits = λ a i lt less.
          let m = c.mark_run.ensures.bits a i (rw h.rows lt) less in
          let run = take (c.class_end-end.result - c.loop-from.from) (drop c.loop-from.from c.args.users.now) in
          let class = (get_or c.args.users.now c.loop-from.from none).class in
          m ∙ ap (λ z. z || (uses_it run a && (has_bit c.members-all.result i
          && ((class == 0) || not (uses_it run (c.args.base + i)))))) (h.bits a i lt less)
          ∙ met_next c.args.users.now c.loop-from.from c.class_end-end.result x c.requires.classes h.apart class none refl
          c.requires.once a (c.args.base + i) (row_bit c.args.rows.now.items a i)
          (has_bit c.members-all.result i) (c.members-all.ensures i less);
    }
