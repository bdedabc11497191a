use Rattle.std.proofs.Common.{sym, ap, ◌∙◌}
use Rattle.shared_values.specs.Arenas.{value_at}
use Rattle.inst_steps.specs.Stores.{Held}
use Rattle.replay.proofs.Wanting.{agrees_with, differs_from}
use Rattle.replay.proofs.moving.Replay.unlike_at.Goals as goal

pub returns-then-branch-clause-unlike : goal.returns-then-branch-clause-unlike
returns-then-branch-clause-unlike g c =
    agrees_with c.args.store.now.values c.number_wanted.new.store.values c.args.got c.in_ok-number.number _ c.number_wanted.ensures.kept
    c.requires.got c.in_ok-number.ensures.number (sym c.in_ok-same.ensures.is ∙ c.if-branch.true)

pub returns-clause-unlike : goal.returns-clause-unlike
returns-clause-unlike g c = record {
  differ = differs_from c.args.store.now.values c.number_wanted.new.store.values c.args.got c.in_ok-number.number _
      c.number_wanted.ensures.kept c.requires.got c.in_ok-number.ensures.number (sym c.in_ok-same.ensures.is ∙ c.if-branch.false);
  got_is = c.in_ok-got.ensures ∙ ap (λ (h : Held). value_at h.values c.args.got) c.same.ensures.kept
      ∙ c.number_wanted.ensures.kept.same c.args.got c.requires.got;
  want_is = c.in_ok-want.ensures;
}
