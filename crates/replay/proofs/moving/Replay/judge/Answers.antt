use Rattle.std.proofs.Common.{sym, ap, ◌∙◌}
use Rattle.std.proofs.lemmas.Option.{MatchOption-at_none, MatchOption-at_some}
use Rattle.vocabulary.specs.Prelude.{Value, Seen, differing}
use Rattle.shared_values.specs.Arenas.{value_at}
use Rattle.replay.proofs.Judged.{want_is, agrees, differs}
use Rattle.replay.proofs.moving.Replay.judge.Goals as goal

pub returns-in-None-clause-right : goal.returns-in-None-clause-right
returns-in-None-clause-right g c =
    let t = c.args.self.now.cut.now in
    let same = MatchOption-at_none _ _ c.in-None.is c.in_ok-unlike_at.ensures.unlike in
    let wanted = want_is t c.args.self.now.versions.now c.requires.versions c.args.reading.item c.args.reading.task c.args.reading.number c.tree_of.result c.args.reading.cell (value_at c.args.store.now.values c.args.got) c.requires.item.0 c.requires.item.1 c.requires.inst c.tree_of.ensures in
    agrees t _ (same ∙ wanted)

pub returns-in-Some-clause-end : goal.returns-in-Some-clause-end
returns-in-Some-clause-end g c =
    let t = c.args.self.now.cut.now in
    let u = c.in-Some.field-0 in
    let unlike = MatchOption-at_some _ _ u c.in-Some.is c.in_ok-unlike_at.ensures.unlike in
    let wanted = want_is t c.args.self.now.versions.now c.requires.versions c.args.reading.item c.args.reading.task c.args.reading.number c.tree_of.result c.args.reading.cell u.got c.requires.item.0 c.requires.item.1 c.requires.inst c.tree_of.ensures in
    let seen : Value → Seen = λ v. record {
      task = c.args.reading.task;
      number = c.args.reading.number;
      point = c.args.reading.cell.point;
      field =
          c.args.reading.cell.field;
      got = v;
    } in (
      ap (λ v. differing t (seen v)) (sym unlike.got_is) ∙ differs t (seen u.got) (λ e. unlike.differ (sym unlike.got_is ∙ e ∙ sym wanted)),
      unlike.want_is ∙ wanted,
    )
