use Rattle.std.proofs.Common.{[], sym, ap, subst, ◌∙◌}
use Rattle.std.proofs.lemmas.List.{append-nil}
use Rattle.vocabulary.specs.Prelude.{records_of}
use Rattle.crowded_logs.specs.Noted.{frame_of}
use Rattle.log_input.specs.AskedIds.{IsAskedBy}
use Rattle.log_input.proofs.crowding.Crowding.begin.Goals as goal

pub returns-clause-crowding : goal.returns-clause-crowding
returns-clause-crowding c = record {
  kept_later = [];
  kept_is = sym (append-nil c.args.first.items);
  asked = subst (λ ls. IsAskedBy (records_of ls) c.in_ok-asked.asked) c.deref.ensures.value c.in_ok-asked.ensures;
  answered = record { events = c.new.ensures.events; tasks = c.new.ensures.tasks; lists = c.new.ensures.lists; leaves_out = c.new.ensures.leaves_out };
  answer = record { part = λ p e. e; events = λ n asks e. e; tasks = λ n asks e. e; lists = λ e. e; items = λ e. e };
  frame_is = c.of-frame.ensures.noted ∙ ap frame_of (c.deref-2.ensures.value ∙ sym (append-nil c.args.first.items));
}
