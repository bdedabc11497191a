use Rattle.std.proofs.Common.{inl, inr, ◌≡◌, true, false, Option, Some, None, ap, subst, sym, ◌∙◌, arith}
use Rattle.std.specs.Prelude.{IfSome}
use Rattle.std.specs.Io.KnownBytes.{Appends}
use Rattle.spy_io.specs.Causes.{Grows}
use Rattle.spy_args.specs.declared.request.Request.{Request}
use Rattle.spy_args.specs.declared.request.Request.TheVariants.{Judge}
use Rattle.semantics.specs.declared.command.Command.TheVariants.{Check, Deps}
use Rattle.spy_args.specs.Asked.{IsSized}
use Rattle.spy_cli.specs.Answers.{Answers, AnswersPart, Ends, IsAnswer, HasNoFault, IsDecided, IsInput, InputHasNoFault, Keeps, takes_input}
use Rattle.spy_cli.proofs.Completing.{ends}
use Rattle.spy_cli.proofs.Ending.{answers_in_part, answers_told, deps_ends}
use Rattle.spy_cli.proofs.Reports.{same_answer, same_in_long}
use Rattle.spy_cli.proofs.top.run.Goals as goal

pub returns-in-Ok-clause-answer : goal.returns-in-Ok-clause-answer
returns-in-Ok-clause-answer g c request asks decided bytes input =
    let r = c.in-Ok.report in
    let both : ◌≡◌ {A = Option Request} (Some c.in-Ok-Some.request) (Some request) =
    sym c.in-Ok-Some.field-0-is ∙ c.in-Ok-Some.ensures.asked ∙ asks in
    let same : c.in-Ok-Some.request ≡ request = cc in
    let own = c.in-Ok.ensures.outcome bytes (subst (λ k. IsInput k (g.S.Source.left c.args.source.now) bytes) (sym same) input) in
    let done = c.written-in-Ok.ensures.done (λ e. subst IsDecided e decided) in
    record {
      text = r.text.items;
      answer = subst (λ s. IsAnswer request bytes s r.text.items) (sym done.0)
          (subst (λ k. IsAnswer k bytes r.status r.text.items) same own);
      written = subst (Appends (g.K.Sink.held c.args.sink.now) (g.K.Sink.held c.written-in-Ok.new.sink)) c.deref.ensures.value done.1;
    }

pub returns-in-Ok-clause-exact : goal.returns-in-Ok-clause-exact
returns-in-Ok-clause-exact g c request asks bytes status text input out decided =
    let a = returns-in-Ok-clause-answer g c request asks decided bytes input in
    let sized = subst (λ o. IfSome o IsSized) (c.in-Ok-Some.ensures.asked ∙ asks) c.in-Ok-Some.ensures.sized in
    let one = same_answer request bytes c.written-in-Ok.result status a.text text sized a.answer out in
    (one.0, subst (Appends (g.K.Sink.held c.args.sink.now) (g.K.Sink.held c.written-in-Ok.new.sink)) one.1 a.written)

pub returns-in-Ok-clause-answer_long : goal.returns-in-Ok-clause-answer_long
returns-in-Ok-clause-answer_long g c asks decided bytes left =
    let a = returns-in-Ok-clause-answer g c (Judge Check) asks decided bytes left in
    record { text = a.text; answer = (same_in_long bytes c.written-in-Ok.result a.text).0 a.answer; written = a.written }

pub returns-in-Ok-clause-exact_long : goal.returns-in-Ok-clause-exact_long
returns-in-Ok-clause-exact_long g c asks bytes status text left out decided =
    returns-in-Ok-clause-exact g c (Judge Check) asks bytes status text left ((same_in_long bytes status text).1 out) decided

pub returns-in-Ok-clause-part_of_answer : goal.returns-in-Ok-clause-part_of_answer
returns-in-Ok-clause-part_of_answer g c request asks bytes input fails =
    let r = c.in-Ok.report in
    let both : ◌≡◌ {A = Option Request} (Some c.in-Ok-Some.request) (Some request) =
    sym c.in-Ok-Some.field-0-is ∙ c.in-Ok-Some.ensures.asked ∙ asks in
    let same : c.in-Ok-Some.request ≡ request = cc in
    let own = c.in-Ok.ensures.outcome bytes (subst (λ k. IsInput k (g.S.Source.left c.args.source.now) bytes) (sym same) input) in
    let fault = c.written-in-Ok.ensures.fault fails in
    inl (record {
      status = r.status;
      text = r.text.items;
      answer = subst (λ k. IsAnswer k bytes r.status r.text.items) same own;
      written = subst (Grows (g.K.Sink.held c.args.sink.now) (g.K.Sink.held c.written-in-Ok.new.sink)) c.deref.ensures.value fault.1;
    })

pub returns-in-Ok-clause-part : goal.returns-in-Ok-clause-part
returns-in-Ok-clause-part g c request asks bytes status text input out fails =
    let sized = subst (λ o. IfSome o IsSized) (c.in-Ok-Some.ensures.asked ∙ asks) c.in-Ok-Some.ensures.sized in
    elim (returns-in-Ok-clause-part_of_answer g c request asks bytes input fails) [
      | inl a ↦ inl (subst (Grows (g.K.Sink.held c.args.sink.now) (g.K.Sink.held c.written-in-Ok.new.sink))
          (same_answer request bytes a.status status a.text text sized a.answer out).1 a.written)
      | inr r ↦ inr r
    ]

pub returns-in-Ok-clause-complete : goal.returns-in-Ok-clause-complete
returns-in-Ok-clause-complete g c request asks bytes input keeps source_had_none sink_had_none =
    let r = c.in-Ok.report in
    let both : ◌≡◌ {A = Option Request} (Some c.in-Ok-Some.request) (Some request) =
    sym c.in-Ok-Some.field-0-is ∙ c.in-Ok-Some.ensures.asked ∙ asks in
    let same : c.in-Ok-Some.request ≡ request = cc in
    let own = c.in-Ok.ensures.outcome bytes (subst (λ k. IsInput k (g.S.Source.left c.args.source.now) bytes) (sym same) input) in
    let done = c.written-in-Ok.ensures.done (λ e. absurd
    (omega (arith, (c.written-in-Ok.ensures.fault e).0, sink_had_none.same, sink_had_none.room))) in
    subst (Ends request) (sym done.0)
    (ends request bytes r.status r.text.items (subst (λ k. IsAnswer k bytes r.status r.text.items) same own) keeps c.in-Ok.ensures.decided)

-- ---- `deps`

pub returns-then-is_deps-clause-answer : goal.returns-then-is_deps-clause-answer
returns-then-is_deps-clause-answer g c request asks decided bytes input =
    let both : ◌≡◌ {A = Option Request} (Some c.in-Ok-Some.request) (Some request) =
    sym c.in-Ok-Some.field-0-is ∙ c.in-Ok-Some.ensures.asked ∙ asks in
    let same : c.in-Ok-Some.request ≡ request = cc in
    let whole : Judge Deps ≡ request = sym (c.is_deps.ensures c.if-is_deps.true) ∙ same in
    let left = subst (λ k. IsInput k (g.S.Source.left c.args.source.now) bytes) (sym whole) input in
    let told = c.deps_answered.ensures.told decided bytes left in
    subst (λ k. Answers k bytes c.deps_answered.result (g.K.Sink.held c.args.sink.now) (g.K.Sink.held c.deps_answered.new.sink)) whole
    (answers_told Deps bytes c.deps_answered.result (g.K.Sink.held c.args.sink.now) (g.K.Sink.held c.deps_answered.new.sink) told)

pub returns-then-is_deps-clause-exact : goal.returns-then-is_deps-clause-exact
returns-then-is_deps-clause-exact g c request asks bytes status text input out decided =
    let a = returns-then-is_deps-clause-answer g c request asks decided bytes input in
    let sized = subst (λ o. IfSome o IsSized) (c.in-Ok-Some.ensures.asked ∙ asks) c.in-Ok-Some.ensures.sized in
    let one = same_answer request bytes c.deps_answered.result status a.text text sized a.answer out in
    (one.0, subst (Appends (g.K.Sink.held c.args.sink.now) (g.K.Sink.held c.deps_answered.new.sink)) one.1 a.written)

pub returns-then-is_deps-clause-answer_long : goal.returns-then-is_deps-clause-answer_long
returns-then-is_deps-clause-answer_long g c asks decided bytes left =
    let a = returns-then-is_deps-clause-answer g c (Judge Check) asks decided bytes left in
    record { text = a.text; answer = (same_in_long bytes c.deps_answered.result a.text).0 a.answer; written = a.written }

pub returns-then-is_deps-clause-exact_long : goal.returns-then-is_deps-clause-exact_long
returns-then-is_deps-clause-exact_long g c asks bytes status text left out decided =
    returns-then-is_deps-clause-exact g c (Judge Check) asks bytes status text left ((same_in_long bytes status text).1 out) decided

pub returns-then-is_deps-clause-part_of_answer : goal.returns-then-is_deps-clause-part_of_answer
returns-then-is_deps-clause-part_of_answer g c request asks bytes input fails =
    let both : ◌≡◌ {A = Option Request} (Some c.in-Ok-Some.request) (Some request) =
    sym c.in-Ok-Some.field-0-is ∙ c.in-Ok-Some.ensures.asked ∙ asks in
    let same : c.in-Ok-Some.request ≡ request = cc in
    let whole : Judge Deps ≡ request = sym (c.is_deps.ensures c.if-is_deps.true) ∙ same in
    let left = subst (λ k. IsInput k (g.S.Source.left c.args.source.now) bytes) (sym whole) input in
    elim (c.deps_answered.ensures.part fails bytes left) [
      | inl told ↦ inl (subst (λ k. AnswersPart k bytes (g.K.Sink.held c.args.sink.now) (g.K.Sink.held c.deps_answered.new.sink)) whole
          (answers_in_part Deps bytes (g.K.Sink.held c.args.sink.now) (g.K.Sink.held c.deps_answered.new.sink) told))
      | inr r ↦ inr r
    ]

pub returns-then-is_deps-clause-part : goal.returns-then-is_deps-clause-part
returns-then-is_deps-clause-part g c request asks bytes status text input out fails =
    let sized = subst (λ o. IfSome o IsSized) (c.in-Ok-Some.ensures.asked ∙ asks) c.in-Ok-Some.ensures.sized in
    elim (returns-then-is_deps-clause-part_of_answer g c request asks bytes input fails) [
      | inl a ↦ inl (subst (Grows (g.K.Sink.held c.args.sink.now) (g.K.Sink.held c.deps_answered.new.sink))
          (same_answer request bytes a.status status a.text text sized a.answer out).1 a.written)
      | inr r ↦ inr r
    ]

pub returns-then-is_deps-clause-complete : goal.returns-then-is_deps-clause-complete
returns-then-is_deps-clause-complete g c request asks bytes input keeps source_had_none sink_had_none =
    let both : ◌≡◌ {A = Option Request} (Some c.in-Ok-Some.request) (Some request) =
    sym c.in-Ok-Some.field-0-is ∙ c.in-Ok-Some.ensures.asked ∙ asks in
    let same : c.in-Ok-Some.request ≡ request = cc in
    let whole : Judge Deps ≡ request = sym (c.is_deps.ensures c.if-is_deps.true) ∙ same in
    let left = subst (λ k. IsInput k (g.S.Source.left c.args.source.now) bytes) (sym whole) input in
    let keeps_its = subst (λ k. Keeps k bytes) (sym whole) keeps in
    let no_fault : HasNoFault (g.S.Source.faults c.args.source.now) (g.S.Source.faults c.deps_answered.new.source) =
    subst (λ k. InputHasNoFault k (g.S.Source.faults c.args.source.now) (g.S.Source.faults c.deps_answered.new.source)) (sym whole) source_had_none in
    subst (λ k. Ends k c.deps_answered.result) whole (deps_ends c.deps_answered.result
    (λ decided.
    let a = answers_told Deps bytes c.deps_answered.result (g.K.Sink.held c.args.sink.now) (g.K.Sink.held c.deps_answered.new.sink)
    (c.deps_answered.ensures.told decided bytes left) in
    ends (Judge Deps) bytes c.deps_answered.result a.text a.answer keeps_its decided)
    (λ is. let rose = c.deps_answered.ensures.write_fault is in absurd (omega (arith, rose, sink_had_none.same, sink_had_none.room)))
    (λ is. let rose = (c.deps_answered.ensures.read_fault is).0 in absurd (omega (arith, rose, no_fault.same, no_fault.room)))
    c.deps_answered.ensures.not_usage)

pub returns-then-is_deps-clause-usage : goal.returns-then-is_deps-clause-usage
returns-then-is_deps-clause-usage g c is = absurd (c.deps_answered.ensures.not_usage is)

pub returns-then-is_deps-clause-not_taken : goal.returns-then-is_deps-clause-not_taken
returns-then-is_deps-clause-not_taken g c none =
    let both : ◌≡◌ {A = Option Request} (Some c.in-Ok-Some.request) None =
    sym c.in-Ok-Some.field-0-is ∙ c.in-Ok-Some.ensures.asked ∙ none in
    absurd cc

pub returns-then-is_deps-clause-part_of_usage : goal.returns-then-is_deps-clause-part_of_usage
returns-then-is_deps-clause-part_of_usage g c fails none =
    let both : ◌≡◌ {A = Option Request} (Some c.in-Ok-Some.request) None =
    sym c.in-Ok-Some.field-0-is ∙ c.in-Ok-Some.ensures.asked ∙ none in
    absurd cc

pub returns-then-is_deps-clause-not_called : goal.returns-then-is_deps-clause-not_called
returns-then-is_deps-clause-not_called g c none =
    let yes : takes_input (Some c.in-Ok-Some.request) ≡ true =
    ap (λ k. takes_input (Some k)) (c.is_deps.ensures c.if-is_deps.true) in
    let no : takes_input (Some c.in-Ok-Some.request) ≡ false =
    ap takes_input (sym c.in-Ok-Some.field-0-is ∙ c.in-Ok-Some.ensures.asked) ∙ none in
    absurd cc

pub returns-then-is_deps-clause-read_fault : goal.returns-then-is_deps-clause-read_fault
returns-then-is_deps-clause-read_fault g c is =
    let yes : takes_input (Some c.in-Ok-Some.request) ≡ true =
    ap (λ k. takes_input (Some k)) (c.is_deps.ensures c.if-is_deps.true) in
    let fault = c.deps_answered.ensures.read_fault is in
    (ap takes_input (sym (sym c.in-Ok-Some.field-0-is ∙ c.in-Ok-Some.ensures.asked)) ∙ yes, fault.0, fault.1)

pub returns-then-is_deps-clause-no_fault : goal.returns-then-is_deps-clause-no_fault
returns-then-is_deps-clause-no_fault g c (inl decided) = c.deps_answered.ensures.no_fault decided
returns-then-is_deps-clause-no_fault g c (inr usage) = absurd (c.deps_answered.ensures.not_usage usage)
