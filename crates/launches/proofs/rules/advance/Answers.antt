use Rattle.std.proofs.Common.{is_some, sym, ap, ◌∙◌}
use Rattle.std.proofs.lemmas.Bool.{false≢true}
use Rattle.semantics.specs.Launches.{Expanded}
use Rattle.launches.specs.Steps.{expanded_as}
use Rattle.launches.proofs.Stepping.{none_where, early_told, kept_more, kept_same, late_short, late_told, none_early}
use Rattle.launches.proofs.rules.advance.Goals as goal

pub write-requires : goal.write-requires
write-requires c =
    let e = expanded_as c.args.launches.now c.args.writing.now in
    let none = none_where c.early_broken-early.result (sym c.is_some.ensures ∙ c.if-is_some.false) in
    let kept = none_early e c.args.rec (sym c.early_broken-early.ensures ∙ none) in
    record { good = c.requires.good; known = kept.0; ids = kept.1; few = c.requires.few; fit = c.requires.fit }

pub returns-then-is_some : goal.returns-then-is_some
returns-then-is_some c =
    let e = expanded_as c.args.launches.now c.args.writing.now in
    let some = sym c.is_some.ensures ∙ c.if-is_some.true in
    record {
      code = early_told e c.args.rec c.early_broken-early.result some c.early_broken-early.ensures;
      step = λ none. absurd (false≢true (ap is_some (sym none) ∙ some));
      kept = kept_same e;
      fit = c.requires.fit;
      few = λ none. absurd (false≢true (ap is_some (sym none) ∙ some));
    }

pub returns : goal.returns
returns c =
    let e = expanded_as c.args.launches.now c.args.writing.now in
    let none = none_where c.early_broken-early.result (sym c.is_some.ensures ∙ c.if-is_some.false) in
    let step = c.in_ok-write.ensures.step in
    record {
      code = late_told e c.args.rec _ c.late_broken.result (sym c.early_broken-early.ensures ∙ none)
          (ap (λ (x : Expanded). x.written) step) c.late_broken.ensures;
      step = λ kept. step;
      kept = kept_more e _ c.args.rec step;
      fit = c.in_ok-write.ensures.fit;
      few = λ kept. late_short _ c.late_broken.result c.late_broken.ensures kept;
    }
