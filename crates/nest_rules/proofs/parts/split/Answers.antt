use Rattle.std.proofs.Common.{◌≡◌, ◌++◌, List, append-nil, arith, refl, sym, ap, ◌∙◌, subst}
use Rattle.std.proofs.lemmas.List.{nil_from_length}
use Rattle.std.specs.Vec.Iter.{into_iter_items}
use Rattle.vocabulary.specs.Prelude.{Lined, no_tables}
use Rattle.spy_grammar.specs.declared.nested.NLined.{NLined}
use Rattle.semantics.specs.Nesting.{plain_log}
use Rattle.nest_rules.specs.declared.pending.Pending.{Pending}
use Rattle.nest_rules.specs.Pending.{AreIds, pending_from, with_plain}
use Rattle.nest_rules.proofs.Parting.{ids_more, nested_step, plain_step}
use Rattle.nest_rules.proofs.parts.split.Goals as goal

pub loop-l-init : goal.loop-l-init
loop-l-init c =
    let all = c.into_iter-l-iterator.ensures.into_iter_gives.0 in
    record {
      can = tt;
      finite = tt;
      plain = ap (λ (xs : List Lined). xs ++ plain_log (into_iter_items c.into_iter-l-iterator.result)) c.new.ensures.items
          ∙ ap plain_log all;
      nested = (
        no_tables,
        subst (AreIds no_tables) (sym c.new-ids.ensures) (record { spaces = refl; trees = refl; tasks = refl }),
        ap (λ (xs : List Pending). xs ++ pending_from no_tables (into_iter_items c.into_iter-l-iterator.result)) c.new-2.ensures.items
            ∙ ap (pending_from no_tables) all,
      );
    }

pub loop-l-preserved : goal.loop-l-preserved
loop-l-preserved c =
    let inv = c.loop-l.invariant in
    let l = c.in-Some.l in
    let rest = into_iter_items c.next.new.self in
    let here = c.in-Some.ensures.steps in
    let t = inv.nested.0 in
    record {
      can = tt;
      finite = tt;
      plain = plain_step l rest c.loop-l.parts.plain.items c.push.new.parts.plain.items
          (plain_log c.args.records.items) c.in_ok-push.ensures.plain
          (subst (λ (ls : List NLined). c.loop-l.parts.plain.items ++ plain_log ls ≡ plain_log c.args.records.items) here.0 inv.plain);
      nested = (
        with_plain t l,
        subst (AreIds (with_plain t l)) (sym c.in_ok-push.ensures.ids) (ids_more t c.loop-l.ids l.line l.rec inv.nested.1),
        nested_step t c.loop-l.ids l rest c.loop-l.parts.nested.items c.push.new.parts.nested.items
            (pending_from no_tables c.args.records.items) inv.nested.1 c.in_ok-push.ensures.nested
            (subst (λ (ls : List NLined). c.loop-l.parts.nested.items ++ pending_from t ls
            ≡ pending_from no_tables c.args.records.items) here.0 inv.nested.2),
      );
    }

pub returns-clause-plain : goal.returns-clause-plain
returns-clause-plain c =
    let parts = c.loop-l.parts.plain.items in
    let none = c.in-None.ensures.steps in
    sym (append-nil parts)
    ∙ subst (λ (ls : List NLined). parts ++ plain_log ls ≡ plain_log c.args.records.items) (nil_from_length (into_iter_items c.loop-l.l-iterator) (omega (arith, none.0, c.loop-l.l-iterator.rest.ok.0))) c.loop-l.invariant.plain
