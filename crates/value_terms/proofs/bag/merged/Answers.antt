use Rattle.std.proofs.Common.{sym, ap, ◌∙◌, ◌++◌, ◌<◌, ◌⊎◌, inl, inr, length}
use Rattle.value_terms.specs.Values.{Bag}
use Rattle.value_terms.proofs.Placing.{merged_first, merged_second, merged_both, merged_end}
use Rattle.value_terms.proofs.bag.merged.Goals as goal
use Rattle.value_terms.proofs.bag.merged.Goals.{in_default, in-len1-up+in_default-b}

pub loop-a-preserved-then-comes_before : goal.loop-a-preserved-then-comes_before
loop-a-preserved-then-comes_before c =
    merged_first _ _ _ _ _ _ _ _ c.loop-a.invariant c.in-len1-up.len_at_least c.in-len1-up-b.len_at_least (sym c.comes_before.ensures
    ∙ c.if-comes_before.true) c.in_ok-push.ensures.items

pub loop-a-preserved-then-comes_before-2 : goal.loop-a-preserved-then-comes_before-2
loop-a-preserved-then-comes_before-2 c =
    merged_second _ _ _ _ _ _ _ _ c.loop-a.invariant c.in-len1-up.len_at_least c.in-len1-up-b.len_at_least
    (sym c.comes_before-else-comes_before.ensures ∙ c.if-comes_before-2.true) c.in_ok-push-2.ensures.items

pub loop-a-preserved : goal.loop-a-preserved
loop-a-preserved c =
    merged_both _ _ _ _ _ _ _ _ c.loop-a.invariant c.in-len1-up.len_at_least c.in-len1-up-b.len_at_least (sym c.comes_before.ensures
    ∙ c.if-comes_before.false) (sym c.comes_before-else-comes_before.ensures ∙ c.if-comes_before-2.false) c.in_ok-push-3.ensures.items

pub returns : goal.returns
returns c =
    let ended : (length c.loop-a.a.now < 1) ⊎ (length c.loop-a.b.now < 1) =
    elim c.if-a-lt1.branch [ in_default w ↦ inl w.in_default.len_below | in-len1-up+in_default-b w ↦ inr w.in_default-b.len_below ] in
    let written = c.in_ok-extend_from_slice-2.ensures.items
    ∙ ap (λ (w : Bag). w ++ c.loop-a.b.now) c.in_ok-extend_from_slice.ensures.items in
    written ∙ merged_end _ _ _ _ _ c.loop-a.invariant ended
