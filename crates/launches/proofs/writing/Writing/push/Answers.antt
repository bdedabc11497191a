use Rattle.std.proofs.Common.{List, [], ◌∷◌, ◌++◌, ap, ◌∙◌}
use Rattle.vocabulary.specs.Prelude.{Record}
use Rattle.launches.proofs.Writings.{tells_more}
use Rattle.launches.proofs.writing.Writing.push.Goals as goal

pub invariant_of-self-2 : goal.invariant_of-self-2
invariant_of-self-2 c =
    let was = c.self.inside in
    tells_more was.written.items _ c.args.rec was.subs _ was.inner was.bytes _ _ c.inner_of.result c.in_ok-length.length c.self.invariant c.requires c.inner_of.ensures c.in_ok-length.ensures
    (c.in_ok-push.ensures.items ∙ ap (λ (rs : List Record). rs ++ c.args.rec
    ∷ []) c.in_ok-reserve.ensures.items) c.in_ok-declare.ensures.ok c.saturating_add-inner.ensures c.saturating_add-self-inside.ensures
