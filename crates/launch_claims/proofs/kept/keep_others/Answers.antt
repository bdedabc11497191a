use Rattle.std.proofs.Common.{◌≡◌, ◌+◌, ◌⊎◌, false, List, Vec, Global, drop, get_or, sym, ap, subst, ◌∙◌}
use Rattle.launch_claims.specs.declared.block.Block.{Block}
use Rattle.launch_claims.specs.Claims.{share_field}
use Rattle.launch_claims.specs.Blocks.{IsNeedless}
use Rattle.launch_claims.proofs.Keeping.{StillStandFor, yet_all, yet_dropped, yet_pushed}
use Rattle.launch_claims.proofs.Nodes.{no_block}
use Rattle.launch_claims.proofs.kept.keep_others.Goals as goal
use Rattle.launch_claims.proofs.kept.keep_others.Goals.{then-not-is_idle+in_ok-push, else-not-is_idle}

pub loop-other-preserved : goal.loop-other-preserved
loop-other-preserved c =
    let old = c.args.more.now.items in
    let kept = c.args.kept.now in
    let d = c.args.block.now in
    let k = c.loop-other.other-index in
    let now = c.loop-other.more.items in
    let rest = drop (k + 1) kept in
    let within = c.loop-other-test.true in
    let x = get_or kept k no_block in
    elim c.if-not-is_idle.branch [
      | then-not-is_idle+in_ok-push w ↦
          yet_pushed old kept now c.if-not-is_idle.more.items d k no_block within c.loop-other.invariant
          (ap (λ (v : Vec Block Global). v.items) w.more-is ∙ w.in_ok-push.ensures.items)
      | else-not-is_idle w ↦
          let idle = subst (λ (bs : List Block). (share_field x.claim d.claim ≡ false) ⊎ IsNeedless bs x) c.as_slice.ensures.value
          (c.is_idle.ensures w.if-not-is_idle.false) in
          subst (λ (bs : List Block). StillStandFor old kept d bs rest) (sym (ap (λ (v : Vec Block Global). v.items) w.more-is))
          (yet_dropped old kept now d k no_block within c.loop-other.invariant idle)
    ]

pub returns : goal.returns
returns c = yet_all c.args.more.now.items c.args.kept.now c.loop-other.more.items c.args.block.now c.loop-other.other-index
    c.loop-other-test.false c.loop-other.invariant
