use Rattle.std.proofs.Common.{◌↔◌, IsTrue, List, Contains, nat_le, subst}
use Rattle.std.specs.Result.{IfOk}
use Rattle.list_lemmas.proofs.lemmas.Filtered.{of_filter}
use Rattle.launch_claims.specs.declared.block.Block.{Block}
use Rattle.launch_claims.specs.Blocks.{HasBlockClash}
use Rattle.launch_claims.proofs.first_block.has_clash_up_to.Goals as goal

pub have_clash-requires : goal.have_clash-requires
have_clash-requires c = λ b h.
    c.requires b (of_filter (λ (x : Block). nat_le x.claim.record c.args.number) c.args.blocks.now b
    (subst (λ (bs : List Block). Contains bs b) c.in_ok-asked.ensures h)).0

pub returns : goal.returns
returns c = subst (λ (bs : List Block). IfOk c.have_clash.result (λ told. IsTrue told ↔ HasBlockClash bs)) c.in_ok-asked.ensures
    c.have_clash.ensures
