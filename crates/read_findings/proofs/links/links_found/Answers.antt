use Rattle.std.proofs.Common.{◌∙◌, ap}
use Rattle.findings.specs.Texts.{is_chain}
use Rattle.read_findings.proofs.Chains.{chain_shown}
use Rattle.read_findings.proofs.links.links_found.Goals as goal

pub why_found-requires : goal.why_found-requires
why_found-requires c = ap is_chain c.in_ok-list.ensures ∙ chain_shown c.args.links.now c.requires.ends c.requires.starts
