use Rattle.std.proofs.Common.{rules, sym, ap, ◌∙◌}
use Rattle.std.proofs.lemmas.Iterator.{YieldsList-from_slice}
use Rattle.std.proofs.lemmas.Iterator.Consumers.{YieldsList-from_filter_map, nth_from_yields_List}
use Rattle.std.proofs.lemmas.Iterator.Adapters.{option_map_id}
use Rattle.vocabulary.specs.Prelude.{Lined}
use Rattle.log_decl.specs.SubLines.{sub_line}
use Rattle.log_decl.proofs.regions.sub_line_at.Goals as goal

pub returns : goal.returns
returns c =
    sym (option_map_id c.nth.result)
    ∙ nth_from_yields_List c.nth.result _ c.args.sub c.nth.ensures.ran
    (YieldsList-from_filter_map _ (λ (l : Lined). sub_line l.line l.rec)
    (YieldsList-from_slice c.args.records.now (ap (λ s. s.rest.now) c.filter_map.ensures.source
    ∙ c.iter.ensures.rest)) c.filter_map.ensures.closure (λ x r q k. search rules))
