use Rattle.std.proofs.Common.{◌≡◌, ◌+◌, unwrap_or, ap, ◌∙◌}
use Rattle.std.specs.HashMap.{get}
use Rattle.log_limits.specs.Sums.{cut}
use Rattle.vocabulary.specs.Prelude.{same_place}
use Rattle.log_rules.proofs.Loading.{load-put}
use Rattle.log_rules.proofs.load.Loads.add.Goals as goal

pub returns : goal.returns
returns c = λ k.
    let old = get same_place c.args.self.now.counts in
    let more : c.raised-count.result ≡ cut (unwrap_or (old c.args.place) 0 + 1) =
    c.raised-count.ensures.sum ∙ ap (λ n. cut (n + 1)) c.at.ensures in
    load-put old c.args.place k c.raised-count.result (get same_place c.insert.new.self k) (c.in_ok-insert.ensures.updates.0 k) more
