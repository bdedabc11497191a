use Rattle.std.proofs.Common.{◌∷◌, ◌++◌, [], refl, ap, sym, ◌∙◌, take}
use Rattle.std.proofs.lemmas.List.{append_assoc}
use Rattle.std.proofs.lemmas.Option.{slice_get_read}
use Rattle.vocabulary.specs.Prelude.{spelling, records_of, text_of}
use Rattle.spy_cli.proofs.Printed.{good_at, text_more, one_more}
use Rattle.spy_cli.proofs.printing.printed_text.Goals as goal

pub with_line-requires : goal.with_line-requires
with_line-requires c =
    let here = slice_get_read c.args.records.now _ c.loop-lined.lined-index c.lined-item.result refl c.loop-lined-test.true c.lined-item.is in
    good_at c.args.records.now c.loop-lined.lined-index c.lined-item.result here c.requires

pub loop-lined-preserved : goal.loop-lined-preserved
loop-lined-preserved c =
    let here = slice_get_read c.args.records.now _ c.loop-lined.lined-index c.lined-item.result refl c.loop-lined-test.true c.lined-item.is in
    let more = one_more c.args.records.now c.loop-lined.lined-index c.lined-item.result here in
    c.in_ok-text.ensures
    ∙ append_assoc c.loop-lined.text.items (spelling c.lined-item.result.rec) (10 ∷ [])
    ∙ ap (λ t. t ++ text_of (records_of (c.lined-item.result ∷ []))) c.loop-lined.invariant
    ∙ sym (text_more (take c.loop-lined.lined-index c.args.records.now) c.lined-item.result)
    ∙ ap (λ log. text_of (records_of log)) (sym more)
