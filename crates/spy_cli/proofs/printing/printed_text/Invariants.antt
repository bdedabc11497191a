use Rattle.std.proofs.Common.{◌≡◌, take}
use Rattle.vocabulary.specs.Prelude.{records_of, text_of}
use Rattle.spy_cli.proofs.printing.printed_text.Given as goal

abbrev pub invariant-loop-lined : goal.invariant-loop-lined
invariant-loop-lined l = l.text.items ≡ text_of (records_of (take l.lined-index l.records))
