use Rattle.std.proofs.Common.{◌∙◌, Some, None, ap, refl}
use Rattle.clap.specs.Words.{found_of}
use Rattle.spy_args.specs.CommandLine.{given_texts, word_text}
use Rattle.spy_args.proofs.Taken.{values_by}
use Rattle.spy_args.proofs.command_line.given_by.Goals as goal

pub returns-in_err-command : goal.returns-in_err-command
returns-in_err-command c = ap given_texts c.from_residual.ensures
    ∙ values_by (found_of c.args.matches.now) None _ _ _ _ _ c.in_err-command.ensures refl refl refl refl refl

pub returns : goal.returns
returns c =
    values_by (found_of c.args.matches.now) (Some c.in_ok-command.command.now) (word_text c.get_str-2.result) (word_text c.get_str-3.result)
    (word_text c.get_str-4.result) (word_text c.get_str-5.result) (word_text c.get_str-6.result)
    c.in_ok-command.ensures c.get_str-2.ensures c.get_str-3.ensures c.get_str-4.ensures c.get_str-5.ensures c.get_str-6.ensures
