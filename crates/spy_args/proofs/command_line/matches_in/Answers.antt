use Rattle.std.proofs.Common.{ap, ap₂, subst, ◌≡◌, ◌∙◌, codes, map}
use Rattle.std.specs.Prelude.{IfOk}
use Rattle.clap.specs.Simple.{app_of_fields}
use Rattle.clap.specs.Words.{App, FailsBy, HasMatchesOf, app_of, fault_of, is_simple_and_free, new_app, with_rule}
use Rattle.spy_args.specs.CommandLine.{spy_app, without_help}
use Rattle.spy_args.proofs.Taken.{spy_is_free, taken_at_ok, refused_at_err, rows_at_ok}
use Rattle.spy_args.proofs.command_line.matches_in.Goals as goal

pub returns : goal.returns
returns c =
    let words = map (λ w. w.now) c.args.words.now in
    let parse = c.try_get_matches_from in
    let start_is : app_of c.disable_help_flag.result ≡ without_help (new_app (codes "spy")) =
    ap app_of_fields c.disable_help_flag.ensures ∙ ap without_help c.new.ensures.app in
    let command_app = c.in_ok-arg.ensures.shape c.command.ensures.own ∙ ap₂ with_rule start_is c.command.ensures.rule in
    let size_app = c.in_ok-arg-2.ensures.shape c.option.ensures.own ∙ ap₂ with_rule command_app c.option.ensures.rule in
    let task_app = c.in_ok-arg-3.ensures.shape c.option-2.ensures.own ∙ ap₂ with_rule size_app c.option-2.ensures.rule in
    let req_app = c.in_ok-arg-4.ensures.shape c.option-3.ensures.own ∙ ap₂ with_rule task_app c.option-3.ensures.rule in
    let point_app = c.in_ok-arg-5.ensures.shape c.option-4.ensures.own ∙ ap₂ with_rule req_app c.option-4.ensures.rule in
    let app_is : app_of c.in_ok-spy.spy ≡ spy_app =
    c.in_ok-spy.ensures.shape c.option-5.ensures.own ∙ ap₂ with_rule point_app c.option-5.ensures.rule in
    let fails : FailsBy (fault_of spy_app words) parse.result =
    subst (λ (a : App). FailsBy (fault_of a words) parse.result) app_is
    (parse.ensures.kinds (ap is_simple_and_free app_is ∙ spy_is_free)) in
    let has : IfOk parse.result (HasMatchesOf spy_app words) =
    subst (λ (a : App). IfOk parse.result (HasMatchesOf a words)) app_is parse.ensures.matches in
    record {
      taken = taken_at_ok parse.result words fails;
      rows = rows_at_ok parse.result words has;
      refused = refused_at_err parse.result words fails;
    }
