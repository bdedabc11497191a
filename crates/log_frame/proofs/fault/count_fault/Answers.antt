use Rattle.std.proofs.Common.{◌≡◌, ◌-◌, Some, option_map, map, length, sym, ap, ◌∙◌}
use Rattle.std.proofs.lemmas.List.{length-map}
use Rattle.spy_grammar.specs.declared.code.Code.TheVariants as codes
use Rattle.semantics.specs.Faults.{at_line, miscounts, first_with}
use Rattle.log_frame.proofs.InFrame.{first_framed}
use Rattle.log_frame.proofs.fault.count_fault.Goals as goal

pub returns : goal.returns
returns g c =
    let seen = g.R.Framed.in_frame in
    let rs = c.args.records.now in
    let count = c.saturating_sub-count.result in
    let counted : count ≡ length (map seen rs) - 2 = c.saturating_sub-count.ensures ∙ ap (λ n. n - 2) (sym (length-map rs seen)) in
    ap (λ n. Some (at_line codes.Count n)) c.line.ensures
    ∙ ap (option_map (λ r. at_line codes.Count (seen r).line)) c.in_ok-found.ensures
    ∙ sym (first_framed seen codes.Count (miscounts count) rs)
    ∙ ap (λ n. first_with codes.Count (miscounts n) (map seen rs)) counted

pub returns-in_err-found : goal.returns-in_err-found
returns-in_err-found g c =
    let seen = g.R.Framed.in_frame in
    let rs = c.args.records.now in
    let count = c.saturating_sub-count.result in
    let counted : count ≡ length (map seen rs) - 2 = c.saturating_sub-count.ensures ∙ ap (λ n. n - 2) (sym (length-map rs seen)) in
    c.from_residual.ensures
    ∙ ap (option_map (λ r. at_line codes.Count (seen r).line)) c.in_err-found.ensures
    ∙ sym (first_framed seen codes.Count (miscounts count) rs)
    ∙ ap (λ n. first_with codes.Count (miscounts n) (map seen rs)) counted
