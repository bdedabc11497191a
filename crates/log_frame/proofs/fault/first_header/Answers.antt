use Rattle.std.proofs.Common.{Some, option_map, sym, ap, ◌∙◌}
use Rattle.spy_grammar.specs.declared.code.Code.TheVariants as codes
use Rattle.semantics.specs.Faults.{at_line, is_header}
use Rattle.log_frame.proofs.InFrame.{first_framed}
use Rattle.log_frame.proofs.fault.first_header.Goals as goal

pub returns : goal.returns
returns g c =
    let seen = g.R.Framed.in_frame in
    ap (λ n. Some (at_line codes.Header n)) c.line.ensures
    ∙ ap (option_map (λ r. at_line codes.Header (seen r).line)) c.in_ok-found.ensures
    ∙ sym (first_framed seen codes.Header is_header c.args.records.now)

pub returns-in_err-found : goal.returns-in_err-found
returns-in_err-found g c =
    let seen = g.R.Framed.in_frame in
    c.from_residual.ensures
    ∙ ap (option_map (λ r. at_line codes.Header (seen r).line)) c.in_err-found.ensures
    ∙ sym (first_framed seen codes.Header is_header c.args.records.now)
