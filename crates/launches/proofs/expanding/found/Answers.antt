use Rattle.std.proofs.Common.{◌≡◌, Option, Some, None, Err, sym, ap, ◌∙◌, subst}
use Rattle.std.specs.Result.{IfOk, OnOk}
use Rattle.vocabulary.specs.Prelude.{Fault}
use Rattle.launches.proofs.Framing.{faulty_frame, sound_frame}
use Rattle.launches.proofs.expanding.found.Goals as goal

pub returns-in-Some-clause-fault : goal.returns-in-Some-clause-fault
returns-in-Some-clause-fault c = λ f is.
    let same : c.in-Some.fault ≡ f = cc in
    faulty_frame c.args.lines c.args.records.items c.as_slice.result.now c.frame_fault.result f c.frame_fault.ensures c.as_slice.ensures.value (c.in-Some.is ∙ ap (λ (x : Fault). Some x) same)

pub returns-clause-faultless : goal.returns-clause-faultless
returns-clause-faultless c =
    let same = sound_frame c.args.lines c.args.records.items c.as_slice.result.now c.frame_fault.result c.frame_fault.ensures c.as_slice.ensures.value c.in_default.is in
    subst (λ (o : Option Fault). IfOk c.written.result (λ r. OnOk r (o ≡ None))) (sym same) c.written.ensures.faultless

pub returns-clause-fault : goal.returns-clause-fault
returns-clause-fault c =
    let same = sound_frame c.args.lines c.args.records.items c.as_slice.result.now c.frame_fault.result c.frame_fault.ensures c.as_slice.ensures.value c.in_default.is in
    subst (λ (o : Option Fault). IfOk c.written.result (λ r. (f : Fault) → r ≡ Err f → o ≡ Some f)) (sym same) c.written.ensures.fault
