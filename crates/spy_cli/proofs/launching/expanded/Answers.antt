use Rattle.std.proofs.Common.{◌≡◌, ◌≤◌, ◌∙◌, ℕ, List, Result, Ok, Err, None, length, refl, sym, ap, subst, inr}
use Rattle.std.specs.List.{AllByRecursion}
use Rattle.std.specs.Result.{IfOk, OnOk}
use Rattle.std.proofs.lemmas.List.Elements.{recursion_from_All}
use Rattle.vocabulary.specs.Prelude.{GoodLaunch, LLined, Record}
use Rattle.semantics.specs.declared.limits.TheConstants.{MOST_BYTES}
use Rattle.semantics.specs.Launches.{launch_fault, written_log}
use Rattle.launch_laws.proofs.lemmas.WrittenLogs.{written_few}
use Rattle.spy_cli.proofs.launching.expanded.Goals as goal

few : {V E : Type 0} (items : V → List Record) (lines : ℕ) (log : List LLined) (result : Result V E)
    → AllByRecursion (λ (l : LLined). GoodLaunch l.rec) log
    → IfOk result (λ w. items w ≡ written_log log) → OnOk result (launch_fault lines log ≡ None)
    → IfOk result (λ w. length (items w) ≤ MOST_BYTES)
few items lines log (Ok w) good is none = subst (λ rs. length rs ≤ MOST_BYTES) (sym is) (written_few lines log good none)
few items lines log (Err e) good is none = tt

pub returns-clause-few : goal.returns-clause-few
returns-clause-few c =
    let i = c.in_ok-input.input in
    few (λ w. w.items) i.lines i.records.items c.expand.result
    (recursion_from_All _ i.records.items c.in_ok-input.ensures.good) c.expand.ensures.written c.expand.ensures.faultless

pub returns-clause-fault : goal.returns-clause-fault
returns-clause-fault c line code is =
    let i = c.in_ok-input.input in
    let read = c.in_ok-input.ensures.spelled in
    inr (record {
      spelled = read.clean;
      log = i.records.items;
      reads = read.reads;
      fault = record { line = line; code = code };
      shown = ap (λ n. launch_fault n i.records.items) (sym read.count) ∙ c.expand.ensures.fault line code is;
      finding_is = refl;
    })
