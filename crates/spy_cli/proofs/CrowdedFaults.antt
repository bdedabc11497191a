-- The fault of a crowded log is what any command finds.
use Rattle.std.proofs.Common.{◌≡◌, ℕ, List, Some, ap, inr, subst, sym}
use Rattle.std.specs.Prelude.{Result, Ok, Err, IfOk}
use Rattle.std.specs.Option.{option_or}
use Rattle.vocabulary.specs.Prelude.{Fault, Lined, tables_of}
use Rattle.findings.specs.declared.finding.Finding.TheVariants as findings
use Rattle.semantics.specs.declared.command.Command.{Command}
use Rattle.semantics.specs.Faults.{declaration_fault, log_fault, map_fault, serial_fault}
use Rattle.outcomes.specs.Outcome.{IsFound, IsOutcome}
use Rattle.findings.specs.declared.finding.Finding.{Finding}
use Rattle.crowded_logs.specs.Crowded.{IsKeptAs}
use Rattle.log_reading.specs.declared.reading.Input.{Input}
use Rattle.log_input.specs.declared.input.CrowdedInput.{CrowdedInput}
use Rattle.log_input.specs.declared.input.LogInput.{LogInput}
use Rattle.log_input.specs.declared.input.LogInput.TheVariants.{Whole}
use Rattle.log_input.specs.Inputs.{IsInput, SpellsCrowded, SpellsWhole}

pub crowded_outcome : (bytes : List ℕ) (input : CrowdedInput) (s : SpellsCrowded bytes input) (fault : Fault)
    → declaration_fault input.lines s.log ≡ Some fault → (command : Command) → IsOutcome command bytes (findings.Fault fault.line fault.code)
unfolding log_fault
crowded_outcome bytes input s fault is command = inr (record {
  spelled = s.spelled.clean;
  log = s.log;
  reads = s.spelled.reads;
  found = subst (λ n. IsFound command n s.log (findings.Fault fault.line fault.code)) s.spelled.count
      (ap (λ o. option_or o (option_or (serial_fault (tables_of s.log)) (map_fault command (tables_of s.log)))) is);
})

pub crowded_found : {E : Type 0} (input : CrowdedInput) (kept : List Lined) (result : Result Fault E) → kept ≡ input.kept.items
    → IfOk result (λ fault. (log : List Lined) → IsKeptAs log kept input.frame → declaration_fault input.lines log ≡ Some fault)
    → IfOk result (λ fault. (bytes : List ℕ) → SpellsCrowded bytes input → (command : Command) → IsOutcome command bytes (findings.Fault fault.line fault.code))
crowded_found input kept (Ok fault) same told =
    λ bytes s command. crowded_outcome bytes input s fault (told s.log (subst (λ ls. IsKeptAs s.log ls input.frame) (sym same) s.told)) command
crowded_found input kept (Err e) same told = tt

-- What is found in the records of an input is found in the input.
pub whole_outcome : (command : Command) (bytes : List ℕ) (input : Input Lined) (f : Finding) → SpellsWhole bytes input
    → IsFound command input.lines input.records.items f → IsOutcome command bytes f
whole_outcome command bytes input f s found = inr (record {
  spelled = s.spelled.clean;
  log = input.records.items;
  reads = s.spelled.reads;
  found = subst (λ n. IsFound command n input.records.items f) s.spelled.count found;
})

pub whole_found : {E : Type 0} (command : Command) (input : Input Lined) (all : LogInput) (result : Result Finding E) → all ≡ Whole input
    → IfOk result (IsFound command input.lines input.records.items)
    → IfOk result (λ f. (bytes : List ℕ) → IsInput bytes all → IsOutcome command bytes f)
whole_found command input all (Ok f) same found = λ bytes is. whole_outcome command bytes input f (subst (IsInput bytes) same is) found
whole_found command input all (Err e) same found = tt

pub on_bytes : {E : Type 0} (command : Command) (bytes : List ℕ) (input : LogInput) (result : Result Finding E) → IsInput bytes input
    → IfOk result (λ f. (some : List ℕ) → IsInput some input → IsOutcome command some f) → IfOk result (IsOutcome command bytes)
on_bytes command bytes input (Ok f) is outcome = outcome bytes is
on_bytes command bytes input (Err e) is outcome = tt
