-- A differing read, as a replay tells it.
use Rattle.std.proofs.Common.{◌≡◌, ℕ, refl, subst, Ok, Err}
use Rattle.std.specs.Prelude.{Result, IfErr}
use Rattle.vocabulary.specs.Prelude.{Value, Tables}
use Rattle.findings.specs.declared.finding.Finding.TheVariants.{Differ as Differing}
use Rattle.replay.specs.Ends.{IsEndOf}
use Rattle.replay.specs.declared.ends.Reads.{Reads}
use Rattle.replay.specs.declared.ends.ReplayEnd.{ReplayEnd}
use Rattle.replay.specs.declared.ends.ReplayEnd.TheVariants.{Differ}

pub told : (t : Tables) (result : Result Reads ReplayEnd) (end : ReplayEnd) (task number point field : ℕ) (got want : Value)
    → IfErr result (IsEndOf t) → result ≡ Err end → end ≡ Differ task number point field got want
    → IsEndOf t (Differ task number point field got want)
told t (Ok reads) end task number point field got want h is same = absurd (cc is)
told t (Err e) end task number point field got want h is same = let here : e ≡ end = cc in subst (IsEndOf t) same (subst (IsEndOf t) here h)

pub same_reads : {task task' number number' point point' field field' : ℕ} {got got' want want' : Value} → task ≡ task' → number ≡ number'
    → point ≡ point' → field ≡ field' → got ≡ got' → want ≡ want'
    → Differing task number point field got want ≡ Differing task' number' point' field' got' want'
same_reads a b c d e f = rw (a, b, c, d, e, f) refl
