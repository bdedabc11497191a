use Rattle.licences.proofs.refusal.first_doubt.Given as goal

-- What was passed over says nothing.
abbrev pub invariant-loop-one : goal.invariant-loop-one
invariant-loop-one g l = Unit {0}
