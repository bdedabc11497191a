use Rattle.worked_calls.proofs.replay_tests.versions_of.Goals as goal

pub returns : goal.returns
returns g c = let all = c.in_ok-versions.ensures in record { each = all.each; value = λ item p lt at. all.value item p lt }
