-- What a proof unfolds to compute with values that are written out.
use Rattle.std.specs.Prelude.{⊤}
use Rattle.value_terms.specs.Values.{same_contribution, comes_before, count_in, counted, joined, extended, add, fold_in, same_value}

unfoldable pub values_computed : ⊤
unfolding same_contribution comes_before count_in counted joined extended add fold_in same_value
values_computed = tt
