use Rattle.std.proofs.Common.{◌&&◌, ◌==◌, sym, ◌∙◌}
use Rattle.std.proofs.lemmas.Slice.Eq.{slice_eq-Decides}
use Rattle.shared_values.specs.declared.node.Entry.{Entry}
use Rattle.shared_values.proofs.lemmas.Permuted.{entry_decides, both_sorted}
use Rattle.shared_values.proofs.suffix.same_entries.Goals as goal

pub returns : goal.returns
returns c = λ same.
    let decided = slice_eq-Decides {E = λ (a b : Entry). a.task == b.task && (a.req == b.req && a.n == b.n)} entry_decides
    c.as_slice.result.now c.as_slice-2.result.now c.eq.result c.eq.ensures in
    both_sorted _ _ c.sort.new.self.items c.sort-2.new.self.items c.sort.ensures.permutation c.sort-2.ensures.permutation
    (sym c.as_slice.ensures.value ∙ decided.0 same ∙ c.as_slice-2.ensures.value)
