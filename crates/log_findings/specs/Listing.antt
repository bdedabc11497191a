-- The dependence of a pair of items.
use Rattle.vocabulary.specs.Prelude.{is_before, id_of, Tables}
use Rattle.semantics.specs.SerialOrder.{by_serial}
use Rattle.findings.specs.declared.finding.Dep.{Dep}
use Rattle.interference.specs.declared.pair.Pair.{Pair}

abbrev pub dependence_of : Tables → Pair → Dep
dependence_of t p = record {
  before = is_before p.kind;
  a = id_of t (by_serial t (p.a, p.b)).0;
  b =
      id_of t (by_serial t (p.a, p.b)).1;
  tree = p.place.tree;
  point = p.place.point;
  field = p.place.field;
}
