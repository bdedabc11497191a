use Rattle.std.proofs.Common.{refl, sym, subst}
use Rattle.verdict.specs.Narrow.{Passes}
use Rattle.verdict.proofs.Narrowing.{sound_by}
use Rattle.verdict.proofs.declared.Declared.into_judged.Goals as goal

pub of-requires : goal.of-requires
of-requires g c κs =
    let passes = subst Passes (sym c.self.view_is) c.requires in (
      (refl, tt),
      (
        c.self.invariant,
        (sound_by c.self.inside.log c.is_declared.ensures c.self.invariant passes, c.count_reads-reads.ensures),
      ),
    )
