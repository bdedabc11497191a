use Rattle.std.proofs.Common.{All, refl, List, sym, subst}
use Rattle.vocabulary.specs.Prelude.{AreLines, Good, Lined}
use Rattle.verdict.specs.Narrow.{IsCutToFirsts}
use Rattle.verdict.proofs.Narrowing.{passes_by}
use Rattle.verdict.proofs.narrow.narrowed.Goals as goal

pub declare-requires : goal.declare-requires
declare-requires g c κs =
    let read = c.deref.ensures.value in
    let lines = c.args.source.now.lines in (
      (refl, tt),
      (
        c.in_ok-cut.ensures.good (subst (λ (log : List Lined). All (λ (l : Lined). Good l.rec) log) (sym read) c.requires.good),
        c.in_ok-cut.ensures.lines lines (subst (λ (log : List Lined). AreLines lines log) (sym read) c.requires.lines),
      ),
    )

pub returns-in-Ok : goal.returns-in-Ok
returns-in-Ok g c =
    let cut = c.in_ok-cut.cut.items in
    passes_by c.args.source.now.records.now.items cut c.in-Ok.log c.requires.good
    (subst (λ (log : List Lined). IsCutToFirsts log cut) c.deref.ensures.value c.in_ok-cut.ensures.cut) c.in-Ok.ensures.tables
