use Rattle.std.proofs.Common.{◌≡◌, false, subst}
use Rattle.vocabulary.specs.Prelude.{GoodLaunch}
use Rattle.semantics.specs.Launches.{exceeds_ids, names_no_launch}
use Rattle.launches.specs.Steps.{expanded_as}
use Rattle.launch_laws.proofs.lemmas.WrittenLogs.{good_tasks, ids_fit, good_base, good_reqs, none_lacking}
use Rattle.launches.proofs.step.write.Goals as goal

pub write_launch-requires : goal.write_launch-requires
write_launch-requires c =
    let a = c.in-Launch in
    record {
      id = good_tasks a.base a.colours (subst GoodLaunch a.is c.requires.good);
      ids = ids_fit a.base a.colours (subst (λ r. exceeds_ids r ≡ false) a.is c.requires.ids);
    }

pub write_reqs-requires : goal.write_reqs-requires
write_reqs-requires c =
    let a = c.in-Lreq in
    let e = expanded_as c.args.launches.now c.args.writing.now in
    let good = subst GoodLaunch a.is c.requires.good in
    record {
      id = good_base a.base a.tree a.part a.fields a.access a.atomic good;
      good = good_reqs a.base a.tree a.part a.fields a.access a.atomic good;
      fit = c.requires.fit;
      found = none_lacking e a.base a.tree a.part a.fields a.access a.atomic
          (subst (λ r. names_no_launch e r ≡ false) a.is c.requires.known);
    }
