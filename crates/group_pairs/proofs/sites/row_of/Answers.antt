use Rattle.group_pairs.specs.Sites.{sharing}
use Rattle.group_pairs.proofs.Pairing.{map_grows}
use Rattle.group_pairs.proofs.sites.row_of.Goals as goal

pub loop-other-preserved : goal.loop-other-preserved
loop-other-preserved g c =
    map_grows (sharing c.args.forest.now c.args.site.now) c.args.sites.now c.loop-other.other-index c.other-item.result c.share_points.result c.loop-other.row c.push.new.self c.loop-other-test.true c.other-item.is c.loop-other.invariant c.in_ok-push.ensures c.share_points.ensures
