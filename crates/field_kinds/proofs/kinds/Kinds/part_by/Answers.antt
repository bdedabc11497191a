use Rattle.std.proofs.Common.{IfSome, subst}
use Rattle.vocabulary.specs.Prelude.{is_in}
use Rattle.partings.specs.Parted.{IsParted}
use Rattle.field_kinds.specs.Places.{ArePlaces}
use Rattle.field_kinds.proofs.Telling.{kinds_more}
use Rattle.field_kinds.proofs.kinds.Kinds.part_by.Goals as goal

pub returns-clause-kinds : goal.returns-clause-kinds
returns-clause-kinds c lists kinds done =
    let list = c.args.list.now in
    let fields = c.args.fields.now in
    let old = c.args.self.now.numbers.items in
    let new = c.part.new.numbers.items in
    let are = subst (λ r. IfSome r (λ places. ArePlaces list fields places.items)) c.in-Some.is c.in_ok-places.ensures in
    let parted = subst (λ places. IsParted (is_in places) old new) c.deref.ensures.value c.in_ok-part.ensures.parted in
    kinds_more lists list fields c.in-Some.places.items old new c.requires.ascend kinds are parted
