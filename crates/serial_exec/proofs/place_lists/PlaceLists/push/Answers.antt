use Rattle.std.proofs.Common.{◌++◌, ◌∷◌, [], ap, sym, ◌∙◌, IsSome, subst, refl, cond}
use Rattle.std.specs.HashMap.{get}
use Rattle.std.specs.Option.{option_map_or, option_copied_mut}
use Rattle.vocabulary.specs.Prelude.{same_place}
use Rattle.serial_exec.proofs.Noting.{list-put}
use Rattle.serial_exec.proofs.place_lists.PlaceLists.push.Goals as goal

pub returns-in-Some : goal.returns-in-Some
returns-in-Some g c = λ p.
    let old = get same_place c.args.self.now.lists in
    let found = sym (c.get_mut.ensures.value) ∙ ap option_copied_mut c.in-Some.is in
    let some : IsSome (old c.args.place) = subst (λ o. IsSome o) (sym found) refl in
    list-put (λ v. v.items) old (get same_place (c.get_mut.follows.lender c.push.new.self) p) c.args.place p c.push.new.self c.args.x
    (((c.get_mut.follows.holds c.push.new.self).3 some).0 p)
    (c.in_ok-push.ensures.items ∙ ap (λ o. option_map_or (λ v. v.items) o [] ++ c.args.x ∷ []) (sym found))

pub returns : goal.returns
returns g c = λ p.
    let empty = get same_place c.get_mut.follows.lender-at-none in
    let old = get same_place c.args.self.now.lists in
    let none = ap (λ m. get same_place m c.args.place) c.get_mut.follows.holds-at-none ∙ sym c.get_mut.ensures.value
    ∙ ap option_copied_mut c.in_default.is in
    list-put (λ v. v.items) empty (get same_place c.insert.new.self p) c.args.place p c.push-2.new.self c.args.x
    (c.in_ok-insert.ensures.updates.0 p)
    (c.in_ok-push-2.ensures.items ∙ ap (λ xs. xs ++ c.args.x ∷ []) (c.in_ok-list.ensures.items
    ∙ ap (λ o. option_map_or (λ v. v.items) o []) (sym none)))
    ∙ ap (λ m. option_map_or (λ v. v.items) (get same_place m p) []
    ++ cond (same_place c.args.place p) (c.args.x ∷ []) []) c.get_mut.follows.holds-at-none
