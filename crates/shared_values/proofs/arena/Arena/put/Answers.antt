use Rattle.std.proofs.Common.{[], ◌∷◌, ◌++◌, ap, sym, subst, ◌∙◌, ℕ, List, ◌≡◌, ◌<◌, length}
use Rattle.shared_values.specs.declared.node.Node.{Node}
use Rattle.shared_values.specs.Arenas.{value_at, built, made}
use Rattle.shared_values.proofs.lemmas.Building.{IsPut, is_put, put_noted}
use Rattle.shared_values.proofs.arena.Arena.put.Goals as goal

put : (c : goal.In_ok-push-2) → IsPut c.self.inside.nodes.items c.push.new.self.items c.args.self.now c.args.node
put c = is_put c.self.inside.nodes.items c.reserve.new.self.items c.push.new.self.items c.args.self.now c.args.node c.self.view_is
    c.self.invariant.fit c.requires c.in_ok-reserve.ensures.items c.in_ok-push.ensures.items

here : (c : goal.In_ok-push-2) → length c.as_slice-id.result.now ≡ length c.self.inside.nodes.items
here c = ap (length {A = Node}) c.as_slice-id.ensures.value

more : (c : goal.In_ok-push-2) → c.push-2.new.self.items ≡ c.self.inside.alike.items ++ length c.self.inside.alike.items ∷ []
more c = c.in_ok-push-2.ensures.items ∙ ap (λ (xs : List ℕ). c.reserve-2.new.self.items ++ length xs ∷ [])
    c.as_slice-itself.ensures.value ∙ ap (λ (xs : List ℕ). xs ++ length xs ∷ []) c.in_ok-reserve-2.ensures.items

pub invariant_of-self-2 : goal.invariant_of-self-2
invariant_of-self-2 c = put_noted c.self.inside.nodes.items c.push.new.self.items c.args.self.now c.args.node
    c.self.inside.alike.items c.push-2.new.self.items c.self.view_is c.self.invariant (put c) (more c)

pub returns-clause-known : goal.returns-clause-known
returns-clause-known c = subst (λ (i : ℕ). i < length (built [] c.push.new.self.items)) (sym (here c)) (put c).known

pub returns-clause-is : goal.returns-clause-is
returns-clause-is c = subst (λ (i : ℕ). value_at (built [] c.push.new.self.items) i ≡ made c.args.self.now c.args.node)
    (sym (here c)) (put c).is

pub returns-clause-kept : goal.returns-clause-kept
returns-clause-kept c = (put c).kept
