-- Places that compare as one are one.
use Rattle.std.proofs.Common.{◌≡◌, ℕ, ◌==◌, true, ◌&&◌}
use Rattle.std.proofs.lemmas.Bool.{and_parts, eqb-true}
use Rattle.semantics.specs.declared.places.Place.{Place}
use Rattle.semantics.specs.Points.{same_place}

of_parts : (s t p q f g : ℕ) → s ≡ t → p ≡ q → f ≡ g
    → (let x : Place = record { tree = s; point = p; field = f } in x) ≡ record { tree = t; point = q; field = g }
of_parts s t p q f g a b c = cc

pub same_place-true : (p q : Place) → same_place p q ≡ true → p ≡ q
same_place-true p q h =
    let tree = and_parts (p.tree == q.tree) ((p.point == q.point) && (p.field == q.field)) h in
    let rest = and_parts (p.point == q.point) (p.field == q.field) tree.1 in
    of_parts p.tree q.tree p.point q.point p.field q.field (eqb-true p.tree q.tree tree.0) (eqb-true p.point q.point rest.0)
    (eqb-true p.field q.field rest.1)
