-- What folding a value in does to another.
use Rattle.std.specs.Prelude.{◌≡◌, ℕ, [], ◌∷◌}
use Rattle.value_terms.specs.declared.terms.Base.TheVariants.{Raw, Ident}
use Rattle.value_terms.specs.declared.value.Folding.{Folding}
use Rattle.value_terms.specs.declared.value.Folding.TheVariants.{Nothing, Adds, Spoils}
use Rattle.value_terms.specs.Values.{Value, plain, fold_in}

-- The value is the identity, or the identity with one group of the operator, or makes every value raw.
abbrev pub IsFolding : ℕ → Value → Folding → Type 0
IsFolding op v Nothing = v ≡ plain Ident
IsFolding op v (Adds bag) = v ≡ record { base = Ident; groups = record { op = op; bag = bag.now } ∷ [] }
IsFolding op v Spoils = (w : Value) → fold_in w op v ≡ plain Raw
