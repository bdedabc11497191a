-- What a call gives that ends a row.
use Rattle.std.proofs.Common.{List, Option, Some, None, Result, Ok, Err, refl}
use Rattle.spy_words.specs.declared.fault.LineFault.{LineFault}
use Rattle.spy_words.specs.declared.fault.LineFault.TheVariants as faults
use Rattle.spy_words.specs.Faults.{Fails, Gives, map_ok, unless_met}
use Rattle.spy_grammar.specs.Reading.{Left, ended, met_at_end}

pub fails_so : (A : Type 0) (f : LineFault) → Fails {Y = A} f (Err f)
fails_so A faults.Word = refl
fails_so A faults.Form = refl
fails_so A faults.Number = refl
fails_so A faults.Order = refl
fails_so A faults.Memory = tt

met_gives : {A B : Type 0} (f : A → B) (met : Option LineFault) (x : A) → Gives (λ y. y) (unless_met met (f x)) (map_ok f (unless_met met x))
met_gives f None x = refl
met_gives {A = A} {B = B} f (Some e) x = fails_so B e

pub ended_gives : {A B : Type 0} (f : A → B) (left : Left) (x : A) → Gives (λ y. y) (ended (f x, left)) (map_ok f (ended (x, left)))
ended_gives f left x = met_gives f (met_at_end left.words left.met) x
