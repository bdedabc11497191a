-- Records printed one after another.
use Rattle.std.proofs.Common.{◌≡◌, ℕ, zero, suc, ◌+◌, List, [], ◌∷◌, ◌++◌, take, refl, sym, ap, ◌∙◌, subst, arith, Some, slice_get}
use Rattle.vocabulary.specs.Prelude.{Lined, Good, spelling, records_of, text_of}
use Rattle.std.specs.List.{AllByRecursion}
use Rattle.std.proofs.lemmas.List.{append_assoc}

-- The items up to one are those before it and itself.
pub one_more : {A : Type 0} (lines : List A) (k : ℕ) (line : A) → slice_get lines k ≡ Some line
    → take (k + 1) lines ≡ take k lines ++ line ∷ []
one_more [] k line e = absurd cc
one_more (l ∷ lines) zero line e = let same : l ≡ line = cc in ap (λ x. x ∷ []) same
one_more (l ∷ lines) (suc k) line e =
    let next : suc (k + 1) ≡ suc k + 1 = omega (arith) in
    subst (λ n. take n (l ∷ lines) ≡ l ∷ take k lines ++ line ∷ []) next (ap (λ ls. l ∷ ls) (one_more lines k line e))

-- One record more, printed.
pub text_more : (log : List Lined) (l : Lined)
    → text_of (records_of (log ++ l ∷ [])) ≡ text_of (records_of log) ++ text_of (records_of (l ∷ []))
text_more [] l = refl
text_more (m ∷ log) l = ap (λ t. spelling m.rec ++ 10 ∷ t) (text_more log l)
    ∙ sym (append_assoc (spelling m.rec) (10 ∷ text_of (records_of log)) (text_of (records_of (l ∷ []))))

pub good_at : (log : List Lined) (k : ℕ) (l : Lined) → slice_get log k ≡ Some l → AllByRecursion Good (records_of log) → Good l.rec
good_at [] k l e good = absurd cc
good_at (m ∷ log) zero l e good = let same : m ≡ l = cc in subst (λ (n : Lined). Good n.rec) same good.0
good_at (m ∷ log) (suc k) l e good = good_at log k l e good.1
