-- Words, joined by a byte that is below all of theirs, and cut there again.
use Rattle.std.proofs.Common.{◌≡◌, ◌≢◌, ℕ, ◌-◌, ◌+◌, zero, suc, ◌<◌, ◌≤◌, ltb, eqb, true, false, List, [], ◌∷◌, ◌++◌, length, take, drop, get_or, Some, None, refl, sym, ap, ◌∙◌, arith, append-nil, add-one}
use Rattle.std.specs.List.{join_with_byte, list_all, AllByRecursion}
use Rattle.std.proofs.lemmas.Bool.{eq-eqb, eqb-true, ne_eqb, false_from_ne_true}
use Rattle.std.proofs.lemmas.Bool.Decides.{nat_tests}
use Rattle.std.proofs.lemmas.List.Elements.{All-from_recursion}
use Rattle.std.proofs.lemmas.List.Splits.{slice_split_none, slice_split_at, slice_split-cons_yes, slice_split-cons_no, join_with_byte-slice_split, length-slice_split}
use Rattle.std.proofs.lemmas.List.{take_all, length-drop}
use Rattle.std.specs.List.{onto_first}
use Rattle.spy_words.specs.Reading.{IsFirstPlace}
use Rattle.spy_words.specs.Classes.{follow}
use Rattle.spy_words.specs.Reading.{parts}

-- each byte is above a floor
abbrev pub Above : ℕ → List ℕ → Type 0
Above m w = AllByRecursion (λ b. m < b) w

pub above_lower : (m n : ℕ) (w : List ℕ) → m ≤ n → Above n w → Above m w
above_lower m n [] le h = tt
above_lower m n (b ∷ w) le h = (omega (arith, h.0), above_lower m n w le h.1)

pub all_lower : (m n : ℕ) (ws : List (List ℕ)) → m ≤ n → AllByRecursion (Above n) ws → AllByRecursion (Above m) ws
all_lower m n [] le h = tt
all_lower m n (w ∷ ws) le h = (above_lower m n w le h.0, all_lower m n ws le h.1)

pub above_append : (m : ℕ) (v w : List ℕ) → Above m v → Above m w → Above m (v ++ w)
above_append m [] w p q = q
above_append m (b ∷ v) w p q = (p.0, above_append m v w p.1 q)

pub above_join : (m c : ℕ) (ws : List (List ℕ)) → m < c → AllByRecursion (Above m) ws → Above m (join_with_byte c ws)
above_join m c [] lt h = tt
above_join m c (w ∷ []) lt h = h.0
above_join m c (w ∷ v ∷ vs) lt h = above_append m w (c ∷ join_with_byte c (v ∷ vs)) h.0 (lt, above_join m c (v ∷ vs) lt h.1)

pub above_all : (m : ℕ) (w : List ℕ) → list_all (λ b. ltb m b) w ≡ true → Above m w
above_all m [] e = tt
above_all m (b ∷ w) e =
    let rest : list_all (λ b. ltb m b) w ≡ true = grind (arith, nat_tests) in
    (grind (arith, nat_tests), above_all m w rest)

-- no byte is this one
abbrev pub Lacks : ℕ → List ℕ → Type 0
Lacks c w = AllByRecursion (λ b. eqb b c ≡ false) w

pub lacks : (c : ℕ) (w : List ℕ) → Above c w → Lacks c w
lacks c [] h = tt
lacks c (b ∷ w) h = (ne_eqb b c (λ e. absurd (omega (arith, h.0, e))), lacks c w h.1)

all_lack : (c : ℕ) (ws : List (List ℕ)) → AllByRecursion (Above c) ws → AllByRecursion (Lacks c) ws
all_lack c [] h = tt
all_lack c (w ∷ ws) h = (lacks c w h.0, all_lack c ws h.1)

pub lacks_append : (c : ℕ) (v w : List ℕ) → Lacks c v → Lacks c w → Lacks c (v ++ w)
lacks_append c [] w p q = q
lacks_append c (b ∷ v) w p q = (p.0, lacks_append c v w p.1 q)

pub lacks_join : (c d : ℕ) (ws : List (List ℕ)) → eqb d c ≡ false → AllByRecursion (Lacks c) ws → Lacks c (join_with_byte d ws)
lacks_join c d [] ne h = tt
lacks_join c d (w ∷ []) ne h = h.0
lacks_join c d (w ∷ v ∷ vs) ne h = lacks_append c w (d ∷ join_with_byte d (v ∷ vs)) h.0 (ne, lacks_join c d (v ∷ vs) ne h.1)

pub parts_between : (c : ℕ) (w : List ℕ) (ws : List (List ℕ)) → AllByRecursion (Lacks c) (w ∷ ws)
    → parts c (join_with_byte c (w ∷ ws)) ≡ w ∷ ws
parts_between c w [] h = slice_split_none (λ b. eqb b c) w (All-from_recursion _ w h.0)
parts_between c w (v ∷ vs) h =
    slice_split_at (λ b. eqb b c) w c (join_with_byte c (v ∷ vs)) (All-from_recursion _ w h.0) (eq-eqb c c refl)
    ∙ ap (λ (xs : List (List ℕ)). w ∷ xs) (parts_between c v vs h.1)

pub parts_join : (c : ℕ) (w : List ℕ) (ws : List (List ℕ)) → AllByRecursion (Above c) (w ∷ ws)
    → parts c (join_with_byte c (w ∷ ws)) ≡ w ∷ ws
parts_join c w ws h = parts_between c w ws (all_lack c (w ∷ ws) h)

pub join_parts : (c : ℕ) (w : List ℕ) (ws : List (List ℕ)) → parts c w ≡ ws → w ≡ join_with_byte c ws
join_parts c w ws e = sym (join_with_byte-slice_split c w) ∙ ap (join_with_byte c) e

pub parts_some : (c : ℕ) (w : List ℕ) → parts c w ≢ []
parts_some c w e = let n = length-slice_split (λ b. eqb b c) w in let z = ap length e in absurd (omega arith)

pub join_follow : (c : ℕ) (w : List ℕ) (ws : List (List ℕ)) → join_with_byte c (w ∷ ws) ≡ w ++ follow c ws
join_follow c w [] = sym (append-nil w)
join_follow c w (v ∷ vs) = ap (λ (x : List ℕ). w ++ c ∷ x) (join_follow c v vs)

first_at : (c at : ℕ) (bs : List ℕ) → at < length bs → ((j : ℕ) → j < at → eqb (get_or bs j 0) c ≡ true → ⊥) → eqb (get_or bs at 0) c ≡ true
    → parts c bs ≡ take at bs ∷ parts c (drop (suc at) bs)
first_at c at [] lt h e = absurd (omega arith)
first_at c zero (b ∷ bs) lt h e = slice_split-cons_yes (λ x. eqb x c) b bs e
first_at c (suc at) (b ∷ bs) lt h e =
    slice_split-cons_no (λ x. eqb x c) b bs (false_from_ne_true (eqb b c) (h 0 (omega arith)))
    ∙ ap (onto_first b) (first_at c at bs (omega arith) (λ j lt f. h (suc j) (omega arith) f) e)

none_at : (c : ℕ) (bs : List ℕ) → ((j : ℕ) → j < length bs → eqb (get_or bs j 0) c ≡ true → ⊥) → parts c bs ≡ bs ∷ []
none_at c [] h = refl
none_at c (b ∷ bs) h =
    slice_split-cons_no (λ x. eqb x c) b bs (false_from_ne_true (eqb b c) (h 0 (omega arith)))
    ∙ ap (onto_first b) (none_at c bs (λ j lt f. h (suc j) (omega arith) f))

-- the first piece, and the pieces of the rest
pub first_piece : (c at : ℕ) (bs : List ℕ) → IsFirstPlace c bs (Some at)
    → parts c bs ≡ take at bs ∷ parts c (take (length bs - (at + 1)) (drop (at + 1) bs))
first_piece c at bs first =
    let rest : take (length bs - (at + 1)) (drop (at + 1) bs) ≡ drop (at + 1) bs =
    take_all _ (drop (at + 1) bs) (omega (arith, length-drop (at + 1) bs)) in
    rw (rest, add-one) (first_at c at bs first.0 (λ j lt e. first.2 j lt (eqb-true (get_or bs j 0) c e)) (eq-eqb (get_or bs at 0) c first.1))

pub only_piece : (c : ℕ) (bs : List ℕ) → IsFirstPlace c bs None → parts c bs ≡ bs ∷ []
only_piece c bs none = none_at c bs (λ j lt e. none j lt (eqb-true (get_or bs j 0) c e))
