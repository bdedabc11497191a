-- Lists that are gone through, one element more.
use Rattle.std.proofs.Common.{◌≡◌, ℕ, ◌+◌, ◌<◌, ◌≤◌, List, [], ◌∷◌, ◌++◌, All, map, take, length, get_or, sym, ap, ◌∙◌, subst, arith}
use Rattle.std.proofs.lemmas.List.{map-append, take_all}
use Rattle.std.proofs.lemmas.List.Elements.{All-push}
use Rattle.list_lemmas.proofs.lemmas.Parts.{take_with}

pub all_more : {X : Type 0} (P : X → Type 0) (xs : List X) (i : ℕ) (x : X) → i < length xs → x ≡ get_or xs i x → All P (take i xs) → P x
    → All P (take (i + 1) xs)
all_more P xs i x lt is all here = subst (All P) (sym (take_with xs i x lt is)) (All-push P (take i xs) x all here)

pub all_taken : {X : Type 0} (P : X → Type 0) (xs : List X) (i : ℕ) → length xs ≤ i → All P (take i xs) → All P xs
all_taken P xs i le all = subst (All P) (take_all i xs le) all

pub map_grows : {X Y : Type 0} (f : X → Y) (xs : List X) (i : ℕ) (x : X) (y : Y) (now next : List Y) → i < length xs → x ≡ get_or xs i x
    → now ≡ map f (take i xs) → next ≡ now ++ y ∷ [] → y ≡ f x → next ≡ map f (take (i + 1) xs)
map_grows f xs i x y now next lt is so_far more own =
    more ∙ ap (λ ys. ys ++ y ∷ []) so_far ∙ ap (λ z. map f (take i xs) ++ z ∷ []) own
    ∙ sym (ap (map f) (take_with xs i x lt is) ∙ map-append f (take i xs) (x ∷ []))

-- Bounds that widen hold of what was within them.
pub wider : (low high from to : ℕ) (xs : List ℕ) → from ≤ low → high ≤ to → All (λ f. (low ≤ f) × (f ≤ high)) xs
    → All (λ f. (from ≤ f) × (f ≤ to)) xs
wider low high from to xs below above all = λ k d lt. let one = all k d lt in (omega (arith, below, one.0), omega (arith, above, one.1))

-- One element more, with what it stands for.
pub one_party : {X Y : Type 0} (f : X → Y) (P : X → Type 0) (now next : List X) (ys : List Y) (i : ℕ) (x : X) (y : Y) → i < length ys
    → y ≡ get_or ys i y → map f now ≡ take i ys → All P now → next ≡ now ++ x ∷ [] → f x ≡ y → P x → (map f next ≡ take (i + 1) ys)
    × All P next
one_party f P now next ys i x y lt is so_far all more same here = (
  ap (map f) more ∙ map-append f now (x ∷ []) ∙ ap (λ zs. zs ++ f x ∷ []) so_far ∙ ap (λ z. take i ys ++ z ∷ []) same
      ∙ sym (take_with ys i y lt is),
  subst (All P) (sym more) (All-push P now x all here),
)
