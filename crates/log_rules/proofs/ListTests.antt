-- Tests of the members of lists.
use Rattle.std.proofs.Common.{◌≡◌, ℕ, ◌<◌, nat_lt, zero, suc, get_or, Bool, true, false, ◌&&◌, ◌||◌, cond, List, [], ◌∷◌, ◌++◌, filter, take, length, find, Bor, Option, Some, None, is_some, refl, sym, ap, ◌∙◌, inl, inr, arith}
use Rattle.std.specs.List.{list_any, list_all}
use Rattle.std.specs.Option.{option_copied, option_map}
use Rattle.std.proofs.lemmas.Bool.{cases_Bool, cases_lt, le-ltb, lt-ltb, or_right}
use Rattle.std.proofs.lemmas.List.{append-nil, length-append, take-append-le, take_all}
use Rattle.std.proofs.lemmas.List.Elements.{All-filter, All-take, filter-append}
use Rattle.std.proofs.lemmas.List.Folds.{list_any-append, list_any_none}
use Rattle.std.proofs.lemmas.List.Sums.{AllPass-from_list_all, list_all-from_AllPass}
use Rattle.std.proofs.Math.Bool.{or-false}
use Rattle.vocabulary.specs.Prelude.{Lined, Record, records_of}

pub list_any-alike : {X : Type 0} (p q : X → Bool) (xs : List X) → ((x : X) → p x ≡ q x) → list_any p xs ≡ list_any q xs
list_any-alike p q [] e = refl
list_any-alike p q (x ∷ xs) e = rw (e x, list_any-alike p q xs e) refl

pub list_all-alike : {X : Type 0} (p q : X → Bool) (xs : List X) → ((x : X) → p x ≡ q x) → list_all p xs ≡ list_all q xs
list_all-alike p q [] e = refl
list_all-alike p q (x ∷ xs) e = rw (e x, list_all-alike p q xs e) refl

pub list_any-false : {X : Type 0} (xs : List X) → list_any (λ x. false) xs ≡ false
list_any-false xs = list_any_none (λ x. false) xs (λ _ _ _. refl)

pub list_any-and : {X : Type 0} (b : Bool) (p : X → Bool) (xs : List X) → list_any (λ x. b && p x) xs ≡ (b && list_any p xs)
list_any-and true p xs = refl
list_any-and false p xs = list_any-false xs

crossed : (a b c d : Bool) → ((a || b) || (c || d)) ≡ ((a || c) || (b || d))
crossed true b c d = refl
crossed false true true d = refl
crossed false true false d = refl
crossed false false true d = refl
crossed false false false d = refl

pub list_any-or : {X : Type 0} (p q : X → Bool) (xs : List X) → list_any (λ x. p x || q x) xs ≡ (list_any p xs || list_any q xs)
list_any-or p q [] = refl
list_any-or p q (x ∷ xs) = rw (list_any-or p q xs) (crossed (p x) (q x) (list_any p xs) (list_any q xs))

pub list_any-list_any : {X Y : Type 0} (R : X → Y → Bool) (xs : List X) (ys : List Y)
    → list_any (λ x. list_any (R x) ys) xs ≡ list_any (λ y. list_any (λ x. R x y) xs) ys
list_any-list_any R [] ys = sym (list_any-false ys)
list_any-list_any R (x ∷ xs) ys = rw (list_any-list_any R xs ys) (sym (list_any-or (R x) (λ y. list_any (λ z. R z y) xs) ys))

pub is_some-find : {X : Type 0} (p : X → Bool) (xs : List X) → is_some (find p xs) ≡ list_any p xs
is_some-find p [] = refl
is_some-find p (x ∷ xs) =
    elim (cases_Bool (p x)) [
      | inl hit ↦ ap (λ b. is_some (cond b (Some x) (find p xs))) hit ∙ sym (ap (λ b. b || list_any p xs) hit)
      | inr miss ↦ ap (λ b. is_some (cond b (Some x) (find p xs))) miss ∙ is_some-find p xs ∙ sym (ap (λ b. b || list_any p xs) miss)
    ]

is_some-map : {X Y : Type 0} (f : X → Y) (o : Option X) → is_some (option_map f o) ≡ is_some o
is_some-map f None = refl
is_some-map f (Some x) = refl

pub is_some-find_map : {X Y : Type 0} (f : X → Y) (p : X → Bool) (xs : List X) → is_some (option_map f (find p xs)) ≡ list_any p xs
is_some-find_map f p xs = is_some-map f (find p xs) ∙ is_some-find p xs

pub is_some-behind : {X : Type 0} (o : Option (Bor X)) → is_some o ≡ is_some (option_copied o)
is_some-behind None = refl
is_some-behind (Some b) = refl

-- Whether one of the first so many passes, with one element more.
pub any_take-snoc : {X : Type 0} (p : X → Bool) (m : ℕ) (xs : List X) (x : X)
    → list_any p (take m (xs ++ x ∷ [])) ≡ (list_any p (take m xs) || (nat_lt (length xs) m && p x))
any_take-snoc {X} p m xs x = elim (cases_lt (length xs) m) [
  | inl lt ↦
      ap (list_any p) (take_all m (xs ++ x ∷ []) (omega (arith, lt, length-append xs (x ∷ []))))
      ∙ list_any-append p xs (x ∷ [])
      ∙ ap (λ b. list_any p xs || b) (or-false (p x))
      ∙ ap (λ (ys : List X). list_any p ys || p x) (sym (take_all m xs (omega (arith, lt))))
      ∙ sym (ap (λ b. list_any p (take m xs) || (b && p x)) (lt-ltb (length xs) m lt))
  | inr le ↦
      ap (list_any p) (take-append-le m xs (x ∷ []) le)
      ∙ sym (or-false (list_any p (take m xs)))
      ∙ sym (ap (λ b. list_any p (take m xs) || (b && p x)) (le-ltb (length xs) m le))
]

-- The same among those that pass another test.
pub any_few-snoc : {X : Type 0} (p q : X → Bool) (m : ℕ) (xs : List X) (x : X) → list_any p (take m (filter q (xs ++ x ∷ [])))
    ≡ (list_any p (take m (filter q xs)) || (q x && (nat_lt (length (filter q xs)) m && p x)))
any_few-snoc {X} p q m xs x = ap (λ (ys : List X). list_any p (take m ys)) (filter-append q xs (x ∷ [])) ∙ by (q x)
  where
    by : (b : Bool) → list_any p (take m (filter q xs ++ cond b (x ∷ []) []))
        ≡ (list_any p (take m (filter q xs)) || (b && (nat_lt (length (filter q xs)) m && p x)))
    by true = any_take-snoc p m (filter q xs) x
    by false =
        ap (λ (ys : List X). list_any p (take m ys)) (append-nil (filter q xs)) ∙ sym (or-false (list_any p (take m (filter q xs))))

-- What all elements pass the first few of some of them pass.
pub all_few : {X : Type 0} (p q : X → Bool) (m : ℕ) (xs : List X) → list_all p xs ≡ true → list_all p (take m (filter q xs)) ≡ true
all_few p q m xs all = list_all-from_AllPass p (take m (filter q xs))
    (All-take (λ x. p x ≡ true) m (filter q xs) (All-filter q (λ x. p x ≡ true) xs (AllPass-from_list_all p xs all)))

-- One record settles whether some record passes.
pub any_record : (p : Record → Bool) (log : List Lined) (i : ℕ) (d : Lined) → i < length log → p (get_or log i d).rec ≡ true
    → list_any p (records_of log) ≡ true
any_record p [] i d lt h = absurd (omega (arith, lt))
any_record p (l ∷ ls) zero d lt h = ap (λ b. b || list_any p (records_of ls)) h
any_record p (l ∷ ls) (suc i) d lt h =
    or_right (p l.rec) (list_any p (records_of ls)) (any_record p ls i d (omega (arith, lt)) h)
