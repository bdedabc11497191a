use Rattle.std.proofs.Common.{◌≡◌, ◌≢◌, ℕ, List, [], ◌++◌, Option, refl, ap, sym, ◌∙◌, append_assoc, take, drop, length, ◌+◌}
use Rattle.std.specs.Io.KnownBytes.{Consumes, Appends}
use Rattle.std.proofs.KnownBytes.{Appends-nil, Appends-trans, Consumes-trans}
use Rattle.std.proofs.lemmas.List.{take-append-drop, drop-drop, take_at}

-- std's law under a name that `using` takes
pub consumes_both : (old mid new : Option (List ℕ)) (a b : List ℕ) → Consumes old mid a → Consumes mid new b → Consumes old new (a ++ b)
consumes_both old mid new a b p q = Consumes-trans old mid new a b p q

-- the bytes held grew by those of `bytes` that come before the rest
pub record IsWritten (old new : Option (List ℕ)) (bytes rest : List ℕ) : Type 0 where
  pub front : List ℕ
  pub parts : bytes ≡ front ++ rest
  pub grown : Appends old new front

pub written_none : (known : Option (List ℕ)) (bytes : List ℕ) → IsWritten known known bytes bytes
written_none known bytes = record { front = []; parts = refl; grown = Appends-nil known }

-- one more write, of the first n bytes of what is left
pub written_more : (old mid new : Option (List ℕ)) (bytes rest after : List ℕ) (n : ℕ) → IsWritten old mid bytes rest
    → Appends mid new (take n rest) → after ≡ drop n rest → IsWritten old new bytes after
written_more old mid new bytes rest after n w more left = record {
  front = w.front ++ take n rest;
  parts = w.parts ∙ ap (λ x. w.front ++ x) (sym (take-append-drop n rest)) ∙ sym (append_assoc w.front (take n rest) (drop n rest))
      ∙ ap (λ x. w.front ++ take n rest ++ x) (sym left);
  grown = Appends-trans old mid new w.front (take n rest) w.grown more;
}

-- the first n bytes after `at` stand in front of what is kept, and the rest comes after them
pub first_given : (at n : ℕ) (bytes given kept : List ℕ) → given ≡ take n (drop at bytes) → length given ≡ n
    → drop at bytes ≡ take n (given ++ kept) ++ drop (at + n) bytes
first_given at n bytes given kept is many =
    sym (take-append-drop n (drop at bytes)) ∙ ap (λ w. w ++ drop n (drop at bytes)) (sym is ∙ sym (take_at given kept n many))
    ∙ ap (λ w. take n (given ++ kept) ++ w) (drop-drop n at bytes)
