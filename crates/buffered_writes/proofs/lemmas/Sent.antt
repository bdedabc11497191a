-- What is sent piece by piece, and what is sent of it where a write fails.
use Rattle.std.proofs.Common.{◌≡◌, ◌≢◌, ℕ, List, [], ◌∷◌, ◌++◌, length, Option, refl, ap, sym, ◌∙◌, subst, append_assoc, append-nil, arith}
use Rattle.std.specs.Io.KnownBytes.{Appends}
use Rattle.std.proofs.KnownBytes.{Appends-nil, Appends-trans}
use Rattle.spy_io.specs.Causes.{Grows}
use Rattle.buffered_writes.specs.Sending.{IsSent}

more_than_some : (xs more : List ℕ) → xs ≢ [] → xs ++ more ≢ []
more_than_some [] more some = absurd (some refl)
more_than_some (x ∷ xs) more some = λ none. let few = ap length none in absurd (omega (arith, few))

-- ---- what is sent

-- All is kept back.
pub all_kept : (known : Option (List ℕ)) (text kept : List ℕ) → kept ≡ text → IsSent known known text kept
all_kept known text kept is = record { sent = []; parts = sym is; grown = Appends-nil known }

-- One piece more was put.
pub sent_more : (start before now : Option (List ℕ)) (text kept piece rest : List ℕ) → IsSent start before text kept
    → IsSent before now (kept ++ piece) rest → IsSent start now (text ++ piece) rest
sent_more start before now text kept piece rest so_far then = record {
  sent = so_far.sent ++ then.sent;
  parts = ap (λ x. x ++ piece) so_far.parts ∙ append_assoc so_far.sent kept piece
      ∙ ap (λ x. so_far.sent ++ x) then.parts ∙ sym (append_assoc so_far.sent then.sent rest);
  grown = Appends-trans start before now so_far.sent then.sent so_far.grown then.grown;
}

-- What was kept back was written.
pub sent_all : (start before now : Option (List ℕ)) (text kept : List ℕ) → IsSent start before text kept → Appends before now kept
    → Appends start now text
sent_all start before now text kept so_far then =
    subst (Appends start now) (sym so_far.parts) (Appends-trans start before now so_far.sent kept so_far.grown then)

-- What was kept back was written, and then the piece is kept back, or was written too.
pub emptied_first : (before now : Option (List ℕ)) (kept piece rest : List ℕ) → Appends before now kept → rest ≡ piece
    → IsSent before now (kept ++ piece) rest
emptied_first before now kept piece rest all is =
    record { sent = kept; parts = ap (λ x. kept ++ x) (sym is); grown = all }

pub written_through : (before mid now : Option (List ℕ)) (kept piece rest : List ℕ) → Appends before mid kept → Appends mid now piece
    → rest ≡ [] → IsSent before now (kept ++ piece) rest
written_through before mid now kept piece rest all more none = record {
  sent = kept ++ piece;
  parts = sym (ap (λ x. kept ++ piece ++ x) none ∙ append-nil (kept ++ piece));
  grown = Appends-trans before mid now kept piece all more;
}

-- ---- what is sent where a write fails

-- A part of a text is one of a longer text.
pub part_longer : (before now : Option (List ℕ)) (text more : List ℕ) → Grows before now text → Grows before now (text ++ more)
part_longer before now text more part = record {
  front = part.front;
  back = part.back ++ more;
  parts = ap (λ x. x ++ more) part.parts ∙ append_assoc part.front part.back more;
  more = more_than_some part.back more part.more;
  grown = part.grown;
}

-- What was written before is in front of the part.
pub part_behind : (start before now : Option (List ℕ)) (sent text : List ℕ) → Appends start before sent → Grows before now text
    → Grows start now (sent ++ text)
part_behind start before now sent text first part = record {
  front = sent ++ part.front;
  back = part.back;
  parts = ap (λ x. sent ++ x) part.parts ∙ sym (append_assoc sent part.front part.back);
  more = part.more;
  grown = Appends-trans start before now sent part.front first part.grown;
}

-- So much of the text was sent, and then a write of what was kept back and of more failed.
pub part_more : (start before now : Option (List ℕ)) (text kept piece : List ℕ) → IsSent start before text kept
    → Grows before now (kept ++ piece) → Grows start now (text ++ piece)
part_more start before now text kept piece so_far part =
    subst (Grows start now) (sym (ap (λ x. x ++ piece) so_far.parts ∙ append_assoc so_far.sent kept piece))
    (part_behind start before now so_far.sent (kept ++ piece) so_far.grown part)

-- The same of a write of what was kept back alone.
pub part_kept : (start before now : Option (List ℕ)) (text kept : List ℕ) → IsSent start before text kept → Grows before now kept
    → Grows start now text
part_kept start before now text kept so_far part =
    subst (Grows start now) (sym so_far.parts) (part_behind start before now so_far.sent kept so_far.grown part)
