-- One step of going back.
use Rattle.std.proofs.Common.{◌≡◌, ℕ, ◌<◌, ◌+◌, List, ◌∷◌, map, drop, get_or, length, sym, ap, ◌∙◌}
use Rattle.std.proofs.lemmas.List.{drop_more}
use Rattle.vocabulary.specs.Prelude.{Cell}
use Rattle.semantics.specs.Links.{Flow, flow, with_last, sources_of}
use Rattle.provenance.specs.declared.taking.Taken.{Taken}
use Rattle.provenance.specs.Listing.{step_of}

pub one_back : (earlier : List Taken) (i : ℕ) (x : Taken) (k : Flow) (c : Cell) (n : ℕ) → i < length earlier → x ≡ get_or earlier i x
    → flow x.step c ≡ k
    → sources_of (map step_of (drop i earlier)) c n ≡ with_last (step_of x) k c n (sources_of (map step_of (drop (i + 1) earlier)))
one_back earlier i x k c n lt is flows =
    ap (λ xs. sources_of (map step_of xs) c n) (drop_more earlier i x lt ∙ ap (λ (y : Taken). y ∷ drop (i + 1) earlier) (sym is))
    ∙ ap (λ k. with_last (step_of x) k c n (sources_of (map step_of (drop (i + 1) earlier)))) flows
