-- One more requirement, at the end of a list.
use Rattle.std.proofs.Common.{◌≡◌, ℕ, ◌+◌, ◌<◌, List, [], ◌∷◌, ◌++◌, refl, ap, ◌∙◌, Option, Some, None, map, flat_map, take, length, get_or}
use Rattle.std.specs.List.{filter_map, cons_option}
use Rattle.std.proofs.lemmas.List.{map-append, append-nil}
use Rattle.std.proofs.lemmas.List.Concat.{flat_map-append}
use Rattle.std.proofs.lemmas.List.Elements.{filter_map-append}
use Rattle.vocabulary.specs.Prelude.{stronger, Place, strongest, least_of}
use Rattle.item_uses.specs.Usages.{Usage}
use Rattle.item_uses.specs.Sharing.{shared_kind, kind_place, kind_between, place_between, lesser_place}
use Rattle.item_uses.proofs.Strongest.{strongest_append, last_free}
use Rattle.item_uses.proofs.Least.{least_append}
use Rattle.list_lemmas.proofs.lemmas.Parts.{take_with}

least_one : (o : Option Place) → least_of (cons_option o []) ≡ o
least_one None = refl
least_one (Some p) = refl

pub kind_of_each : (q : Usage) (rs : List Usage) (i : ℕ) (r : Usage) → i < length rs → r ≡ get_or rs i r
    → strongest (map (shared_kind q) (take (i + 1) rs)) ≡ stronger (strongest (map (shared_kind q) (take i rs))) (shared_kind q r)
kind_of_each q rs i r lt is =
    ap (λ us. strongest (map (shared_kind q) us)) (take_with rs i r lt is) ∙ ap strongest (map-append (shared_kind q) (take i rs) (r ∷ []))
    ∙ strongest_append (map (shared_kind q) (take i rs)) (shared_kind q r ∷ [])
    ∙ ap (stronger (strongest (map (shared_kind q) (take i rs)))) (last_free (shared_kind q r))

pub place_of_each : (q : Usage) (rs : List Usage) (i : ℕ) (r : Usage) → i < length rs → r ≡ get_or rs i r
    → least_of (filter_map (kind_place q) (take (i + 1) rs))
    ≡ lesser_place (least_of (filter_map (kind_place q) (take i rs))) (kind_place q r)
place_of_each q rs i r lt is =
    ap (λ us. least_of (filter_map (kind_place q) us)) (take_with rs i r lt is)
    ∙ ap least_of (filter_map-append (kind_place q) (take i rs) (r ∷ []))
    ∙ least_append (filter_map (kind_place q) (take i rs)) (cons_option (kind_place q r) [])
    ∙ ap (lesser_place (least_of (filter_map (kind_place q) (take i rs)))) (least_one (kind_place q r))

pub kind_of_all : (qs rs : List Usage) (i : ℕ) (q : Usage) → i < length qs → q ≡ get_or qs i q
    → kind_between (take (i + 1) qs) rs ≡ stronger (kind_between (take i qs) rs) (strongest (map (shared_kind q) rs))
kind_of_all qs rs i q lt is =
    ap (λ us. kind_between us rs) (take_with qs i q lt is)
    ∙ ap strongest (flat_map-append (λ q. map (shared_kind q) rs) (take i qs) (q ∷ []))
    ∙ strongest_append (flat_map (λ q. map (shared_kind q) rs) (take i qs)) (map (shared_kind q) rs ++ [])
    ∙ ap (λ ks. stronger (kind_between (take i qs) rs) (strongest ks)) (append-nil (map (shared_kind q) rs))

pub place_of_all : (qs rs : List Usage) (i : ℕ) (q : Usage) → i < length qs → q ≡ get_or qs i q
    → place_between (take (i + 1) qs) rs ≡ lesser_place (place_between (take i qs) rs) (least_of (filter_map (kind_place q) rs))
place_of_all qs rs i q lt is =
    ap (λ us. place_between us rs) (take_with qs i q lt is)
    ∙ ap least_of (flat_map-append (λ q. filter_map (kind_place q) rs) (take i qs) (q ∷ []))
    ∙ least_append (flat_map (λ q. filter_map (kind_place q) rs) (take i qs)) (filter_map (kind_place q) rs ++ [])
    ∙ ap (λ ps. lesser_place (place_between (take i qs) rs) (least_of ps)) (append-nil (filter_map (kind_place q) rs))
