-- The dependences of a log, one after another.
use Rattle.std.proofs.Common.{◌≡◌, ℕ, ◌+◌, Bool, not, List, [], ◌∷◌, ◌++◌, length, map, refl, sym, ap, ◌∙◌, subst, arith, Contains, Some, suc, count_by}
use Rattle.std.specs.List.{filter_map, cons_option}
use Rattle.std.specs.Prelude.{option_map}
use Rattle.std.proofs.lemmas.List.Sums.{length-filter}
use Rattle.std.proofs.lemmas.List.Filters.{length-filter_both}
use Rattle.std.proofs.lemmas.List.{append_assoc}
use Rattle.vocabulary.specs.Prelude.{Tables, least_place}
use Rattle.semantics.specs.Kinds as kinds
use Rattle.outcomes.specs.Outcome.{dependence_at, dependences}
use Rattle.findings.specs.declared.finding.Dep.{Dep}
use Rattle.interference.specs.declared.pair.Pair.{Pair}
use Rattle.interference.specs.Pairing.{pair_of, all_pairs}
use Rattle.list_lemmas.proofs.lemmas.Contained.{map_member, Contains-here, Contains-later}
use Rattle.log_findings.specs.Listing.{dependence_of}

module _ (t : Tables) (place : (p : Pair) → Contains (all_pairs t) p → least_place t p.a p.b ≡ Some p.place) where
  listed_from : (ps : List (ℕ × ℕ)) → ((p : ℕ × ℕ) → Contains ps p → Contains (kinds.pairs t) p)
      → map (dependence_of t) (map (pair_of t) ps) ≡ filter_map (λ (p : ℕ × ℕ). option_map (dependence_at t p) (least_place t p.0 p.1)) ps
  listed_from [] within = refl
  listed_from (p ∷ ps) within =
      let here : Contains (all_pairs t) (pair_of t p) =
      map_member (pair_of t) (kinds.pairs t) p (within p (Contains-here ps)) in
      let first : least_place t p.0 p.1 ≡ Some (pair_of t p).place = place (pair_of t p) here in
      ap (λ ds. dependence_of t (pair_of t p) ∷ ds) (listed_from ps (λ q m. within q (Contains-later ps m)))
      ∙ sym (ap (λ o. cons_option (option_map (dependence_at t p) o)
      (filter_map (λ (q : ℕ × ℕ). option_map (dependence_at t q) (least_place t q.0 q.1)) ps)) first)

  pub all_listed : (list : List Dep) (left : List Pair) → list ≡ [] → left ≡ all_pairs t
      → list ++ map (dependence_of t) left ≡ dependences t
  all_listed list left none same = ap (λ ds. ds ++ map (dependence_of t) left) none ∙ ap (map (dependence_of t)) same
      ∙ listed_from (kinds.pairs t) (λ p m. m)

pub one_listed : {X Y : Type 0} (f : X → Y) (list : List Y) (left rest : List X) (x : X) (new : List Y) (d : Y) (all : List Y)
    → list ++ map f left ≡ all → left ≡ x ∷ rest → new ≡ list ++ d ∷ [] → d ≡ f x → new ++ map f rest ≡ all
one_listed f list left rest x new d all so_far cut pushed is =
    ap (λ ys. ys ++ map f rest) pushed ∙ append_assoc list (d ∷ []) (map f rest) ∙ ap (λ y. list ++ y ∷ map f rest) is
    ∙ sym (ap (λ xs. list ++ map f xs) cut) ∙ so_far

pub behind : {X : Type 0} (all xs : List X) (x : X) (rest : List X) → ((y : X) → Contains xs y → Contains all y) → xs ≡ x ∷ rest → (y : X)
    → Contains rest y → Contains all y
behind all xs x rest within same y (k, lt, is) = within y (subst (λ zs. Contains zs y) (sym same) (suc k, omega (arith, lt), is))

pub first_of : {X : Type 0} (all xs : List X) (x : X) (rest : List X) → ((y : X) → Contains xs y → Contains all y) → xs ≡ x ∷ rest
    → Contains all x
first_of all xs x rest within same = within x (subst (λ zs. Contains zs x) (sym same) (0, omega arith, refl))

pub rest_counted : {X : Type 0} (p : X → Bool) (xs : List X) → count_by p xs + count_by (λ x. not (p x)) xs ≡ length xs
rest_counted p xs = omega (
  arith,
  length-filter p xs,
  length-filter (λ x. not (p x)) xs,
  length-filter_both p (λ x. not (p x)) (λ x. refl) xs,
)
