-- The two orders of the tasks of the worked launch.
use Rattle.std.proofs.Common.{◌≢◌, ℕ, inl, inr, [], ◌∷◌, refl, sym, ◌∙◌, subst, AllPairs, Contains}
use Rattle.list_lemmas.proofs.lemmas.Pairs.{apart_put, apart_one}
use Rattle.semantics.specs.declared.tables.ItemBody.TheVariants.{Task}
use Rattle.list_lemmas.proofs.lemmas.Contained.{only, Contains-cases, Contains-first, Contains-later}
use Rattle.launch_laws.specs.LaunchOrders.{AgreeButFor, IsTaskOf, launch_tables}
use Rattle.launch_laws.specs.WorkedLaunches.{apart_halves, launch_of_halves}

two_apart : (a b : ℕ) → a ≢ b → AllPairs (λ m n. m ≢ n) (a ∷ b ∷ [])
two_apart a b differ = apart_put a (b ∷ []) (λ n m is. differ (is ∙ only m)) (apart_one b)

other_way : (a b n : ℕ) → Contains (a ∷ b ∷ []) n → Contains (b ∷ a ∷ []) n
other_way a b n m = elim (Contains-cases (b ∷ []) m) [
  | inl is ↦ Contains-later (a ∷ []) (Contains-first [] is)
  | inr last ↦ Contains-first (a ∷ []) (only last)
]

first_task : IsTaskOf (launch_tables apart_halves) launch_of_halves 0
first_task = record { task = record { id = 1; line = 10; body = Task }; at = refl; launched = refl }

second_task : IsTaskOf (launch_tables apart_halves) launch_of_halves 1
second_task = record { task = record { id = 2; line = 11; body = Task }; at = refl; launched = refl }

pub halves_turned : AgreeButFor (launch_tables apart_halves) launch_of_halves (0 ∷ 1 ∷ []) (1 ∷ 0 ∷ [])
halves_turned = record {
  front = [];
  here = 0 ∷ 1 ∷ [];
  there = 1 ∷ 0 ∷ [];
  back = [];
  order_is = refl;
  other_is = refl;
  once = two_apart 0 1 (λ is. cc);
  other_once = two_apart 1 0 (λ is. cc);
  same = λ item. (other_way 0 1 item, other_way 1 0 item);
  tasks = λ item m. elim (Contains-cases (1 ∷ []) m) [
    | inl is ↦ subst (IsTaskOf (launch_tables apart_halves) launch_of_halves) (sym is) first_task
    | inr last ↦ subst (IsTaskOf (launch_tables apart_halves) launch_of_halves) (sym (only last)) second_task
  ];
}
