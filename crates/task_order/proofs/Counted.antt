-- The pairs of users that meet are counted as the pairs of tasks that interfere.
use Rattle.std.proofs.Common.{◌≡◌, ℕ, zero, suc, ◌+◌, ◌≤◌, false, ◌&&◌, nat_lt, List, refl, ap, ◌∙◌, arith, length, if◌then◌else◌}
use Rattle.std.proofs.lemmas.Bool.{false_from_ne_true}
use Rattle.vocabulary.specs.Prelude.{Tables}
use Rattle.order_laws.specs.Turns.{do_interfere}
use Rattle.order_laws.specs.Counting as asked
use Rattle.order_laws.proofs.lemmas.TaskUses.{interfering_within}
use Rattle.pair_rows.specs.declared.users.User.{User}
use Rattle.pair_rows.specs.Counting.{count_below, sum_below}
use Rattle.pair_rows.specs.Meetings.{met_at_some, met_below}

module _ (t : Tables) (places : List (List User)) (meet : (a b : ℕ) → met_at_some places a b ≡ do_interfere t a b) where
  pub none_beyond : (items a b : ℕ) → items ≡ length t.items → items ≤ b → met_at_some places a b ≡ false
  none_beyond items a b is le = meet a b ∙ false_from_ne_true (do_interfere t a b) (λ e.
      let within = interfering_within t a b e in
      omega (arith, within, is, le))

  same_count : (a n : ℕ) → met_below places n a ≡ asked.count_below (λ b. nat_lt a b && do_interfere t a b) n
  unfolding count_below
  same_count a zero = refl
  same_count a (suc n) = rw (meet a n) (ap (λ m. m + (if nat_lt a n && do_interfere t a n then 1 else 0)) (same_count a n))

  same_sum : (m n : ℕ) → sum_below (met_below places m) n
      ≡ asked.sum_below (λ a. asked.count_below (λ b. nat_lt a b && do_interfere t a b) m) n
  same_sum m zero = refl
  same_sum m (suc n) = let r = same_sum m n in let l = same_count n m in omega (arith, r, l)

  pub pairs_told : (items count : ℕ) → items ≡ length t.items → count ≡ sum_below (met_below places items) items
      → count ≡ asked.sum_below (λ a. asked.count_below (λ b. nat_lt a b && do_interfere t a b) (length t.items)) (length t.items)
  pairs_told items count e c = c ∙ same_sum items items
      ∙ ap (λ n. asked.sum_below (λ a. asked.count_below (λ b. nat_lt a b && do_interfere t a b) n) n) e
