-- Lists that stand one after the other in one list.
use Rattle.std.proofs.Common.{◌≡◌, ◌∙◌, ℕ, zero, suc, ◌+◌, ◌-◌, ◌<◌, ◌≤◌, List, [], ◌∷◌, ◌++◌, length, map, take, drop, get_or, arith, refl, sym, ap}
use Rattle.std.proofs.lemmas.List.{drop-append-le, length-append, length-drop, map-append, take-append-le, take_all, take_more}
use Rattle.std.proofs.Math.Seq.{drop-append_seam}
use Rattle.event_graph.specs.FlatLists.{Fit, lists_from}

pub list_count : (from : ℕ) (numbers ends : List ℕ) → length (lists_from from numbers ends) ≡ length ends
list_count from numbers [] = refl
list_count from numbers (end ∷ ends) = ap suc (list_count end numbers ends)

-- One list more stands behind all others.
pub lists_more : (from : ℕ) (numbers more ends : List ℕ) → Fit from numbers ends
    → lists_from from (numbers ++ more) (ends ++ length (numbers ++ more) ∷ []) ≡ lists_from from numbers ends ++ more ∷ []
lists_more from numbers more [] fit =
    let rest : drop from (numbers ++ more) ≡ more = rw fit (drop-append_seam numbers more) in
    let all : length more ≤ length (numbers ++ more) - from = omega (arith, fit, length-append numbers more) in
    ap (λ l. l ∷ []) (ap (take (length (numbers ++ more) - from)) rest ∙ take_all (length (numbers ++ more) - from) more all)
lists_more from numbers more (end ∷ ends) (low, high, fit) =
    let n = end - from in
    let within : n ≤ length (drop from numbers) = omega (arith, low, high, length-drop from numbers) in
    let same : take n (drop from (numbers ++ more)) ≡ take n (drop from numbers) =
    ap (take n) (drop-append-le from numbers more (omega (arith, low, high))) ∙ take-append-le n (drop from numbers) more within in
    rw same (ap (λ ls. take n (drop from numbers) ∷ ls) (lists_more end numbers more ends fit))

pub fit_more : (from : ℕ) (numbers more ends : List ℕ) → Fit from numbers ends
    → Fit from (numbers ++ more) (ends ++ length (numbers ++ more) ∷ [])
fit_more from numbers more [] fit = (omega (arith, fit, length-append numbers more), omega arith, refl)
fit_more from numbers more (end ∷ ends) (low, high, fit) =
    (low, omega (arith, high, length-append numbers more), fit_more end numbers more ends fit)

-- Where the list in a place stands.
pub list_at : (from : ℕ) (numbers ends : List ℕ) (k : ℕ) → Fit from numbers ends → k < length ends
    → (get_or (from ∷ ends) k 0 ≤ get_or ends k 0) × (get_or ends k 0 ≤ length numbers)
    × (get_or (lists_from from numbers ends) k [] ≡ take (get_or ends k 0 - get_or (from ∷ ends) k 0) (drop (get_or (from ∷ ends) k 0) numbers))
list_at from numbers [] k fit lt = absurd (omega (arith, lt))
list_at from numbers (end ∷ ends) zero (low, high, fit) lt = (low, high, refl)
list_at from numbers (end ∷ ends) (suc k) (low, high, fit) lt = list_at end numbers ends k fit (omega (arith, lt))

-- Where a list stands that is kept with its start.
pub list_kept : (numbers starts : List ℕ) → starts ≡ 0 ∷ drop 1 starts → Fit 0 numbers (drop 1 starts) → (lists : List (List ℕ))
    → lists_from 0 numbers (drop 1 starts) ≡ lists → (k : ℕ) → k < length lists
    → (k + 1 < length starts) × (get_or starts k 0 ≤ get_or starts (k + 1) 0) × (get_or starts (k + 1) 0 ≤ length numbers)
    × (take (get_or starts (k + 1) 0 - get_or starts k 0) (drop (get_or starts k 0) numbers) ≡ get_or lists k [])
list_kept numbers starts is fit lists lists_are k lt =
    let ends = drop 1 starts in
    let count : length lists ≡ length ends = ap (λ (l : List (List ℕ)). length l) (sym lists_are) ∙ list_count 0 numbers ends in
    let less : k < length ends = omega (arith, lt, count) in
    let more : length starts ≡ suc (length ends) = ap (λ (l : List ℕ). length l) is in
    let next : k + 1 ≡ suc k = omega arith in
    let here : get_or starts k 0 ≡ get_or (0 ∷ ends) k 0 = ap (λ (l : List ℕ). get_or l k 0) is in
    let there : get_or starts (k + 1) 0 ≡ get_or ends k 0 = ap (λ (l : List ℕ). get_or l (k + 1) 0) is ∙ ap (λ n. get_or (0 ∷ ends) n 0) next in
    let at = list_at 0 numbers ends k fit less in (
      omega (arith, less, more),
      omega (arith, here, there, at.0),
      omega (arith, there, at.1),
      rw (here, there) (sym at.2) ∙ ap (λ (l : List (List ℕ)). get_or l k []) lists_are,
    )

-- The list of one thing more is added, up to where the numbers end then.
pub list_added : {X : Type 0} (f : X → List ℕ) (xs : List X) (k : ℕ) (x : X) → k < length xs → x ≡ get_or xs k x → (old new ends : List ℕ)
    → Fit 0 old ends → lists_from 0 old ends ≡ map f (take k xs) → new ≡ old ++ f x → (end : ℕ) → end ≡ length new
    → Fit 0 new (ends ++ end ∷ []) × (lists_from 0 new (ends ++ end ∷ []) ≡ map f (take (k + 1) xs))
list_added f xs k x lt is old new ends fit lists grown end end_is =
    let more : map f (take (k + 1) xs) ≡ map f (take k xs) ++ f x ∷ [] =
    rw (take_more xs k x lt, map-append) (ap (λ y. map f (take k xs) ++ f y ∷ []) (sym is)) in
    rw (end_is, grown) (
      fit_more 0 old (f x) ends fit,
      lists_more 0 old (f x) ends fit ∙ (ap (λ ls. ls ++ f x ∷ []) lists ∙ sym more),
    )
