-- How claimed places tell whether a requirement interferes with those of its task.
use Rattle.std.proofs.Common.{◌≡◌, ℕ, ◌+◌, ◌<◌, ◌≤◌, ◌==◌, Bool, true, false, not, ◌&&◌, ◌||◌, cond, List, [], ◌∷◌, take, length, get_or, Option, Some, refl, sym, ap, ◌∙◌, inl, inr}
use Rattle.std.specs.List.{list_any}
use Rattle.std.proofs.lemmas.Bool.{and_parts, cases_Bool, eqb-true, le-ltb, lt-ltb}
use Rattle.std.proofs.lemmas.List.Folds.{list_any_more}
use Rattle.std.proofs.Math.Bool.{or-false, or_assoc, and_comm}
use Rattle.point_set.specs.declared.rect.Rect.{Rect}
use Rattle.vocabulary.specs.Prelude.{Priv, agree, PrivWord, Req, Tables, place_of, privilege_of, reqs_before, reqs_of, is_in, meets, points_in}
use Rattle.spy_grammar.specs.declared.record.Record.TheVariants as records
use Rattle.log_rules.specs.declared.claims.OwnPlace.{OwnPlace}
use Rattle.log_rules.specs.declared.claims.Claims.{Claims}
use Rattle.log_rules.specs.declared.claims.TheConstants.{FEW}
use Rattle.log_rules.specs.Cells.{HasCells}
use Rattle.log_rules.specs.Own.{AreClaims, claim_points, is_claim_point, clashes, claims_at, clashes_with, clashes_own, few_clash, req_clashes_at, clashes_at, few_clash_at, clashes_in, clashes_row, same_place, claimed}
use Rattle.log_rules.proofs.Cells.{IsOfCells, any_alike, any_claim_point, any_of_cells, in_claim_points, of_cells, test_of_cells}
use Rattle.log_rules.proofs.Members.{meets_turned}
use Rattle.log_rules.proofs.ListTests.{list_any-alike, list_any-false, list_any-and, list_any-or, list_any-list_any}

-- Places that are one.
place_of_parts : (i j s t p q f g : ℕ) → i ≡ j → s ≡ t → p ≡ q → f ≡ g
    → (let x : OwnPlace = record { item = i; tree = s; point = p; field = f } in x) ≡ record { item = j; tree = t; point = q; field = g }
place_of_parts i j s t p q f g a b c d = cc

same_place-true : (j k : OwnPlace) → same_place j k ≡ true → j ≡ k
same_place-true j k h =
    let point = (j.point == k.point) && (j.field == k.field) in
    let tree = (j.tree == k.tree) && point in
    let rest = (and_parts (j.item == k.item) tree h).1 in
    let last = (and_parts (j.tree == k.tree) point rest).1 in
    place_of_parts j.item k.item j.tree k.tree j.point k.point j.field k.field
    (eqb-true j.item k.item (and_parts (j.item == k.item) tree h).0)
    (eqb-true j.tree k.tree (and_parts (j.tree == k.tree) point rest).0)
    (eqb-true j.point k.point (and_parts (j.point == k.point) (j.field == k.field) last).0)
    (eqb-true j.field k.field (and_parts (j.point == k.point) (j.field == k.field) last).1)

-- One requirement more at a place.
pub clashes-put : (old : OwnPlace → Option (Option Priv)) (j k : OwnPlace) (claim : Option Priv) (new : Option (Option Priv))
    (access a : Priv) → new ≡ cond (same_place j k) (Some claim) (old k)
    → clashes (Some claim) a ≡ (clashes (old j) a || not (agree access a))
    → clashes new a ≡ (clashes (old k) a || (same_place j k && not (agree access a)))
clashes-put old j k claim new access a is joins =
    elim (cases_Bool (same_place j k)) [
      | inl same ↦
          ap (λ o. clashes o a) (is ∙ ap (λ b. cond b (Some claim) (old k)) same)
          ∙ joins
          ∙ ap (λ p. clashes (old p) a || not (agree access a)) (same_place-true j k same)
          ∙ sym (ap (λ b. clashes (old k) a || (b && not (agree access a))) same)
      | inr other ↦
          ap (λ o. clashes o a) (is ∙ ap (λ b. cond b (Some claim) (old k)) other)
          ∙ sym (or-false (clashes (old k) a))
          ∙ sym (ap (λ b. clashes (old k) a || (b && not (agree access a))) other)
    ]

one_more : (i t p fs f n : Bool) → ((i && (t && ((p || false) && (fs && n)))) || ((i && (t && (p && f))) && n))
    ≡ (i && (t && ((p || false) && ((fs || f) && n))))
one_more false t p fs f n = refl
one_more true false p fs f n = refl
one_more true true false fs f n = refl
one_more true true true true f true = refl
one_more true true true true true false = refl
one_more true true true true false false = refl
one_more true true true false f n = refl

-- One field more at a point.
pub claims_at-field : (old mid new : Bool) (item tree point field : ℕ) (fields : List ℕ) (i : ℕ) (access : Priv) (k : OwnPlace) (a : Priv)
    → i < length fields → field ≡ get_or fields i 0 → mid ≡ (old || claims_at item tree (point ∷ []) (take i fields) access k a)
    → new ≡ (mid || (same_place (record { item = item; tree = tree; point = point; field = field }) k && not (agree access a)))
    → new ≡ (old || claims_at item tree (point ∷ []) (take (i + 1) fields) access k a)
claims_at-field old mid new item tree point field fields i access k a lt is before after =
    let n = not (agree access a) in
    let one : OwnPlace = record { item = item; tree = tree; point = point; field = field } in
    after
    ∙ ap (λ b. b || (same_place one k && n)) before
    ∙ or_assoc old (claims_at item tree (point ∷ []) (take i fields) access k a) (same_place one k && n)
    ∙ ap (λ b. old || b)
    (one_more (item == k.item) (tree == k.tree) (point == k.point) (is_in (take i fields) k.field) (field == k.field) n
    ∙ ap (λ b. (item == k.item) && ((tree == k.tree) && (((point == k.point) || false) && (b && n))))
    (ap (λ f. is_in (take i fields) k.field || (f == k.field)) is
    ∙ sym (list_any_more (λ m. m == k.field) fields i 0 lt)
    )
    )

-- One point more.
point_more : (i t ps p rest : Bool)
    → ((i && (t && (ps && rest))) || (i && (t && ((p || false) && rest)))) ≡ (i && (t && ((ps || p) && rest)))
point_more false t ps p rest = refl
point_more true false ps p rest = refl
point_more true true true true true = refl
point_more true true true true false = refl
point_more true true true false true = refl
point_more true true true false false = refl
point_more true true false true rest = refl
point_more true true false false rest = refl

pub claims_at-point : (old mid new : Bool) (item tree : ℕ) (points fields : List ℕ) (i : ℕ) (access : Priv) (k : OwnPlace) (a : Priv)
    → i < length points → mid ≡ (old || claims_at item tree (take i points) fields access k a)
    → new ≡ (mid || claims_at item tree (get_or points i 0 ∷ []) fields access k a)
    → new ≡ (old || claims_at item tree (take (i + 1) points) fields access k a)
claims_at-point old mid new item tree points fields i access k a lt before after =
    let rest = is_in fields k.field && not (agree access a) in
    after
    ∙ ap (λ b. b || claims_at item tree (get_or points i 0 ∷ []) fields access k a) before
    ∙ or_assoc old (claims_at item tree (take i points) fields access k a) (claims_at item tree (get_or points i 0 ∷ []) fields access k a)
    ∙ ap (λ b. old || b)
    (point_more (item == k.item) (tree == k.tree) (is_in (take i points) k.point) (get_or points i 0 == k.point) rest
    ∙ ap (λ b. (item == k.item) && ((tree == k.tree) && (b && rest))) (sym (list_any_more (λ m. m == k.point) points i 0 lt)))

-- At a place that may be claimed all points of a space are claimed with those that are.
pub claims_at-claim_points : (all : Option (List Rect)) (item tree : ℕ) (points fields : List ℕ) (access : Priv) (k : OwnPlace) (a : Priv)
    → is_claim_point all k.point ≡ true
    → claims_at item tree (claim_points all points) fields access k a ≡ claims_at item tree points fields access k a
claims_at-claim_points all item tree points fields access k a begins =
    ap (λ b. (item == k.item) && ((tree == k.tree) && (b && (is_in fields k.field && not (agree access a)))))
    (in_claim_points all points k.point begins)

-- One requirement, place by place.
row_told : (a b d : Bool) (ns ms : ℕ → Bool) (P F : List ℕ)
    → (a && (b && (list_any ns P && (list_any ms F && d)))) ≡ list_any (λ x. list_any (λ f. a && (b && (ns x && (ms f && d)))) F) P
row_told false b d ns ms P F = sym (list_any-alike _ (λ x. false) P (λ x. list_any-false F) ∙ list_any-false P)
row_told true false d ns ms P F = sym (list_any-alike _ (λ x. false) P (λ x. list_any-false F) ∙ list_any-false P)
row_told true true d ns ms P F = sym (
    list_any-alike (λ x. list_any (λ f. ns x && (ms f && d)) F) (λ x. (list_any ms F && d) && ns x) P
    (λ x. list_any-and (ns x) (λ f. ms f && d) F
    ∙ ap (λ b. ns x && b) (list_any-alike (λ f. ms f && d) (λ f. d && ms f) F (λ f. and_comm (ms f) d) ∙ list_any-and d ms F
    ∙ and_comm d (list_any ms F)) ∙ and_comm (ns x) (list_any ms F && d))
    ∙ list_any-and (list_any ms F && d) ns P ∙ and_comm (list_any ms F && d) (list_any ns P)
    )

-- Whether a requirement clashes is found place by place.
abbrev place : ℕ → ℕ → ℕ → ℕ → OwnPlace
place item tree point field = record { item = item; tree = tree; point = point; field = field }

clashes_with-by_place : (t : Tables) (item tree space : ℕ) (fields : List ℕ) (a : Priv) (r : Req)
    → clashes_with t item tree (points_in t space) fields a r
    ≡ list_any (λ x. list_any (λ f. req_clashes_at t (place item tree x f) a r) fields) (points_in t space)
clashes_with-by_place t item tree space fields a r =
    let P = points_in t space in
    ap (λ b. (r.item == item) && ((r.tree == tree) && (b && (meets r.fields fields && not (agree r.access a)))))
    (meets_turned (points_in t r.space) P)
    ∙ ap (λ b. (r.item == item) && ((r.tree == tree) && (meets P (points_in t r.space) && (b && not (agree r.access a)))))
    (meets_turned r.fields fields)
    ∙ row_told (r.item == item) (r.tree == tree) (not (agree r.access a)) (is_in (points_in t r.space)) (is_in r.fields) P fields

-- So is whether one of several does.
any-by_place : (t : Tables) (item tree space : ℕ) (fields : List ℕ) (a : Priv) (rs : List Req)
    → list_any (clashes_with t item tree (points_in t space) fields a) rs
    ≡ list_any (λ x. list_any (λ f. list_any (req_clashes_at t (place item tree x f) a) rs) fields) (points_in t space)
any-by_place t item tree space fields a rs =
    let P = points_in t space in
    let row : Req → ℕ → ℕ → Bool = λ r x f. req_clashes_at t (place item tree x f) a r in
    list_any-alike _ (λ r. list_any (λ x. list_any (λ f. row r x f) fields) P) rs (clashes_with-by_place t item tree space fields a)
    ∙ list_any-list_any (λ r x. list_any (row r x) fields) rs P
    ∙ list_any-alike _ _ P (λ x. list_any-list_any (λ r f. row r x f) rs fields)

-- Whether a requirement clashes at a place does not divide a cell, and so it is with one of several.
req_of_cells : (all : Option (List Rect)) (t : Tables) (item tree f : ℕ) (a : Priv) (r : Req) → HasCells all t
    → IsOfCells all (λ x. req_clashes_at t (place item tree x f) a r)
req_of_cells all t item tree f a r cells = test_of_cells all (is_in (points_in t r.space))
    (λ b. (r.item == item) && ((r.tree == tree) && (b && (is_in r.fields f && not (agree r.access a))))) (of_cells all t r.space cells)

reqs_of_cells : (all : Option (List Rect)) (t : Tables) (item tree : ℕ) (fields : List ℕ) (a : Priv) (rs : List Req) → HasCells all t
    → IsOfCells all (λ x. list_any (λ f. list_any (req_clashes_at t (place item tree x f) a) rs) fields)
reqs_of_cells all t item tree fields a rs cells =
    any_of_cells all (λ f x. list_any (req_clashes_at t (place item tree x f) a) rs) fields
    (λ f. any_of_cells all (λ r x. req_clashes_at t (place item tree x f) a r) rs (λ r. req_of_cells all t item tree f a r cells))

-- The first few requirements and the claims tell whether some requirement does.
pub own_by_claims : (all : Option (List Rect)) (t : Tables) (c : Claims) (item tree space : ℕ) (fields : List ℕ) (a : Priv) → HasCells all t
    → AreClaims all t c
    → (few_clash t item tree space fields a || list_any (clashes_row c item tree fields a) (claim_points all (points_in t space)))
    ≡ clashes_own t item tree space fields a
own_by_claims all t c item tree space fields a cells are =
    let P = points_in t space in
    let few : ℕ → ℕ → Bool = λ x f. few_clash_at t (place item tree x f) a in
    let kept : ℕ → ℕ → Bool = λ x f. clashes_in c (place item tree x f) a in
    let some : ℕ → ℕ → Bool = λ x f. clashes_at t (place item tree x f) a in
    let own = take FEW (reqs_of t item) in
    ap (λ b. b || list_any (λ x. list_any (kept x) fields) (claim_points all P))
    (any-by_place t item tree space fields a own
    ∙ any_claim_point all t space (λ x. list_any (few x) fields) cells (reqs_of_cells all t item tree fields a own cells))
    ∙ sym (list_any-or (λ x. list_any (few x) fields) (λ x. list_any (kept x) fields) (claim_points all P))
    ∙ any_alike all (λ x. list_any (few x) fields || list_any (kept x) fields) (λ x. list_any (some x) fields) P
    (λ x begins. sym (list_any-or (few x) (kept x) fields) ∙ list_any-alike _ _ fields (λ f. are (place item tree x f) a begins))
    ∙ sym (any_claim_point all t space (λ x. list_any (some x) fields) cells (reqs_of_cells all t item tree fields a t.reqs cells))
    ∙ sym (any-by_place t item tree space fields a t.reqs)

-- What a requirement claims, if it is one of the first few of its item or a later one.
pub few_claim_nothing : (t : Tables) (task tree space : ℕ) (fields : List ℕ) (access : PrivWord) (atomic : Bool)
    → reqs_before t.reqs (place_of t.items task) < FEW → (k : OwnPlace) (a : Priv)
    → claimed t (records.Req task tree space fields access atomic) k a ≡ false
few_claim_nothing t task tree space fields access atomic few k a =
    ap (λ b. not b && claims_at (place_of t.items task) tree (points_in t space) fields (privilege_of access) k a)
    (lt-ltb (reqs_before t.reqs (place_of t.items task)) FEW few)

pub later_claims_all : (t : Tables) (task tree space : ℕ) (fields : List ℕ) (access : PrivWord) (atomic : Bool)
    → FEW ≤ reqs_before t.reqs (place_of t.items task) → (k : OwnPlace) (a : Priv)
    → claimed t (records.Req task tree space fields access atomic) k a
    ≡ claims_at (place_of t.items task) tree (points_in t space) fields (privilege_of access) k a
later_claims_all t task tree space fields access atomic many k a =
    ap (λ b. not b && claims_at (place_of t.items task) tree (points_in t space) fields (privilege_of access) k a)
    (le-ltb (reqs_before t.reqs (place_of t.items task)) FEW many)
