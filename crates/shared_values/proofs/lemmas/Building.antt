-- What the numbers stand for as nodes come.
use Rattle.std.proofs.Common.{◌≡◌, ℕ, zero, suc, ◌+◌, ◌<◌, List, [], ◌∷◌, ◌++◌, length, get_or, ◌⊎◌, inl, inr, refl, ap, ap₂, sym, subst, ◌∙◌, Bool, true, arith}
use Rattle.std.proofs.lemmas.Bool.{cases_lt}
use Rattle.std.proofs.lemmas.List.{get_or_append_left}
use Rattle.std.proofs.Math.Seq.{get_or-append_seam}
use Rattle.value_terms.specs.Values.{Value, plain, fold_in, same_value}
use Rattle.value_terms.proofs.lemmas.Equality.{value_decides}
use Rattle.value_terms.specs.declared.terms.Base.TheVariants.{Raw}
use Rattle.shared_values.specs.declared.node.Step.{Step}
use Rattle.shared_values.specs.declared.node.Fold.{Fold}
use Rattle.shared_values.specs.declared.node.Node.{Node}
use Rattle.shared_values.specs.declared.node.Node.TheVariants.{Start, More, Folded}
use Rattle.shared_values.specs.Arenas.{value_at, stepped, made, built, Fits, AreFit, Keeps, IsNodeAt, IsNoted, IsHeldArena}

length_more : (values : List Value) (v : Value) → length (values ++ v ∷ []) ≡ length values + 1
length_more [] v = refl
length_more (w ∷ values) v = let r = length_more values v in omega (arith, r)

pub built_last : (values : List Value) (nodes : List Node) (n : Node)
    → built values (nodes ++ n ∷ []) ≡ built values nodes ++ made (built values nodes) n ∷ []
built_last values [] n = refl
built_last values (m ∷ nodes) n = built_last (values ++ made values m ∷ []) nodes n

pub fit_last : (values : List Value) (nodes : List Node) (n : Node) → AreFit values nodes → Fits (built values nodes) n
    → AreFit values (nodes ++ n ∷ [])
fit_last values [] n h f = (f, tt)
fit_last values (m ∷ nodes) n h f = (h.0, fit_last (values ++ made values m ∷ []) nodes n h.1 f)

pub length_built : (values : List Value) (nodes : List Node) → length (built values nodes) ≡ length values + length nodes
length_built values [] = omega arith
length_built values (m ∷ nodes) =
    let r = length_built (values ++ made values m ∷ []) nodes in
    let l = length_more values (made values m) in
    omega (arith, r, l)

pub built_keeps : (values : List Value) (nodes : List Node) (id : ℕ) → id < length values
    → value_at (built values nodes) id ≡ value_at values id
built_keeps values [] id lt = refl
built_keeps values (m ∷ nodes) id lt =
    let l = length_more values (made values m) in
    built_keeps (values ++ made values m ∷ []) nodes id (omega (arith, l, lt))
    ∙ get_or_append_left values (made values m ∷ []) (plain Raw) id lt

-- What fits earlier values fits later ones, and makes the same.
made_keeps : (values later : List Value) (n : Node) → Fits values n → Keeps values later → made later n ≡ made values n
made_keeps values later (Start base) f k = refl
made_keeps values later (More s) f k = ap (stepped s) (k.same s.before f.0)
made_keeps values later (Folded g) f k = k.same g.result f.result

pub keeps_built : (values : List Value) (nodes : List Node) → Keeps values (built values nodes)
keeps_built values nodes =
    let l = length_built values nodes in
    record { longer = omega (arith, l); same = built_keeps values nodes }

pub keeps_refl : (values : List Value) → Keeps values values
keeps_refl values = record { longer = omega arith; same = λ id lt. refl }

pub keeps_more : (values : List Value) (v : Value) → Keeps values (values ++ v ∷ [])
keeps_more values v =
    let l = length_more values v in
    record { longer = omega (arith, l); same = λ id lt. get_or_append_left values (v ∷ []) (plain Raw) id lt }

pub keeps_trans : (a b c : List Value) → Keeps a b → Keeps b c → Keeps a c
keeps_trans a b c h g = record {
  longer = omega (arith, h.longer, g.longer);
  same = λ id lt. g.same id (omega (arith, lt, h.longer))
      ∙ h.same id lt;
}

fits_keeps : (values later : List Value) (n : Node) → Fits values n → Keeps values later → Fits later n
fits_keeps values later (Start base) f k = tt
fits_keeps values later (More s) f k = (omega (arith, f.0, k.longer), rw (k.same s.before f.0) f.1)
fits_keeps values later (Folded g) f k = record {
  target = let lt = f.target in omega (arith, lt, k.longer);
  source = let lt = f.source in omega (arith, lt, k.longer);
  result = let lt = f.result in omega (arith, lt, k.longer);
  is = k.same g.result f.result ∙ f.is
      ∙ ap₂ (λ w v. fold_in w g.op v) (sym (k.same g.target f.target)) (sym (k.same g.source f.source));
}

earlier_than : (values : List Value) (n : Node) → Fits values n → (s : Step) → n ≡ More s → s.before < length values
earlier_than values (Start base) f s e = cc e
earlier_than values (More t) f s e =
    let same : t ≡ s = cc e in
    subst (λ (u : Step). u.before < length values) same f.0
earlier_than values (Folded g) f s e = cc e

result_earlier_than : (values : List Value) (n : Node) → Fits values n → (f : Fold) → n ≡ Folded f → f.result < length values
result_earlier_than values (Start base) h f e = cc e
result_earlier_than values (More t) h f e = cc e
result_earlier_than values (Folded g) h f e =
    let same : g ≡ f = cc e in
    subst (λ (u : Fold). u.result < length values) same h.result

pub node_at : (values : List Value) (nodes : List Node) (k : ℕ) (d : Node) → AreFit values nodes → k < length nodes
    → IsNodeAt (built values nodes) (length values + k) (get_or nodes k d)
node_at values [] k d h lt = absurd (omega (arith, lt))
node_at values (n ∷ nodes) zero d h lt =
    let next = values ++ made values n ∷ [] in
    let l = length_more values (made values n) in
    let kept = keeps_trans values next (built next nodes) (keeps_more values (made values n)) (keeps_built next nodes) in
    let there : value_at (built next nodes) (length values) ≡ made values n = built_keeps next nodes (length values)
    (omega (arith, l)) ∙ get_or-append_seam values (made values n) [] (plain Raw) in
    let at : length values + 0 ≡ length values = omega arith in
    rw at (record {
      is = there ∙ sym (made_keeps values (built next nodes) n h.0 kept);
      fits = fits_keeps values (built next nodes) n h.0 kept;
      earlier = earlier_than values n h.0;
      result_earlier = result_earlier_than values n h.0;
    })
node_at values (n ∷ nodes) (suc k) d h lt =
    let next = values ++ made values n ∷ [] in
    let l = length_more values (made values n) in
    let at : length next + k ≡ length values + suc k = omega (arith, l) in
    subst (λ (i : ℕ). IsNodeAt (built next nodes) i (get_or nodes k d)) at (node_at next nodes k d h.1 (omega (arith, lt)))

-- The same of all nodes of an arena.
pub read_node : (nodes : List Node) (id : ℕ) (d : Node) → AreFit [] nodes → id < length nodes
    → IsNodeAt (built [] nodes) id (get_or nodes id d)
read_node nodes id d h lt =
    let at : 0 + id ≡ id = omega arith in
    subst (λ (i : ℕ). IsNodeAt (built [] nodes) i (get_or nodes id d)) at (node_at [] nodes id d h lt)

-- ---- what calls find and leave

pub found_there : (nodes seen : List Node) (now : List Value) (id : ℕ) (n : Node) → built [] nodes ≡ now → seen ≡ nodes
    → id < length seen → value_at (built [] seen) id ≡ made (built [] seen) n → (id < length now) × (value_at now id ≡ made now n)
found_there nodes seen now id n is same lt told =
    let whole : built [] seen ≡ now = ap (built []) same ∙ is in
    let l = length_built [] seen in
    subst (λ (v : List Value). (id < length v) × (value_at v id ≡ made v n)) whole (omega (arith, l, lt), told)

-- A node more.
pub record IsPut (nodes new : List Node) (now : List Value) (n : Node) : Type 0 where
  pub fit : AreFit [] new
  pub known : length nodes < length (built [] new)
  pub is : value_at (built [] new) (length nodes) ≡ made now n
  pub kept : Keeps now (built [] new)

is_put_at : (nodes : List Node) (n : Node) → AreFit [] nodes → Fits (built [] nodes) n → IsPut nodes (nodes ++ n ∷ []) (built [] nodes) n
is_put_at nodes n h f =
    let values = built [] nodes in
    let last = built_last [] nodes n in
    let l = length_built [] nodes in
    let m = length_more values (made values n) in
    let at : length nodes ≡ length values = omega (arith, l) in
    record {
      fit = fit_last [] nodes n h f;
      known = rw last (omega (arith, l, m));
      is = rw (last, at) (get_or-append_seam values (made values n) [] (plain Raw));
      kept = rw last (keeps_more values (made values n));
    }

pub is_put : (nodes kept new : List Node) (now : List Value) (n : Node) → built [] nodes ≡ now → AreFit [] nodes → Fits now n
    → kept ≡ nodes → new ≡ kept ++ n ∷ [] → IsPut nodes new now n
is_put nodes kept new now n is h f same told =
    let all : new ≡ nodes ++ n ∷ [] = told ∙ ap (λ (ns : List Node). ns ++ n ∷ []) same in
    subst (λ (ns : List Node). IsPut nodes ns now n) (sym all)
    (subst (λ (v : List Value). IsPut nodes (nodes ++ n ∷ []) v n) is
    (is_put_at nodes n h (subst (λ (v : List Value). Fits v n) (sym is) f)))

pub within : (nodes seen : List Node) (now : List Value) (id : ℕ) → built [] nodes ≡ now → seen ≡ nodes → id < length now → id < length seen
within nodes seen now id is same lt =
    let l = length_built [] nodes in
    let m = ap (length {A = Value}) is in
    let k = ap (length {A = Node}) same in
    omega (arith, l, m, k, lt)

pub count_told : (nodes seen : List Node) (now : List Value) (n : ℕ) → built [] nodes ≡ now → seen ≡ nodes → n ≡ length seen
    → n ≡ length now
count_told nodes seen now n is same told =
    let l = length_built [] nodes in
    let m = ap (length {A = Value}) is in
    let k = ap (length {A = Node}) same in
    omega (arith, l, m, k, told)

-- ---- what is noted

noted_later : (values later : List Value) (alike : List ℕ) → IsNoted values alike → Keeps values later → IsNoted later alike
noted_later values later alike h k = record {
  within = omega (arith, h.within, k.longer);
  known = λ i d lt. let e = h.known i d lt in omega (arith, e, k.longer);
  same = λ i d lt. k.same (get_or alike i d) (h.known i d lt) ∙ h.same i d lt ∙ sym (k.same i (omega (arith, lt, h.within)));
}

-- One more number, noted as itself.
noted_more : (values : List Value) (alike : List ℕ) → IsNoted values alike → length alike < length values
    → IsNoted values (alike ++ length alike ∷ [])
noted_more values alike h lt =
    let l = count_more alike (length alike) in
    let at : (k d : ℕ) → k < length (alike ++ length alike ∷ [])
    → ((k < length alike) × (get_or (alike ++ length alike ∷ []) k d ≡ get_or alike k d)) ⊎
    (get_or (alike ++ length alike ∷ []) k d ≡ k) = read_more alike (length alike) refl in
    record {
      within = omega (arith, l, lt);
      known = λ k d kt. elim (at k d kt) [
        | inl w ↦ subst (λ (i : ℕ). i < length values) (sym w.1) (h.known k d w.0)
        | inr w ↦ subst (λ (i : ℕ). i < length values) (sym w) (omega (arith, kt, l, lt))
      ];
      same = λ k d kt. elim (at k d kt) [ inl w ↦ ap (value_at values) w.1 ∙ h.same k d w.0 | inr w ↦ ap (value_at values) w ];
    }
  where
    count_more : (xs : List ℕ) (x : ℕ) → length (xs ++ x ∷ []) ≡ length xs + 1
    count_more [] x = refl
    count_more (y ∷ xs) x = let r = count_more xs x in omega (arith, r)

    read_more : (xs : List ℕ) (n : ℕ) → n ≡ length xs → (k d : ℕ) → k < length (xs ++ n ∷ [])
        → ((k < length xs) × (get_or (xs ++ n ∷ []) k d ≡ get_or xs k d)) ⊎ (get_or (xs ++ n ∷ []) k d ≡ k)
    read_more xs n is k d lt = elim (cases_lt k (length xs)) [
      | inl w ↦ inl (w, get_or_append_left xs (n ∷ []) d k w)
      | inr w ↦ let c = count_more xs n in let e : k ≡ length xs = omega (arith, w, lt, c) in
          inr (ap (λ (i : ℕ). get_or (xs ++ n ∷ []) i d) e ∙ get_or-append_seam xs n [] d ∙ is ∙ sym e)
    ]

pub put_held : (nodes new : List Node) (now : List Value) (n : Node) (alike : List ℕ) → built [] nodes ≡ now
    → IsHeldArena nodes alike → IsPut nodes new now n → IsHeldArena new alike
put_held nodes new now n alike is h put = record {
  fit = put.fit;
  noted = noted_later now (built [] new) alike (subst (λ (v : List Value). IsNoted v alike) is h.noted) put.kept;
}

pub put_noted : (nodes new : List Node) (now : List Value) (n : Node) (alike more : List ℕ) → built [] nodes ≡ now
    → IsHeldArena nodes alike → IsPut nodes new now n → more ≡ alike ++ length alike ∷ [] → IsHeldArena new more
put_noted nodes new now n alike more is h put told =
    let held = put_held nodes new now n alike is h put in
    let l = length_built [] nodes in
    let w = h.noted.within in
    subst (IsHeldArena new) (sym told) (record {
      fit = put.fit;
      noted = noted_more (built [] new) alike held.noted
          (omega (arith, l, w, put.known));
    })

pub same_if_equal : (v w : Value) → v ≡ w → true ≡ same_value v w
same_if_equal v w e = sym ((value_decides v w).1 e)

pub equal_if_same : (v w : Value) (same : Bool) → same ≡ same_value v w → same ≡ true → v ≡ w
equal_if_same v w same is told = (value_decides v w).0 (sym is ∙ told)

-- What is seen in the nodes is so.
pub same_seen : (nodes seen : List Node) (now : List Value) (a b : ℕ) → built [] nodes ≡ now → seen ≡ nodes
    → value_at (built [] seen) a ≡ value_at (built [] seen) b → true ≡ same_value (value_at now a) (value_at now b)
same_seen nodes seen now a b is same told =
    same_if_equal _ _ (subst (λ (v : List Value). value_at v a ≡ value_at v b) (ap (built []) same ∙ is) told)
