-- Lists that are made of records with lines beside them, one after the other.
use Rattle.std.proofs.Common.{◌≡◌, ℕ, ◌+◌, ◌<◌, ◌≤◌, ◌==◌, Bool, List, [], ◌∷◌, ◌++◌, find, length, map, take, get_or, Option, Some, None, option_map, sym, ap, ◌∙◌, arith}
use Rattle.std.specs.List.{cons_option, filter_map, zip}
use Rattle.std.proofs.lemmas.List.{get_or-map, length-map, map_more, take_all, take_more}
use Rattle.std.proofs.lemmas.List.Elements.{filter_map-append}
use Rattle.std.proofs.lemmas.Option.{none-some}
use Rattle.std.proofs.lemmas.Slice.Zip.{length-zip, get_or-zip}
use Rattle.list_lemmas.proofs.lemmas.Places.{find_map}
use Rattle.vocabulary.specs.Prelude.{Priv, PrivWord, privilege_of}
use Rattle.spy_grammar.specs.declared.record.Record.TheVariants as records
use Rattle.launches.specs.declared.uses.Space.{Space}
use Rattle.launches.specs.Uses.{DeclaredSpace, Use, asked_by, space_seen}

asked_where : {P : Type 0} (points : P → List ℕ) (rows : List (Space P)) (o : Option (Space P))
    (task tree space line : ℕ) (fields : List ℕ) (access : PrivWord) (atomic : Bool)
    → o ≡ find (λ (s : Space P). s.id == space) rows
    → option_map (λ (s : DeclaredSpace). record {
      task = task;
      tree = tree;
      points = s.points;
      fields = fields;
      access =
          privilege_of access;
      line = line;
      declared = s.line;
    }) (option_map (space_seen points) o)
    ≡ asked_by (map (space_seen points) rows) (line, records.Req task tree space fields access atomic)
asked_where {P = P} points rows o task tree space line fields access atomic is =
    let f : DeclaredSpace → Use = λ (s : DeclaredSpace). record {
      task = task;
      tree = tree;
      points = s.points;
      fields = fields;
      access =
          privilege_of access;
      line = line;
      declared = s.line;
    } in
    ap (λ (p : Option (Space P)). option_map f (option_map (space_seen points) p)) is
    ∙ ap (option_map f) (sym (find_map (λ (s : DeclaredSpace). s.id == space) (space_seen points) rows))

pub asked_none : {P : Type 0} (points : P → List ℕ) (rows : List (Space P)) (o : Option (Space P))
    (task tree space line : ℕ) (fields : List ℕ) (access : PrivWord) (atomic : Bool)
    → o ≡ find (λ (s : Space P). s.id == space) rows → o ≡ None
    → None ≡ asked_by (map (space_seen points) rows) (line, records.Req task tree space fields access atomic)
asked_none points rows None task tree space line fields access atomic is none =
    asked_where points rows None task tree space line fields access atomic is
asked_none points rows (Some s) task tree space line fields access atomic is none = absurd (none-some s (sym none))

pub asked_some : {P : Type 0} (points : P → List ℕ) (rows : List (Space P)) (o : Option (Space P)) (s : Space P)
    (task tree space line : ℕ) (fields its_fields : List ℕ)
    (access : PrivWord) (its_access : Priv) (atomic : Bool) → o ≡ find (λ (s : Space P). s.id == space) rows → o ≡ Some s
    → its_fields ≡ fields → its_access ≡ privilege_of access
    → Some (record {
      task = task;
      tree = tree;
      points = points s.set;
      fields = its_fields;
      access = its_access;
      line = line;
      declared =
          s.line;
    }) ≡ asked_by (map (space_seen points) rows) (line, records.Req task tree space fields access atomic)
asked_some points rows o s task tree space line fields its_fields access its_access atomic is some same_fields same_access =
    ap (λ (fs : List ℕ). Some (record {
      task = task;
      tree = tree;
      points = points s.set;
      fields = fs;
      access = its_access;
      line =
          line;
      declared = s.line;
    })) same_fields
    ∙ ap (λ (p : Priv). Some (record {
      task = task;
      tree = tree;
      points = points s.set;
      fields = fields;
      access = p;
      line = line;
      declared =
          s.line;
    })) same_access
    ∙ asked_where points rows (Some s) task tree space line fields access atomic (sym some ∙ is)

pub filtered_more : {X Y : Type 0} (h : ℕ × X → Option Y) (ns : List ℕ) (xs : List X) (i : ℕ) (x : X) (now next : List Y) → i < length ns
    → length ns ≤ length xs → x ≡ get_or xs i x
    → now ≡ filter_map h (take i (zip ns xs)) → next ≡ now ++ cons_option (h (get_or ns i 0, x)) []
    → next ≡ filter_map h (take (i + 1) (zip ns xs))
filtered_more {X = X} {Y = Y} h ns xs i x now next low long is so_far more =
    let high : i < length xs = omega (arith, low, long) in
    let within : i < length (zip ns xs) = omega (arith, low, high, length-zip ns xs) in
    let p : ℕ × X = (get_or ns i 0, x) in
    let at : get_or (zip ns xs) i (0, x) ≡ p = get_or-zip ns xs i (0, x) low high ∙ ap (λ (y : X). (get_or ns i 0, y)) (sym is) in
    more
    ∙ ap (λ (ys : List Y). ys ++ filter_map h (p ∷ [])) so_far
    ∙ sym (filter_map-append h (take i (zip ns xs)) (p ∷ []))
    ∙ ap (λ (q : ℕ × X). filter_map h (take i (zip ns xs) ++ q ∷ [])) (sym at)
    ∙ ap (λ (ps : List (ℕ × X)). filter_map h ps) (sym (take_more (zip ns xs) i (0, x) within))

pub filtered_all : {X Y : Type 0} (h : ℕ × X → Option Y) (ns : List ℕ) (xs : List X) (i : ℕ) (now : List Y) → length ns ≤ i
    → now ≡ filter_map h (take i (zip ns xs)) → now ≡ filter_map h (zip ns xs)
filtered_all {X = X} h ns xs i now le so_far =
    so_far ∙ ap (λ (ps : List (ℕ × X)). filter_map h ps) (take_all i (zip ns xs) (omega (arith, le, length-zip ns xs)))

pub mapped_more : {X Y Z : Type 0} (f : ℕ × Y → Z) (g : X → Y) (ns : List ℕ) (xs : List X) (i : ℕ) (x : X) (now next : List Z)
    → i < length ns → length ns ≤ length xs → x ≡ get_or xs i x
    → now ≡ map f (take i (zip ns (map g xs))) → next ≡ now ++ f (get_or ns i 0, g x) ∷ [] → next ≡ map f (take (i + 1) (zip ns (map g xs)))
mapped_more {X = X} {Y = Y} {Z = Z} f g ns xs i x now next low long is so_far more =
    let ys = map g xs in
    let high : i < length ys = omega (arith, low, long, length-map xs g) in
    let within : i < length (zip ns ys) = omega (arith, low, high, length-zip ns ys) in
    let there : i < length xs = omega (arith, low, long) in
    let y : get_or ys i (g x) ≡ g x = get_or-map g xs i x (g x) there ∙ ap g (sym is) in
    let at : get_or (zip ns ys) i (0, g x) ≡ (get_or ns i 0, g x) =
    get_or-zip ns ys i (0, g x) low high ∙ ap (λ (z : Y). (get_or ns i 0, z)) y in
    more
    ∙ ap (λ (zs : List Z). zs ++ f (get_or ns i 0, g x) ∷ []) so_far
    ∙ ap (λ (q : ℕ × Y). map f (take i (zip ns ys)) ++ f q ∷ []) (sym at)
    ∙ sym (map_more f (zip ns ys) i (0, g x) within)

pub mapped_all : {X Z : Type 0} (f : ℕ × X → Z) (ns : List ℕ) (xs : List X) (i : ℕ) (now : List Z) → length ns ≤ i
    → now ≡ map f (take i (zip ns xs)) → now ≡ map f (zip ns xs)
mapped_all {X = X} f ns xs i now le so_far = so_far
    ∙ ap (λ (ps : List (ℕ × X)). map f ps) (take_all i (zip ns xs) (omega (arith, le, length-zip ns xs)))
