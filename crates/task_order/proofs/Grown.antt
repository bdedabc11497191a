-- The users of places, as the accesses of one cell more are added.
use Rattle.std.proofs.Common.{◌≡◌, ℕ, inl, inr, List, [], ◌∷◌, ◌++◌, All, Contains, sym, subst, map}
use Rattle.std.proofs.lemmas.List.Sorted.{Contains-permutation, IsPermutation-sym}
use Rattle.std.proofs.lemmas.List.Elements.{All-append, All-cons, All-nil, Contains-append_cases, Contains-append_left, Contains-append_right}
use Rattle.list_lemmas.proofs.lemmas.Contained.{member_map, map_member, only, Contains-nil, Contains-here}
use Rattle.cell_races.specs.declared.cell_accesses.CellAccess.{CellAccess}
use Rattle.cell_races.proofs.lemmas.CellEnds.{AreApart}
use Rattle.pair_rows.specs.declared.users.User.{User}
use Rattle.pair_rows.specs.Meetings.{AreByClass}
use Rattle.task_order.specs.Users.{user_of, ShareCell, SharePlace, AreUsersOf, IsOneMore}

pub users_none : (order : List ℕ) → AreUsersOf order [] []
users_none order = record {
  sound = λ users m. absurd (Contains-nil m);
  whole = λ x y m. absurd (Contains-nil m);
}

module _ (order : List ℕ) (front run : List CellAccess) (old new : List (List User)) (h : AreUsersOf order front old)
    (more : IsOneMore order run old new) (one : (x y : CellAccess) → Contains run x → Contains run y → x.cell ≡ y.cell)
    (apart : AreApart front run) where
  early : (x : CellAccess) → Contains front x → Contains (front ++ run) x
  early x m = Contains-append_left front run x m

  late : (x : CellAccess) → Contains run x → Contains (front ++ run) x
  late x m = Contains-append_right front run x m

  -- A user of the new place is one of the new accesses.
  of_run : (u : User) → Contains more.users u → (x : CellAccess) × Contains run x × (u ≡ user_of order x)
  of_run u m =
      let users = map (user_of order) run in
      member_map (user_of order) run u (Contains-permutation more.users users u
      (IsPermutation-sym users more.users more.same) m)

  in_place : (x : CellAccess) → Contains run x → Contains more.users (user_of order x)
  in_place x m =
      let users = map (user_of order) run in
      Contains-permutation users more.users (user_of order x) more.same
      (map_member (user_of order) run x m)

  sound : (users : List User) → Contains new users → (u v : User) → Contains users u → Contains users v
      → ShareCell order (front ++ run) u v
  sound users m u v um vm =
      elim (Contains-append_cases old (more.users ∷ []) users (subst (λ us. Contains us users) more.added m)) [
        | inl before ↦
            let s = h.sound users before u v um vm in
            record { x = s.x; y = s.y; x_in = early s.x s.x_in; y_in = early s.y s.y_in; same = s.same; u_is = s.u_is; v_is = s.v_is }
        | inr last ↦
            let x = of_run u (subst (λ us. Contains us u) (only last) um) in
            let y = of_run v (subst (λ us. Contains us v) (only last) vm) in
            record { x = x.0; y = y.0; x_in = late x.0 x.1; y_in = late y.0 y.1; same = one x.0 y.0 x.1 y.1; u_is = x.2; v_is = y.2 }
      ]

  old_place : (users : List User) → Contains old users → Contains new users
  old_place users m = subst (λ us. Contains us users) (sym more.added)
      (Contains-append_left old (more.users ∷ []) users m)

  new_place : Contains new more.users
  new_place = subst (λ us. Contains us more.users) (sym more.added)
      (Contains-append_right old (more.users ∷ []) more.users (Contains-here []))

  whole : (x y : CellAccess) → Contains (front ++ run) x → Contains (front ++ run) y → x.cell ≡ y.cell → SharePlace order new x y
  whole x y xm ym same = elim (Contains-append_cases front run x xm) [
    | inl x_front ↦ elim (Contains-append_cases front run y ym) [
      | inl y_front ↦
          let s = h.whole x y x_front y_front same in
          record { users = s.users; place = old_place s.users s.place; one = s.one; other = s.other }
      | inr y_run ↦ absurd (apart x y x_front y_run same)
    ]
    | inr x_run ↦ elim (Contains-append_cases front run y ym) [
      | inl y_front ↦ absurd (apart y x y_front x_run (sym same))
      | inr y_run ↦ record { users = more.users; place = new_place; one = in_place x x_run; other = in_place y y_run }
    ]
  ]

  pub users_more : AreUsersOf order (front ++ run) new
  users_more = record { sound = sound; whole = whole }

  pub classes_more : All AreByClass old → All AreByClass new
  classes_more all = subst (All AreByClass) (sym more.added)
      (All-append AreByClass old (more.users ∷ []) all (All-cons AreByClass more.users [] more.classes (All-nil AreByClass)))
