-- What requirements claim as blocks, and that these clash where the requirements interfere.
use Rattle.std.proofs.Common.{◌≡◌, ◌↔◌, ℕ, ◌+◌, ◌*◌, ◌^◌, ◌<◌, ◌≤◌, ◌⊎◌, max, nat_le, false, Bool, IsTrue, List, [], ◌∷◌, ◌++◌, Contains, Option, Some, None, length, get_or, map, take, refl, sym, ap, subst, ◌∙◌, inl, inr, arith}
use Rattle.std.specs.List.{Any, flat_map}
use Rattle.std.proofs.lemmas.Bool.{both_ways, cases_lt, le-leb, leb-true}
use Rattle.std.proofs.lemmas.List.{get_or_default, take_all}
use Rattle.std.proofs.lemmas.List.Elements.{Contains-append_cases, Contains-append_left, Contains-append_right, Contains-get_or, Contains-push, Contains-push_cases}
use Rattle.list_lemmas.proofs.lemmas.Filtered.{in_filter, of_filter}
use Rattle.point_set.specs.declared.rect.Rect.{Rect}
use Rattle.point_set.specs.Rects.{Holds, rect_at}
use Rattle.point_set.proofs.lemmas.Columns.{of_has, to_has}
use Rattle.arena_sets.specs.Pieces.{AreRectsOf}
use Rattle.launch_claims.specs.declared.block.Block.{Block}
use Rattle.launch_claims.specs.declared.requirement.LaunchTasks.{LaunchTasks}
use Rattle.launch_claims.specs.declared.requirement.Requirement.{Requirement}
use Rattle.launch_claims.specs.Claiming.{claim_on}
use Rattle.launch_claims.specs.Interference.{Conflict, InterferesIn, IsKnownAt, IsLeast}
use Rattle.launch_claims.specs.Blocks.{AreBlocks, HasClashUpTo, IsBlockOf, IsInBlock, ShareColumn, block_of}
use Rattle.launch_claims.proofs.Claimed.{IsTimely}
use Rattle.launch_claims.proofs.Clashing.{Clash, clash_back, clash_from, clash_told, one_field, share_from}
use Rattle.list_lemmas.proofs.lemmas.Contained.{flat_member, map_member, member_flat, member_map}
use Rattle.list_lemmas.proofs.lemmas.Parts.{take_with}

-- what a requirement claims, whose points are those of rectangles
abbrev blocks_by : {P : Type 0} → LaunchTasks → Requirement P → List Rect → List Block
blocks_by l r rects = flat_map (λ (field : ℕ). map (block_of (claim_on l r field)) rects) r.fields.now

point_in : {P : Type 0} (l : LaunchTasks) (r : Requirement P) (points : List ℕ) (rects : List Rect) (field p : ℕ) → AreRectsOf points rects
    → Contains r.fields.now field → Contains points p → IsInBlock l r field p (blocks_by l r rects)
point_in l r points rects field p are has h =
    let at = to_has rects p are.0.1 (subst (λ (ps : List ℕ). Contains ps p) (sym are.1) h) in
    let k = at.has.place in
    let rect = rect_at rects k in
    record {
      rect = rect;
      claimed =
          flat_member (λ (f : ℕ). map (block_of (claim_on l r f)) rects) r.fields.now field (block_of (claim_on l r field) rect) has
          (map_member (block_of (claim_on l r field)) rects rect
          (Contains-get_or rects k (record { x0 = 0; x1 = 0; y0 = 0; y1 = 0 }) at.has.within));
      x = at.x;
      y = at.y;
      holds = at.has.holds;
      fits = at.y_fits;
      is = at.is;
    }

wide_by : {P : Type 0} (l : LaunchTasks) (r : Requirement P) (points : List ℕ) (rects : List Rect) (b : Block) → AreRectsOf points rects
    → Contains (blocks_by l r rects) b → b.x0 ≤ b.x1
wide_by l r points rects b are h =
    let f = member_flat (λ (field : ℕ). map (block_of (claim_on l r field)) rects) r.fields.now b h in
    let m = member_map (block_of (claim_on l r f.0)) rects b f.2 in
    let none : Rect = record { x0 = 0; x1 = 0; y0 = 0; y1 = 0 } in
    let k = m.1.0 in
    let is : rect_at rects k ≡ m.0 = get_or_default rects k none m.0 m.1.1 ∙ m.1.2 in
    let wide = subst (λ (s : Rect). s.x0 ≤ s.x1) is (are.0.0.some k none m.1.1).0 in
    subst (λ (c : Block). c.x0 ≤ c.x1) (sym m.2) wide

block_by : {P : Type 0} (points : P → List ℕ) (l : LaunchTasks) (r : Requirement P) (rects : List Rect) (b : Block)
    → AreRectsOf (points r.set) rects → Contains (blocks_by l r rects) b → IsBlockOf points l r b
block_by points l r rects b are h =
    let f = member_flat (λ (field : ℕ). map (block_of (claim_on l r field)) rects) r.fields.now b h in
    let m = member_map (block_of (claim_on l r f.0)) rects b f.2 in
    let none : Rect = record { x0 = 0; x1 = 0; y0 = 0; y1 = 0 } in
    let k = m.1.0 in
    let is : rect_at rects k ≡ m.0 = get_or_default rects k none m.0 m.1.1 ∙ m.1.2 in
    record {
      field = f.0;
      rect = m.0;
      has = f.1;
      is = sym m.2;
      points = λ x y holds. subst (λ (ps : List ℕ). Contains ps (x * 2 ^ 32 + y)) are.1
          (of_has rects x y (record { place = k; within = m.1.1; holds = subst (λ (s : Rect). Holds s x y) (sym is) holds }));
    }

in_more : {P : Type 0} (l : LaunchTasks) (r : Requirement P) (field p : ℕ) (old more : List Block) → IsInBlock l r field p old
    → IsInBlock l r field p (old ++ more)
in_more l r field p old more h = record {
  rect = h.rect;
  claimed = Contains-append_left old more (block_of (claim_on l r field) h.rect) h.claimed;
  x = h.x;
  y = h.y;
  holds = h.holds;
  fits = h.fits;
  is = h.is;
}

in_last : {P : Type 0} (l : LaunchTasks) (r : Requirement P) (field p : ℕ) (old more : List Block) → IsInBlock l r field p more
    → IsInBlock l r field p (old ++ more)
in_last l r field p old more h = record {
  rect = h.rect;
  claimed = Contains-append_right old more (block_of (claim_on l r field) h.rect) h.claimed;
  x = h.x;
  y = h.y;
  holds = h.holds;
  fits = h.fits;
  is = h.is;
}

pub no_blocks : {P : Type 0} (points : P → List ℕ) (l : LaunchTasks) → AreBlocks points l [] []
no_blocks points l = record {
  sound = λ b h. absurd (let lt = h.1 in omega (arith, lt));
  whole = λ r field p h has in_set. absurd (let lt = h.1 in omega (arith, lt));
  wide = λ b h. absurd (let lt = h.1 in omega (arith, lt));
}

-- the blocks of one requirement more
pub blocks_more : {P : Type 0} (points : P → List ℕ) (l : LaunchTasks) (reqs : List (Requirement P)) (k : ℕ) (u : Requirement P)
    (rects : List Rect) (old new : List Block) → k < length reqs → u ≡ get_or reqs k u → AreRectsOf (points u.set) rects
    → new ≡ old ++ flat_map (λ (field : ℕ). map (block_of (claim_on l u field)) rects) u.fields.now
    → AreBlocks points l (take k reqs) old → AreBlocks points l (take (k + 1) reqs) new
blocks_more {P = P} points l reqs k u rects old new lt is are added before =
    let more = blocks_by l u rects in
    let told : AreBlocks points l (take k reqs ++ u ∷ []) (old ++ more) = record {
      sound = λ b h. elim (Contains-append_cases old more b h) [
        | inl earlier ↦ let e = before.sound b earlier in (e.0, Contains-append_left (take k reqs) (u ∷ []) e.0 e.1, e.2)
        | inr later ↦ (u, Contains-push (take k reqs) u, block_by points l u rects b are later)
      ];
      whole = λ r field p h has in_set. elim (Contains-push_cases (take k reqs) u r h) [
        | inl earlier ↦ in_more l r field p old more (before.whole r field p earlier has in_set)
        | inr same ↦ subst (λ (s : Requirement P). Contains s.fields.now field → Contains (points s.set) p
            → IsInBlock l s field p (old ++ more)) same
            (λ of_field of_set. in_last l u field p old more (point_in l u (points u.set) rects field p are of_field of_set)) has in_set
      ];
      wide = λ b h. elim (Contains-append_cases old more b h) [
        | inl earlier ↦ before.wide b earlier
        | inr later ↦ wide_by l u (points u.set) rects b are later
      ];
    } in
    subst (λ (rs : List (Requirement P)). AreBlocks points l rs new) (sym (take_with reqs k u lt is))
    (subst (AreBlocks points l (take k reqs ++ u ∷ [])) (sym added) told)

pub blocks_all : {P : Type 0} (points : P → List ℕ) (l : LaunchTasks) (reqs : List (Requirement P)) (k : ℕ) (blocks : List Block)
    → length reqs ≤ k → AreBlocks points l (take k reqs) blocks → AreBlocks points l reqs blocks
blocks_all {P = P} points l reqs k blocks le h = subst (λ (rs : List (Requirement P)). AreBlocks points l rs blocks) (take_all k reqs le) h

-- ---- what blocks tell

-- where requirements interfere, their blocks up to that number clash
blocks_clash : {P : Type 0} (points : P → List ℕ) (l : LaunchTasks) (reqs : List (Requirement P)) (blocks : List Block) (n : ℕ)
    → AreBlocks points l reqs blocks → InterferesIn points l reqs n → HasClashUpTo blocks n
blocks_clash points l reqs blocks n are h =
    let u = h.0 in
    let v = h.1 in
    let known = h.4 in
    let conflict = h.5 in
    let f = conflict.fields.0 in
    let q = conflict.points.0 in
    let a = are.whole u f q h.2 conflict.fields.1 conflict.points.1 in
    let b = are.whole v f q h.3 conflict.fields.2 conflict.points.2 in
    let c = block_of (claim_on l u f) a.rect in
    let d = block_of (claim_on l v f) b.rect in
    let launched = known.launched in
    let asks = known.asks in
    let declared = known.declared in
    let others = known.others in
    let others_declared = known.others_declared in
    let one : max l.number (max u.record u.declared) ≤ n = omega arith in
    let other : max l.number (max v.record v.declared) ≤ n = omega arith in
    let at = a.is in
    let also_at = b.is in
    let fits = a.fits in
    let its_fits = b.fits in
    let x : a.x ≡ b.x = omega arith in
    let y : a.y ≡ b.y = omega arith in
    let left = a.holds.left in
    let right = a.holds.right in
    let low = a.holds.low in
    let high = a.holds.high in
    let its_left = b.holds.left in
    let its_right = b.holds.right in
    let its_low = b.holds.low in
    let its_high = b.holds.high in (
      c,
      d,
      in_filter (λ (e : Block). nat_le e.claim.record n) blocks c a.claimed (le-leb c.claim.record n one),
      in_filter (λ (e : Block). nat_le e.claim.record n) blocks d b.claimed (le-leb d.claim.record n other),
      omega arith,
      clash_from c.claim d.claim (record {
        field = share_from c.claim d.claim (record { tree = conflict.tree; field = refl });
        points = omega arith;
        tasks = conflict.tasks;
        accesses = conflict.accesses;
      }),
    )

-- where blocks clash, their requirements are in conflict
conflict_of : {P : Type 0} (points : P → List ℕ) (l : LaunchTasks) (u v : Requirement P) (b d : Block) → IsBlockOf points l u b
    → IsBlockOf points l v d → ShareColumn b d → Clash b.claim d.claim → Conflict points u v
conflict_of {P = P} points l u v b d m k share h =
    let one = block_of (claim_on l u m.field) m.rect in
    let other = block_of (claim_on l v k.field) k.rect in
    let clash : Clash one.claim other.claim =
    subst (λ (e : Block). Clash e.claim other.claim) (sym m.is) (subst (λ (e : Block). Clash b.claim e.claim) (sym k.is) h) in
    let column : ShareColumn one other = subst (λ (e : Block). ShareColumn e other) (sym m.is) (subst (λ (e : Block). ShareColumn b e)
    (sym k.is) share) in
    let same = one_field one.claim other.claim clash.field in
    let meet = clash.points in
    let x = max m.rect.x0 k.rect.x0 in
    let y = max m.rect.y0 k.rect.y0 in
    record {
      tasks = clash.tasks;
      tree = same.tree;
      fields = (m.field, m.has, subst (λ n. Contains v.fields.now n) (sym same.field) k.has);
      points = (
        x * 2 ^ 32 + y,
        m.points x y (record { left = omega arith; right = omega (arith, column); low = omega arith; high = omega (arith, meet) }),
        k.points x y (record { left = omega arith; right = omega (arith, column); low = omega arith; high = omega (arith, meet) }),
      );
      accesses = clash.accesses;
    }

made_at : {P : Type 0} (points : P → List ℕ) (l : LaunchTasks) (u : Requirement P) (b : Block) → IsBlockOf points l u b
    → max l.number (max u.record u.declared) ≡ b.claim.record
made_at points l u b m = ap (λ (x : Block). x.claim.record) m.is

-- the later of two blocks tells where they interfere
interferes_there : {P : Type 0} (points : P → List ℕ) (l : LaunchTasks) (reqs : List (Requirement P)) (blocks : List Block) (n : ℕ)
    (b d : Block) → AreBlocks points l reqs blocks → IsTimely l reqs n → Contains blocks b → Contains blocks d → ShareColumn b d
    → Clash b.claim d.claim → b.claim.record ≡ n → d.claim.record ≤ n → InterferesIn points l reqs n
interferes_there points l reqs blocks n b d are timely in_b in_d share clash at le =
    let m = are.sound b in_b in
    let k = are.sound d in_d in
    let u = m.0 in
    let v = k.0 in
    let here = made_at points l u b m.2 in
    let there = made_at points l v d k.2 in
    let launched : ¬ (l.number ≡ n) = λ e. timely (inl e) in
    let ours : ¬ (u.declared ≡ n) = λ e. timely (inr (m.1.0, u, m.1.1, m.1.2, e)) in
    let theirs : ¬ (v.declared ≡ n) = λ e. timely (inr (k.1.0, v, k.1.1, k.1.2, e)) in
    let known : IsKnownAt l n u v = record {
      launched = omega arith;
      asks = omega arith;
      declared = omega arith;
      others = omega arith;
      others_declared = omega arith;
    } in
    (u, v, m.1, k.1, known, conflict_of points l u v b d m.2 k.2 share clash)

turned : (b d : Block) → ShareColumn b d → ShareColumn d b
turned b d share = omega (arith, share)

first_there : {P : Type 0} (points : P → List ℕ) (l : LaunchTasks) (reqs : List (Requirement P)) (blocks : List Block) (n : ℕ)
    → AreBlocks points l reqs blocks → IsTimely l reqs n → IsLeast (HasClashUpTo blocks) (Some n) → InterferesIn points l reqs n
first_there points l reqs blocks n are timely first =
    let h = first.0 in
    let up_to = λ (m : ℕ) (e : Block). nat_le e.claim.record m in
    let b = of_filter (up_to n) blocks h.0 h.2 in
    let d = of_filter (up_to n) blocks h.1 h.3 in
    let b_le = leb-true h.0.claim.record n b.1 in
    let d_le = leb-true h.1.claim.record n d.1 in
    let clash = clash_told h.0.claim h.1.claim h.5 in
    elim (cases_lt h.0.claim.record n) [
      | inr le ↦ interferes_there points l reqs blocks n h.0 h.1 are timely b.0 d.0 h.4 clash (omega (arith, le, b_le)) d_le
      | inl lt ↦ elim (cases_lt h.1.claim.record n) [
        | inr le ↦ interferes_there points l reqs blocks n h.1 h.0 are timely d.0 b.0 (turned h.0 h.1 h.4)
            (clash_back h.0.claim h.1.claim clash)
            (omega (arith, le, d_le)) b_le
        | inl also ↦
            let m = max h.0.claim.record h.1.claim.record in
            let earlier : HasClashUpTo blocks m = (
              h.0,
              h.1,
              in_filter (up_to m) blocks h.0 b.0 (le-leb h.0.claim.record m (omega arith)),
              in_filter (up_to m) blocks h.1 d.0 (le-leb h.1.claim.record m (omega arith)),
              h.4,
              h.5,
            ) in
            absurd (omega (arith, first.1 m earlier, lt, also))
      ]
    ]

pub none_in_blocks : {P : Type 0} (points : P → List ℕ) (l : LaunchTasks) (reqs : List (Requirement P)) (blocks : List Block) (o : Option ℕ)
    → AreBlocks points l reqs blocks → IsLeast (HasClashUpTo blocks) o → o ≡ None → (n : ℕ) → ¬ InterferesIn points l reqs n
none_in_blocks points l reqs blocks o are least none n h =
    (subst (IsLeast (HasClashUpTo blocks)) none least) n (blocks_clash points l reqs blocks n are h)

pub first_in_blocks : {P : Type 0} (points : P → List ℕ) (l : LaunchTasks) (reqs : List (Requirement P)) (blocks : List Block)
    (o : Option ℕ)
    (n : ℕ) (late : Bool) → AreBlocks points l reqs blocks → IsLeast (HasClashUpTo blocks) o → o ≡ Some n
    → (IsTrue late ↔ ((l.number ≡ n) ⊎ Any (λ r. r.declared ≡ n) reqs)) → late ≡ false → IsLeast (InterferesIn points l reqs) (Some n)
first_in_blocks points l reqs blocks o n late are least some judged timely =
    let first : IsLeast (HasClashUpTo blocks) (Some n) = subst (IsLeast (HasClashUpTo blocks)) some least in (
      first_there points l reqs blocks n are (λ h. both_ways late timely (judged.1 h)) first,
      λ m h. first.1 m (blocks_clash points l reqs blocks m are h),
    )
