-- What nodes form is unchanged unless a write touches it, and how a write of one link changes it.
use Rattle.std.proofs.Common.{◌≡◌, ◌≢◌, ℕ, ◌+◌, ◌<◌, ◌≤◌, Option, Some, None, arith, refl, sym, ◌∙◌, ap, subst, is_some, true}
use Rattle.std.proofs.lemmas.Grind.{common_steps}
use Rattle.chain_base.specs.Chain.{Chain}
use Rattle.ord_tree.specs.Slots.{Slots, Holds, Way, top, up, above, HoldsWay, here, times_in, times_way, back_at, IsApart, Writes, ReplacesChild}
use Rattle.ord_tree.specs.declared.tree_links.Side.TheVariants.{Lesser, Greater}
use Rattle.ord_tree.specs.{TreeLinks.other_side, TreeLinks.child_at, TreeLinks.with_child_at, declared.tree_links.TreeLinks.TreeLinks}
use Rattle.ord_tree.specs.{Shape.Shape, Shape.missing, Shape.node, Shape.fork, Shape.root_of, declared.tree_links.Side.Side}
use Rattle.ord_tree.proofs.Forks.{HoldsFork-holds, Holds-fork, here-same, apart-from, link-root, child-with_child, other_child-with_child, back-with_child, rank-with_child}

-- the root is in the shape
pub root-in : (s : Shape) (i : ℕ) → root_of s ≡ Some i → 0 < times_in i s
root-in missing i e = absurd cc
root-in (node l j k r) i e = let same : j ≡ i = cc in rw same (omega (arith, here-same i))

Some-apart : (i j : ℕ) → j ≢ i → ◌≡◌ {A = Option ℕ} (Some i) (Some j) → ⊥
Some-apart i j ne e = ne cc

-- the last step of a path leads to z from this side
pub record IsLast (way : Way) (side : Side) (z : ℕ) : Type 0 where
  pub rank : ℕ
  pub far : Shape
  pub rest : Way
  pub is : way ≡ up side z rank far rest

pub last_step : (way : Way) (z : ℕ) → above way ≡ Some z → (side : Side) × IsLast way side z
last_step top z e = absurd cc
last_step (up side i k far rest) z e = let same : i ≡ z = cc in (side, record { rank = k; far = far; rest = rest; is = ap (λ i. up side i k far rest) same })

-- the node there, and the shape below it with the shape at the path's end
pub record IsUnder (at : Slots) (root link : Option ℕ) {way : Way} (s : Shape) {side : Side} {z : ℕ} (last : IsLast way side z) : Type 0 where
  pub links : TreeLinks ℕ
  pub at_z : at z ≡ Some links
  pub rank : links.rank ≡ last.rank
  pub child : child_at side links ≡ link
  pub held_far : Holds at (Some z) (child_at (other_side side) links) last.far
  pub held_rest : HoldsWay at root last.rest (Some z)
  pub held_fork : Holds at (above last.rest) (Some z) (fork side s z last.rank last.far)

module _ {at : Slots} {root link : Option ℕ} {way : Way} {s : Shape} (held_way : HoldsWay at root way link) (held : Holds at (above way) link s) {side : Side} {z : ℕ} (last : IsLast way side z) where
  pub under : IsUnder at root link s last
  under =
      let w = rw last.is at held_way in
      record {
        links = w.0;
        at_z = w.1;
        rank = w.3;
        child = w.4;
        held_far = w.5;
        held_rest = w.6;
        held_fork = Holds-fork at (above last.rest) (Some z) side s last.far z last.rank (w.0, refl, w.1, w.2, w.3, rw w.4 (rw last.is at held), w.5);
      }

-- an index is on one side of z alone
pub not_far : {at : Slots} {root link : Option ℕ} {way : Way} {s : Shape} {side : Side} {z : ℕ} {last : IsLast way side z} (u : IsUnder at root link s last) (y : ℕ)
    → root_of s ≡ Some y → IsApart way s → child_at (other_side side) u.links ≢ Some y
not_far {at} {way = way} {s} {side} {z} {last} u y is apart f =
    let in_s = root-in s y is in
    let in_far = root-in last.far y (sym (link-root at (Some z) (child_at (other_side side) u.links) last.far u.held_far) ∙ f) in
    omega (arith, apart y, ap (times_way y) last.is)

pub no_step : (way : Way) → above way ≡ None → way ≡ top
no_step top e = refl
no_step (up side i k far rest) e = absurd cc

pub occupied-above : (at : Slots) (root link : Option ℕ) (way : Way) → HoldsWay at root way link → (p : ℕ) → above way ≡ Some p → is_some (at p) ≡ true
occupied-above at root link top h p e = absurd cc
occupied-above at root link (up side i k far rest) h p e = let same : p ≡ i = cc in rw (same, h.1) refl

module _ (old new : Slots) where
  pub Holds-frame : (s : Shape) (over link : Option ℕ) → ((j : ℕ) → 0 < times_in j s → new j ≡ old j) → Holds old over link s → Holds new over link s
  Holds-frame missing over link same h = h
  Holds-frame (node l i k r) over link same h = (
    h.0,
    h.1,
    same i (omega (arith, here-same i)) ∙ h.2,
    h.3,
    h.4,
    Holds-frame l (Some i) h.0.lesser (λ j in_l. same j (omega arith)) h.5,
    Holds-frame r (Some i) h.0.greater (λ j in_r. same j (omega arith)) h.6,
  )

  pub HoldsWay-frame : (way : Way) (root link : Option ℕ) → ((j : ℕ) → 0 < times_way j way → new j ≡ old j) → HoldsWay old root way link → HoldsWay new root way link
  HoldsWay-frame top root link same h = h
  HoldsWay-frame (up side i k far rest) root link same h = (
    h.0,
    same i (omega (arith, here-same i)) ∙ h.1,
    h.2,
    h.3,
    h.4,
    Holds-frame far (Some i) (child_at (other_side side) h.0) (λ j in_far. same j (omega arith)) h.5,
    HoldsWay-frame rest root (Some i) (λ j in_rest. same j (omega arith)) h.6,
  )

  -- the root of a shape gets another parent
  module _ (over over' link : Option ℕ) (written : (j : ℕ) (n : TreeLinks ℕ) → link ≡ Some j → old j ≡ Some n → new j ≡ Some (record n { back = over' })) where
    pub Holds-rehung : (s : Shape) → ((j : ℕ) → link ≢ Some j → 0 < times_in j s → new j ≡ old j) → ((j : ℕ) → times_in j s ≤ 1)
        → Holds old over link s → Holds new over' link s
    Holds-rehung missing same once h = h
    Holds-rehung (node l i k r) same once h =
        let alone = once i in
        let below = λ (t : Shape) (child : Option ℕ) (none : times_in i t ≡ 0) (inside : (j : ℕ) → 0 < times_in j t → 0 < times_in j (node l i k r)). Holds-frame t (Some i) child
        (λ j in_t. same j (λ e. Some-apart i j (apart-from i j (λ j. times_in j t) none in_t) (sym h.1 ∙ e)) (inside j in_t)) in (
          record (h.0) { back = over' },
          h.1,
          written i h.0 h.1 h.2,
          refl,
          h.4,
          below l h.0.lesser (omega (arith, here-same i)) (λ j in_l. omega arith) h.5,
          below r h.0.greater (omega (arith, here-same i)) (λ j in_r. omega arith) h.6,
        )

-- the parent's link to y, or the root's, is replaced by another, at the end of a path
module _ {T : Type 0} {was is : Chain T} {old new : Slots} {root root' link : Option ℕ} {y : ℕ} where
  pub HoldsWay-replaced : (way : Way) → ReplacesChild (above way) y link root root' old new was is → ((j : ℕ) → times_way j way + here j y ≤ 1)
      → HoldsWay old root way (Some y) → HoldsWay new root' way link
  HoldsWay-replaced top by once h = by.at_top refl
  HoldsWay-replaced (up side i k far rest) by once h =
      let alone = once i in
      let absent = once y in
      let elsewhere = λ (child : Option ℕ). Holds-frame old new far (Some i) child
      (λ j in_far. by.elsewhere j (Some-apart i j (apart-from i j (λ j. times_in j far) (omega (arith, here-same i)) in_far))) in
      let rest_held = HoldsWay-frame old new rest root (Some i) (λ j in_rest. by.elsewhere j (Some-apart i j (apart-from i j (λ j. times_way j rest) (omega (arith, here-same i)) in_rest))) h.6 in
      let not_far : child_at (other_side side) h.0 ≢ Some y
      = λ e. let inside = root-in far y (sym (link-root old (Some i) (child_at (other_side side) h.0) far h.5) ∙ e) in omega (arith, here-same y) in
      let root_is = by.below i refl in (
        with_child_at side link h.0,
        by.here i h.0 side refl h.1 h.4 not_far,
        back-with_child side link h.0 ∙ h.2,
        rank-with_child side link h.0 ∙ h.3,
        child-with_child side link h.0,
        rw (other_child-with_child side link h.0) (elsewhere (child_at (other_side side) h.0) h.5),
        subst (λ (r : Option ℕ). HoldsWay new r rest (Some i)) (sym root_is) rest_held,
      )

child-ranked : (side : Side) (rank : ℕ) (n : TreeLinks ℕ) → child_at side (record n { rank = rank }) ≡ child_at side n
child-ranked Lesser rank n = refl
child-ranked Greater rank n = refl

-- the node i gets another rank; nothing else is written
module _ {T : Type 0} {was is : Chain T} {old new : Slots} {i rank : ℕ} (by : Writes i (λ n. record n { rank = rank }) old new was is) where
  -- the same at the root of a shape
  module _ (over link : Option ℕ) (side : Side) (near far : Shape) (k : ℕ) where
    pub Holds-reranked : times_in i near + times_in i far ≡ 0 → Holds old over link (fork side near i k far) → Holds new over link (fork side near i rank far)
    Holds-reranked none h =
        let f = HoldsFork-holds old over link side near far i k h in
        Holds-fork new over link side near far i rank (
          record (f.0) { rank = rank },
          f.1,
          by.here f.0 f.2,
          f.3,
          refl,
          rw (child-ranked side rank f.0) (Holds-frame old new near (Some i) (child_at side f.0) (λ j in_near. by.elsewhere j (apart-from i j (λ j. times_in j near) (omega (arith, none)) in_near)) f.5),
          rw (child-ranked (other_side side) rank f.0) (Holds-frame old new far (Some i) (child_at (other_side side) f.0) (λ j in_far. by.elsewhere j (apart-from i j (λ j. times_in j far) (omega (arith, none)) in_far)) f.6),
        )

  -- it moves no parent
  pub backs-ranked : (n : TreeLinks ℕ) → old i ≡ Some n → (j : ℕ) → back_at old j ≡ back_at new j
  backs-ranked n e j = grind (arith, common_steps, j, by.here n, by.elsewhere j)
