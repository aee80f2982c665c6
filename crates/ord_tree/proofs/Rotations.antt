-- The combined effect of the four writes of a rotation.
use Rattle.std.proofs.Common.{◌≡◌, ◌≢◌, ℕ, ◌+◌, ◌<◌, ◌≤◌, Option, Some, None, arith, refl, sym, ◌∙◌, ap, inl, inr, ⊎_elim, ◌⊎◌, option_map, is_some, true}
use Rattle.std.proofs.lemmas.Bool.{cases_eq}
use Rattle.chain_base.specs.Chain.{Chain}
use Rattle.ord_tree.specs.Slots.{Slots, Holds, Way, top, up, above, HoldsWay, here, times_in, times_way, back_at, Writes, Hangs, ReplacesChild}
use Rattle.ord_tree.specs.declared.tree_links.Side.TheVariants.{Lesser, Greater}
use Rattle.ord_tree.specs.TreeLinks.{other_side, child_at, with_child_at, as_numbers}
use Rattle.ord_tree.specs.{Shape.Shape, Shape.missing, Shape.node, Shape.fork, Shape.root_of, declared.tree_links.TreeLinks.TreeLinks}
use Rattle.ord_tree.specs.{declared.tree_links.Side.Side, Rotate.Site, Rotate.IsRotated}
use Rattle.ord_tree.proofs.Forks.{HoldsFork-holds, Holds-fork, here-same, times_in-fork, apart-from, link-root, child-with_child, other_child-with_child, child-with_other}
use Rattle.ord_tree.proofs.Frames.{root-in, Holds-frame, HoldsWay-frame, Holds-rehung, HoldsWay-replaced}

-- links as numbers
pub child-as_numbers : {I : Type 0} (number : I → ℕ) (side : Side) (n : TreeLinks I) → option_map number (child_at side n) ≡ child_at side (as_numbers number n)
child-as_numbers number Lesser n = refl
child-as_numbers number Greater n = refl

-- links with another parent and rank
abbrev pub placed : Option ℕ → ℕ → TreeLinks ℕ → TreeLinks ℕ
placed back rank n = record n { back = back; rank = rank }

pub child-placed : (side : Side) (back : Option ℕ) (rank : ℕ) (n : TreeLinks ℕ) → child_at side (placed back rank n) ≡ child_at side n
child-placed Lesser back rank n = refl
child-placed Greater back rank n = refl

-- what a node at the root of a fork stores
pub record ForkAt (at : Slots) (over : Option ℕ) (side : Side) (near : Shape) (i k : ℕ) (far : Shape) (n : TreeLinks ℕ) : Type 0 where
  pub back : n.back ≡ over
  pub rank : n.rank ≡ k
  pub near_held : Holds at (Some i) (child_at side n) near
  pub far_held : Holds at (Some i) (child_at (other_side side) n) far

module _ (at : Slots) (over link : Option ℕ) (side : Side) (near : Shape) (i k : ℕ) (far : Shape) (n : TreeLinks ℕ) where
  pub ForkAt-holds : at i ≡ Some n → Holds at over link (fork side near i k far) → ForkAt at over side near i k far n
  ForkAt-holds e h =
      let f = HoldsFork-holds at over link side near far i k h in
      let same : f.0 ≡ n = cc in
      rw (← same) (record { back = f.3; rank = f.4; near_held = f.5; far_held = f.6 })

pub above-in : (way : Way) (p : ℕ) → above way ≡ Some p → 0 < times_way p way
above-in top p e = absurd cc
above-in (up side i k far rest) p e = let same : i ≡ p = cc in rw same (omega (arith, here-same p))

-- a link that leads into a shape leads to a node
pub occupied-link : (at : Slots) (over link : Option ℕ) (s : Shape) (i : ℕ) → Holds at over link s → link ≡ Some i → is_some (at i) ≡ true
occupied-link at over link missing i h e = absurd cc
occupied-link at over link (node l j k r) i h e = let same : i ≡ j = cc in rw (same, h.2) refl

-- the lower node of a rotation
module _ (at : Slots) (root : Option ℕ) (side : Side) (z y : ℕ) (site : Site at root side z y) (ny : TreeLinks ℕ) (e : at y ≡ Some ny) where
  -- what it stores
  pub fork_at_low : ForkAt at (Some z) side site.outer y site.low site.inner ny
  fork_at_low =
      let f = HoldsFork-holds at (above site.way) (Some z) side (fork side site.outer y site.low site.inner) site.far z site.high site.held in
      ForkAt-holds at (Some z) (child_at side f.0) side site.outer y site.low site.inner ny e f.5

  -- its link to the shape between the two nodes leads to a node
  pub occupied-inner : (i : ℕ) → child_at (other_side side) ny ≡ Some i → is_some (at i) ≡ true
  occupied-inner i link = occupied-link at (Some y) (child_at (other_side side) ny) site.inner i fork_at_low.far_held link

-- whether a link leads to an index
pub cases_link : (link : Option ℕ) (j : ℕ) → (link ≡ Some j) ⊎ (link ≢ Some j)
cases_link None j = inr (λ e. absurd cc)
cases_link (Some i) j = ⊎_elim (λ same. inl (ap Some same)) (λ other. inr (λ e. other cc)) (cases_eq i j)

module _ {T : Type 0} {first second third fourth fifth : Chain T} {old replaced hung below new : Slots} {root root' : Option ℕ} {side : Side} {z y : ℕ} {rank_z rank_y : ℕ}
    (site : Site old root side z y) {ny nz : TreeLinks ℕ} (is_y : old y ≡ Some ny) (is_z : old z ≡ Some nz)
    (parent : ReplacesChild nz.back z (Some y) root root' old replaced first second)
    (middle : Hangs (child_at (other_side side) ny) (Some z) replaced hung second third)
    (write_z : Writes z (λ n. placed (Some y) rank_z (with_child_at side (child_at (other_side side) ny) n)) hung below third fourth)
    (write_y : Writes y (λ n. placed nz.back rank_y (with_child_at (other_side side) (Some z) n)) below new fourth fifth) where
  fork_z : ForkAt old (above site.way) side (fork side site.outer y site.low site.inner) z site.high site.far nz
  fork_z = ForkAt-holds old (above site.way) (Some z) side (fork side site.outer y site.low site.inner) z site.high site.far nz is_z site.held

  fork_y : ForkAt old (Some z) side site.outer y site.low site.inner ny
  fork_y = ForkAt-holds old (Some z) (child_at side nz) side site.outer y site.low site.inner ny is_y fork_z.near_held

  -- the parts share no index
  total : (j : ℕ) → times_way j site.way + times_in j site.outer + here j y + times_in j site.inner + here j z + times_in j site.far ≤ 1
  total j = omega (arith, site.apart j, times_in-fork j side (fork side site.outer y site.low site.inner) site.far z site.high, times_in-fork j side site.outer site.inner y site.low)

  middle_is : child_at (other_side side) ny ≡ root_of site.inner
  middle_is = link-root old (Some y) (child_at (other_side side) ny) site.inner fork_y.far_held

  in_inner : (j : ℕ) → child_at (other_side side) ny ≡ Some j → 0 < times_in j site.inner
  in_inner j e = root-in site.inner j (sym middle_is ∙ e)

  in_way : (j : ℕ) → nz.back ≡ Some j → 0 < times_way j site.way
  in_way j e = above-in site.way j (sym fork_z.back ∙ e)

  y≢z : y ≢ z
  y≢z = apart-from z y (λ j. here j y) (omega (arith, total z, here-same z)) (omega (arith, here-same y))

  -- the earlier writes changed neither of the two nodes
  z_stays : hung z ≡ Some nz
  z_stays = middle.elsewhere z (λ e. omega (arith, total z, here-same z, in_inner z e)) ∙ parent.elsewhere z (λ e. omega (arith, total z, here-same z, in_way z e)) ∙ is_z

  y_stays : below y ≡ Some ny
  y_stays = write_z.elsewhere y y≢z ∙ middle.elsewhere y (λ e. omega (arith, total y, here-same y, in_inner y e)) ∙ parent.elsewhere y (λ e. omega (arith, total y, here-same y, in_way y e)) ∙ is_y

  elsewhere : (j : ℕ) → j ≢ z → j ≢ y → child_at (other_side side) ny ≢ Some j → nz.back ≢ Some j → new j ≡ old j
  elsewhere j not_z not_y not_middle not_parent = write_y.elsewhere j not_y ∙ write_z.elsewhere j not_z ∙ middle.elsewhere j not_middle ∙ parent.elsewhere j not_parent

  -- a part without the written indexes is unchanged
  stays : (f : ℕ → ℕ) → ((j : ℕ) → f j + times_way j site.way + here j y + times_in j site.inner + here j z ≤ 1) → (j : ℕ) → 0 < f j → new j ≡ old j
  stays f alone j in_f =
      elsewhere j (apart-from z j f (omega (arith, alone z, here-same z)) in_f) (apart-from y j f (omega (arith, alone y, here-same y)) in_f)
      (λ e. omega (arith, alone j, in_inner j e)) (λ e. omega (arith, alone j, in_way j e))

  outer_held : Holds new (Some y) (child_at side ny) site.outer
  outer_held = Holds-frame old new site.outer (Some y) (child_at side ny) (stays (λ j. times_in j site.outer) (λ j. omega (arith, total j))) fork_y.near_held

  far_held : Holds new (Some z) (child_at (other_side side) nz) site.far
  far_held = Holds-frame old new site.far (Some z) (child_at (other_side side) nz) (stays (λ j. times_in j site.far) (λ j. omega (arith, total j))) fork_z.far_held

  inner_stays : (j : ℕ) → child_at (other_side side) ny ≢ Some j → 0 < times_in j site.inner → new j ≡ old j
  inner_stays j not_middle in_inner' =
      elsewhere j (apart-from z j (λ j. times_in j site.inner) (omega (arith, total z, here-same z)) in_inner') (apart-from y j (λ j. times_in j site.inner) (omega (arith, total y, here-same y)) in_inner')
      not_middle (λ e. omega (arith, total j, in_way j e))

  inner_held : Holds new (Some z) (child_at (other_side side) ny) site.inner
  inner_held =
      Holds-rehung old new (Some y) (Some z) (child_at (other_side side) ny)
      (λ j n is e. write_y.elsewhere j (apart-from y j (λ j. times_in j site.inner) (omega (arith, total y, here-same y)) (in_inner j is))
      ∙ write_z.elsewhere j (apart-from z j (λ j. times_in j site.inner) (omega (arith, total z, here-same z)) (in_inner j is))
      ∙ middle.here j n is (parent.elsewhere j (λ p. omega (arith, total j, in_inner j is, in_way j p)) ∙ e)) site.inner
      inner_stays (λ j. omega (arith, total j)) fork_y.far_held

  way_stays : (j : ℕ) → 0 < times_way j site.way → new j ≡ replaced j
  way_stays j in_way' =
      write_y.elsewhere j (apart-from y j (λ j. times_way j site.way) (omega (arith, total y, here-same y)) in_way')
      ∙ write_z.elsewhere j (apart-from z j (λ j. times_way j site.way) (omega (arith, total z, here-same z)) in_way')
      ∙ middle.elsewhere j (λ e. omega (arith, total j, in_inner j e))

  way_held : HoldsWay new root' site.way (Some y)
  way_held =
      HoldsWay-frame replaced new site.way root' (Some y) way_stays
      (HoldsWay-replaced site.way (rw fork_z.back at parent) (λ j. omega (arith, total j)) site.held_way)

  backs_held : (j : ℕ) → (j ≡ z) ⊎ (j ≡ y) ⊎ (root_of site.inner ≡ Some j) ⊎ (back_at old j ≡ back_at new j)
  backs_held j =
      ⊎_elim (λ e. inl e) (λ not_z. inr (⊎_elim (λ e. inl e) (λ not_y. inr (⊎_elim (λ e. inl e)
      (λ not_middle. inr (parent.backs j ∙ ap (λ (o : Option (TreeLinks ℕ)). option_map (λ (n : TreeLinks ℕ). n.back) o) (sym (write_y.elsewhere j not_y ∙ write_z.elsewhere j not_z ∙ middle.elsewhere j (λ e. not_middle (sym middle_is ∙ e))))))
      (cases_link (root_of site.inner) j))) (cases_eq j y))) (cases_eq j z)

  held_z : (link : Option ℕ) → link ≡ Some z → Holds new (Some y) link (fork side site.inner z rank_z site.far)
  held_z link e =
      let n = with_child_at side (child_at (other_side side) ny) nz in
      Holds-fork new (Some y) link side site.inner site.far z rank_z (
        placed (Some y) rank_z n,
        e,
        write_y.elsewhere z (λ e. y≢z (sym e)) ∙ write_z.here nz z_stays,
        refl,
        refl,
        rw (child-placed side (Some y) rank_z n, child-with_child side (child_at (other_side side) ny) nz) inner_held,
        rw (child-placed (other_side side) (Some y) rank_z n, other_child-with_child side (child_at (other_side side) ny) nz) far_held,
      )

  held_y : Holds new (above site.way) (Some y) (fork side site.outer y rank_y (fork side site.inner z rank_z site.far))
  held_y =
      let n = with_child_at (other_side side) (Some z) ny in
      Holds-fork new (above site.way) (Some y) side site.outer (fork side site.inner z rank_z site.far) y rank_y (
        placed nz.back rank_y n,
        refl,
        write_y.here ny y_stays,
        fork_z.back,
        refl,
        rw (child-placed side nz.back rank_y n, child-with_other side (Some z) ny) outer_held,
        held_z (child_at (other_side side) (placed nz.back rank_y n)) (child-placed (other_side side) nz.back rank_y n ∙ child-with_child (other_side side) (Some z) ny),
      )

  pub IsRotated-written : IsRotated site new root' rank_z rank_y
  IsRotated-written = record { held_way = way_held; held = held_y; backs = backs_held }
