-- A node in the place of another.
use Rattle.std.proofs.Common.{◌≡◌, ◌≢◌, ℕ, ◌+◌, ◌<◌, Option, Some, None, arith, refl, sym, ◌∙◌, ap, is_some, true}
use Rattle.std.proofs.{lemmas.Bool.eq-eqb, lemmas.Bool.ne_eqb, lemmas.Grind.common_steps}
use Rattle.chain_base.specs.Chain.{Chain}
use Rattle.ord_tree.specs.Slots.{Slots, Holds, Way, top, up, plug, above, HoldsWay, here, times_in, times_way, MovesBacks, Writes, Hangs, ReplacesChild}
use Rattle.ord_tree.specs.declared.tree_links.Side.TheVariants.{Lesser, Greater}
use Rattle.ord_tree.specs.{Shape.Shape, Shape.missing, Shape.node, Detach.stand_in, Detach.renamed, Detach.CanStandIn}
use Rattle.ord_tree.specs.declared.tree_links.TreeLinks.{TreeLinks}
use Rattle.ord_tree.proofs.Frames.{occupied-above, root-in, HoldsWay-frame, Holds-rehung, HoldsWay-replaced}
use Rattle.ord_tree.proofs.Forks.{Holds-plug, link-root, here-same, times_in-plug, apart-from}
use Rattle.ord_tree.proofs.{Rotations.above-in, Rotations.occupied-link, Spots.Spot, Spots.spot_in, Spots.spot_holds, Rotations.ForkAt}
use Rattle.ord_tree.proofs.{Views.MovesBacks-then, Views.MovesBacks-same, Views.MovesBacks-write, Views.MovesBacks-hung, LeafBranches.some_in}

-- another index stays
pub stand_in-other : (z v j : ℕ) → j ≢ z → stand_in z v j ≡ j
stand_in-other z v j e = rw (ne_eqb j z e) refl

pub stand_in-same : (z v : ℕ) → stand_in z v z ≡ v
stand_in-same z v = rw (eq-eqb z z refl) refl

pub renamed-absent : (z v : ℕ) (s : Shape) → times_in z s ≡ 0 → renamed z v s ≡ s
renamed-absent z v missing none = refl
renamed-absent z v (node l i k r) none = grind (arith, common_steps, renamed-absent z v l, renamed-absent z v r)

renamed-plug : (z v : ℕ) (way : Way) (s : Shape) → times_way z way ≡ 0 → renamed z v (plug way s) ≡ plug way (renamed z v s)
renamed-plug z v top s none = refl
renamed-plug z v (up Lesser i k far rest) s none = grind (arith, common_steps, renamed-plug z v rest (node s i k far), renamed-absent z v far)
renamed-plug z v (up Greater i k far rest) s none = grind (arith, common_steps, renamed-plug z v rest (node far i k s), renamed-absent z v far)

module _ {old : Slots} {root : Option ℕ} {z v : ℕ} {s : Shape} (can : CanStandIn old root z v s) where
  spot : Spot old root Lesser z s
  spot = spot_in old root Lesser z s top root refl can.held can.within

  pub z_occupied : is_some (old z) ≡ true
  z_occupied = ap is_some spot.at_y

  abbrev l : Shape
  l = spot.near

  abbrev r : Shape
  r = spot.far

  total : (j : ℕ) → times_in j s ≡ times_way j spot.way + (times_in j l + here j z + times_in j r)
  total j = ap (times_in j) (sym spot.is) ∙ times_in-plug j spot.way (node l z spot.rank r)

  named : renamed z v s ≡ plug spot.way (node l v spot.rank r)
  named =
      ap (renamed z v) (sym spot.is) ∙ renamed-plug z v spot.way (node l z spot.rank r) (omega (arith, total z, here-same z, can.apart z))
      ∙ rw (renamed-absent z v l (omega (arith, total z, here-same z, can.apart z)), renamed-absent z v r (omega (arith, total z, here-same z, can.apart z)), stand_in-same z v) refl

  module _ (nz : TreeLinks ℕ) (e : old z ≡ Some nz) where
    stored : ForkAt old (above spot.way) Lesser l z spot.rank r nz
    stored = spot_holds spot nz e

    pub lesser_occupied : (i : ℕ) → nz.lesser ≡ Some i → is_some (old i) ≡ true
    lesser_occupied i link = occupied-link old (Some z) nz.lesser l i stored.near_held link

    pub greater_occupied : (i : ℕ) → nz.greater ≡ Some i → is_some (old i) ≡ true
    greater_occupied i link = occupied-link old (Some z) nz.greater r i stored.far_held link

    pub parent_occupied : (p : ℕ) → nz.back ≡ Some p → is_some (old p) ≡ true
    parent_occupied p b = occupied-above old root (Some z) spot.way spot.held_way p (sym stored.back ∙ b)

    in_l : (j : ℕ) → nz.lesser ≡ Some j → 0 < times_in j l
    in_l j link = root-in l j (sym (link-root old (Some z) nz.lesser l stored.near_held) ∙ link)

    in_r : (j : ℕ) → nz.greater ≡ Some j → 0 < times_in j r
    in_r j link = root-in r j (sym (link-root old (Some z) nz.greater r stored.far_held) ∙ link)

    in_way : (j : ℕ) → nz.back ≡ Some j → 0 < times_way j spot.way
    in_way j b = above-in spot.way j (sym stored.back ∙ b)

    module _ {T : Type 0} {first second third fourth fifth : Chain T} {replaced hung both new : Slots} {root' : Option ℕ}
        (parent : ReplacesChild nz.back z (Some v) root root' old replaced first second) (lesser : Hangs nz.lesser (Some v) replaced hung second third)
        (greater : Hangs nz.greater (Some v) hung both third fourth) (write : Writes v (λ _. nz) both new fourth fifth) where
      at_v : new v ≡ Some nz
      at_v = let was = some_in (both v) (greater.occupied v ∙ lesser.occupied v ∙ parent.occupied v ∙ can.spare) in write.here was.0 was.1

      not_v : (j : ℕ) → 0 < times_in j s → j ≢ v
      not_v j inside = apart-from v j (λ j. times_in j s) can.fresh inside

      way_held : HoldsWay new root' spot.way (Some v)
      way_held =
          HoldsWay-frame replaced new spot.way root' (Some v)
          (λ j inside. write.elsewhere j (not_v j (omega (arith, total j))) ∙ greater.elsewhere j (λ link. omega (arith, in_r j link, total j, can.apart j)) ∙ lesser.elsewhere j (λ link. omega (arith, in_l j link, total j, can.apart j)))
          (HoldsWay-replaced spot.way (rw stored.back at parent) (λ j. omega (arith, total j, can.apart j)) spot.held_way)

      l_new : Holds new (Some v) nz.lesser l
      l_new =
          Holds-rehung old new (Some z) (Some v) nz.lesser
          (λ j n link d. let inside = in_l j link in write.elsewhere j (not_v j (omega (arith, total j))) ∙ greater.elsewhere j (λ other. omega (arith, in_r j other, total j, can.apart j))
          ∙ lesser.here j n link (parent.elsewhere j (λ b. omega (arith, in_way j b, total j, can.apart j)) ∙ d)) l
          (λ j other inside. write.elsewhere j (not_v j (omega (arith, total j))) ∙ greater.elsewhere j (λ link. omega (arith, in_r j link, total j, can.apart j)) ∙ lesser.elsewhere j other ∙ parent.elsewhere j (λ b. omega (arith, in_way j b, total j, can.apart j)))
          (λ j. omega (arith, total j, can.apart j)) stored.near_held

      r_new : Holds new (Some v) nz.greater r
      r_new =
          Holds-rehung old new (Some z) (Some v) nz.greater
          (λ j n link d. let inside = in_r j link in write.elsewhere j (not_v j (omega (arith, total j)))
          ∙ greater.here j n link (lesser.elsewhere j (λ other. omega (arith, in_l j other, total j, can.apart j)) ∙ parent.elsewhere j (λ b. omega (arith, in_way j b, total j, can.apart j)) ∙ d)) r
          (λ j other inside. write.elsewhere j (not_v j (omega (arith, total j))) ∙ greater.elsewhere j other ∙ lesser.elsewhere j (λ link. omega (arith, in_l j link, total j, can.apart j)) ∙ parent.elsewhere j (λ b. omega (arith, in_way j b, total j, can.apart j)))
          (λ j. omega (arith, total j, can.apart j)) stored.far_held

      pub Holds-substituted : Holds new None root' (renamed z v s)
      Holds-substituted =
          rw named (Holds-plug new root' spot.way (node l v spot.rank r) (Some v) way_held (nz, refl, at_v, stored.back, stored.rank, l_new, r_new))

      pub moves_three : MovesBacks 3 old new
      moves_three =
          MovesBacks-same old replaced new 3 parent.backs
          (MovesBacks-then replaced hung new 1 2 (MovesBacks-hung lesser) (MovesBacks-then hung both new 1 1 (MovesBacks-hung greater) (MovesBacks-write write)))
