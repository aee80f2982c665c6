-- One step of the repair after an insertion, at a node that has risen, and its account: the potential pays for each step.
use Rattle.std.proofs.Common.{◌≡◌, ◌≢◌, ℕ, ◌+◌, ◌*◌, ◌^◌, ◌<◌, ◌≤◌, Option, Some, None, List, [], ◌∷◌, length, arith, refl, sym, ◌∙◌, ap, subst, inl, inr, ⊎_elim, is_some, true}
use Rattle.std.proofs.lemmas.Bool.{cases_eq}
use Rattle.chain_base.specs.Chain.{Chain}
use Rattle.ord_tree.specs.Slots.{Slots, Holds, plug, above, here, times_in, times_way, Among, IsApart, back_at, rank_at, Writes}
use Rattle.ord_tree.specs.Shape.{Shape, fork, rank_of, root_of, size_of, walk}
use Rattle.ord_tree.specs.Promote.{IsRising, IsSteep, IsRepaired, IsPromoted}
use Rattle.ord_tree.specs.Account.{rank_in, rank_way, potential_way, NamesChanges, pending_change, IsSpelledWithin, rising_ranks, rising_credit, steep_ranks, steep_credit, IsRisingWithin}
use Rattle.ord_tree.specs.{Potential.potential, Balance.IsOver, Balance.IsBalanced, Balance.IsBalancedWay, declared.tree_links.Side.Side}
use Rattle.ord_tree.specs.{TreeLinks.other_side, TreeLinks.child_at, declared.tree_links.TreeLinks.TreeLinks}
use Rattle.ord_tree.proofs.Forks.{rank-fork, size-plug, walk-ranked, walk-plug, link-root, root_holds, IsBalanced-fork, here-same, here-other, IsApart-once, apart-from}
use Rattle.ord_tree.proofs.Frames.{IsLast, IsUnder, under, not_far, no_step, root-in, HoldsWay-frame, Holds-reranked, backs-ranked}
use Rattle.ord_tree.proofs.{Slack.IsRanked-balanced, Slack.rank-small, Slack.IsUneven-fork, Slack.fork_uneven, Rotations.occupied-link, Views.MovesBacks-same}
use Rattle.ord_tree.proofs.{Doubles.IsJoint, Doubles.Forked, Doubles.forked, Doubles.forked_rank, Doubles.forked_listed, Doubles.site_of, Doubles.rank_at-held, Halves.size_of-walk}
use Rattle.ord_tree.proofs.Plugs.{IsPlugged, IsBuilt-plugged, IsSpelledWithin-plugged, IsBuilt-fork, IsSpelledWithin-fork}
use Rattle.ord_tree.proofs.Potentials.{node_potential-full, node_potential-uneven, node_potential-tight, potential-fork}
use Rattle.ord_tree.proofs.RankChanges.{rank_here-next, rank_way-absent, rank_in-root, rank_in-fork, names_but, pending_or_new, pending-least, IsWithin-before}

-- only the rank of y may differ
names_pending : (y low : ℕ) (was is : ℕ → ℕ) → was y ≡ low → ((j : ℕ) → j ≢ y → was j ≡ is j) → NamesChanges (pending_change y low) was is
names_pending y low was is from same j =
    ⊎_elim (λ (e : j ≡ y). ⊎_elim (λ among. let P : ℕ → Type 0 = λ i. Among i (pending_change y low) in inl (subst P (sym e) among)) (λ (new : low ≡ 0). inr (inl (ap was e ∙ from ∙ new))) (pending_or_new y low))
    (λ other. inr (inr (same j other))) (cases_eq j y)

module _ {at : Slots} {root : Option ℕ} {y : ℕ} {order : List ℕ} {slack : ℕ} (rising : IsRising at root y order slack) where
  pub y_occupied : is_some (at y) ≡ true
  y_occupied = occupied-link at (above rising.way) (Some y) rising.shape y rising.held refl

  pub y_holds : (ny : TreeLinks ℕ) → at y ≡ Some ny → (ny.back ≡ above rising.way) × (ny.rank ≡ rising.low + 1)
  y_holds ny e = let h = root_holds at (above rising.way) y rising.shape ny rising.held e in (h.0, h.1 ∙ rising.risen)

  apart : IsApart rising.way rising.shape
  apart = IsApart-once rising.way rising.shape order rising.listed rising.once

  pub root_is : root_of rising.shape ≡ Some y
  root_is = sym (link-root at (above rising.way) (Some y) rising.shape rising.held)

  in_shape : 0 < times_in y rising.shape
  in_shape = root-in rising.shape y root_is

  -- the rank of y before it rose
  from_y : rising_ranks rising y ≡ rising.low
  from_y =
      omega (arith, rank_way-absent y rising.way (omega (arith, apart y, in_shape)), rank_in-root rising.shape y root_is (omega (arith, apart y)), here-same y, rising.risen)

  -- the ranks are small
  pub low-small : rising.low + 1 < 128
  low-small =
      let few : size_of rising.shape < 2 ^ 64 = omega (arith, size-plug rising.way rising.shape, size_of-walk (plug rising.way rising.shape), ap length rising.listed, rising.few) in
      omega (arith, rising.risen, rank-small rising.shape (IsRanked-balanced slack rising.shape rising.balanced) few)

  -- at the root the repair ends
  pub risen_top : above rising.way ≡ None → IsRepaired at at root order slack × IsSpelledWithin (rising_ranks rising) at root order (rising_credit rising + 3)
  risen_top e =
      let w = no_step rising.way e in
      let p : IsPlugged at root rising.way rising.shape order = record { link = Some y; held_way = rising.held_way; held = rising.held; listed = rising.listed } in (
        record { built = IsBuilt-plugged p slack (rw w tt) rising.balanced; backs = ([], omega arith, λ j. inr refl) },
        IsSpelledWithin-plugged p (y ∷ []) (names_but (y ∷ []) _ _ (λ j other. omega (arith, here-other j y other)))
            (omega (arith, ap (λ way. potential_way way (rank_of rising.shape)) w)),
      )

  -- elsewhere y has a parent z
  module _ {side : Side} {z : ℕ} (last : IsLast rising.way side z) where
    pub z_under : IsUnder at root (Some y) rising.shape last
    z_under = under rising.held_way rising.held last

    pub z_occupied : is_some (at z) ≡ true
    z_occupied = ap is_some z_under.at_z

    -- what z stores
    pub record IsParent (nz : TreeLinks ℕ) : Type 0 where
      pub rank : nz.rank ≡ last.rank
      pub child : child_at side nz ≡ Some y
      pub one_side : child_at (other_side side) nz ≢ Some y
      pub held_far : Holds at (Some z) (child_at (other_side side) nz) last.far

    pub z_holds : (nz : TreeLinks ℕ) → at z ≡ Some nz → IsParent nz
    z_holds nz e =
        let h = z_under in
        let same : h.links ≡ nz = (let f = h.at_z in cc) in
        subst IsParent same (record { rank = h.rank; child = h.child; one_side = not_far h y root_is apart; held_far = h.held_far })

    pub balanced_last : IsOver slack last.rank rising.low (rank_of last.far) × IsBalanced slack last.far × IsBalancedWay slack last.rest last.rank
    balanced_last = rw last.is at rising.balanced_way

    pub listed_last : walk (plug last.rest (fork side rising.shape z last.rank last.far)) ≡ order
    listed_last = rw last.is at rising.listed

    parts : (j : ℕ) → times_way j last.rest + times_in j rising.shape + here j z + times_in j last.far ≤ 1
    parts j = omega (arith, apart j, ap (times_way j) last.is)

    -- a higher parent ends the repair
    pub risen_below : rising.low + 1 < last.rank → IsRepaired at at root order slack × IsSpelledWithin (rising_ranks rising) at root order (rising_credit rising + 3)
    risen_below higher =
        let p : IsPlugged at root last.rest (fork side rising.shape z last.rank last.far) order
        = record { link = Some z; held_way = z_under.held_rest; held = z_under.held_fork; listed = listed_last } in (
          record {
            built = IsBuilt-fork side rising.shape last.far z last.rank p slack balanced_last.2 (omega (arith, balanced_last.0, rising.risen)) rising.balanced balanced_last.1;
            backs = ([], omega arith, λ j. inr refl);
          },
          IsSpelledWithin-fork side rising.shape last.far z last.rank p (pending_change y rising.low)
              (names_pending y rising.low (rising_ranks rising) _ from_y (λ j other. omega (arith, ap (λ way. rank_way way j) last.is, here-other j y other)))
              (omega (
                arith,
                ap (λ way. potential_way way rising.low) last.is,
                node_potential-tight last.rank (rank_of rising.shape) (rank_of last.far) (inl (omega (arith, balanced_last.0, rising.risen))),
              )),
        )

    -- a promotion: z, which was full, pays
    module _ {T : Type 0} {first second : Chain T} (new : Slots) (by : Writes z (λ n. record n { rank = last.rank + 1 }) at new first second)
        (equal : last.rank ≡ rising.low + 1) (sibling : rank_of last.far + 1 ≡ last.rank) where
      abbrev raised : Shape
      raised = fork side rising.shape z (last.rank + 1) last.far

      abbrev rising_promoted : IsRising new root z order slack
      rising_promoted = record {
        way = last.rest;
        shape = raised;
        low = last.rank;
        held_way = HoldsWay-frame at new last.rest root (Some z) (λ j inside. by.elsewhere j (apart-from z j (λ j. times_way j last.rest) (omega (arith, parts z, here-same z)) inside)) z_under.held_rest;
        held = Holds-reranked by (above last.rest) (Some z) side rising.shape last.far last.rank (omega (arith, parts z, here-same z)) z_under.held_fork;
        listed = walk-plug last.rest raised (fork side rising.shape z last.rank last.far) (walk-ranked side rising.shape last.far z (last.rank + 1) last.rank) ∙ listed_last;
        balanced = IsBalanced-fork slack side rising.shape last.far z (last.rank + 1) (omega (arith, rising.risen)) rising.balanced balanced_last.1;
        balanced_way = balanced_last.2;
        risen = rank-fork side rising.shape last.far z (last.rank + 1);
        uneven = IsUneven-fork side rising.shape last.far z (last.rank + 1) (inr (omega (arith, rising.risen)));
        once = rising.once;
        few = rising.few;
      }

      pub promoted : IsPromoted at new root y z order slack × IsRisingWithin (rising_ranks rising) new root z order slack (rising_credit rising)
      promoted =
          let rank_y : rank_at at (Some y) ≡ rising.low + 1 = rank_at-held at (above rising.way) (Some y) rising.shape rising.held ∙ rising.risen in (
            record {
              rising = rising_promoted;
              backs = backs-ranked by z_under.links z_under.at_z;
              higher = rw (rank_y, by.here z_under.links z_under.at_z) (omega arith);
              fits = omega (arith, rank_y, low-small);
            },
            record {
              state = rising_promoted;
              named = pending_change y rising.low;
              within = omega (
                arith,
                ap (λ way. potential_way way rising.low) last.is,
                pending-least z last.rank (omega arith),
                potential-fork side rising.shape last.far z (last.rank + 1),
                node_potential-full last.rank rising.low (rank_of last.far) equal (omega arith),
                node_potential-uneven (last.rank + 1) (rank_of rising.shape) (rank_of last.far) (omega (arith, rising.risen)),
              );
              names = names_pending y rising.low (rising_ranks rising) (rising_ranks rising_promoted) from_y (λ j other. omega (
                arith,
                ap (λ way. rank_way way j) last.is,
                rank_in-fork j side rising.shape last.far z (last.rank + 1),
                rank_here-next j z last.rank,
                here-other j y other,
              ));
            },
          )

    -- a steep site
    module _ (equal : last.rank ≡ rising.low + 1) (not_sibling : rank_of last.far + 1 ≢ last.rank) where
      abbrev joint : IsJoint at root side last.rest rising.shape z last.rank last.far order
      joint = record { held_way = z_under.held_rest; held = z_under.held_fork; listed = listed_last; once = rising.once }

      abbrev split : Forked side rising.shape y
      split = forked joint root_is

      pub split_rank : split.rank ≡ rising.low + 1
      split_rank = forked_rank joint root_is ∙ rising.risen

      pub split_uneven : 2 * split.rank ≡ rank_of split.near + rank_of split.far + 3
      split_uneven =
          ⊎_elim (λ (leaf : split.rank ≡ 1). absurd (omega (arith, split_rank, balanced_last.0.greater))) (λ h. h)
          (fork_uneven side split.near split.far y split.rank (rw split.is at rising.uneven))

      unfoldable pub IsSteep-rising : IsSteep at root side z y order slack
      IsSteep-rising = record {
        site = site_of joint root_is;
        equal = omega (arith, split_rank);
        sibling = omega (arith, balanced_last.0.greater);
        uneven = split_uneven;
        balanced = rw (← split.is) rising.balanced;
        balanced_far = balanced_last.1;
        balanced_way = balanced_last.2;
        listed = forked_listed joint root_is;
      }

      -- it has the same account
      pub risen_steep : {new : Slots} {root' : Option ℕ} → IsSpelledWithin (steep_ranks IsSteep-rising) new root' order (steep_credit IsSteep-rising + 3)
          → IsSpelledWithin (rising_ranks rising) new root' order (rising_credit rising + 3)
      unfolding IsSteep-rising
      risen_steep paid =
          IsWithin-before []
          (λ j. inr (inr (omega (arith, ap (λ way. rank_way way j) last.is, ap (λ s. rank_in s j) split.is, rank_in-fork j side split.near split.far y split.rank))))
          (omega (
            arith,
            ap (λ way. potential_way way rising.low) last.is,
            ap (λ s. potential s) split.is,
            potential-fork side split.near split.far y split.rank,
            pending-least y rising.low (omega (arith, balanced_last.0.greater)),
          )) paid

-- a repair after steps that move no parent
module _ {first old new : Slots} {root : Option ℕ} {order : List ℕ} {slack : ℕ} where
  pub IsRepaired-after : ((j : ℕ) → back_at first j ≡ back_at old j) → IsRepaired old new root order slack → IsRepaired first new root order slack
  IsRepaired-after same r = record { built = r.built; backs = MovesBacks-same first old new 5 same r.backs }
