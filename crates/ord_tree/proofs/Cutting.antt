-- Removing a node of which one side is empty: the other side takes its place.
use Rattle.std.proofs.Common.{◌≡◌, ◌≢◌, ℕ, zero, suc, ◌+◌, ◌<◌, ◌≤◌, Option, Some, List, [], ◌∷◌, ◌++◌, length, arith, refl, sym, ◌∙◌, ap, subst, inl, inr, ⊎_elim, is_some, true}
use Rattle.std.proofs.{lemmas.Bool.cases_lt, lemmas.Bool.cases_eq, lemmas.Bool.eq-eqb, lemmas.Bool.ne_eqb, lemmas.Grind.common_steps}
use Rattle.chain_base.specs.Chain.{Chain}
use Rattle.ord_tree.specs.Slots.{Slots, Holds, plug, above, HoldsWay, here, times, times_in, times_way, MovesBacks, Hangs, ReplacesChild}
use Rattle.ord_tree.specs.{Shape.missing, Shape.fork, Shape.rank_of, Shape.walk, Balance.IsOver, TreeLinks.other_side, TreeLinks.child_at}
use Rattle.ord_tree.specs.{declared.tree_links.TreeLinks.TreeLinks, declared.tree_links.Branch.Branch, Detach.without, Detach.IsLoose, Demote.IsLow}
use Rattle.ord_tree.specs.{declared.tree_links.Side.Side, Potential.node_potential, Potential.potential}
use Rattle.ord_tree.specs.Account.{potential_way, rank_in, leaf_reserve, ranks_without}
use Rattle.ord_tree.proofs.Forks.{Holds-fork, link-root, rank-fork, IsApart-once}
use Rattle.ord_tree.proofs.Frames.{occupied-above, root-in, Holds-frame, HoldsWay-frame, Holds-rehung, HoldsWay-replaced}
use Rattle.ord_tree.proofs.Rotations.{ForkAt}
use Rattle.ord_tree.proofs.Spots.{Spot, spot_holds, IsBare, bare_spot, bare_occupied, bare_whole, bare_total, bare_split, bare_first, bare_balanced}
use Rattle.ord_tree.proofs.{Rotations.above-in, Rotations.occupied-link}
use Rattle.ord_tree.proofs.Demoting.{IsBranchOf, BuiltOrFallen, PaidOrFallen, EndsAt, ends_at, low_branch, low_paid}
use Rattle.ord_tree.proofs.Views.{MovesBacks-same, MovesBacks-hung}
use Rattle.ord_tree.proofs.Potentials.{node_potential-full, potential-fork, potential-plug}
use Rattle.ord_tree.proofs.RankChanges.{rank_here-other, rank_in-fork, rank_in-plug}

-- lists without an index
pub without-split : (i : ℕ) (front back : List ℕ) → times i front ≡ 0 → without i (front ++ i ∷ back) ≡ front ++ back
without-split i [] back none = rw (eq-eqb i i refl) refl
without-split i (j ∷ js) back none = grind (arith, common_steps, without-split i js back)

pub times-without : (i j : ℕ) (xs : List ℕ) → times j (without i xs) ≤ times j xs
times-without i j [] = omega arith
times-without i j (x ∷ xs) = grind (arith, common_steps, times-without i j xs)

pub length-without : (i : ℕ) (xs : List ℕ) → length (without i xs) ≤ length xs
length-without i [] = omega arith
length-without i (x ∷ xs) = grind (arith, common_steps, length-without i xs)

-- a node with one empty side is one above the other side
bare_rank : (k m : ℕ) → IsOver 1 k 0 m → k ≡ m + 1
bare_rank k m h =
    ⊎_elim (λ (some : 0 < m). omega (arith, h)) (λ (none : m ≤ 0). let one = h.leaf refl (omega arith) in omega arith) (cases_lt 0 m)

-- removing a full leaf pays for the reserve of an empty side
leaf_pays : (m : ℕ) → leaf_reserve m ≤ node_potential (m + 1) 0 m + 1
leaf_pays zero = omega (arith, node_potential-full 1 0 0)
leaf_pays (suc m) = omega arith

module _ {old : Slots} {root : Option ℕ} {v : ℕ} {side : Side} {order : List ℕ} (loose : IsLoose old root v side order) where
  abbrev bare : IsBare old root side v order 1
  bare = record { built = loose.built; within = loose.within; bare = loose.bare; once = loose.once }

  abbrev spot : Spot old root side v loose.built.shape
  spot = bare_spot bare

  pub v_occupied : is_some (old v) ≡ true
  v_occupied = bare_occupied bare

  total : (j : ℕ) → times_way j spot.way + here j v + times_in j spot.far ≤ 1
  total j = omega (arith, bare_total bare j, loose.once j)

  listed_without : walk (plug spot.way spot.far) ≡ without v order
  listed_without =
      let split = bare_split bare in
      split.without_v ∙ sym (without-split v split.front split.back (bare_first bare)) ∙ ap (without v) (sym split.is)

  rank_cut : spot.rank ≡ rank_of spot.far + 1
  rank_cut = bare_rank spot.rank (rank_of spot.far) (bare_balanced bare).0

  module _ (nv : TreeLinks ℕ) (e : old v ≡ Some nv) where
    stored : ForkAt old (above spot.way) side spot.near v spot.rank spot.far nv
    stored = spot_holds spot nv e

    pub rest_occupied : (i : ℕ) → child_at (other_side side) nv ≡ Some i → is_some (old i) ≡ true
    rest_occupied i link = occupied-link old (Some v) (child_at (other_side side) nv) spot.far i stored.far_held link

    pub parent_occupied : (p : ℕ) → nv.back ≡ Some p → is_some (old p) ≡ true
    parent_occupied p b = occupied-above old root (Some v) spot.way spot.held_way p (sym stored.back ∙ b)

    module _ {T : Type 0} {first second third : Chain T} {replaced new : Slots} {root' : Option ℕ}
        (parent : ReplacesChild nv.back v (child_at (other_side side) nv) root root' old replaced first second)
        (hung : Hangs (child_at (other_side side) nv) nv.back replaced new second third) where
      in_far : (j : ℕ) → child_at (other_side side) nv ≡ Some j → 0 < times_in j spot.far
      in_far j link = root-in spot.far j (sym (link-root old (Some v) (child_at (other_side side) nv) spot.far stored.far_held) ∙ link)

      in_way : (j : ℕ) → nv.back ≡ Some j → 0 < times_way j spot.way
      in_way j b = above-in spot.way j (sym stored.back ∙ b)

      pub far_held : Holds new (above spot.way) (child_at (other_side side) nv) spot.far
      far_held =
          Holds-rehung replaced new (Some v) (above spot.way) (child_at (other_side side) nv)
          (λ j n link d. hung.here j n link d ∙ ap (λ (b : Option ℕ). Some (record n { back = b })) stored.back) spot.far
          (λ j other inside. hung.elsewhere j other) (λ j. omega (arith, total j))
          (Holds-frame old replaced spot.far (Some v) (child_at (other_side side) nv) (λ j inside. parent.elsewhere j (λ b. omega (arith, inside, in_way j b, total j))) stored.far_held)

      pub way_held : HoldsWay new root' spot.way (child_at (other_side side) nv)
      way_held =
          HoldsWay-frame replaced new spot.way root' (child_at (other_side side) nv) (λ j inside. hung.elsewhere j (λ link. omega (arith, inside, in_far j link, total j)))
          (HoldsWay-replaced spot.way (subst (λ (b : Option ℕ). ReplacesChild b v (child_at (other_side side) nv) root root' old replaced first second) stored.back parent)
          (λ j. omega (arith, total j)) spot.held_way)

      pub moves_one : MovesBacks 1 old new
      moves_one = MovesBacks-same old replaced new 1 parent.backs (MovesBacks-hung hung)

      -- v is no longer in the tree
      abbrev low : IsLow new root' (child_at (other_side side) nv) (without v order)
      low = record {
        way = spot.way;
        shape = spot.far;
        held_way = way_held;
        held = far_held;
        listed = listed_without;
        balanced = (bare_balanced bare).1;
        balanced_way = rw (← rank_cut) (bare_balanced bare).2;
        once = λ j. omega (arith, times-without v j order, loose.once j);
        few = omega (arith, length-without v order, loose.few);
      }

      module _ {I : Type 0} (number : I → ℕ) (branch : Option (Branch I)) (by : IsBranchOf number old v branch) where
        end : EndsAt number spot.way branch
        end =
            ends_at number old root spot.way (fork side spot.near v spot.rank spot.far) v spot.held_way
            (Holds-fork old (above spot.way) (Some v) side spot.near spot.far v spot.rank (spot.links, refl, spot.at_y, spot.holds.back, spot.holds.rank, spot.holds.near_held, spot.holds.far_held))
            (IsApart-once spot.way (fork side spot.near v spot.rank spot.far) order (ap walk spot.is ∙ loose.built.listed) loose.once) branch by

        pub cut_branch : BuiltOrFallen number new root' (without v order) branch
        cut_branch = low_branch low number branch end

        -- and the account
        pub cut_paid : PaidOrFallen number (ranks_without v loose.built.shape) new root' (without v order) (potential loose.built.shape + 1) branch
        cut_paid =
            let before = fork side missing v spot.rank spot.far in
            low_paid low number []
            (λ j. ⊎_elim (λ (is : j ≡ v). inr (inl (rw (is, eq-eqb v v refl) refl))) (λ (other : j ≢ v). inr (inr (rw (ne_eqb j v other) (omega (
              arith,
              ap (λ s. rank_in s j) (bare_whole bare),
              rank_in-plug j spot.way before,
              rank_in-fork j side missing spot.far v spot.rank,
              rank_here-other j v spot.rank other,
            ))))) (cases_eq j v)) (omega arith) branch
            (omega (
              arith,
              leaf_pays (rank_of spot.far),
              ap potential (bare_whole bare),
              potential-plug spot.way before,
              potential-fork side missing spot.far v spot.rank,
              ap (potential_way spot.way) (rank-fork side missing spot.far v spot.rank ∙ rank_cut),
              ap (λ k. node_potential k 0 (rank_of spot.far)) rank_cut,
            )) end
