-- What the code of a removal finds at each of its steps.
use Rattle.std.proofs.Common.{◌≡◌, ℕ, ◌+◌, ◌≤◌, Option, Some, None, List, [], ◌∷◌, ◌++◌, map, arith, refl, sym, ◌∙◌, ap, subst, inr, option_map, is_some, true, append_assoc, MatchOption}
use Rattle.std.proofs.lemmas.List.{map-append}
use Rattle.std.specs.Option.{IsSomeAnd}
use Rattle.ord_tree.specs.Slots.{Slots, Holds, Way, top, plug, above, HoldsWay, here, times}
use Rattle.ord_tree.specs.Detach.{without, stand_in, renamed, IsLoose, CanStandIn, IsDetachable}
use Rattle.ord_tree.specs.{declared.tree_links.Side.TheVariants.Lesser, declared.tree_links.Side.TheVariants.Greater, Promote.IsBuilt}
use Rattle.ord_tree.specs.{Shape.Shape, Shape.fork, Shape.rank_of, Shape.walk, declared.tree_links.TreeLinks.TreeLinks, Demote.IsFallen}
use Rattle.ord_tree.specs.{declared.tree_links.Branch.Branch, declared.tree_links.Side.Side, Balance.IsOver, Potential.node_potential}
use Rattle.ord_tree.specs.Account.{rank_in, leaf_reserve, ranks_without, fallen_ranks, IsSpelledWithin, IsFallenWithin}
use Rattle.ord_tree.proofs.Displacing.{potential-renamed, potential_way-renamed, rank_here-renamed, rank_in-renamed, rank_way-renamed, names_stood, renamed_way, renamed-fork, renamed-plug, rank-renamed, IsBalanced-renamed, IsBalancedWay-renamed, walk-renamed, map-absent, plug_held}
use Rattle.ord_tree.proofs.Neighbours.{NeighbourIn, neighbour_of, neighbour_is, first-within}
use Rattle.ord_tree.proofs.Forks.{Holds-plug, HoldsFork-holds, here-same, times-append, times-walk}
use Rattle.ord_tree.proofs.{Cutting.without-split, Cutting.times-without, Cutting.length-without, Spots.Spot, Spots.spot_in}
use Rattle.ord_tree.proofs.{Demoting.BuiltOrFallen, Demoting.PaidOrFallen, Standing.stand_in-same, RankChanges.IsWithin-before, LeafBranches.some_in}

-- the second branch is the first with v in place of z
abbrev pub IsRenamed : {I : Type 0} → (I → ℕ) → ℕ → ℕ → Option (Branch I) → Option (Branch I) → Type 0
IsRenamed number z v cut branch = MatchOption cut (branch ≡ None) (λ p. IsSomeAnd branch (λ q. (number q.parent ≡ stand_in z v (number p.parent)) × (q.side ≡ p.side)))

module _ {old : Slots} {root : Option ℕ} {z : ℕ} {before : Option ℕ} {order : List ℕ} (can : IsDetachable old root z before order) where
  spot : Spot old root Lesser z can.built.shape
  spot = spot_in old root Lesser z can.built.shape top root refl can.built.held (omega (arith, can.within, times-walk z can.built.shape, ap (times z) can.built.listed))

  pub z_occupied : is_some (old z) ≡ true
  z_occupied = ap is_some spot.at_y

  -- z has no lesser child
  pub bare_z : (nz : TreeLinks ℕ) → old z ≡ Some nz → nz.lesser ≡ None → (n : TreeLinks ℕ) → old z ≡ Some n → n.lesser ≡ None
  bare_z nz e none n is = let same : nz ≡ n = cc in ap (λ (n : TreeLinks ℕ). n.lesser) (sym same) ∙ none

  abbrev pub loose_z : (nz : TreeLinks ℕ) → old z ≡ Some nz → nz.lesser ≡ None → IsLoose old root z Lesser order
  loose_z nz e none = record { built = can.built; within = can.within; bare = bare_z nz e none; once = can.once; few = can.few }

  module _ (nz : TreeLinks ℕ) (e : old z ≡ Some nz) (j : ℕ) (some : nz.lesser ≡ Some j) where
    abbrev pub b : NeighbourIn old Lesser z order
    b = neighbour_of old root can.built.shape order can.built.held can.built.listed z can.within nz e Lesser j some

    pub v_is : before ≡ Some b.index
    v_is = can.is_before ∙ (neighbour_is old Lesser z order can.once b).0

    module _ (v : ℕ) (is_v : before ≡ Some v) where
      pub same : b.index ≡ v
      same = let e = v_is in cc

      pub listed : order ≡ b.front ++ v ∷ z ∷ b.back
      listed = b.is ∙ ap (λ i. b.front ++ i ∷ z ∷ b.back) same

      abbrev pub loose_v : IsLoose old root v Greater order
      loose_v =
          record { built = can.built; within = first-within order b.front b.back v z can.once listed; bare = rw same at b.bare; once = can.once; few = can.few }

      counts : (i : ℕ) → times i b.front + (here i v + (here i z + times i b.back)) ≤ 1
      counts i = omega (arith, can.once i, ap (times i) listed, times-append i b.front (v ∷ z ∷ b.back))

      rest : without v order ≡ b.front ++ z ∷ b.back
      rest = ap (without v) listed ∙ without-split v b.front (z ∷ b.back) (omega (arith, counts v, here-same v))

      gone : without z order ≡ b.front ++ v ∷ b.back
      gone =
          ap (without z) (listed ∙ sym (append_assoc b.front (v ∷ []) (z ∷ b.back)))
          ∙ without-split z (b.front ++ v ∷ []) b.back (omega (arith, counts z, here-same z, times-append z b.front (v ∷ [])))
          ∙ append_assoc b.front (v ∷ []) b.back

      order_renamed : map (stand_in z v) (without v order) ≡ without z order
      order_renamed =
          ap (map (stand_in z v)) rest ∙ map-append (stand_in z v) b.front (z ∷ b.back)
          ∙ rw (stand_in-same z v, map-absent z v b.front (omega (arith, counts z, here-same z)), map-absent z v b.back (omega (arith, counts z, here-same z))) (sym gone)

      module _ (mid : Slots) (root' : Option ℕ) (spare : is_some (mid v) ≡ true) where
        stands : (s : Shape) → Holds mid None root' s → walk s ≡ without v order → CanStandIn mid root' z v s
        stands s held is = record {
          held = held;
          within = omega (arith, times-walk z s, ap (times z) (is ∙ rest), times-append z b.front (z ∷ b.back), here-same z);
          fresh = omega (arith, times-walk v s, ap (times v) (is ∙ rest), times-append v b.front (z ∷ b.back), counts v, here-same v);
          apart = λ i. omega (arith, times-walk i s, ap (times i) is, times-without v i order, can.once i);
          spare = spare;
        }

        built_stands : (built : IsBuilt mid root' (without v order) 1) → CanStandIn mid root' z v built.shape
        built_stands built = stands built.shape built.held built.listed

        fallen_stands : {y : ℕ} {side : Side} (fallen : IsFallen mid root' y side (without v order)) → CanStandIn mid root' z v (plug fallen.way (fork side fallen.low y fallen.rank fallen.far))
        fallen_stands {y} {side} fallen = stands (plug fallen.way (fork side fallen.low y fallen.rank fallen.far))
            (Holds-plug mid root' fallen.way (fork side fallen.low y fallen.rank fallen.far) (Some y) fallen.held_way fallen.held) fallen.listed

        pub can_stand : {I : Type 0} (number : I → ℕ) (cut : Option (Branch I))
            → BuiltOrFallen number mid root' (without v order) cut → (s : Shape) × CanStandIn mid root' z v s
        can_stand number None h = (h.shape, built_stands h)
        can_stand number (Some p) h = (plug h.way (fork p.side h.low (number p.parent) h.rank h.far), fallen_stands h)

        module _ (new : Slots) (root'' : Option ℕ) (held : (s : Shape) → CanStandIn mid root' z v s → Holds new None root'' (renamed z v s)) where
          built_renamed : IsBuilt mid root' (without v order) 1 → IsBuilt new root'' (without z order) 1
          built_renamed built = record {
            shape = renamed z v built.shape;
            held = held built.shape (built_stands built);
            listed = walk-renamed z v built.shape ∙ ap (map (stand_in z v)) built.listed ∙ order_renamed;
            balanced = IsBalanced-renamed 1 z v built.shape built.balanced;
          }

          module _ {y : ℕ} {side : Side} (f : IsFallen mid root' y side (without v order)) where
            abbrev pub way' : Way
            way' = renamed_way z v f.way

            abbrev pub fork' : Shape
            fork' = fork side (renamed z v f.low) (stand_in z v y) f.rank (renamed z v f.far)

            same_shape : renamed z v (plug f.way (fork side f.low y f.rank f.far)) ≡ plug way' fork'
            same_shape = renamed-plug z v f.way (fork side f.low y f.rank f.far) ∙ ap (plug way') (renamed-fork z v side f.low f.far y f.rank)

            whole : Holds new None root'' (plug way' fork')
            whole = rw same_shape at (held (plug f.way (fork side f.low y f.rank f.far)) (fallen_stands f))

            parts : (link : Option ℕ) × HoldsWay new root'' way' link × Holds new (above way') link fork'
            parts = plug_held new root'' way' fork' whole

            link_is : parts.0 ≡ Some (stand_in z v y)
            link_is = (HoldsFork-holds new (above way') parts.0 side (renamed z v f.low) (renamed z v f.far) (stand_in z v y) f.rank parts.2).1

            pub way_stood : HoldsWay new root'' way' (Some (stand_in z v y))
            way_stood = rw link_is at parts.1

            pub fork_stood : Holds new (above way') (Some (stand_in z v y)) fork'
            fork_stood = rw link_is at parts.2

            pub listed_stood : walk (plug way' fork') ≡ without z order
            listed_stood = ap walk (sym same_shape) ∙ walk-renamed z v (plug f.way (fork side f.low y f.rank f.far)) ∙ ap (map (stand_in z v)) f.listed ∙ order_renamed

            pub over_stood : IsOver 1 f.rank (rank_of (renamed z v f.low) + 1) (rank_of (renamed z v f.far))
            over_stood = rw (rank-renamed z v f.low, rank-renamed z v f.far) f.over

            abbrev pub fallen_stood : IsFallen new root'' (stand_in z v y) side (without z order)
            fallen_stood = record {
              way = way';
              low = renamed z v f.low;
              far = renamed z v f.far;
              rank = f.rank;
              held_way = way_stood;
              held = fork_stood;
              listed = listed_stood;
              over = over_stood;
              balanced_low = IsBalanced-renamed 1 z v f.low f.balanced_low;
              balanced_far = IsBalanced-renamed 1 z v f.far f.balanced_far;
              balanced_way = IsBalancedWay-renamed 1 z v f.way f.rank f.balanced_way;
              once = λ i. omega (arith, times-without z i order, can.once i);
              few = omega (arith, length-without z order, can.few);
            }

          -- and the account
          module _ (s : Shape) (credit : ℕ) where
            built_paid : (total : ℕ) → credit + 1 ≤ total → IsSpelledWithin (ranks_without v s) mid root' (without v order) credit → IsSpelledWithin (ranks_without z s) new root'' (without z order) total
            built_paid total enough paid = let p = paid.state in record {
              state = record {
                shape = renamed z v p.shape;
                held = held p.shape (stands p.shape p.held p.listed);
                listed = walk-renamed z v p.shape ∙ ap (map (stand_in z v)) p.listed ∙ order_renamed;
              };
              named = v ∷ paid.named;
              within = omega (arith, paid.within, potential-renamed z v p.shape);
              names = names_stood z v s paid.named (rank_in p.shape) (rank_in (renamed z v p.shape)) paid.names (λ j not_z not_v. rank_in-renamed z v j not_z not_v p.shape);
            }

            fallen_paid : (total : ℕ) → credit + 1 ≤ total → (y : ℕ) (side : Side) → IsFallenWithin (ranks_without v s) mid root' y side (without v order) credit
                → IsFallenWithin (ranks_without z s) new root'' (stand_in z v y) side (without z order) total
            fallen_paid total enough y side up =
                let f = up.state in
                record {
                  state = fallen_stood f;
                  named = v ∷ up.named;
                  within = omega (
                    arith,
                    up.within,
                    ap leaf_reserve (rank-renamed z v f.low),
                    ap (λ k. node_potential f.rank (k + 1) (rank_of (renamed z v f.far))) (rank-renamed z v f.low),
                    ap (node_potential f.rank (rank_of f.low + 1)) (rank-renamed z v f.far),
                    potential-renamed z v f.low,
                    potential-renamed z v f.far,
                    potential_way-renamed z v f.way f.rank,
                  );
                  names = names_stood z v s up.named (fallen_ranks f) (fallen_ranks (fallen_stood f)) up.names
                      (λ j not_z not_v. omega (
                        arith,
                        rank_way-renamed z v j not_z not_v f.way,
                        rank_in-renamed z v j not_z not_v f.low,
                        rank_in-renamed z v j not_z not_v f.far,
                        rank_here-renamed z v j not_z not_v y f.rank,
                      ));
                }

            module _ {I : Type 0} (number : I → ℕ) (total : ℕ) (enough : credit + 1 ≤ total) where
              pub displaced_paid : (cut branch : Option (Branch I)) → IsRenamed number z v cut branch → PaidOrFallen number (ranks_without v s) mid root' (without v order) credit cut
                  → PaidOrFallen number (ranks_without z s) new root'' (without z order) total branch
              displaced_paid None None is h = built_paid total enough h
              displaced_paid None (Some q) is h = absurd cc
              displaced_paid (Some p) None is h = elim is [ ]
              displaced_paid (Some p) (Some q) is h =
                  let F : ℕ → Side → Type 0 = λ y side. IsFallenWithin (ranks_without z s) new root'' y side (without z order) total in
                  subst (λ (y : ℕ). F y q.side) (sym is.0) (subst (F (stand_in z v (number p.parent))) (sym is.1) (fallen_paid total enough (number p.parent) p.side h))

          module _ {I : Type 0} (number : I → ℕ) where
            pub displaced : (cut branch : Option (Branch I)) → IsRenamed number z v cut branch → BuiltOrFallen number mid root' (without v order) cut
                → BuiltOrFallen number new root'' (without z order) branch
            displaced None None is h = built_renamed h
            displaced None (Some q) is h = absurd cc
            displaced (Some p) None is h = elim is [ ]
            displaced (Some p) (Some q) is h = rw (is.0, is.1) (fallen_stood h)

-- more credit
pub paid_more : {I : Type 0} (number : I → ℕ) (was : ℕ → ℕ) (at : Slots) (root : Option ℕ) (order : List ℕ) (c d : ℕ) → c ≤ d → (on : Option (Branch I))
    → PaidOrFallen number was at root order c on → PaidOrFallen number was at root order d on
paid_more number was at root order c d more None paid = IsWithin-before [] (λ j. inr (inr refl)) (omega arith) paid
paid_more number was at root order c d more (Some b) up = IsWithin-before [] (λ j. inr (inr refl)) (omega arith) up

-- a nonempty link, with numbers for indexes
pub mapped : {I : Type 0} (number : I → ℕ) (o : Option I) → is_some o ≡ true → (j : ℕ) × option_map number o ≡ Some j
mapped number o e = let some = some_in o e in (number some.0, ap (option_map number) some.1)
