-- Single and double rotations: their sites, what they keep, and how many parents they move.
use Rattle.std.proofs.Common.{◌≡◌, ◌≢◌, ℕ, ◌+◌, ◌<◌, ◌≤◌, Option, Some, None, List, [], ◌∷◌, ◌++◌, length, arith, refl, sym, ◌∙◌, ap, inl, inr, ⊎_elim, is_some, true, length-append}
use Rattle.std.specs.Option.{option_to_list}
use Rattle.ord_tree.specs.Slots.{Slots, Holds, Way, up, plug, above, HoldsWay, times_in, IsOnce, IsApart, Among, rank_at, MovesBacks}
use Rattle.ord_tree.specs.{Shape.Shape, Shape.missing, Shape.node, Shape.fork, Shape.rank_of, Shape.root_of, Shape.walk, Promote.IsRepaired}
use Rattle.ord_tree.specs.declared.tree_links.Side.TheVariants.{Lesser, Greater}
use Rattle.ord_tree.specs.{Balance.IsOver, Balance.IsBalanced, Balance.IsBalancedWay, TreeLinks.other_side, TreeLinks.child_at}
use Rattle.ord_tree.specs.{declared.tree_links.TreeLinks.TreeLinks, declared.tree_links.Side.Side, Rotate.Site, Rotate.IsRotated}
use Rattle.ord_tree.proofs.Forks.{fork-other, rank-fork, walk-rotated, walk-fork_near, walk-plug, HoldsFork, HoldsFork-holds, Holds-fork, link-root, IsBalanced-fork, fork_balanced, times_in-fork, IsApart-once}
use Rattle.ord_tree.specs.{Potential.node_potential, Potential.potential}
use Rattle.ord_tree.specs.Account.{potential_way, rank_here, rank_in, rank_way, NamesChanges, IsSpelledWithin}
use Rattle.ord_tree.proofs.{Potentials.node_potential-cases, Potentials.potential-fork}
use Rattle.ord_tree.proofs.RankChanges.{rank_here-other, rank_in-fork, NamesChanges-joined, names_but}
use Rattle.ord_tree.proofs.Plugs.{IsPlugged, IsBuilt-fork, IsSpelledWithin-fork}
use Rattle.ord_tree.proofs.{Rotations.ForkAt-holds, Rotations.fork_at_low, Views.Among-behind}

pub root-fork : (side : Side) (near far : Shape) (i k : ℕ) → root_of (fork side near i k far) ≡ Some i
root-fork Lesser near far i k = refl
root-fork Greater near far i k = refl

-- a shape whose root is known, as a fork
pub record Forked (side : Side) (s : Shape) (i : ℕ) : Type 0 where
  pub near : Shape
  pub rank : ℕ
  pub far : Shape
  pub is : s ≡ fork side near i rank far

pub fork_of : (side : Side) (s : Shape) (i : ℕ) → root_of s ≡ Some i → Forked side s i
fork_of side missing i e = absurd cc
fork_of Lesser (node l j k r) i e = let same : j ≡ i = cc in record { near = l; rank = k; far = r; is = ap (λ j. node l j k r) same }
fork_of Greater (node l j k r) i e = let same : j ≡ i = cc in record { near = r; rank = k; far = l; is = ap (λ j. node l j k r) same }

-- a fork at the end of a path, over this list
pub record IsJoint (at : Slots) (root : Option ℕ) (side : Side) (way : Way) (s : Shape) (z high : ℕ) (far : Shape) (order : List ℕ) : Type 0 where
  pub held_way : HoldsWay at root way (Some z)
  pub held : Holds at (above way) (Some z) (fork side s z high far)
  pub listed : walk (plug way (fork side s z high far)) ≡ order
  pub once : IsOnce order

-- it is a site, if its near side is a node
module _ {at : Slots} {root : Option ℕ} {side : Side} {way : Way} {s far : Shape} {z y high : ℕ} {order : List ℕ} (joint : IsJoint at root side way s z high far order) (child : root_of s ≡ Some y) where
  abbrev pub forked : Forked side s y
  forked = fork_of side s y child

  pub forked_rank : forked.rank ≡ rank_of s
  forked_rank = sym (rank-fork side forked.near forked.far y forked.rank) ∙ ap rank_of (sym forked.is)

  pub forked_listed : walk (plug way (fork side (fork side forked.near y forked.rank forked.far) z high far)) ≡ order
  forked_listed = ap (λ t. walk (plug way (fork side t z high far))) (sym forked.is) ∙ joint.listed

  abbrev pub site_of : Site at root side z y
  site_of = record {
    way = way;
    outer = forked.near;
    inner = forked.far;
    far = far;
    low = forked.rank;
    high = high;
    held_way = joint.held_way;
    held = rw (← forked.is) joint.held;
    apart = IsApart-once way (fork side (fork side forked.near y forked.rank forked.far) z high far) order forked_listed joint.once;
  }

-- the rank at a link is the rank of the shape there
pub rank_at-held : (at : Slots) (over link : Option ℕ) (s : Shape) → Holds at over link s → rank_at at link ≡ rank_of s
rank_at-held at over link missing h = rw h refl
rank_at-held at over link (node l i k r) h = rw (h.1, h.2) h.4

-- a positive rank means a node
pub root-some : (s : Shape) → 0 < rank_of s → is_some (root_of s) ≡ true
root-some missing h = absurd (omega (arith, h))
root-some (node l i k r) h = refl

-- the moved indexes as a list
Among-root : (s : Shape) (j : ℕ) (rest : List ℕ) → root_of s ≡ Some j → Among j (option_to_list (root_of s) ++ rest)
Among-root s j rest e = rw e (inl refl)

-- the potential of the three nodes of a double rotation
double_saves : (slack m o a b f : ℕ) → o + 1 ≡ m → f + 1 ≡ m → IsOver slack m a b → node_potential m o b + node_potential m a f ≤ 1 + node_potential m a b
double_saves slack m o a b f e d over =
    omega (
      arith,
      node_potential-cases m o b (omega arith) (omega arith) (omega (arith, over.greater)) (omega (arith, over.greater)),
      node_potential-cases m a f (omega (arith, over.lesser)) (omega (arith, over.lesser)) (omega arith) (omega arith),
      node_potential-cases m a b (omega (arith, over.lesser)) (omega (arith, over.lesser)) (omega (arith, over.greater)) (omega (arith, over.greater)),
    )

length-root : (o : Option ℕ) → length (option_to_list o) ≤ 1
length-root None = omega arith
length-root (Some i) = omega arith

module _ {old : Slots} {old_root : Option ℕ} {side : Side} {z y : ℕ} (site : Site old old_root side z y) where
  -- what y holds
  pub low_rank : (ny : TreeLinks ℕ) → old y ≡ Some ny → ny.rank ≡ site.low
  low_rank ny e = (fork_at_low old old_root side z y site ny e).rank

  pub outer_rank : (ny : TreeLinks ℕ) → old y ≡ Some ny → rank_at old (child_at side ny) ≡ rank_of site.outer
  outer_rank ny e = rank_at-held old (Some y) (child_at side ny) site.outer (fork_at_low old old_root side z y site ny e).near_held

  pub inner_rank : (ny : TreeLinks ℕ) → old y ≡ Some ny → rank_at old (child_at (other_side side) ny) ≡ rank_of site.inner
  inner_rank ny e = rank_at-held old (Some y) (child_at (other_side side) ny) site.inner (fork_at_low old old_root side z y site ny e).far_held

  pub high_rank : (nz : TreeLinks ℕ) → old z ≡ Some nz → nz.rank ≡ site.high
  high_rank nz e = (ForkAt-holds old (above site.way) (Some z) side (fork side site.outer y site.low site.inner) z site.high site.far nz e site.held).rank

  pub inner_root : (ny : TreeLinks ℕ) → old y ≡ Some ny → child_at (other_side side) ny ≡ root_of site.inner
  inner_root ny e = link-root old (Some y) (child_at (other_side side) ny) site.inner (fork_at_low old old_root side z y site ny e).far_held

  -- the whole shape at the site
  abbrev pub site_shape : Shape
  site_shape = fork side (fork side site.outer y site.low site.inner) z site.high site.far

  module _ {new : Slots} {root : Option ℕ} {rank_z rank_y : ℕ} (r : IsRotated site new root rank_z rank_y) where
    -- a single rotation moves at most three parents
    backs_single : MovesBacks 5 old new
    backs_single = (
      z ∷ y ∷ (option_to_list (root_of site.inner) ++ []),
      omega (arith, length-append (option_to_list (root_of site.inner)) [], length-root (root_of site.inner)),
      λ j. ⊎_elim (λ e. inl (inl e)) (⊎_elim (λ e. inl (inr (inl e))) (⊎_elim (λ e. inl (inr (inr (Among-root site.inner j [] e)))) (λ e. inr e))) (r.backs j),
    )

    -- after it the tree there is balanced again, if the new ranks fit
    module _ {slack : ℕ} {order : List ℕ} (is_high : rank_y ≡ site.high) (over_z : IsOver slack rank_z (rank_of site.inner) (rank_of site.far))
        (over_y : IsOver slack rank_y (rank_of site.outer) rank_z) (outer : IsBalanced slack site.outer) (inner : IsBalanced slack site.inner)
        (far : IsBalanced slack site.far) (way : IsBalancedWay slack site.way site.high) (listed : walk (plug site.way site_shape) ≡ order)
        {was : ℕ → ℕ} (stays : (j : ℕ) → j ≢ z → j ≢ y → was j ≡ rank_way site.way j + rank_in site.outer j + rank_in site.inner j + rank_in site.far j) where
      abbrev below : Shape
      below = fork side site.inner z rank_z site.far

      plugged_once : IsPlugged new root site.way (fork side site.outer y rank_y below) order
      plugged_once = record {
        link = Some y;
        held_way = r.held_way;
        held = r.held;
        listed = sym (walk-plug site.way site_shape (fork side site.outer y rank_y below) (walk-rotated side site.outer site.inner site.far y z site.low site.high rank_y rank_z)) ∙ listed;
      }

      -- and the credit is enough, if it pays for the new potential and two changes
      pub rotated_once : {credit : ℕ} → 2 + potential_way site.way site.high + node_potential rank_y (rank_of site.outer) rank_z
          + node_potential rank_z (rank_of site.inner) (rank_of site.far) + potential site.outer + potential site.inner + potential site.far ≤ credit
          → IsRepaired old new root order slack × IsSpelledWithin was new root order credit
      rotated_once paid =
          let rank_below = rank-fork side site.inner site.far z rank_z in (
            record {
              built = IsBuilt-fork side site.outer below y rank_y plugged_once slack (rw is_high way) (rw rank_below over_y) outer
                  (IsBalanced-fork slack side site.inner site.far z rank_z over_z inner far);
              backs = backs_single;
            },
            IsSpelledWithin-fork side site.outer below y rank_y plugged_once (z ∷ y ∷ [])
                (names_but (z ∷ y ∷ []) was _ (λ j not_z not_y. omega (arith, stays j not_z not_y, rank_in-fork j side site.inner site.far z rank_z, rank_here-other j y rank_y not_y, rank_here-other j z rank_z not_z)))
                (omega (arith, paid, ap (potential_way site.way) is_high, potential-fork side site.inner site.far z rank_z, ap (node_potential rank_y (rank_of site.outer)) rank_below)),
          )

  module _ (x : ℕ) (root_is : root_of site.inner ≡ Some x) where
    -- the shape between y and z, seen from the other side
    abbrev pub middle : Forked (other_side side) site.inner x
    middle = fork_of (other_side side) site.inner x root_is

    pub middle_rank : (ny nx : TreeLinks ℕ) → old y ≡ Some ny → old x ≡ Some nx → nx.rank ≡ middle.rank
    middle_rank ny nx e d =
        (ForkAt-holds old (Some y) (child_at (other_side side) ny) (other_side side) middle.near x middle.rank middle.far nx d (rw middle.is at (fork_at_low old old_root side z y site ny e).far_held)).rank

    -- the ranks and the balance of the shape between y and z
    pub middle_rank_is : rank_of site.inner ≡ middle.rank
    middle_rank_is = ap rank_of middle.is ∙ rank-fork (other_side side) middle.near middle.far x middle.rank

    pub middle_over : (slack : ℕ) → IsBalanced slack site.inner → IsOver slack middle.rank (rank_of middle.near) (rank_of middle.far) × IsBalanced slack middle.near × IsBalanced slack middle.far
    middle_over slack h = fork_balanced slack (other_side side) middle.near middle.far x middle.rank (rw middle.is at h)

    -- y over its children, seen from the other side
    shape_below : fork side site.outer y site.low site.inner ≡ fork (other_side side) (fork (other_side side) middle.near x middle.rank middle.far) y site.low site.outer
    shape_below = sym (fork-other side site.inner site.outer y site.low) ∙ ap (λ s. fork (other_side side) s y site.low site.outer) middle.is

    fork_high : HoldsFork old (above site.way) (Some z) side (fork side site.outer y site.low site.inner) z site.high site.far
    fork_high = HoldsFork-holds old (above site.way) (Some z) side (fork side site.outer y site.low site.inner) site.far z site.high site.held

    link_y : child_at side fork_high.0 ≡ Some y
    link_y = link-root old (Some z) (child_at side fork_high.0) (fork side site.outer y site.low site.inner) fork_high.5 ∙ root-fork side site.outer site.inner y site.low

    pub way_below : HoldsWay old old_root (up side z site.high site.far site.way) (Some y)
    way_below = (fork_high.0, fork_high.2, fork_high.3, fork_high.4, link_y, fork_high.6, site.held_way)

    pub held_below : Holds old (Some z) (Some y) (fork (other_side side) (fork (other_side side) middle.near x middle.rank middle.far) y site.low site.outer)
    held_below = rw (link_y, shape_below) at fork_high.5

    pub apart_below : IsApart (up side z site.high site.far site.way) (fork (other_side side) (fork (other_side side) middle.near x middle.rank middle.far) y site.low site.outer)
    apart_below j =
        omega (arith, site.apart j, ap (times_in j) shape_below, times_in-fork j side (fork side site.outer y site.low site.inner) site.far z site.high)

    -- the first rotation, of x over y
    abbrev pub site_below : Site old old_root (other_side side) y x
    site_below = record {
      way = up side z site.high site.far site.way;
      outer = middle.near;
      inner = middle.far;
      far = site.outer;
      low = middle.rank;
      high = site.low;
      held_way = way_below;
      held = held_below;
      apart = apart_below;
    }

    module _ {mid : Slots} {mid_root : Option ℕ} {rank_low rank_high : ℕ} (r : IsRotated site_below mid mid_root rank_low rank_high) where
      -- y over its children after the first rotation
      abbrev pub lifted : Shape
      lifted = fork side site.outer y rank_low middle.far

      shape_above : fork (other_side side) middle.near x rank_high (fork (other_side side) middle.far y rank_low site.outer) ≡ fork side lifted x rank_high middle.near
      shape_above = fork-other side middle.near (fork (other_side side) middle.far y rank_low site.outer) x rank_high ∙ ap (λ s. fork side s x rank_high middle.near) (fork-other side middle.far site.outer y rank_low)

      pub held_above : Holds mid (above site.way) (Some z) (fork side (fork side lifted x rank_high middle.near) z site.high site.far)
      held_above =
          let w = r.held_way in
          Holds-fork mid (above site.way) (Some z) side (fork side lifted x rank_high middle.near) site.far z site.high
          (w.0, refl, w.1, w.2, w.3, rw (w.4, ← shape_above) r.held, w.5)

      pub apart_above : IsApart site.way (fork side (fork side lifted x rank_high middle.near) z site.high site.far)
      apart_above j =
          omega (
            arith,
            apart_below j,
            times_in-fork j side (fork side lifted x rank_high middle.near) site.far z site.high,
            times_in-fork j side lifted middle.near x rank_high,
            times_in-fork j side site.outer middle.far y rank_low,
            times_in-fork j (other_side side) (fork (other_side side) middle.near x middle.rank middle.far) site.outer y site.low,
            times_in-fork j (other_side side) middle.near middle.far x middle.rank,
          )

      -- the second rotation, of x over z
      abbrev pub site_above : Site mid mid_root side z x
      site_above = record {
        way = site.way;
        outer = lifted;
        inner = middle.near;
        far = site.far;
        low = rank_high;
        high = site.high;
        held_way = r.held_way.6;
        held = held_above;
        apart = apart_above;
      }

      module _ {new : Slots} {root : Option ℕ} (t : IsRotated site_above new root rank_low rank_high) where
        abbrev pub upper : Shape
        upper = fork side middle.near z rank_low site.far

        -- the walk is unchanged
        pub walk_double : walk (plug site.way (fork side lifted x rank_high upper)) ≡ walk (plug site.way site_shape)
        walk_double =
            let inner_is : site.inner ≡ fork side middle.far x middle.rank middle.near = middle.is ∙ fork-other side middle.near middle.far x middle.rank in
            let first : walk (fork side lifted x rank_high middle.near) ≡ walk (fork side site.outer y site.low site.inner)
            = walk-rotated side site.outer middle.far middle.near y x rank_low rank_high site.low middle.rank ∙ ap (λ s. walk (fork side site.outer y site.low s)) (sym inner_is) in
            let second = walk-rotated side lifted middle.near site.far x z rank_high site.high rank_high rank_low in
            walk-plug site.way (fork side lifted x rank_high upper) site_shape
            (sym second ∙ walk-fork_near side (fork side lifted x rank_high middle.near) (fork side site.outer y site.low site.inner) site.far z site.high first)

        -- all but five parents stay
        backs_double : MovesBacks 5 old new
        backs_double = (
          z ∷ y ∷ x ∷ (option_to_list (root_of middle.near) ++ (option_to_list (root_of middle.far) ++ [])),
          omega (
            arith,
            length-append (option_to_list (root_of middle.near)) (option_to_list (root_of middle.far) ++ []),
            length-append (option_to_list (root_of middle.far)) [],
            length-root (root_of middle.near),
            length-root (root_of middle.far),
          ),
          λ j. ⊎_elim (λ e. inl (inr (inl e))) (⊎_elim (λ e. inl (inr (inr (inl e))))
              (⊎_elim (λ e. inl (inr (inr (inr (Among-behind (option_to_list (root_of middle.near)) (option_to_list (root_of middle.far) ++ []) j (Among-root middle.far j [] e))))))
              (λ first. ⊎_elim (λ e. inl (inl e)) (⊎_elim (λ e. inl (inr (inr (inl e))))
              (⊎_elim (λ e. inl (inr (inr (inr (Among-root middle.near j (option_to_list (root_of middle.far) ++ []) e))))) (λ second. inr (first ∙ second)))) (t.backs j)))) (r.backs j),
        )

        -- after a double rotation the tree there is balanced again, if the new ranks fit
        module _ {slack : ℕ} {order : List ℕ} (is_low : rank_low ≡ middle.rank) (is_high : rank_high ≡ site.high) (outer_one : rank_of site.outer + 1 ≡ rank_low)
            (far_one : rank_of site.far + 1 ≡ rank_low) (over_x : IsOver slack rank_high rank_low rank_low) (outer : IsBalanced slack site.outer)
            (inner : IsBalanced slack site.inner) (far : IsBalanced slack site.far) (way : IsBalancedWay slack site.way site.high)
            (listed : walk (plug site.way site_shape) ≡ order) {was : ℕ → ℕ} (more : List ℕ) (names : NamesChanges more was
            (λ j. rank_way site.way j + rank_in site.outer j + rank_here j y rank_low + rank_in site.inner j + rank_here j z site.high + rank_in site.far j)) where
          plugged_twice : IsPlugged new root site.way (fork side lifted x rank_high upper) order
          plugged_twice = record { link = Some x; held_way = t.held_way; held = t.held; listed = walk_double ∙ listed }

          -- and the credit is enough, if it pays for the new potential and the changes
          pub rotated_twice : {credit : ℕ} → length more + 3 + potential_way site.way site.high + node_potential rank_high rank_low rank_low
              + potential site.outer + potential site.inner + potential site.far ≤ credit
              → IsRepaired old new root order slack × IsSpelledWithin was new root order credit
          rotated_twice paid =
              let balanced = middle_over slack inner in
              let rank_lifted = rank-fork side site.outer middle.far y rank_low in
              let rank_upper = rank-fork side middle.near site.far z rank_low in (
                record {
                  built = IsBuilt-fork side lifted upper x rank_high plugged_twice slack (rw is_high way) (rw (rank_lifted, rank_upper) over_x)
                      (IsBalanced-fork slack side site.outer middle.far y rank_low (omega (arith, balanced.0)) outer balanced.2)
                      (IsBalanced-fork slack side middle.near site.far z rank_low (omega (arith, balanced.0)) balanced.1 far);
                  backs = backs_double;
                },
                IsSpelledWithin-fork side lifted upper x rank_high plugged_twice (more ++ z ∷ x ∷ [])
                    (NamesChanges-joined more (z ∷ x ∷ []) was _ _ names (names_but (z ∷ x ∷ []) _ _ (λ j not_z not_x. omega (
                      arith,
                      rank_in-fork j side site.outer middle.far y rank_low,
                      rank_in-fork j side middle.near site.far z rank_low,
                      ap (λ s. rank_in s j) middle.is,
                      rank_in-fork j (other_side side) middle.near middle.far x middle.rank,
                      rank_here-other j x rank_high not_x,
                      rank_here-other j x middle.rank not_x,
                      rank_here-other j z rank_low not_z,
                      rank_here-other j z site.high not_z,
                    ))))
                    (omega (
                      arith,
                      paid,
                      length-append more (z ∷ x ∷ []),
                      ap (potential_way site.way) is_high,
                      potential-fork side site.outer middle.far y rank_low,
                      potential-fork side middle.near site.far z rank_low,
                      ap potential middle.is,
                      potential-fork (other_side side) middle.near middle.far x middle.rank,
                      ap (λ k. node_potential k (rank_of middle.near) (rank_of middle.far)) is_low,
                      ap (node_potential rank_high (rank_of lifted)) rank_upper,
                      ap (λ k. node_potential rank_high k rank_low) rank_lifted,
                      double_saves slack rank_low (rank_of site.outer) (rank_of middle.near) (rank_of middle.far) (rank_of site.far) outer_one far_one (omega (arith, balanced.0)),
                    )),
              )
