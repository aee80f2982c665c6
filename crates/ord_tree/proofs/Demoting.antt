-- One step of the repair after a removal, with its account, and the path from a lowered shape to its parent.
use Rattle.std.proofs.Common.{◌≡◌, ◌≢◌, ℕ, zero, suc, ◌+◌, ◌^◌, ◌<◌, ◌≤◌, Option, Some, None, List, [], ◌∷◌, length, arith, refl, inl, inr, sym, ◌∙◌, ap, is_some, option_map, MatchOption, Bool, true, false}
use Rattle.std.specs.{Option.IfSome, Prelude.MatchBool}
use Rattle.chain_base.specs.Chain.{Chain}
use Rattle.ord_tree.specs.Slots.{Slots, Holds, Way, plug, above, HoldsWay, here, times_in, times_way, IsApart, Writes}
use Rattle.ord_tree.specs.Shape.{Shape, missing, node, fork, rank_of, root_of, size_of}
use Rattle.ord_tree.specs.{Demote.IsFallen, Demote.IsDemoted, Demote.IsLow, Demote.IsLeaning, Demote.HasDemoted, TreeLinks.other_side, TreeLinks.child_at}
use Rattle.ord_tree.specs.{Balance.IsOver, Balance.IsBalanced, Balance.IsBalancedWay, declared.tree_links.TreeLinks.TreeLinks}
use Rattle.ord_tree.specs.{Promote.IsBuilt, Promote.IsRepaired, declared.tree_links.Branch.Branch, declared.tree_links.Side.Side}
use Rattle.ord_tree.specs.{Potential.node_potential, Potential.potential}
use Rattle.ord_tree.specs.Account.{potential_way, rank_in, rank_way, leaf_reserve, NamesChanges, IsSpelledWithin, fallen_ranks, fallen_credit, leaning_ranks, leaning_credit, IsDemotedWithin, IsFallenWithin}
use Rattle.ord_tree.proofs.Forks.{fork-other, rank-fork, size-fork, size-plug, walk-ranked, walk-plug, link-root, root_holds, rootless, fork_balanced, IsBalanced-fork, here-same, times_in-fork, IsApart-once, apart-from}
use Rattle.ord_tree.proofs.Frames.{IsLast, last_step, under, not_far, no_step, occupied-above, HoldsWay-frame, Holds-reranked, backs-ranked}
use Rattle.ord_tree.proofs.{Rotations.ForkAt, Rotations.ForkAt-holds, Rotations.occupied-link, Slack.IsRanked-balanced, Slack.rank-small}
use Rattle.ord_tree.proofs.{Doubles.IsJoint, Doubles.Forked, Doubles.forked, Doubles.forked_rank, Doubles.forked_listed, Doubles.site_of, Doubles.rank_at-held, Halves.size_of-walk}
use Rattle.ord_tree.proofs.Plugs.{IsPlugged, IsBuilt-plugged, IsSpelledWithin-plugged, IsBuilt-fork, IsSpelledWithin-fork}
use Rattle.ord_tree.proofs.Potentials.{node_potential-slack, node_potential-uneven, node_potential-tight, node_potential-most, potential-fork}
use Rattle.ord_tree.proofs.RankChanges.{rank_here-other, rank_in-fork, NamesChanges-same, names_but, IsWithin-before}
use Rattle.ord_tree.proofs.LeafBranches.{some_in}

-- the branch of a node, if it has one
pub record IsBranchOf {I : Type 0} (number : I → ℕ) (at : Slots) (y : ℕ) (branch : Option (Branch I)) : Type 0 where
  pub parent : (n : TreeLinks ℕ) → at y ≡ Some n → option_map (λ (p : Branch I). number p.parent) branch ≡ n.back
  pub side : IfSome branch (λ b. (n : TreeLinks ℕ) (side : Side) → at (number b.parent) ≡ Some n → child_at side n ≡ Some y → child_at (other_side side) n ≢ Some y
      → b.side ≡ side)

-- the account of a step that says whether it demoted y
abbrev pub PaidOrDemoted : (ℕ → ℕ) → Slots → Option ℕ → ℕ → List ℕ → ℕ → Bool → Type 0
PaidOrDemoted was at root y order credit b = MatchBool b (IsDemotedWithin was at root y order credit) (IsSpelledWithin was at root order (credit + 7))

module _ {I : Type 0} (number : I → ℕ) where
  -- a balanced tree, or one in which this branch has fallen
  abbrev pub BuiltOrFallen : Slots → Option ℕ → List ℕ → Option (Branch I) → Type 0
  BuiltOrFallen at root order branch = MatchOption branch (IsBuilt at root order 1) (λ b. IsFallen at root (number b.parent) b.side order)

  -- and its account
  abbrev pub PaidOrFallen : (ℕ → ℕ) → Slots → Option ℕ → List ℕ → ℕ → Option (Branch I) → Type 0
  PaidOrFallen was at root order credit branch =
      MatchOption branch (IsSpelledWithin was at root order credit) (λ b. IsFallenWithin was at root (number b.parent) b.side order credit)

  -- the last step of the path leads to the branch, if there is one
  abbrev pub EndsAt : Way → Option (Branch I) → Type 0
  EndsAt way branch = MatchOption branch (above way ≡ None) (λ b. IsLast way b.side (number b.parent))

  module _ (at : Slots) (root : Option ℕ) (way : Way) (s : Shape) (y : ℕ) (held_way : HoldsWay at root way (Some y)) (held : Holds at (above way) (Some y) s) (apart : IsApart way s) where
    hangs : (branch : Option (Branch I)) → IsBranchOf number at y branch → above way ≡ option_map (λ (b : Branch I). number b.parent) branch
    hangs branch by =
        let n = some_in (at y) (occupied-link at (above way) (Some y) s y held refl) in
        sym (root_holds at (above way) y s n.0 held n.1).0 ∙ sym (by.parent n.0 n.1)

    -- the path to a node ends at the node's branch
    pub ends_at : (branch : Option (Branch I)) → IsBranchOf number at y branch → EndsAt way branch
    ends_at None by = hangs None by
    ends_at (Some b) by =
        let last = last_step way (number b.parent) (hangs (Some b) by) in
        let z = under held_way held last.1 in
        rw (by.side z.links last.0 z.at_z z.child (not_far z y (sym (link-root at (above way) (Some y) s held)) apart)) last.1

module _ {at : Slots} {root link : Option ℕ} {order : List ℕ} (low : IsLow at root link order) where
  plugged : IsPlugged at root low.way low.shape order
  plugged = record { link = link; held_way = low.held_way; held = low.held; listed = low.listed }

  module _ {side : Side} {z : ℕ} (last : IsLast low.way side z) where
    pub balanced_last : IsOver 1 last.rank (rank_of low.shape + 1) (rank_of last.far) × IsBalanced 1 last.far × IsBalancedWay 1 last.rest last.rank
    balanced_last = rw last.is at low.balanced_way

    -- the side of its parent has fallen
    abbrev pub fallen_above : IsFallen at root z side order
    fallen_above = record {
      way = last.rest;
      low = low.shape;
      far = last.far;
      rank = last.rank;
      held_way = (under low.held_way low.held last).held_rest;
      held = (under low.held_way low.held last).held_fork;
      listed = rw last.is at low.listed;
      over = balanced_last.0;
      balanced_low = low.balanced;
      balanced_far = balanced_last.1;
      balanced_way = balanced_last.2;
      once = low.once;
      few = low.few;
    }

  module _ {I : Type 0} (number : I → ℕ) where
    pub low_branch : (branch : Option (Branch I)) → EndsAt number low.way branch → BuiltOrFallen number at root order branch
    low_branch None none = IsBuilt-plugged plugged 1 (rw (no_step low.way none) tt) low.balanced
    low_branch (Some b) last = fallen_above last

    -- and the account
    module _ {was : ℕ → ℕ} {credit : ℕ} (named : List ℕ) (names : NamesChanges named was (λ j. rank_way low.way j + rank_in low.shape j)) {final : ℕ} (more : credit ≤ final) where
      pub low_paid : (branch : Option (Branch I)) → length named + leaf_reserve (rank_of low.shape) + potential_way low.way (rank_of low.shape + 1) + potential low.shape ≤ credit
          → EndsAt number low.way branch → MatchOption branch (IsSpelledWithin was at root order final) (λ b. IsFallenWithin was at root (number b.parent) b.side order credit)
      low_paid None paid none =
          IsSpelledWithin-plugged plugged named names (omega (arith, paid, more, ap (λ way. potential_way way (rank_of low.shape)) (no_step low.way none)))
      low_paid (Some b) paid last = record {
        state = fallen_above last;
        named = named;
        within = omega (arith, paid, ap (λ way. potential_way way (rank_of low.shape + 1)) last.is);
        names = NamesChanges-same named was _ _ (λ j. omega (arith, ap (λ way. rank_way way j) last.is)) names;
      }

-- a node has a positive rank
rank-positive : (slack : ℕ) (s : Shape) (i : ℕ) → IsBalanced slack s → root_of s ≡ Some i → 0 < rank_of s
rank-positive slack missing i h e = absurd cc
rank-positive slack (node l j k r) i h e = omega (arith, h.0.lesser)

module _ {at : Slots} {root : Option ℕ} {y : ℕ} {side : Side} {order : List ℕ} (fallen : IsFallen at root y side order) where
  abbrev whole : Shape
  whole = fork side fallen.low y fallen.rank fallen.far

  pub y_occupied : is_some (at y) ≡ true
  y_occupied = occupied-link at (above fallen.way) (Some y) whole y fallen.held refl

  pub y_holds : (ny : TreeLinks ℕ) → at y ≡ Some ny → ForkAt at (above fallen.way) side fallen.low y fallen.rank fallen.far ny
  y_holds ny e = ForkAt-holds at (above fallen.way) (Some y) side fallen.low y fallen.rank fallen.far ny e fallen.held

  parts_apart : (j : ℕ) → times_way j fallen.way + times_in j fallen.low + here j y + times_in j fallen.far ≤ 1
  parts_apart j = omega (arith, IsApart-once fallen.way whole order fallen.listed fallen.once j, times_in-fork j side fallen.low fallen.far y fallen.rank)

  -- y is high enough
  pub fallen_stop : fallen.rank ≤ rank_of fallen.low + 2 → (s : ℕ) → root_of fallen.far ≡ Some s
      → IsRepaired at at root order 1 × IsSpelledWithin (fallen_ranks fallen) at root order (fallen_credit fallen + 7)
  fallen_stop enough s far =
      let positive = rank-positive 1 fallen.far s fallen.balanced_far far in
      let over : IsOver 1 fallen.rank (rank_of fallen.low) (rank_of fallen.far) =
      record { lesser = omega (arith, fallen.over); greater = fallen.over.greater; leaf = λ a b. absurd (omega arith); tight = omega (arith, fallen.over.greater) } in
      let p : IsPlugged at root fallen.way whole order = record { link = Some y; held_way = fallen.held_way; held = fallen.held; listed = fallen.listed } in (
        record {
          built = IsBuilt-fork side fallen.low fallen.far y fallen.rank p 1 fallen.balanced_way over fallen.balanced_low fallen.balanced_far;
          backs = ([], omega arith, λ j. inr refl);
        },
        IsSpelledWithin-fork side fallen.low fallen.far y fallen.rank p [] (λ j. inr (inr (omega arith))) (omega (arith, node_potential-most fallen.rank (rank_of fallen.low) (rank_of fallen.far))),
      )

  -- the rank is small
  rank-bound : fallen.rank < 256
  rank-bound =
      let few : size_of fallen.low < 2 ^ 64 = omega (arith, size-plug fallen.way whole, size-fork side fallen.low fallen.far y fallen.rank, size_of-walk (plug fallen.way whole), ap length fallen.listed, fallen.few) in
      omega (arith, fallen.over.lesser, rank-small fallen.low (IsRanked-balanced 1 fallen.low fallen.balanced_low) few)

  -- y gets a rank lower by one
  module _ {T : Type 0} {first second : Chain T} {new : Slots} {rank : ℕ} (by : Writes y (λ n. record n { rank = rank }) at new first second)
      (lower : rank + 1 ≡ fallen.rank) (over : IsOver 1 rank (rank_of fallen.low) (rank_of fallen.far))
      (paid : node_potential rank (rank_of fallen.low) (rank_of fallen.far) + 1 ≤ leaf_reserve (rank_of fallen.low) + node_potential fallen.rank (rank_of fallen.low + 1) (rank_of fallen.far)) where
    abbrev lowered : Shape
    lowered = fork side fallen.low y rank fallen.far

    rank_lower : rank_of lowered ≡ rank
    rank_lower = rank-fork side fallen.low fallen.far y rank

    abbrev demoted_node : IsLow new root (Some y) order
    demoted_node = record {
      way = fallen.way;
      shape = lowered;
      held_way = HoldsWay-frame at new fallen.way root (Some y) (λ j in_way. by.elsewhere j (apart-from y j (λ j. times_way j fallen.way) (omega (arith, parts_apart y, here-same y)) in_way)) fallen.held_way;
      held = Holds-reranked by (above fallen.way) (Some y) side fallen.low fallen.far fallen.rank (omega (arith, parts_apart y, here-same y)) fallen.held;
      listed = walk-plug fallen.way lowered whole (walk-ranked side fallen.low fallen.far y rank fallen.rank) ∙ fallen.listed;
      balanced = IsBalanced-fork 1 side fallen.low fallen.far y rank over fallen.balanced_low fallen.balanced_far;
      balanced_way = rw (rank_lower, lower) fallen.balanced_way;
      once = fallen.once;
      few = fallen.few;
    }

    pub fallen_demoted : IsDemoted at new root y order × IsDemotedWithin (fallen_ranks fallen) new root y order (fallen_credit fallen)
    fallen_demoted =
        let some = some_in (at y) y_occupied in
        let rank_was = rank_at-held at (above fallen.way) (Some y) whole fallen.held ∙ rank-fork side fallen.low fallen.far y fallen.rank in (
          record {
            demoted = demoted_node;
            rank = omega (arith, rank_lower, rank_was, lower);
            fits = omega (arith, rank_was, rank-bound);
            backs = backs-ranked by some.0 some.1;
          },
          record {
            state = demoted_node;
            named = y ∷ [];
            within = omega (arith, paid, potential-fork side fallen.low fallen.far y rank, ap (potential_way fallen.way) (ap (λ k. k + 1) rank_lower ∙ lower));
            names = names_but (y ∷ []) _ _ (λ j other. omega (arith, rank_in-fork j side fallen.low fallen.far y rank, rank_here-other j y rank other, rank_here-other j y fallen.rank other));
          },
        )

  -- the other side is empty: the reserve pays
  module _ {T : Type 0} {first second : Chain T} {new : Slots} (by : Writes y (λ n. record n { rank = 1 }) at new first second) (bare : root_of fallen.far ≡ None) where
    pub fallen_bare : IsDemoted at new root y order × IsDemotedWithin (fallen_ranks fallen) new root y order (fallen_credit fallen)
    fallen_bare =
        let none : rank_of fallen.far ≡ 0 = ap rank_of (rootless fallen.far bare) in
        let low : rank_of fallen.low ≡ 0 = omega (arith, fallen.over) in
        fallen_demoted by (omega (arith, fallen.over)) (omega (arith, fallen.over))
        (omega (arith, ap leaf_reserve low, node_potential-tight 1 (rank_of fallen.low) (rank_of fallen.far) (inl (omega arith))))

  module _ (low : rank_of fallen.low + 3 ≡ fallen.rank) where
    -- the sibling is two below, so y would be slack: its potential pays
    pub fallen_slack : {T : Type 0} {first second : Chain T} {new : Slots} {rank : ℕ} → Writes y (λ n. record n { rank = rank }) at new first second
        → rank_of fallen.far + 2 ≡ fallen.rank → rank + 1 ≡ fallen.rank
        → IsDemoted at new root y order × IsDemotedWithin (fallen_ranks fallen) new root y order (fallen_credit fallen)
    fallen_slack {rank = rank} by far lower =
        fallen_demoted by lower (omega (arith, fallen.over))
        (omega (arith, node_potential-slack fallen.rank (rank_of fallen.low + 1) (rank_of fallen.far) (omega arith) (omega arith), node_potential-uneven rank (rank_of fallen.low) (rank_of fallen.far) (omega arith)))

    -- the sibling is one below
    module _ {other : Side} (other_is : other ≡ other_side side) {s : ℕ} (far : root_of fallen.far ≡ Some s) (sibling : rank_of fallen.far + 1 ≡ fallen.rank) where
      pub turned : IsJoint at root other fallen.way fallen.far y fallen.rank fallen.low order
      turned =
          let same : fork other fallen.far y fallen.rank fallen.low ≡ whole = rw other_is (fork-other side fallen.far fallen.low y fallen.rank) in
          record { held_way = fallen.held_way; held = rw same fallen.held; listed = rw same fallen.listed; once = fallen.once }

      abbrev split : Forked other fallen.far s
      split = forked turned far

      pub split_balanced : IsOver 1 split.rank (rank_of split.near) (rank_of split.far) × IsBalanced 1 split.near × IsBalanced 1 split.far
      split_balanced = fork_balanced 1 other split.near split.far s split.rank (rw (← split.is) fallen.balanced_far)

      unfoldable pub IsLeaning-fallen : IsLeaning at root other y s order
      IsLeaning-fallen = record {
        site = site_of turned far;
        low = low;
        sibling = omega (arith, forked_rank turned far, sibling);
        over = split_balanced.0;
        balanced_outer = split_balanced.1;
        balanced_inner = split_balanced.2;
        balanced_low = fallen.balanced_low;
        balanced_way = fallen.balanced_way;
        listed = forked_listed turned far;
        once = fallen.once;
        few = fallen.few;
      }

      -- it has the same account
      same_ranks : NamesChanges [] (fallen_ranks fallen) (leaning_ranks IsLeaning-fallen)
      unfolding IsLeaning-fallen
      same_ranks j = inr (inr (omega (arith, ap (λ t. rank_in t j) split.is, rank_in-fork j other split.near split.far s split.rank)))

      same_credit : leaning_credit IsLeaning-fallen ≤ fallen_credit fallen
      unfolding IsLeaning-fallen
      same_credit = omega (arith, ap (λ t. potential t) split.is, potential-fork other split.near split.far s split.rank)

      pub leaning_paid : (new : Slots) (root' : Option ℕ) (b : Bool) → PaidOrDemoted (leaning_ranks IsLeaning-fallen) new root' y order (leaning_credit IsLeaning-fallen) b
          → PaidOrDemoted (fallen_ranks fallen) new root' y order (fallen_credit fallen) b
      leaning_paid new root' true l = IsWithin-before [] same_ranks (omega (arith, same_credit)) l
      leaning_paid new root' false paid = IsWithin-before [] same_ranks (omega (arith, same_credit)) paid

-- a demoted node and its parent
module _ {new : Slots} {root : Option ℕ} {y : ℕ} {order : List ℕ} (now : IsLow new root (Some y) order) where
  node_end : {I : Type 0} (number : I → ℕ) (branch : Option (Branch I)) → IsBranchOf number new y branch → EndsAt number now.way branch
  node_end number branch by = ends_at number new root now.way now.shape y now.held_way now.held (IsApart-once now.way now.shape order now.listed now.once) branch by

  -- a node needs no reserve
  node_reserve : leaf_reserve (rank_of now.shape) ≡ 0
  node_reserve = go (rank_of now.shape) (rank-positive 1 now.shape y now.balanced (sym (link-root new (above now.way) (Some y) now.shape now.held)))
    where
      go : (k : ℕ) → 0 < k → leaf_reserve k ≡ 0
      go zero b = absurd (omega (arith, b))
      go (suc k) b = refl

module _ {old new : Slots} {root : Option ℕ} {y : ℕ} {order : List ℕ} (demoted : IsDemoted old new root y order) where
  pub demoted_occupied : is_some (new y) ≡ true
  demoted_occupied = let now = demoted.demoted in occupied-link new (above now.way) (Some y) now.shape y now.held refl

  pub parent_occupied : (n : TreeLinks ℕ) (p : ℕ) → new y ≡ Some n → n.back ≡ Some p → is_some (new p) ≡ true
  parent_occupied n p e back =
      let now = demoted.demoted in
      occupied-above new root (Some y) now.way now.held_way p (sym (root_holds new (above now.way) y now.shape n now.held e).0 ∙ back)

  module _ {I : Type 0} (number : I → ℕ) where
    demoted_branch : (on : Option (Branch I)) → IsBranchOf number new y on → MatchOption on (IsRepaired old new root order 1) (λ b. HasDemoted old new root y (number b.parent) b.side order)
    demoted_branch None by = let now = demoted.demoted in record { built = low_branch now number None (node_end now number None by); backs = ([], omega arith, λ j. inr (demoted.backs j)) }
    demoted_branch (Some b) by =
        let now = demoted.demoted in
        let last = node_end now number (Some b) by in
        let z = under now.held_way now.held last in
        let fallen = fallen_above now last in
        record { fallen = fallen; higher = rw z.at_z (omega (arith, z.rank, demoted.rank, fallen.over.lesser)); fits = demoted.fits; backs = demoted.backs }

    -- and the account
    module _ {was : ℕ → ℕ} {credit : ℕ} (l : IsDemotedWithin was new root y order credit) (on : Option (Branch I)) (by : IsBranchOf number new y on) where
      pub demoted_next : MatchOption on (IsRepaired old new root order 1) (λ b. HasDemoted old new root y (number b.parent) b.side order)
          × MatchOption on (IsSpelledWithin was new root order (credit + 7)) (λ b. IsFallenWithin was new root (number b.parent) b.side order credit)
      demoted_next =
          let now = l.state in
          (demoted_branch on by, low_paid now number l.named l.names {final = credit + 7} (omega arith) on (omega (arith, l.within, node_reserve now)) (node_end now number on by))
