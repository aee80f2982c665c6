-- A path and the shape at its end, as one tree: its balance and its account.
use Rattle.std.proofs.Common.{◌≡◌, ℕ, ◌+◌, ◌≤◌, Option, None, List, length, arith, sym, ap}
use Rattle.ord_tree.specs.Slots.{Slots, Holds, Way, plug, above, HoldsWay}
use Rattle.ord_tree.specs.{Shape.Shape, Shape.fork, Shape.rank_of, Shape.walk, declared.tree_links.Side.Side}
use Rattle.ord_tree.specs.{Balance.IsOver, Balance.IsBalanced, Balance.IsBalancedWay, Promote.IsBuilt, Potential.node_potential, Potential.potential}
use Rattle.ord_tree.specs.Account.{potential_way, rank_here, rank_in, rank_way, NamesChanges, IsSpelledWithin}
use Rattle.ord_tree.proofs.Forks.{rank-fork, Holds-plug, IsBalanced-fork, IsBalanced-plug}
use Rattle.ord_tree.proofs.{Potentials.potential-fork, Potentials.potential-plug}
use Rattle.ord_tree.proofs.RankChanges.{rank_in-fork, rank_in-plug, NamesChanges-same}

-- the nodes form this path with this shape at its end, over this list
pub record IsPlugged (at : Slots) (root : Option ℕ) (way : Way) (s : Shape) (order : List ℕ) : Type 0 where
  pub link : Option ℕ
  pub held_way : HoldsWay at root way link
  pub held : Holds at (above way) link s
  pub listed : walk (plug way s) ≡ order

module _ {at : Slots} {root : Option ℕ} {way : Way} {order : List ℕ} where
  module _ {s : Shape} (p : IsPlugged at root way s order) where
    held_whole : Holds at None root (plug way s)
    held_whole = Holds-plug at root way s p.link p.held_way p.held

    pub IsBuilt-plugged : (slack : ℕ) → IsBalancedWay slack way (rank_of s) → IsBalanced slack s → IsBuilt at root order slack
    IsBuilt-plugged slack balanced_way balanced =
        record { shape = plug way s; held = held_whole; listed = p.listed; balanced = IsBalanced-plug slack way s balanced_way balanced }

    module _ {was : ℕ → ℕ} {credit : ℕ} (named : List ℕ) (names : NamesChanges named was (λ j. rank_way way j + rank_in s j)) where
      pub IsSpelledWithin-plugged : length named + potential_way way (rank_of s) + potential s ≤ credit → IsSpelledWithin was at root order credit
      IsSpelledWithin-plugged paid = record {
        state = record { shape = plug way s; held = held_whole; listed = p.listed };
        named = named;
        within = omega (arith, paid, potential-plug way s);
        names = NamesChanges-same named was _ _ (λ j. sym (rank_in-plug j way s)) names;
      }

  -- a fork at the end of a path
  module _ (side : Side) (near far : Shape) (i k : ℕ) (p : IsPlugged at root way (fork side near i k far) order) where
    pub IsBuilt-fork : (slack : ℕ) → IsBalancedWay slack way k → IsOver slack k (rank_of near) (rank_of far) → IsBalanced slack near → IsBalanced slack far
        → IsBuilt at root order slack
    IsBuilt-fork slack balanced_way over balanced_near balanced_far =
        IsBuilt-plugged p slack (rw (rank-fork side near far i k) balanced_way) (IsBalanced-fork slack side near far i k over balanced_near balanced_far)

    module _ {was : ℕ → ℕ} {credit : ℕ} (named : List ℕ) (names : NamesChanges named was (λ j. rank_way way j + (rank_in near j + rank_here j i k + rank_in far j))) where
      pub IsSpelledWithin-fork : length named + potential_way way k + node_potential k (rank_of near) (rank_of far) + potential near + potential far ≤ credit
          → IsSpelledWithin was at root order credit
      IsSpelledWithin-fork paid =
          IsSpelledWithin-plugged p named (NamesChanges-same named was _ _ (λ j. ap (λ n. rank_way way j + n) (sym (rank_in-fork j side near far i k))) names)
          (omega (arith, paid, potential-fork side near far i k, ap (potential_way way) (rank-fork side near far i k)))
