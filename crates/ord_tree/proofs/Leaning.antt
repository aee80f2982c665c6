-- The rotations after a removal, when the sibling is one below, and their account.
use Rattle.std.proofs.Common.{◌≡◌, ◌≢◌, ℕ, ◌+◌, ◌-◌, ◌<◌, ◌≤◌, Option, Some, List, [], ◌∷◌, length, ◌^◌, arith, refl, sym, ◌∙◌, ap, subst, inl, is_some, true}
use Rattle.chain_base.specs.Chain.{Chain}
use Rattle.ord_tree.specs.Slots.{Slots, Holds, plug, above, here, times_in, times_way, rank_at, Writes}
use Rattle.ord_tree.specs.{Shape.Shape, Shape.fork, Shape.rank_of, Shape.root_of, Shape.size_of, TreeLinks.other_side, TreeLinks.child_at}
use Rattle.ord_tree.specs.{declared.tree_links.TreeLinks.TreeLinks, Balance.IsBalancedWay, declared.tree_links.Side.Side}
use Rattle.ord_tree.specs.{Demote.IsDemoted, Demote.IsLow, Demote.IsLeaning, Promote.IsRepaired, Rotate.IsRotated}
use Rattle.ord_tree.proofs.Forks.{rank-fork, size-fork, size-plug, walk-ranked, walk-fork_near, walk-plug, HoldsFork-holds, Holds-fork, IsBalanced-fork, here-same, times_in-fork, apart-from}
use Rattle.ord_tree.specs.Account.{potential_way, leaning_ranks, leaning_credit, IsSpelledWithin, IsDemotedWithin}
use Rattle.ord_tree.proofs.Doubles.{root-some, rank_at-held, inner_root, rotated_once, middle_rank_is, site_below, site_above, rotated_twice}
use Rattle.ord_tree.proofs.Potentials.{node_potential-full, node_potential-slack, node_potential-uneven, node_potential-tight, node_potential-most, potential-fork}
use Rattle.ord_tree.proofs.{RankChanges.rank_here-other, RankChanges.rank_in-fork, RankChanges.names_but, LeafBranches.some_in}
use Rattle.ord_tree.proofs.Frames.{Holds-frame, HoldsWay-frame, Holds-reranked, backs-ranked}
use Rattle.ord_tree.proofs.{Slack.IsRanked-balanced, Slack.rank-small, Halves.size_of-walk}

module _ {old : Slots} {old_root : Option ℕ} {side : Side} {y s : ℕ} {order : List ℕ} (lean : IsLeaning old old_root side y s order) where
  -- if the outer child isn't one below s and the inner one isn't two below, the inner one is a node
  pub inner_some : (ns : TreeLinks ℕ) → old s ≡ Some ns → rank_of lean.site.inner + 2 ≢ lean.site.low → is_some (child_at (other_side side) ns) ≡ true
  inner_some ns e not_two = rw (inner_root lean.site ns e) (root-some lean.site.inner (omega (arith, lean.over, lean.low, lean.sibling)))

  -- s takes the place of y
  module _ {new : Slots} {root : Option ℕ} {rank_y rank_s : ℕ} (r : IsRotated lean.site new root rank_y rank_s) where
    pub rotated_lifted : rank_y ≡ rank_of lean.site.inner + 1 → rank_s ≡ lean.site.high → rank_of lean.site.outer + 1 ≡ lean.site.low
        → IsRepaired old new root order 1 × IsSpelledWithin (leaning_ranks lean) new root order (leaning_credit lean + 7)
    rotated_lifted is_y is_s outer =
        let site = lean.site in
        rotated_once site r is_s (omega (arith, lean.low, lean.sibling, lean.over)) (omega (arith, lean.sibling, lean.over))
        lean.balanced_outer lean.balanced_inner lean.balanced_low lean.balanced_way lean.listed
        (λ j not_y not_s. omega (arith, rank_here-other j y site.high not_y, rank_here-other j s site.low not_s))
        (omega (
          arith,
          node_potential-most rank_s (rank_of site.outer) rank_y,
          node_potential-tight rank_y (rank_of site.inner) (rank_of site.far) (inl (omega arith)),
        ))

  -- the inner child of s takes the place of y
  module _ (x : ℕ) (root_is : root_of lean.site.inner ≡ Some x) {mid : Slots} {mid_root : Option ℕ} {rank_low rank_high : ℕ} (r : IsRotated (site_below lean.site x root_is) mid mid_root rank_low rank_high)
      {new : Slots} {root : Option ℕ} (t : IsRotated (site_above lean.site x root_is r) new root rank_low rank_high) where
    pub rotated_between : rank_low ≡ rank_of lean.site.inner → rank_high ≡ lean.site.high → rank_low + 1 ≡ lean.site.low → rank_of lean.site.outer + 2 ≡ lean.site.low
        → IsRepaired old new root order 1 × IsSpelledWithin (leaning_ranks lean) new root order (leaning_credit lean + 7)
    rotated_between is_low is_high inner_one outer_two =
        let site = lean.site in
        rotated_twice site x root_is r t (is_low ∙ middle_rank_is site x root_is) is_high (omega arith) (omega (arith, lean.low, lean.sibling)) (omega (arith, lean.sibling))
        lean.balanced_outer lean.balanced_inner lean.balanced_low lean.balanced_way lean.listed
        (s ∷ []) (names_but (s ∷ []) _ _ (λ j not_s. omega (arith, rank_here-other j s rank_low not_s, rank_here-other j s site.low not_s)))
        (omega (arith, node_potential-most rank_high rank_low rank_low))

  -- the ranks are small
  pub low-small : lean.site.low < 128
  low-small =
      let t = fork side lean.site.outer s lean.site.low lean.site.inner in
      let whole = fork side t y lean.site.high lean.site.far in
      let few : size_of t < 2 ^ 64 = omega (arith, size-plug lean.site.way whole, size-fork side t lean.site.far y lean.site.high, size_of-walk (plug lean.site.way whole), ap length lean.listed) in
      let balanced = IsBalanced-fork 1 side lean.site.outer lean.site.inner s lean.site.low lean.over lean.balanced_outer lean.balanced_inner in
      omega (arith, rank-fork side lean.site.outer lean.site.inner s lean.site.low, rank-small t (IsRanked-balanced 1 t balanced) few)

  -- both are demoted
  module _ {T : Type 0} {first second third : Chain T} {mid new : Slots} (by_s : Writes s (λ n. record n { rank = lean.site.low - 1 }) old mid first second)
      (by_y : Writes y (λ n. record n { rank = lean.site.high - 1 }) mid new second third) where
    pub total : (j : ℕ) → times_way j lean.site.way + times_in j lean.site.outer + here j s + times_in j lean.site.inner + here j y + times_in j lean.site.far ≤ 1
    total j = omega (arith, lean.site.apart j, times_in-fork j side (fork side lean.site.outer s lean.site.low lean.site.inner) lean.site.far y lean.site.high, times_in-fork j side lean.site.outer lean.site.inner s lean.site.low)

    abbrev pub lowered : Shape
    lowered = fork side lean.site.outer s (lean.site.low - 1) lean.site.inner

    pub s≢y : s ≢ y
    s≢y = apart-from y s (λ j. here j s) (omega (arith, total y, here-same y)) (omega (arith, here-same s))

    pub held_lowered : Holds mid (above lean.site.way) (Some y) (fork side lowered y lean.site.high lean.site.far)
    held_lowered =
        let f = HoldsFork-holds old (above lean.site.way) (Some y) side (fork side lean.site.outer s lean.site.low lean.site.inner) lean.site.far y lean.site.high lean.site.held in
        Holds-fork mid (above lean.site.way) (Some y) side lowered lean.site.far y lean.site.high (
          f.0,
          refl,
          by_s.elsewhere y (λ e. s≢y (sym e)) ∙ f.2,
          f.3,
          f.4,
          Holds-reranked by_s (Some y) (child_at side f.0) side lean.site.outer lean.site.inner lean.site.low (omega (arith, total s, here-same s)) f.5,
          Holds-frame old mid lean.site.far (Some y) (child_at (other_side side) f.0) (λ j in_far. by_s.elsewhere j (apart-from s j (λ j. times_in j lean.site.far) (omega (arith, total s, here-same s)) in_far)) f.6,
        )

    pub held_both : Holds new (above lean.site.way) (Some y) (fork side lowered y (lean.site.high - 1) lean.site.far)
    held_both =
        Holds-reranked by_y (above lean.site.way) (Some y) side lowered lean.site.far lean.site.high
        (omega (arith, total y, here-same y, times_in-fork y side lean.site.outer lean.site.inner s (lean.site.low - 1))) held_lowered

    pub rank_both : rank_of (fork side lowered y (lean.site.high - 1) lean.site.far) ≡ lean.site.high - 1
    rank_both = rank-fork side lowered lean.site.far y (lean.site.high - 1)

    abbrev pub demoted_both : rank_of lean.site.outer + 2 ≡ lean.site.low → rank_of lean.site.inner + 2 ≡ lean.site.low → IsLow new old_root (Some y) order
    demoted_both outer inner =
        let site = lean.site in
        let whole = fork side lowered y (site.high - 1) site.far in
        let before = fork side (fork side site.outer s site.low site.inner) y site.high site.far in
        let P : ℕ → Type 0 = λ rank. IsBalancedWay 1 site.way rank in
        record {
          way = site.way;
          shape = whole;
          held_way = HoldsWay-frame old new site.way old_root (Some y)
              (λ j in_way. by_y.elsewhere j (apart-from y j (λ j. times_way j site.way) (omega (arith, total y, here-same y)) in_way)
              ∙ by_s.elsewhere j (apart-from s j (λ j. times_way j site.way) (omega (arith, total s, here-same s)) in_way)) site.held_way;
          held = held_both;
          listed = walk-plug site.way whole before
              (walk-ranked side lowered site.far y (site.high - 1) site.high
              ∙ walk-fork_near side lowered (fork side site.outer s site.low site.inner) site.far y site.high (walk-ranked side site.outer site.inner s (site.low - 1) site.low)) ∙ lean.listed;
          balanced = IsBalanced-fork 1 side lowered site.far y (site.high - 1) (rw (rank-fork side site.outer site.inner s (site.low - 1)) (omega (arith, lean.low, lean.sibling, lean.over)))
              (IsBalanced-fork 1 side site.outer site.inner s (site.low - 1) (omega (arith, lean.low, lean.sibling, lean.over)) lean.balanced_outer lean.balanced_inner) lean.balanced_low;
          balanced_way = subst P (omega (arith, rank_both, lean.sibling)) lean.balanced_way;
          once = lean.once;
          few = lean.few;
        }

    -- s was slack and is now full, and pays
    pub both_demoted : rank_of lean.site.outer + 2 ≡ lean.site.low → rank_of lean.site.inner + 2 ≡ lean.site.low → is_some (old s) ≡ true → is_some (old y) ≡ true
        → IsDemoted old new old_root y order × IsDemotedWithin (leaning_ranks lean) new old_root y order (leaning_credit lean)
    both_demoted outer inner some_s some_y =
        let site = lean.site in
        let before = fork side (fork side site.outer s site.low site.inner) y site.high site.far in
        let rank_was : rank_at old (Some y) ≡ site.high = rank_at-held old (above site.way) (Some y) before site.held ∙ rank-fork side (fork side site.outer s site.low site.inner) site.far y site.high in (
          record {
            demoted = demoted_both outer inner;
            rank = omega (arith, rank_both, rank_was, lean.sibling);
            fits = omega (arith, rank_was, lean.sibling, low-small);
            backs = λ j. backs-ranked by_s (some_in (old s) some_s).0 (some_in (old s) some_s).1 j
                ∙ backs-ranked by_y (some_in (old y) some_y).0 (by_s.elsewhere y (λ e. s≢y (sym e)) ∙ (some_in (old y) some_y).1) j;
          },
          record {
            state = demoted_both outer inner;
            named = y ∷ s ∷ [];
            within = omega (
              arith,
              ap (λ k. potential_way site.way (k + 1)) rank_both,
              ap (potential_way site.way) {x = site.high - 1 + 1} {y = site.high} (omega (arith, lean.low)),
              potential-fork side lowered site.far y (site.high - 1),
              potential-fork side site.outer site.inner s (site.low - 1),
              node_potential-uneven (site.high - 1) (rank_of lowered) (rank_of site.far) (omega (arith, rank-fork side site.outer site.inner s (site.low - 1), lean.low, lean.sibling)),
              node_potential-full (site.low - 1) (rank_of site.outer) (rank_of site.inner) (omega arith) (omega arith),
              node_potential-slack site.low (rank_of site.outer) (rank_of site.inner) (omega arith) (omega arith),
            );
            names = names_but (y ∷ s ∷ []) _ _ (λ j not_y not_s. omega (
              arith,
              rank_in-fork j side lowered site.far y (site.high - 1),
              rank_in-fork j side site.outer site.inner s (site.low - 1),
              rank_here-other j y (site.high - 1) not_y,
              rank_here-other j y site.high not_y,
              rank_here-other j s (site.low - 1) not_s,
              rank_here-other j s site.low not_s,
            ));
          },
        )
