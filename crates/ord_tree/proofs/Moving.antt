-- An entry that moves: from the tree without its node to the tree with it as a new leaf.
use Rattle.std.proofs.Common.{arith, ◌≡◌, ◌≢◌, ℕ, ◌+◌, ◌<◌, Option, Some, None, List, [], ◌∷◌, ◌++◌, ◌∙◌, map, length, length-append, refl, sym, ap, subst, inl, inr, ⊎_elim, is_some, true, option_map}
use Rattle.std.proofs.{lemmas.Grind.common_steps, lemmas.Bool.cases_eq, lemmas.Bool.ne_eqb}
use Rattle.chain_base.specs.Chain.{Entry, Chain, entry_at, without as entries_without}
use Rattle.chain_base.specs.{declared.chain.insert.LinkInsertKind.LinkInsertKind, Insert.placed, Insert.CanPlace, Move.with_entry_moved, Move.without_entry, Move.list_with}
use Rattle.chain_base.proofs.CallerLemmas.{entry_at-without_other, occurs-entry}
use Rattle.ord_tree.specs.{declared.node.SimpleOrdArenaNode.SimpleOrdArenaNode as Node, Node.bare_entry, Node.bare, Node.entry_in, Node.links_in, Node.slots_of, Node.indexes}
use Rattle.ord_tree.specs.{declared.tree_links.Side.TheVariants.Lesser, declared.tree_links.Side.TheVariants.Greater, declared.tree_links.Side.Side}
use Rattle.ord_tree.specs.{declared.tree_links.TreeLinks.TreeLinks, declared.tree_links.Branch.Branch, Shape.Shape, Shape.walk}
use Rattle.ord_tree.specs.{Leaf.beside, Leaf.previous, Leaf.following, Leaf.neighbour_in, Leaf.leaf_links, Leaf.IsNewLeaf}
use Rattle.ord_tree.specs.{LeafBranch.kind_at, LeafBranch.IsLeafBranch, Detach.without}
use Rattle.ord_tree.specs.{Slots.Slots, Slots.Holds, Slots.times, Slots.MovesBacks, Slots.Writes, Layout.shape_in, Layout.IsLaidOut}
use Rattle.ord_tree.specs.{Promote.IsRepaired, Tree.put_on, Tree.CanPutAt, Move.IsRearranged, Move.IsAside}
use Rattle.ord_tree.specs.{Potential.potential, Account.IsSpelledWithin, Account.NamesChanges, Account.rank_in, Account.ranks_without}
use Rattle.ord_tree.proofs.{Trees.entry_at-bare, Trees.is_some-bare, Trees.indexes-bare, Trees.shape_in-held, Trees.IsLaidOut-held, Shrunk.still_in}
use Rattle.ord_tree.proofs.{Shrunk.bare-without, Shrunk.IsTakenOut, Shrunk.rest, Shrunk.rest_is, Shrunk.rest_fresh, Shrunk.rest_once, Shrunk.not_out, Spots.times-beside-ge, Spots.IsOnce-beside}
use Rattle.ord_tree.proofs.{Puts.put-same, Puts.put-other, Puts.put-indexes, Puts.put-bare, Grown.placed-put, Grown.CanPlace-put}
use Rattle.ord_tree.proofs.{LeafBranches.times-indexes, LeafBranches.within-occupied, LeafBranches.some_in, LeafBranches.is_some-mapped, Views.MovesAtMost-backs, Views.Holds-unique}
use Rattle.ord_tree.proofs.{RankChanges.NamesChanges-joined, RankChanges.ChangesRanksWithin-spelled, Forks.apart-from, Frames.Holds-frame, Views.MovesBacks-then, Views.MovesBacks-write, Views.MovesBacks-same, Slack.IsRanked-balanced}

-- a list without one of its indexes is shorter by one
length-without_in : (i : ℕ) (xs : List ℕ) → 0 < times i xs → length (without i xs) + 1 ≡ length xs
length-without_in i [] inside = absurd (omega arith)
length-without_in i (x ∷ xs) inside = grind (arith, common_steps, length-without_in i xs)

-- a new index has the neighbour that the other index had on that side
module _ (y x : ℕ) where
  previous-beside : (first : Option ℕ) (order : List ℕ) → times x order ≡ 0 → previous first x (beside Lesser y x order) ≡ previous first y order
  previous-beside first [] none = refl
  previous-beside first (i ∷ is) none = grind (arith, common_steps, previous-beside (Some i) is)

  following-beside : (order : List ℕ) → times x order ≡ 0 → following x (beside Greater y x order) ≡ following y order
  following-beside [] none = refl
  following-beside (i ∷ is) none = grind (arith, common_steps, following-beside is)

  pub neighbour-beside : (side : Side) (order : List ℕ) → times x order ≡ 0 → neighbour_in side x (beside side y x order) ≡ neighbour_in side y order
  neighbour-beside Lesser order none = previous-beside None order none
  neighbour-beside Greater order none = following-beside order none

-- the accounts of removing and inserting one entry, together: its own rank may change too
module _ (s t : Shape) (x : ℕ) {at new : Slots} {root root' : Option ℕ} {order order' : List ℕ} (removal : IsSpelledWithin (ranks_without x s) at root order (potential s + 9)) where
  pub both_accounts : removal.state.shape ≡ t → IsSpelledWithin (rank_in t) new root' order' (potential t + 4) → IsSpelledWithin (rank_in s) new root' order' (potential s + 14)
  both_accounts same insertion =
      let all = NamesChanges-joined removal.named insertion.named (ranks_without x s) (rank_in t) (rank_in insertion.state.shape)
      (subst (λ (u : Shape). NamesChanges removal.named (ranks_without x s) (rank_in u)) same removal.names) insertion.names in
      record {
        state = insertion.state;
        named = x ∷ removal.named ++ insertion.named;
        within = omega (arith, removal.within, insertion.within, ap potential same, length-append removal.named insertion.named);
        names = λ j. ⊎_elim (λ (is : j ≡ x). inl (inl is))
            (λ other. let was : ranks_without x s j ≡ rank_in s j = rw (ne_eqb j x other) refl in
            ⊎_elim (λ named. inl (inr named))
            (⊎_elim (λ (none : ranks_without x s j ≡ 0). inr (inl (sym was ∙ none)))
            (λ (stays : ranks_without x s j ≡ rank_in insertion.state.shape j). inr (inr (sym was ∙ stays)))) (all j)) (cases_eq j x);
      }

module _ {P T I G : Type 0} {c d : Chain (Node P T I G)} {root root' : Option ℕ} {x : ℕ} (out : IsTakenOut c root d root' x) where
  module _ (number : I → ℕ) (at : I × Side) (can : CanPutAt number (Some at) (without_entry (bare c) x)) where
    abbrev y : ℕ
    y = number at.0

    abbrev left : List (Entry (Node P T I G))
    left = entries_without x d.entries

    left_bare : map bare_entry left ≡ entries_without x (bare c).entries
    left_bare = bare-without d.entries x ∙ ap (λ (b : Chain T). entries_without x b.entries) out.kept

    y_left : is_some (entry_at left y) ≡ true
    y_left = sym (is_some-bare left y) ∙ ap (λ (es : List (Entry T)). is_some (entry_at es y)) left_bare ∙ can

    pub can_place : (kind : LinkInsertKind P I G) → kind ≡ kind_at (Some at) → CanPlace number kind (without_entry d x)
    can_place kind kind_is = rw kind_is (CanPlace-put P G number (Some at) (without_entry d x) y_left)

    -- the entry, still in the chain
    module _ (e : ℕ × Node P T I G) (has : entry_at d.entries x ≡ Some e) where
      abbrev entry : Entry (Node P T I G)
      entry = record { index = x; generation = e.0; item = e.1 }

      abbrev put : List (Entry (Node P T I G))
      put = put_on at.1 y left entry

      -- every index has the same entry as before
      entry_at-put : (j : ℕ) → entry_at put j ≡ entry_at d.entries j
      entry_at-put j = ⊎_elim
          (λ (same : j ≡ x). rw same (put-same at.1 left y y_left entry (sym (times-indexes left x) ∙ ap (times x) (rest_is out) ∙ rest_fresh out) ∙ sym has))
          (λ (other : j ≢ x). put-other at.1 left y y_left entry j other ∙ entry_at-without_other d.entries x j other)
          (cases_eq j x)

      order-put : indexes put ≡ beside at.1 y x (rest out)
      order-put = put-indexes at.1 left y entry ∙ ap (beside at.1 y x) (rest_is out)

      bare-put : map bare_entry put ≡ list_with (put_on at.1 y) x (entry_at (bare c).entries x) (entries_without x (bare c).entries)
      bare-put =
          put-bare at.1 left y entry ∙ ap (λ (es : List (Entry T)). put_on at.1 y es (bare_entry entry)) left_bare
          ∙ ap (λ (o : Option (ℕ × T)). list_with (put_on at.1 y) x o (entries_without x (bare c).entries))
          (sym (ap (λ (b : Chain T). entry_at b.entries x) (sym out.kept) ∙ entry_at-bare d.entries x ∙ ap (option_map entry_in) has))

      put_at_place : (kind : LinkInsertKind P I G) → kind ≡ kind_at (Some at) → with_entry_moved d x (placed number kind) ≡ record d { entries = put }
      put_at_place kind kind_is =
          ap (λ (o : Option (ℕ × Node P T I G)). record d { entries = list_with (placed number kind) x o left }) has
          ∙ ap (λ (kind : LinkInsertKind P I G). record d { entries = placed number kind left entry }) kind_is
          ∙ ap (λ (es : List (Entry (Node P T I G))). record d { entries = es }) (placed-put P G number (Some at) left entry)

    -- the chain with the entry at its new place; its node isn't in the tree yet
    module _ (m : Chain (Node P T I G)) (kind : LinkInsertKind P I G) (kind_is : kind ≡ kind_at (Some at)) (m_is : m ≡ with_entry_moved d x (placed number kind)) where
      e : (e : ℕ × Node P T I G) × (entry_at d.entries x ≡ Some e)
      e = some_in (entry_at d.entries x) (still_in out)

      entries_are : m ≡ record d { entries = put e.0 e.1 }
      entries_are = m_is ∙ put_at_place e.0 e.1 kind kind_is

      same_entries : (j : ℕ) → entry_at m.entries j ≡ entry_at d.entries j
      same_entries j = ap (λ (c : Chain (Node P T I G)). entry_at c.entries j) entries_are ∙ entry_at-put e.0 e.1 j

      pub same_slots : (j : ℕ) → slots_of m j ≡ slots_of d j
      same_slots j = ap (option_map (λ (e : ℕ × Node P T I G). links_in e.1)) (same_entries j)

      pub order_is : indexes m.entries ≡ beside at.1 y x (rest out)
      order_is = ap (λ (c : Chain (Node P T I G)). indexes c.entries) entries_are ∙ order-put e.0 e.1

      pub bare_is : bare m ≡ with_entry_moved (bare c) x (put_on at.1 y)
      bare_is =
          ap bare entries_are ∙ ap (λ (es : List (Entry T)). record (bare d) { entries = es }) (bare-put e.0 e.1)
          ∙ ap (λ (b : Chain T). record b { entries = list_with (put_on at.1 y) x (entry_at (bare c).entries x) (entries_without x (bare c).entries) }) out.kept

      pub x_in : is_some (entry_at m.entries x) ≡ true
      x_in = ap is_some (same_entries x) ∙ (still_in out)

      pub x_slot : is_some (slots_of m x) ≡ true
      x_slot = is_some-mapped (λ (e : ℕ × Node P T I G). links_in e.1) (entry_at m.entries x) ∙ x_in

      y_within : 0 < times y (rest out)
      y_within = omega (arith, ap (times y) (rest_is out), within-occupied left y y_left)

      pub y_in : is_some (entry_at m.entries y) ≡ true
      y_in = occurs-entry m.entries y (omega (arith, times-indexes m.entries y, ap (times y) order_is, times-beside-ge at.1 y x y (rest out), y_within))

      held_rest : Holds (slots_of m) None root' out.built.shape
      held_rest = Holds-frame (slots_of d) (slots_of m) out.built.shape None root' (λ j _. same_slots j) out.built.held

      pub aside : IsAside (slots_of m) root' (rest out) (indexes m.entries) at.1 y x
      aside = record {
        shape = out.built.shape;
        held = held_rest;
        listed = out.built.listed;
        once = (rest_once out);
        within = y_within;
        facing = ap (neighbour_in at.1 x) order_is ∙ neighbour-beside y x at.1 (rest out) (rest_fresh out);
      }

      -- its node is now a leaf with a parent link
      module _ (n : Chain (Node P T I G)) (branch : Branch I) (bud : IsLeafBranch number y at.1 (slots_of m) (rest out) branch)
          (write : Writes x (λ _. leaf_links (Some (number branch.parent))) (slots_of m) (slots_of n) (bare m) (bare n)) where
        pub new_leaf : IsNewLeaf (slots_of n) root' branch.side (number branch.parent) x (rest out) 1
        new_leaf = record {
          built = record {
            shape = out.built.shape;
            held = Holds-frame (slots_of m) (slots_of n) out.built.shape None root'
                (λ j inside. write.elsewhere j (not_out out j inside)) held_rest;
            listed = out.built.listed;
            balanced = out.built.balanced;
          };
          within = bud.within;
          bare = λ l h. bud.bare l (sym (write.elsewhere (number branch.parent) (apart-from x (number branch.parent) (λ j. times j (rest out)) (rest_fresh out) bud.within)) ∙ h);
          leaf = let slot = some_in (slots_of m x) x_slot in write.here slot.0 slot.1;
          fresh = (rest_fresh out);
          once = (rest_once out);
          few = omega (arith, length-without_in x (indexes c.entries) (within-occupied c.entries x out.there), out.few);
        }

        own_back : MovesBacks 1 (slots_of d) (slots_of n)
        own_back = MovesBacks-same (slots_of d) (slots_of m) (slots_of n) 1 (λ j. ap (option_map (λ (l : TreeLinks ℕ). l.back)) (sym (same_slots j))) (MovesBacks-write write)

        -- it is attached
        module _ (laid : IsLaidOut c root (shape_in c root)) (q : Chain (Node P T I G)) (root'' : Option ℕ) (hung : bare q ≡ bare n)
            (repairs : (order : List ℕ) (slack : ℕ) → IsNewLeaf (slots_of n) root' branch.side (number branch.parent) x order slack
            → IsRepaired (slots_of n) (slots_of q) root'' (beside branch.side (number branch.parent) x order) slack) where
          repaired : IsRepaired (slots_of n) (slots_of q) root'' (beside branch.side (number branch.parent) x (rest out)) 1
          repaired = repairs (rest out) 1 new_leaf

          bare_end : bare q ≡ bare m
          bare_end = hung ∙ write.kept

          listed : walk repaired.built.shape ≡ indexes q.entries
          listed =
              repaired.built.listed ∙ bud.put x ∙ sym order_is ∙ sym (indexes-bare m.entries)
              ∙ ap (λ (b : Chain T). indexes b.entries) (sym bare_end) ∙ indexes-bare q.entries

          shape_is : shape_in q root'' ≡ repaired.built.shape
          shape_is = shape_in-held q root'' repaired.built.shape repaired.built.held listed

          pub laid_again : IsLaidOut q root'' (shape_in q root'')
          laid_again = IsLaidOut-held q root'' (record { held = repaired.built.held; listed = listed; ranked = IsRanked-balanced 1 repaired.built.shape repaired.built.balanced })

          pub list_moved : bare q ≡ with_entry_moved (bare c) x (put_on at.1 y)
          list_moved = bare_end ∙ bare_is

          moves : MovesBacks 15 (slots_of c) (slots_of q)
          moves = MovesBacks-then (slots_of c) (slots_of d) (slots_of q) 9 6 out.backs (MovesBacks-then (slots_of d) (slots_of n) (slots_of q) 1 5 own_back repaired.backs)

          -- the account of both steps
          module _ (accounts : (order : List ℕ) (slack : ℕ) (bud : IsNewLeaf (slots_of n) root' branch.side (number branch.parent) x order slack)
              → IsSpelledWithin (rank_in bud.built.shape) (slots_of q) root'' (beside branch.side (number branch.parent) x order) (potential bud.built.shape + 4)) where
            account : IsSpelledWithin (rank_in (shape_in c root)) (slots_of q) root'' (beside branch.side (number branch.parent) x (rest out)) (potential (shape_in c root) + 14)
            unfolding new_leaf
            account =
                both_accounts (shape_in c root) out.built.shape x out.account
                (Holds-unique (slots_of d) None root' out.account.state.shape out.built.shape out.account.state.held out.built.held) (accounts (rest out) 1 new_leaf)

            pub rearranged : IsRearranged (shape_in c root) (shape_in q root'')
            rearranged =
                subst (λ (s : Shape). IsRearranged (shape_in c root) s) (sym shape_is) (record {
                  ranked = IsRanked-balanced 1 repaired.built.shape repaired.built.balanced;
                  moved = MovesAtMost-backs 15 (slots_of c) (slots_of q) root root'' (shape_in c root) repaired.built.shape laid.held repaired.built.held moves;
                  rank_changes = ChangesRanksWithin-spelled 14 (shape_in c root) repaired.built.shape laid.listed out.once laid.ranked repaired.built.held
                      (IsOnce-beside branch.side (number branch.parent) x (rest out) (rest_once out) (rest_fresh out)) (λ j inside. refl) account;
                })
