-- A removal: from the tree without a node to the chain without its entry.
use Rattle.std.proofs.Common.{◌≡◌, ◌≢◌, ℕ, ◌+◌, ◌<◌, ◌≤◌, ◌^◌, Option, Some, None, OnSome, List, [], ◌∷◌, map, length, arith, refl, sym, ◌∙◌, ap, subst, is_some, true, option_map}
use Rattle.std.proofs.{lemmas.Grind.common_steps, lemmas.List.length-map, lemmas.Bool.ne_eqb}
use Rattle.chain_base.specs.Chain.{Entry, Chain, entry_at, link_at, IsSound, removed, without as entries_without}
use Rattle.chain_base.specs.Link.{Link}
use Rattle.ord_tree.specs.{Node.bare_entry, Node.bare, Node.entry_in, Node.links_in, Node.slots_of, Node.indexes, Shape.Shape, Shape.walk}
use Rattle.ord_tree.specs.{Slots.Holds, Slots.times, Slots.times_in, Slots.IsOnce, Slots.MovesBacks, Layout.shape_in, Layout.IsLaidOut, Promote.IsBuilt}
use Rattle.ord_tree.specs.{Tree.IsShrunk, Potential.potential, Account.IsSpelledWithin, Account.ranks_without}
use Rattle.ord_tree.specs.{declared.node.SimpleOrdArenaNode.SimpleOrdArenaNode as Node, Detach.without, Detach.IsDetachable, Leaf.previous}
use Rattle.chain_base.proofs.{ArenaLemmas.limit_of-below, CallerLemmas.entry_at-link, CallerLemmas.entry_at-without_other}
use Rattle.ord_tree.proofs.{Trees.entry_at-bare, Trees.is_some-bare, Trees.indexes-bare, Trees.shape_in-held, Trees.IsLaidOut-held, Views.MovesAtMost-backs}
use Rattle.ord_tree.proofs.{RankChanges.ChangesRanksWithin-spelled, Cutting.times-without}
use Rattle.ord_tree.proofs.{LeafBranches.IsOnce-distinct, LeafBranches.within-occupied, Slack.IsRanked-balanced, Slack.IsBalanced-ranked}
use Rattle.ord_tree.proofs.{Forks.times-walk, Forks.apart-from, Frames.Holds-frame}

-- what always holds also holds of an option
pub some_always : {X A : Type 0} (o : Option X) → A → OnSome o A
some_always None a = tt
some_always (Some x) a = a

-- a list without one of its indexes
pub times-without_same : (i : ℕ) (xs : List ℕ) → times i xs ≤ 1 → times i (without i xs) ≡ 0
times-without_same i [] once = refl
times-without_same i (x ∷ xs) once = grind (arith, common_steps, times-without_same i xs)

-- the entries without one
module _ {T : Type 0} where
  pub indexes-without : (es : List (Entry T)) (i : ℕ) → indexes (entries_without i es) ≡ without i (indexes es)
  indexes-without [] i = refl
  indexes-without (e ∷ es) i = grind (arith, common_steps, indexes-without es i)

module _ {P T I G : Type 0} where
  pub bare-without : (es : List (Entry (Node P T I G))) (i : ℕ) → map bare_entry (entries_without i es) ≡ entries_without i (map bare_entry es)
  bare-without [] i = refl
  bare-without (e ∷ es) i = grind (arith, common_steps, bare-without es i)

  -- a generation with a link's item, without the node
  abbrev linked_item : ℕ × Link (Node P T I G) → ℕ × T
  linked_item e = (e.0, e.1.item.t)

  -- the list's entry, from the link in the chain of nodes
  entry_at-bare_link : (c d : Chain (Node P T I G)) (x : ℕ) → bare d ≡ bare c → entry_at (map bare_entry c.entries) x ≡ option_map linked_item (link_at d.entries x)
  entry_at-bare_link c d x kept =
      ap (λ (b : Chain T). entry_at b.entries x) (sym kept) ∙ entry_at-bare d.entries x ∙ ap (option_map entry_in) (entry_at-link None None d.entries x) ∙ over (link_at d.entries x)
    where
      over : (o : Option (ℕ × Link (Node P T I G))) → option_map entry_in (option_map (λ (e : ℕ × Link (Node P T I G)). (e.0, e.1.item)) o) ≡ option_map linked_item o
      over None = refl
      over (Some e) = refl

-- the obligation of a removal: `new` is the chain c without the entry x, and `answer` the removed item and its generation by `gen`
pub record Removal {P T I G : Type 0} (greatest : Option ℕ) (c new : Chain (Node P T I G)) (root root' : Option ℕ) (x : ℕ) (gen : G → ℕ) (answer : G × T) : Type 0 where
  pub laid : IsLaidOut new root' (shape_in new root')
  pub listed : bare new ≡ removed greatest (bare c) x
  pub shrunk : IsShrunk (shape_in c root) (shape_in new root')
  pub value : entry_at (map bare_entry c.entries) x ≡ Some (gen answer.0, answer.1)

-- d is the chain c after the node x was taken out of the tree; `root` and `root'` are the roots before and after
pub record IsTakenOut {P T I G : Type 0} (c : Chain (Node P T I G)) (root : Option ℕ) (d : Chain (Node P T I G)) (root' : Option ℕ) (x : ℕ) : Type 0 where
  pub kept : bare d ≡ bare c
  pub built : IsBuilt (slots_of d) root' (without x (indexes c.entries)) 1
  pub backs : MovesBacks 9 (slots_of c) (slots_of d)
  pub account : IsSpelledWithin (ranks_without x (shape_in c root)) (slots_of d) root' (without x (indexes c.entries)) (potential (shape_in c root) + 9)
  pub once : IsOnce (indexes c.entries)
  pub few : length (indexes c.entries) < 2 ^ 64
  pub there : is_some (entry_at c.entries x) ≡ true

module _ {P T I G : Type 0} {c d : Chain (Node P T I G)} {root root' : Option ℕ} {x : ℕ} (out : IsTakenOut c root d root' x) where
  abbrev pub rest : List ℕ
  rest = without x (indexes c.entries)

  -- the entry is still in the chain
  pub still_in : is_some (entry_at d.entries x) ≡ true
  still_in = sym (is_some-bare d.entries x) ∙ ap (λ (b : Chain T). is_some (entry_at b.entries x)) out.kept ∙ is_some-bare c.entries x ∙ out.there

  pub rest_is : indexes (entries_without x d.entries) ≡ rest
  rest_is =
      indexes-without d.entries x
      ∙ ap (without x) (sym (indexes-bare d.entries) ∙ ap (λ (b : Chain T). indexes b.entries) out.kept ∙ indexes-bare c.entries)

  pub rest_fresh : times x rest ≡ 0
  rest_fresh = times-without_same x (indexes c.entries) (out.once x)

  pub rest_once : IsOnce rest
  rest_once j = omega (arith, times-without x j (indexes c.entries), out.once j)

  pub not_out : (j : ℕ) → 0 < times_in j out.built.shape → j ≢ x
  not_out j inside = apart-from x j (λ j. times j rest) rest_fresh (omega (arith, inside, times-walk j out.built.shape, ap (times j) out.built.listed))

  -- and then its entry is removed
  module _ (greatest : Option ℕ) (laid : IsLaidOut c root (shape_in c root)) where
    abbrev last : Chain (Node P T I G)
    last = removed greatest d x

    held_last : Holds (slots_of last) None root' out.built.shape
    held_last =
        Holds-frame (slots_of d) (slots_of last) out.built.shape None root'
        (λ j inside. ap (option_map (λ (e : ℕ × Node P T I G). links_in e.1)) (entry_at-without_other d.entries x j (not_out j inside))) out.built.held

    listed_last : walk out.built.shape ≡ indexes last.entries
    listed_last = out.built.listed ∙ sym rest_is

    laid_last : IsLaidOut last root' (shape_in last root')
    laid_last = IsLaidOut-held last root' (record { held = held_last; listed = listed_last; ranked = IsRanked-balanced 1 out.built.shape out.built.balanced })

    IsShrunk-removed : IsShrunk (shape_in c root) (shape_in last root')
    IsShrunk-removed = subst (λ (s : Shape). IsShrunk (shape_in c root) s) (sym (shape_in-held last root' out.built.shape held_last listed_last)) (record {
      ranked = IsRanked-balanced 1 out.built.shape out.built.balanced;
      moved = MovesAtMost-backs 9 (slots_of c) (slots_of d) root root' (shape_in c root) out.built.shape laid.held out.built.held out.backs;
      rank_changes = ChangesRanksWithin-spelled 9 (shape_in c root) out.built.shape laid.listed out.once laid.ranked out.built.held rest_once
          (λ j inside. rw (ne_eqb j x (apart-from x j (λ j. times j rest) rest_fresh inside)) refl) out.account;
    })

    bare_removed : bare last ≡ removed greatest (bare c) x
    bare_removed =
        ap (λ (es : List (Entry T)). record { entries = es; capacity = d.capacity; vacant = x ∷ d.vacant; generation = (removed greatest d x).generation; maximum = d.maximum }) (bare-without d.entries x)
        ∙ ap (λ (b : Chain T). removed greatest b x) out.kept

-- the tree without the entry x: c is its chain, d the chain after the node was taken out of the tree
module _ {P T I G : Type 0} (c : Chain (Node P T I G)) (root : Option ℕ) (x : ℕ)
    (laid : IsLaidOut c root (shape_in c root)) (occupied : is_some (entry_at c.entries x) ≡ true)
    (most : ℕ) (greatest : Option ℕ) (sound : IsSound most greatest c) (fits : most + 1 < 2 ^ 64) where
  abbrev pub detachable : (before : Option ℕ) → before ≡ previous None x (indexes c.entries) → IsDetachable (slots_of c) root x before (indexes c.entries)
  detachable before is = record {
    built = record { shape = shape_in c root; held = laid.held; listed = laid.listed; balanced = IsBalanced-ranked (shape_in c root) laid.ranked };
    within = within-occupied c.entries x occupied;
    once = IsOnce-distinct c.entries sound.distinct;
    few = omega (arith, length-map c.entries (λ (e : Entry (Node P T I G)). e.index), sound.counted, sound.within_limit, limit_of-below most c.maximum, fits);
    is_before = is;
  }

  module _ (before : Option ℕ) (is_before : before ≡ previous None x (indexes c.entries)) (d : Chain (Node P T I G)) (root' : Option ℕ) (kept : bare d ≡ bare c)
      (builds : (order : List ℕ) → IsDetachable (slots_of c) root x before order → IsBuilt (slots_of d) root' (without x order) 1)
      (moves : (order : List ℕ) → IsDetachable (slots_of c) root x before order → MovesBacks 9 (slots_of c) (slots_of d))
      (account : (order : List ℕ) (can : IsDetachable (slots_of c) root x before order) → IsSpelledWithin (ranks_without x can.built.shape) (slots_of d) root' (without x order) (potential can.built.shape + 9)) where
    pub taken_out : IsTakenOut c root d root' x
    taken_out =
        let can = detachable before is_before in
        record { kept = kept; built = builds _ can; backs = moves _ can; account = account _ can; once = can.once; few = can.few; there = occupied }

    -- the call, from what its steps ensure: the chain's result, with the item alone
    module _ (new : Chain (Node P T I G)) (gen : G → ℕ) (taken : G × Link (Node P T I G)) (answer : G × T)
        (value : link_at d.entries x ≡ Some (gen taken.0, taken.1)) (new_is : new ≡ removed greatest d x) (answer_is : answer ≡ (taken.0, taken.1.item.t)) where
      pub removal : Removal greatest c new root root' x gen answer
      removal = rw new_is (record {
        laid = laid_last taken_out greatest laid;
        listed = bare_removed taken_out greatest laid;
        shrunk = IsShrunk-removed taken_out greatest laid;
        value =
            entry_at-bare_link c d x kept ∙ ap (option_map linked_item) value
            ∙ ap (λ (e : G × T). Some (gen e.0, e.1)) (sym answer_is);
      })
