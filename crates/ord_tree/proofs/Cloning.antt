-- A clone of a chain of nodes is one of the list of its items, and lies in a tree of the same shape.
use Rattle.std.proofs.Common.{arith, ◌≡◌, ℕ, zero, suc, ◌+◌, inl, inr, max, Option, Some, None, List, [], ◌∷◌, map, length, Result, Ok, Err, MatchResult, OnOk, refl, sym, ◌∙◌, ap, option_map, ◌==◌, true}
use Rattle.std.proofs.{lemmas.Bool.Decides.eqb_tells, lemmas.Option.slice_get-map, lemmas.Grind.common_steps, lemmas.Bool.false≢true, lemmas.List.map-id}
use Rattle.std.specs.declared.alloc.AllocError.{AllocError}
use Rattle.chain_base.specs.ArenaClone.{Grants, StopsAtRefusal}
use Rattle.chain_base.specs.Chain.{Entry, Chain, entry_at, link_between, greatest_index, IsSound}
use Rattle.chain_base.specs.{Compression.lesser, Compression.refilled, Walk.pointers, Link.Link}
use Rattle.chain_base.proofs.ArenaLemmas.{clones-retold, clones-leave, stops-retold, stops-leave}
use Rattle.chain_base.specs.Clone.{links_among, links_rising, taken_over, IsClone as IsClonedList, IsRefusedClone as IsRefusedList}
use Rattle.chain_base.proofs.CallerLemmas.{clone-kept, clone-restated as list-restated, refusal-restated as refused-list-restated}
use Rattle.ord_tree.specs.{Node.bare_entry, Node.bare, Node.entry_in, Node.links_in, Node.slots_of, Node.indexes, CloneNode.ClonesNode}
use Rattle.ord_tree.specs.{Clone.AtItem, Clone.IsClone, Clone.IsRefusedClone, Tree.Tree}
use Rattle.ord_tree.specs.{declared.node.SimpleOrdArenaNode.SimpleOrdArenaNode as Node, Layout.shape_in, Layout.tree_of, Layout.IsLaidOut}
use Rattle.ord_tree.proofs.Trees.{entry_at-bare, times-bare, greatest_index-bare, shape_in-linked, IsLaidOut-linked}
use Rattle.ord_tree.proofs.Compressing.{bare-refilled, lesser-bare}

module _ {P T I G : Type 0} where
  -- a link without its node
  abbrev pub bare_link : Link (Node P T I G) → Link T
  bare_link l = record { item = l.item.t; prev = l.prev; next = l.next }

  -- the index, generation and link of an entry, without its node
  abbrev pub linked_in : ℕ × ℕ × Link (Node P T I G) → ℕ × ℕ × Link T
  linked_in e = (e.0, e.1, bare_link e.2)

  -- a generation with a link, without its node
  abbrev pub bare_held : ℕ × Link (Node P T I G) → ℕ × Link T
  bare_held e = (e.0, bare_link e.1)

  module _ (i : ℕ) (after : Option ℕ) where
    link_between-bare : (before : Option ℕ) (es : List (Entry (Node P T I G))) → link_between before after (map bare_entry es) i ≡ option_map bare_held (link_between before after es i)
    link_between-bare before [] = refl
    link_between-bare before (e ∷ es) = grind (arith, common_steps, link_between-bare (Some e.index) es)

  links_among-bare : (es : List (Entry (Node P T I G))) (from count : ℕ) → links_among (map bare_entry es) from count ≡ map linked_in (links_among es from count)
  links_among-bare es from zero = refl
  links_among-bare es from (suc count) = grind (arith, common_steps, link_between-bare from None None es, links_among-bare es (from + 1) count)

  pointers-bare : (es : List (Entry (Node P T I G))) → pointers (map bare_entry es) ≡ pointers es
  pointers-bare [] = refl
  pointers-bare (e ∷ es) = ap (λ ps. (e.index, e.generation) ∷ ps) (pointers-bare es)

  indexes-pointers : (es : List (Entry (Node P T I G))) → indexes es ≡ map (λ (p : ℕ × ℕ). p.0) (pointers es)
  indexes-pointers [] = refl
  indexes-pointers (e ∷ es) = ap (λ ps. e.index ∷ ps) (indexes-pointers es)

  -- a tree without entries has no root
  pub no-root : (c : Chain (Node P T I G)) (root : Option ℕ) → IsLaidOut c root (shape_in c root) → length c.entries ≡ 0 → root ≡ None
  no-root c root laid none = by c.entries refl none
    where
      by : (es : List (Entry (Node P T I G))) → c.entries ≡ es → length es ≡ 0 → root ≡ None
      by [] is none = let held = laid.held in rw is at held
      by (e ∷ es) is none = absurd cc

module _ {P T U I G : Type 0} (source : Chain (Node P U I G)) (old : Chain (Node P T I G)) (es : List (Entry (Node P T I G))) where
  bare-taken_over : bare (taken_over source old es) ≡ taken_over (bare source) (bare old) (map bare_entry es)
  bare-taken_over =
      bare-refilled (record old { capacity = max old.capacity (greatest_index source.entries) }) source.generation es
      ∙ ap (λ n. refilled (record (bare old) { capacity = max old.capacity n }) source.generation (map bare_entry es)) (sym (greatest_index-bare source.entries))

-- A clone into a chain of other items, by calls that are shown the nodes' items, is a clone of the list of these items.
module _ {P T U I G M F : Type 0} (numbers : P → ℕ × ℕ) (below : M → P → Link (Node P U I G) → T → M → Type 0)
    (above : F → P → Link U → T → F → Type 0) (state : M → F)
    (like : (m : M) (p : P) (l : Link (Node P U I G)) (x : T) (n : M) → below m p l x n → above (state m) p (bare_link l) x (state n))
    (m n : M) (source : Chain (Node P U I G)) (old new : Chain T) (list : Chain U) (is : bare source ≡ list) where
  list-at : IsClonedList numbers below m source old new n → IsClonedList numbers above (state m) list old new (state n)
  list-at h = rw (← is) (record {
    items = h.items;
    calls = rw (links_among-bare source.entries 1 source.capacity)
        (let told = clones-retold numbers below above state bare_link (λ x. x) like (links_rising source) m n [] h.items h.calls in rw (map-id h.items) at told);
    entries = record {
      order = h.entries.order ∙ sym (pointers-bare source.entries);
      made = λ i there. rw (lesser-bare source.entries i) (h.entries.made i (rw (times-bare source.entries i) at there));
    };
    after = h.after ∙ ap (λ n. refilled (record old { capacity = max old.capacity n }) source.generation new.entries) (sym (greatest_index-bare source.entries));
  })

  pub list-told : {E : Type 0} (r : Result (Unit {0}) E) → OnOk r (IsClonedList numbers below m source old new n)
      → OnOk r ((last : F) × IsClonedList numbers above (state m) list old new last)
  list-told (Err e) h = tt
  list-told (Ok x) h = (state n, list-at h)

-- The step of a clone of nodes, from the step of their items. The maker of the items is behind a reference, which keeps its name.
abbrev pub node_step : {P T U I G M N K : Type 0} → (M → P → U → Result T AllocError → M → Type 0) → (N → M) → (N → K)
    → N → P → Link (Node P U I G) → Result (Node P T I G) AllocError → N → Type 0
node_step step wrapped name m p link answer n =
    (name n ≡ name m)
    × MatchResult answer (λ new. ClonesNode step (wrapped m) p link.item new (wrapped n)) (λ refusal. step (wrapped m) p link.item.t (Err refusal) (wrapped n))

-- the step of what makes the items
module _ {P T U I G M N K : Type 0} (numbers : P → ℕ × ℕ) (step : M → P → U → Result T AllocError → M → Type 0) (wrapped : N → M) (name : N → K) where
  abbrev outer : N → P → Link (Node P U I G) → Result (Node P T I G) AllocError → N → Type 0
  outer = node_step step wrapped name

  module _ (s t : N) (source : Chain (Node P U I G)) (old new : Chain (Node P T I G)) where
    pub name-cloned : IsClonedList numbers (Grants numbers outer) s source old new t → name t ≡ name s
    name-cloned h = clones-leave numbers outer name (λ m p u r n made. made.0) (links_rising source) s t h.items h.calls

    pub name-stopped : IsRefusedList numbers outer s source old new t → name t ≡ name s
    name-stopped h = stops-leave numbers outer name (λ m p u r n made. made.0) (links_rising source) s t h.stops

    stops-bare : StopsAtRefusal {T = Node P T I G} numbers outer s (links_rising source) t → StopsAtRefusal numbers (AtItem step) (wrapped s) (links_rising (bare source)) (wrapped t)
    stops-bare h =
        rw (links_among-bare source.entries 1 source.capacity)
        (stops-retold numbers outer (AtItem step) wrapped bare_link (λ n. n.t) (λ s p l x t made. made.1.called) (λ s p l e t called. called.1) s (links_rising source) t h)

    list-bare : IsClonedList numbers (Grants numbers outer) s source old new t
        → IsClonedList numbers (Grants numbers (AtItem step)) (wrapped s) (bare source) (bare old) (bare new) (wrapped t)
    list-bare h = record {
      items = map (λ n. n.t) h.items;
      calls = rw (links_among-bare source.entries 1 source.capacity) (clones-retold numbers (Grants numbers outer) (Grants numbers (AtItem step)) wrapped bare_link (λ n. n.t)
          (λ s p l x t made. made.1.called) (links_rising source) s t [] h.items h.calls);
      entries = record {
        order = pointers-bare new.entries ∙ (h.entries.order ∙ sym (pointers-bare source.entries));
        made = λ i there. rw (entry_at-bare new.entries i, lesser-bare source.entries i, slice_get-map (λ (n : Node P T I G). n.t) h.items (lesser source.entries i))
            (twice (entry_at new.entries i) ∙ ap (option_map (λ (n : Node P T I G). n.t)) (h.entries.made i (rw (times-bare source.entries i) at there)));
      };
      after = ap bare h.after ∙ bare-taken_over source old new.entries;
    }
      where
        twice : (o : Option (ℕ × Node P T I G)) → option_map (λ e. e.1) (option_map entry_in o) ≡ option_map (λ n. n.t) (option_map {U = Node P T I G} (λ e. e.1) o)
        twice None = refl
        twice (Some e) = refl

    module _ (most : ℕ) (greatest : Option ℕ) (sound : IsSound most greatest source) (root : Option ℕ) (laid : IsLaidOut source root (shape_in source root))
        (h : IsClonedList numbers (Grants numbers outer) s source old new t) where
      links : (j : ℕ) → slots_of new j ≡ slots_of source j
      links = clone-kept numbers (Grants numbers outer) links_in links_in (λ s p l x t made. made.1.links) most greatest s source sound old new t h

      order : indexes new.entries ≡ indexes source.entries
      order = indexes-pointers new.entries ∙ (ap (map (λ (p : ℕ × ℕ). p.0)) h.entries.order ∙ sym (indexes-pointers source.entries))

      pub laid-cloned : IsLaidOut new root (shape_in new root)
      laid-cloned = IsLaidOut-linked source new root links order laid

      tree-cloned : (before : Option ℕ) → IsClone numbers step (wrapped s) (tree_of source root) (tree_of old before) (tree_of new root) (wrapped t)
      tree-cloned before = record { list = list-bare h; shape = shape_in-linked source new root links order laid }

    module _ (root before : Option ℕ) (x : Tree U) (y : Tree T) (is_x : tree_of source root ≡ x) (is_y : tree_of old before ≡ y) where
      pub refused-tree : IsRefusedList numbers outer s source old new t → IsRefusedClone numbers step (wrapped s) x y (tree_of new None) (wrapped t)
      refused-tree h = record {
        list = rw (← is_x, ← is_y) (record { stops = stops-bare h.stops; after = ap bare h.after ∙ bare-taken_over source old [] });
        shape = rw h.after refl;
      }

      module _ {E : Type 0} (most : ℕ) (greatest : Option ℕ) (sound : IsSound most greatest source) (laid : IsLaidOut source root (shape_in source root)) where
        pub clone-told : (r : Result (Unit {0}) E) → OnOk r (IsClonedList numbers (Grants numbers outer) s source old new t)
            → OnOk r (IsClone numbers step (wrapped s) x y (tree_of new root) (wrapped t))
        clone-told (Ok done) h = rw (← is_x, ← is_y) (tree-cloned most greatest sound root laid h before)
        clone-told (Err e) h = tt

-- an unchanged chain without entries is the same tree without a root
module _ {P T I G : Type 0} (old new : Chain (Node P T I G)) (root : Option ℕ) (laid : IsLaidOut old root (shape_in old root)) (kept : new ≡ old) where
  pub kept-tree : (length new.entries == 0) ≡ true → tree_of new None ≡ tree_of old root
  kept-tree empty =
      let gone : length new.entries ≡ 0 = elim (eqb_tells (length new.entries) 0) [ inl h ↦ h.1 | inr h ↦ absurd (false≢true (sym h.0 ∙ empty)) ] in
      let none = rw kept at gone in
      rw (kept, no-root old root laid none) refl

-- A clone in states of one kind is a clone in states of another.
module _ {P T U M F : Type 0} (numbers : P → ℕ × ℕ) (below : M → P → U → Result T AllocError → M → Type 0) (above : F → P → U → Result T AllocError → F → Type 0) (state : M → F)
    (like : (m : M) (p : P) (u : U) (r : Result T AllocError) (n : M) → below m p u r n → above (state m) p u r (state n)) (m : M) (source : Tree U) (old new : Tree T) (n : M) where
  pub clone-restated : {E : Type 0} (r : Result (Unit {0}) E) → OnOk r (IsClone numbers below m source old new n) → OnOk r ((last : F) × IsClone numbers above (state m) source old new last)
  clone-restated {E} (Ok x) h =
      let told = list-restated {E = E} numbers (Grants numbers (AtItem below)) (Grants numbers (AtItem above)) state (λ m p l x n. like m p l.item (Ok x) n) (Ok x) m source.list old.list new.list n h.list in
      (told.0, record { list = told.1; shape = h.shape })
  clone-restated (Err e) h = tt

  pub refusal-restated : IsRefusedClone numbers below m source old new n → (last : F) × IsRefusedClone numbers above (state m) source old new last
  refusal-restated h =
      let told = refused-list-restated numbers (AtItem below) (AtItem above) state (λ m p l. like m p l.item) m source.list old.list new.list n h.list in
      (told.0, record { list = told.1; shape = h.shape })
