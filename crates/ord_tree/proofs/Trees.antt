-- A tree that lies in a chain: its view, and the changes of the chain that keep it.
use Rattle.std.proofs.Common.{◌≡◌, ℕ, zero, suc, ◌+◌, ◌≤◌, Option, Some, None, List, [], ◌∷◌, map, length, arith, refl, sym, ◌∙◌, ap, subst, is_some, option_map, max, Result, Ok, Err, OnOk, OnErr, OnSome, IfNone}
use Rattle.std.proofs.{lemmas.Grind.common_steps, lemmas.List.length-map}
use Rattle.chain_base.specs.Chain.{Entry, Chain, entry_at, times, with_item_among, with_item as chain_with_item, vacant_among, with_capacity, with_room, grown_capacity, greatest_index, IsSound}
use Rattle.std.specs.Option.{ForSome}
use Rattle.chain_base.specs.{Generation.IsLawfulGeneration, PlainArena.times as times_among}
use Rattle.ord_tree.specs.{Layout.shape_in, Layout.tree_of, Layout.IsLaidOut, Layout.with_item_below, Layout.with_node_item}
use Rattle.ord_tree.specs.Node.{bare_entry, bare, entry_in, links_in, slots_of, indexes}
use Rattle.ord_tree.specs.{Shape.Shape, Shape.missing, Shape.node, Shape.size_of, Shape.height, Shape.walk, Tree.IsSoundTree, Tree.with_item}
use Rattle.ord_tree.specs.{declared.node.SimpleOrdArenaNode.SimpleOrdArenaNode as Node, Slots.Slots, Slots.Holds}
use Rattle.ord_tree.proofs.{Views.shape_under-held, Halves.size_of-walk, Frames.Holds-frame}

-- what follows from either outcome of a result or of an option
pub either_result : {X Y A B C : Type 0} (r : Result X Y) → OnOk r A → OnErr r B → (A → C) → (B → C) → C
either_result (Ok x) ok err f g = f ok
either_result (Err y) ok err f g = g err

pub either_option : {X A B C : Type 0} (o : Option X) → OnSome o A → IfNone o B → (A → C) → (B → C) → C
either_option None some none f g = g none
either_option (Some x) some none f g = f some

-- the height of a shape is at most its size
pub height-le-size : (s : Shape) → height s ≤ size_of s
height-le-size missing = omega arith
height-le-size (node l i k r) = omega (arith, height-le-size l, height-le-size r)

module _ {P T I G : Type 0} where
  -- the bare list
  pub entry_at-bare : (es : List (Entry (Node P T I G))) (i : ℕ) → entry_at (map bare_entry es) i ≡ option_map entry_in (entry_at es i)
  entry_at-bare [] i = refl
  entry_at-bare (e ∷ es) i = grind (arith, common_steps, entry_at-bare es i)

  pub is_some-bare : (es : List (Entry (Node P T I G))) (i : ℕ) → is_some (entry_at (map bare_entry es) i) ≡ is_some (entry_at es i)
  is_some-bare [] i = refl
  is_some-bare (e ∷ es) i = grind (arith, common_steps, is_some-bare es i)

  pub times-bare : (es : List (Entry (Node P T I G))) (i : ℕ) → times i (map bare_entry es) ≡ times i es
  times-bare [] i = refl
  times-bare (e ∷ es) i = omega (arith, times-bare es i)

  pub indexes-bare : (es : List (Entry (Node P T I G))) → indexes (map bare_entry es) ≡ indexes es
  indexes-bare [] = refl
  indexes-bare (e ∷ es) = ap (λ ys. e.index ∷ ys) (indexes-bare es)

  pub vacant_among-bare : (es : List (Entry (Node P T I G))) (from count : ℕ) → vacant_among (map bare_entry es) from count ≡ vacant_among es from count
  vacant_among-bare es from zero = refl
  vacant_among-bare es from (suc count) = rw (times-bare es from, vacant_among-bare es (from + 1) count) refl

  pub greatest_index-bare : (es : List (Entry (Node P T I G))) → greatest_index (map bare_entry es) ≡ greatest_index es
  greatest_index-bare [] = refl
  greatest_index-bare (e ∷ es) = ap (max e.index) (greatest_index-bare es)

  pub bare-with_capacity : (c : Chain (Node P T I G)) (n : ℕ) → bare (with_capacity c n) ≡ with_capacity (bare c) n
  bare-with_capacity c n = ap (λ vs. record { entries = map bare_entry c.entries; capacity = n; vacant = vs; generation = c.generation; maximum = c.maximum }) (sym (vacant_among-bare c.entries 1 n))

  -- the links at an index of a list
  abbrev pub links_at : List (Entry (Node P T I G)) → Slots
  links_at es j = option_map (λ e. links_in e.1) (entry_at es j)

  -- another item in a node
  pub entry_at-below : (es : List (Entry (Node P T I G))) (i j : ℕ) (x : T) → links_at (with_item_below es i x) j ≡ links_at es j
  entry_at-below [] i j x = refl
  entry_at-below (e ∷ es) i j x = grind (arith, common_steps, entry_at-below es i j x)

  pub bare-below : (es : List (Entry (Node P T I G))) (i : ℕ) (x : T) → map bare_entry (with_item_below es i x) ≡ with_item_among (map bare_entry es) i x
  bare-below [] i x = refl
  bare-below (e ∷ es) i x = grind (arith, common_steps, bare-below es i x)

  pub below-written : (es : List (Entry (Node P T I G))) (i : ℕ) (e : ℕ × Node P T I G) (x : T)
      → entry_at es i ≡ Some e → with_item_among es i (record (e.1) { t = x }) ≡ with_item_below es i x
  below-written [] i e x h = refl
  below-written (a ∷ es) i e x h = grind (arith, common_steps, below-written es i e x)

  pub below-written_chain : (c : Chain (Node P T I G)) (i : ℕ) (e : ℕ × Node P T I G) (x : T)
      → entry_at c.entries i ≡ Some e → chain_with_item c i (record (e.1) { t = x }) ≡ with_node_item c i x
  below-written_chain c i e x h = ap (λ (es : List (Entry (Node P T I G))). record c { entries = es }) (below-written c.entries i e x h)

  indexes-below : (es : List (Entry (Node P T I G))) (i : ℕ) (x : T) → indexes (with_item_below es i x) ≡ indexes es
  indexes-below [] i x = refl
  indexes-below (e ∷ es) i x = grind (arith, common_steps, indexes-below es i x)

  -- a shape that the nodes form is the view's shape
  pub shape_in-held : (c : Chain (Node P T I G)) (root : Option ℕ) (s : Shape) → Holds (slots_of c) None root s → walk s ≡ indexes c.entries → shape_in c root ≡ s
  shape_in-held c root s h listed =
      let counted : size_of s ≡ length c.entries = size_of-walk s ∙ ap length listed ∙ length-map c.entries (λ (e : Entry (Node P T I G)). e.index) in
      shape_under-held (length c.entries) (slots_of c) None root s h (omega (arith, height-le-size s, counted))

  pub IsLaidOut-held : (c : Chain (Node P T I G)) (root : Option ℕ) {s : Shape} → IsLaidOut c root s → IsLaidOut c root (shape_in c root)
  IsLaidOut-held c root {s} h = subst (λ (s : Shape). IsLaidOut c root s) (sym (shape_in-held c root s h.held h.listed)) h

  -- the facts about a tree that lies in a chain
  pub IsSoundTree-laid_out : (c : Chain (Node P T I G)) (root : Option ℕ) → IsLaidOut c root (shape_in c root) → IsSoundTree (tree_of c root)
  IsSoundTree-laid_out c root h = record { listed = h.listed ∙ sym (indexes-bare c.entries); ranked = h.ranked }

  -- a new capacity
  module _ (c : Chain (Node P T I G)) (root : Option ℕ) (n : ℕ) where
    pub tree_of-with_capacity : tree_of (with_capacity c (max n (greatest_index c.entries))) root ≡ record (tree_of c root) { list = with_capacity (bare c) (max n (greatest_index (bare c).entries)) }
    tree_of-with_capacity =
        ap (λ (l : Chain T). record { list = l; shape = shape_in c root })
        (bare-with_capacity c (max n (greatest_index c.entries)) ∙ ap (λ (k : ℕ). with_capacity (bare c) (max n k)) (sym (greatest_index-bare c.entries)))

  -- growing to make room
  pub tree_of-with_room : (most : ℕ) (c : Chain (Node P T I G)) (root : Option ℕ)
      → tree_of (with_room most c) root ≡ record (tree_of c root) { list = with_room most (bare c) }
  tree_of-with_room most c root = grind (arith, common_steps, bare-with_capacity c (grown_capacity most c))

  -- the shape depends only on the links and the order of the nodes
  module _ {U : Type 0} (c : Chain (Node P U I G)) (d : Chain (Node P T I G)) (root : Option ℕ) (links : (j : ℕ) → slots_of d j ≡ slots_of c j) (order : indexes d.entries ≡ indexes c.entries)
      (h : IsLaidOut c root (shape_in c root)) where
    held-linked : Holds (slots_of d) None root (shape_in c root)
    held-linked = Holds-frame (slots_of c) (slots_of d) (shape_in c root) None root (λ j _. links j) h.held

    pub shape_in-linked : shape_in d root ≡ shape_in c root
    shape_in-linked = shape_in-held d root (shape_in c root) held-linked (h.listed ∙ sym order)

    pub IsLaidOut-linked : IsLaidOut d root (shape_in d root)
    IsLaidOut-linked = IsLaidOut-held d root (record { held = held-linked; listed = h.listed ∙ sym order; ranked = h.ranked })

  -- so it depends only on the entries
  pub IsLaidOut-entries : (c d : Chain (Node P T I G)) (root : Option ℕ) → d.entries ≡ c.entries → IsLaidOut c root (shape_in c root) → IsLaidOut d root (shape_in d root)
  IsLaidOut-entries c d root e h = IsLaidOut-linked c d root (λ j. ap (λ (es : List (Entry (Node P T I G))). links_at es j) e) (ap indexes e) h

  -- another item
  pub IsLaidOut-below : (c : Chain (Node P T I G)) (root : Option ℕ) (i : ℕ) (x : T) → IsLaidOut c root (shape_in c root)
      → IsLaidOut (with_node_item c i x) root (shape_in (with_node_item c i x) root)
  IsLaidOut-below c root i x h = IsLaidOut-linked c (with_node_item c i x) root (λ j. entry_at-below c.entries i j x) (indexes-below c.entries i x) h

  pub tree_of-below : (c : Chain (Node P T I G)) (root : Option ℕ) (i : ℕ) (x : T) → IsLaidOut c root (shape_in c root)
      → tree_of (with_node_item c i x) root ≡ with_item (tree_of c root) i x
  tree_of-below c root i x h =
      let same = shape_in-linked c (with_node_item c i x) root (λ j. entry_at-below c.entries i j x) (indexes-below c.entries i x) h in
      ap (λ (es : List (Entry T)). record { list = record { entries = es; capacity = c.capacity; vacant = c.vacant; generation = c.generation; maximum = c.maximum }; shape = shape_in (with_node_item c i x) root }) (bare-below c.entries i x)
      ∙ ap (λ (t : Shape). record { list = chain_with_item (bare c) i x; shape = t }) same

  -- the facts that chain arenas promise hold for the bare chain too
  entries_lawful-bare : (Q : ℕ → Type 0) (o : Option (ℕ × Node P T I G)) (b : Option (ℕ × T)) → b ≡ option_map entry_in o → ForSome o (λ e. Q e.0) → ForSome b (λ e. Q e.0)
  entries_lawful-bare Q o b e h = grind (arith, common_steps)

  pub IsSound-bare : (most : ℕ) (greatest : Option ℕ) (c : Chain (Node P T I G)) → IsSound most greatest c → IsSound most greatest (bare c)
  IsSound-bare most greatest c h = record {
    distinct = λ i. rw (times-bare c.entries i) (h.distinct i);
    within = λ i inside. h.within i (rw (times-bare c.entries i) at inside);
    within_limit = h.within_limit;
    generation_lawful = h.generation_lawful;
    entries_lawful = λ i. entries_lawful-bare (λ g. IsLawfulGeneration greatest g) (entry_at c.entries i) (entry_at (map bare_entry c.entries) i) (entry_at-bare c.entries i) (h.entries_lawful i);
    vacant_listed = λ i. h.vacant_listed i ∙ ap (λ vs. times_among i vs) (sym (vacant_among-bare c.entries 1 c.capacity));
    counted = omega (arith, h.counted, length-map c.entries (λ (e : Entry (Node P T I G)). bare_entry e));
  }
