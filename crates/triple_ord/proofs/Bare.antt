-- A chain of nodes and the list of its items: a look-up in one reads what the other has.
use Rattle.std.specs.Prelude.{IsNone, MatchOption}
use Rattle.ord_tree.specs.{Chain.item_of, Tree.ShowsNode}
use Rattle.ord_tree.specs.{Node.bare_entry, Node.links_in, Node.slots_of, Node.indexes, Parents.HasParentUnder, Slots.Slots, Slots.Holds, Slots.Among, declared.tree_links.TreeLinks.TreeLinks}
use Rattle.triple_ord.proofs.Words.{◌≡◌, ℕ, ◌↔◌, length, List, [], ◌∷◌, ◌++◌, Option, Some, None, IsSome, IfSome, is_some, refl, sym, ap, subst, ◌∙◌, inl, inr, ◌⊎◌, map, length-map, nil_from_length, option_map, item_if, Link}
use Rattle.triple_ord.proofs.Words.{IsPart, IsNodeIn, IsNodeAt, entry_at-link, entry_at-bare, arith, common_steps, IsLastIndex, SimpleOrdArenaNode, Shape, missing, node, root_of, walk, Tree, IsChainOf}
use Rattle.triple_ord.proofs.Words.{Entry, Chain, entry_at, link_between, link_at, last_pointer, times, generation_at, IsFirstIndex, times-bare, indexes-bare}

pub is_some-map : {A B : Type 0} (f : A → B) (o : Option A) → is_some (option_map f o) ≡ is_some o
is_some-map f o = grind (arith, common_steps)

pub option_map-twice : {A B C : Type 0} (f : A → B) (g : B → C) (o : Option A) → option_map (λ x. g (f x)) o ≡ option_map g (option_map f o)
option_map-twice f g o = grind (arith, common_steps)

module _ {P T I G : Type 0} where
  item_if-bare : (g : ℕ) (o : Option (ℕ × SimpleOrdArenaNode P T I G)) → item_if g (option_map {U = ℕ × T} (λ e. (e.0, e.1.t)) o) ≡ option_map (λ n. n.t) (item_if g o)
  item_if-bare g o = grind (arith, common_steps)

  last_pointer-bare : (es : List (Entry (SimpleOrdArenaNode P T I G))) → last_pointer (map bare_entry es) ≡ last_pointer es
  last_pointer-bare (e ∷ f ∷ es) = last_pointer-bare (f ∷ es)
  last_pointer-bare es = grind (arith, common_steps)

  generation_at-link : (es : List (Entry (SimpleOrdArenaNode P T I G))) (i : ℕ) → generation_at es i ≡ option_map (λ e. e.0) (link_at es i)
  generation_at-link es i = ap (option_map (λ (e : ℕ × SimpleOrdArenaNode P T I G). e.0)) (entry_at-link None None es i)
      ∙ sym (option_map-twice (λ (e : ℕ × Link (SimpleOrdArenaNode P T I G)). (e.0, e.1.item)) (λ (e : ℕ × SimpleOrdArenaNode P T I G). e.0) (link_at es i))

  -- a link to a node, seen as a link to its item
  abbrev pub bare_link : ℕ × Link (SimpleOrdArenaNode P T I G) → ℕ × Link T
  bare_link e = (e.0, record { item = e.1.item.t; prev = e.1.prev; next = e.1.next })

  link_between-bare : (low high : Option ℕ) (es : List (Entry (SimpleOrdArenaNode P T I G))) (i : ℕ)
      → link_between low high (map bare_entry es) i ≡ option_map bare_link (link_between low high es i)
  link_between-bare low high [] i = refl
  link_between-bare low high (e ∷ es) i = grind (arith, common_steps, link_between-bare (Some e.index) high es i)

  -- what the chain of nodes under a tree says about the tree's list
  module _ (t : Tree T) (c : Chain (SimpleOrdArenaNode P T I G)) (under : IsChainOf t c) where
    pub entry_at-under : (i : ℕ) → entry_at t.list.entries i ≡ option_map (λ e. (e.0, e.1.t)) (entry_at c.entries i)
    entry_at-under i = ap (λ (l : Chain T). entry_at l.entries i) (sym under.list) ∙ entry_at-bare c.entries i

    pub item_of-under : (p : ℕ × ℕ) → item_of t.list.entries p ≡ option_map (λ n. n.t) (item_of c.entries p)
    item_of-under p = ap (item_if p.1) (entry_at-under p.0) ∙ item_if-bare p.1 (entry_at c.entries p.0)

    pub contains-under : (p : ℕ × ℕ) → is_some (item_of c.entries p) ≡ is_some (item_of t.list.entries p)
    contains-under p = sym (is_some-map _ (item_of c.entries p)) ∙ ap is_some (sym (item_of-under p))

    times-under : (i : ℕ) → times i c.entries ≡ times i t.list.entries
    times-under i = sym (times-bare c.entries i) ∙ ap (λ (l : Chain T). times i l.entries) under.list

    generation_at-under : (i : ℕ) → generation_at c.entries i ≡ generation_at t.list.entries i
    generation_at-under i = sym (ap (option_map (λ (e : ℕ × T). e.0)) (entry_at-under i)
        ∙ sym (option_map-twice (λ (e : ℕ × SimpleOrdArenaNode P T I G). (e.0, e.1.t)) (λ (e : ℕ × T). e.0) (entry_at c.entries i)))

    length-under : length c.entries ≡ length t.list.entries
    length-under = sym (length-map c.entries bare_entry) ∙ ap (λ (l : Chain T). length l.entries) under.list

    pub last_pointer_under : last_pointer c.entries ≡ last_pointer t.list.entries
    last_pointer_under = sym (last_pointer-bare c.entries) ∙ ap (λ (l : Chain T). last_pointer l.entries) under.list

    pub none_under : {X : Type 0} (o : Option X) → IsNone o ↔ (c.entries ≡ []) → IsNone o ↔ (length t.list.entries ≡ 0)
    none_under o tells = (λ none. sym length-under ∙ ap length (tells.0 none), λ none. tells.1 (nil_from_length c.entries (length-under ∙ none)))

    pub capacity-under : c.capacity ≡ t.list.capacity
    capacity-under = ap (λ (l : Chain T). l.capacity) under.list

    pub link_generation-under : (i : ℕ) → option_map (λ e. e.0) (link_at c.entries i) ≡ option_map (λ e. e.0) (entry_at t.list.entries i)
    link_generation-under i = sym (generation_at-link c.entries i) ∙ generation_at-under i

    pub first_index-under : (i g : ℕ) → IsFirstIndex c.entries i g → IsFirstIndex t.list.entries i g
    first_index-under i g h = record { entry = sym (generation_at-under i) ∙ h.entry; least = λ k below. sym (times-under k) ∙ h.least k below }

    pub last_index-under : (i g : ℕ) → IsLastIndex c.entries i g → IsLastIndex t.list.entries i g
    last_index-under i g h = record { entry = sym (generation_at-under i) ∙ h.entry; greatest = λ k above. sym (times-under k) ∙ h.greatest k above }

    pub link_at-under : (i : ℕ) → option_map bare_link (link_at c.entries i) ≡ link_at t.list.entries i
    link_at-under i = sym (link_between-bare None None c.entries i) ∙ ap (λ (l : Chain T). link_at l.entries i) under.list

Among-append : (j : ℕ) (xs ys : List ℕ) → Among j (xs ++ ys) → Among j xs ⊎ Among j ys
Among-append j [] ys there = inr there
Among-append j (x ∷ xs) ys there = grind (arith, common_steps, Among-append j xs ys)

-- an index of a walk is the index of a part's root
part_at : (s : Shape) (i : ℕ) → Among i (walk s) → (l : Shape) × (k : ℕ) × (r : Shape) × IsPart (node l i k r) s
part_at missing i there = absurd there
part_at (node l j k r) i there = elim (Among-append i (walk l) (j ∷ walk r) there) [
  | inl low ↦ let p = part_at l i low in (p.0, p.1, p.2, inr (inl p.3))
  | inr high ↦ elim high [
    | inl here ↦ (l, k, r, inl (rw here refl))
    | inr rest ↦ let p = part_at r i rest in (p.0, p.1, p.2, inr (inr p.3))
  ]
]

-- a link leads to the root of the shape there
held-root : (at : Slots) (back link : Option ℕ) (s : Shape) → Holds at back link s → link ≡ root_of s
held-root at back link missing h = h
held-root at back link (node l i k r) h = h.1

-- the links that nodes store at i, in the tree that they form
abbrev HoldsLinks : (back : Option ℕ) (s l r : Shape) (i k : ℕ) (n : TreeLinks ℕ) → Type 0
HoldsLinks back s l r i k n = (n.rank ≡ k) × HasParentUnder back s i n.back × (n.lesser ≡ root_of l) × (n.greater ≡ root_of r)

held-part : (at : Slots) (back link : Option ℕ) (s l r : Shape) (i k : ℕ) (n : TreeLinks ℕ) → Holds at back link s
    → IsPart (node l i k r) s → at i ≡ Some n → HoldsLinks back s l r i k n
held-part at back link missing l r i k n h part is = absurd (cc)
held-part at back link (node l' i' k' r') l r i k n h part is = elim part [
  | inl same ↦
      let here : i ≡ i' = cc in
      let links : n ≡ h.0 = let both : Some n ≡ Some h.0 = sym is ∙ ap at here ∙ h.2 in cc in
      let sides : (k' ≡ k) × (l' ≡ l) × (r' ≡ r) = (cc, cc, cc) in
      rw links (
        h.4 ∙ sides.0,
        inl (here, h.3),
        held-root at (Some i') h.0.lesser l' h.5 ∙ ap root_of sides.1,
        held-root at (Some i') h.0.greater r' h.6 ∙ ap root_of sides.2,
      )
  | inr rest ↦ elim rest [
    | inl p ↦ let low = held-part at (Some i') h.0.lesser l' l r i k n h.5 p is in (low.0, inr (inl low.1), low.2, low.3)
    | inr p ↦ let high = held-part at (Some i') h.0.greater r' l r i k n h.6 p is in (high.0, inr (inr high.1), high.2, high.3)
  ]
]

among-entries : {T : Type 0} (es : List (Entry T)) (i : ℕ) (e : ℕ × T) → entry_at es i ≡ Some e → Among i (indexes es)
among-entries [] i e found = absurd (cc)
among-entries (f ∷ es) i e found = grind (arith, common_steps, among-entries es i e)

-- a pointer that finds an item has an entry at its index
pub found-occupied : {T : Type 0} (g : ℕ) (o : Option (ℕ × T)) → IsSome (item_if g o) → IsSome o
found-occupied g o some = grind (arith, common_steps)

module _ {P T I G : Type 0} (t : Tree T) (c : Chain (SimpleOrdArenaNode P T I G)) (under : IsChainOf t c) where
  -- the links of a node of the chain under a tree, by its place in the tree
  held_at : (i : ℕ) (e : ℕ × SimpleOrdArenaNode P T I G) → entry_at c.entries i ≡ Some e → (l r : Shape) (k : ℕ)
      → IsPart (node l i k r) t.shape → HoldsLinks None t.shape l r i k (links_in e.1)
  held_at i e is l r k part = held-part (slots_of c) None (root_of t.shape) t.shape l r i k (links_in e.1) under.held part (rw is refl)

  -- it shows the entry and the roots of its sides
  pub shown-under : (i : ℕ) (e : ℕ × SimpleOrdArenaNode P T I G) → entry_at c.entries i ≡ Some e
      → IsNodeAt t i e.0 e.1.t e.1.p_tree0 e.1.p_tree1
  shown-under i e is = record {
    entry = entry_at-under t c under i ∙ rw is refl;
    lesser_root = λ l r k part. (held_at i e is l r k part).2;
    greater_root = λ l r k part. (held_at i e is l r k part).3;
  }

-- what a look-up in a tree shows at i: the entry with the roots of its sides, its link, and its place in the tree
module _ {P T I G : Type 0} {t : Tree T} {i g : ℕ} {link : Link (SimpleOrdArenaNode P T I G)} (shows : ShowsNode t i g link) where
  entry-there : entry_at shows.chain.entries i ≡ Some (g, link.item)
  entry-there = entry_at-link None None shows.chain.entries i ∙ ap (option_map (λ (e : ℕ × Link (SimpleOrdArenaNode P T I G)). (e.0, e.1.item))) shows.shown

  pub shows-entry : IsNodeAt t i g link.item.t link.item.p_tree0 link.item.p_tree1
  shows-entry = shown-under t shows.chain shows.below i (g, link.item) entry-there

  pub shows-link : link_at t.list.entries i ≡ Some (bare_link (g, link))
  shows-link = sym (link_at-under t shows.chain shows.below i) ∙ ap (option_map bare_link) shows.shown

  shows-node : IsNodeIn t.shape i link.item.p_back link.item.p_tree0 link.item.p_tree1 link.item.rank
  shows-node =
      let c = shows.chain in
      let listed : indexes c.entries ≡ walk t.shape = sym (indexes-bare c.entries) ∙ ap (λ (l : Chain T). indexes l.entries) shows.below.list ∙ sym shows.sound.listed in
      let p = part_at t.shape i (subst (λ (js : List ℕ). Among i js) listed (among-entries c.entries i (g, link.item) entry-there)) in
      let held = held_at t c shows.below i (g, link.item) entry-there p.0 p.2 p.1 p.3 in
      record { lesser_side = p.0; greater_side = p.2; part = subst (λ (k : ℕ). IsPart (node p.0 i k p.2) t.shape) (sym held.0) p.3; has_parent = held.1; lesser_root = held.2; greater_root = held.3 }

-- an index without an entry has no link
unlinked : {T : Type 0} (es : List (Entry T)) (i : ℕ) → entry_at es i ≡ None → link_at es i ≡ None
unlinked es i none = grind (arith, common_steps, entry_at-link None None es i)

-- what a look-up shows if there may be no entry
module _ {P T I G X : Type 0} (t : Tree T) (f : X → ℕ × Link (SimpleOrdArenaNode P T I G)) where
  pub node-looked_up : (o : Option X) (i : ℕ) → MatchOption o (entry_at t.list.entries i ≡ None) (λ x. ShowsNode t i (f x).0 (f x).1)
      → IfSome o (λ x. IsNodeIn t.shape i (f x).1.item.p_back (f x).1.item.p_tree0 (f x).1.item.p_tree1 (f x).1.item.rank)
  node-looked_up None i shows = tt
  node-looked_up (Some x) i shows = shows-node shows

  pub link-looked_up : (o : Option X) (i : ℕ) → MatchOption o (entry_at t.list.entries i ≡ None) (λ x. ShowsNode t i (f x).0 (f x).1)
      → option_map (λ x. bare_link (f x)) o ≡ link_at t.list.entries i
  link-looked_up None i none = sym (unlinked t.list.entries i none)
  link-looked_up (Some x) i shows = sym (shows-link shows)
