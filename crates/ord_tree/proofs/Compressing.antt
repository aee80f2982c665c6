-- A chain of nodes whose entries have all been moved, as the list without the nodes sees it.
use Rattle.std.proofs.Common.{Result, Ok, Err, OnErr, arith, ◌≡◌, ℕ, zero, suc, ◌+◌, Option, List, [], ◌∷◌, map, length, refl, sym, ◌∙◌, ap, max, slice_index_or, nat_lt, if◌then◌else◌}
use Rattle.std.proofs.{lemmas.Grind.common_steps, lemmas.List.length-map}
use Rattle.chain_base.specs.Compression.{lesser, rising_among, entries_rising, refilled, moved, compressed, at_compressed_index, relocated, numbered, canonical, replaced, IsCompression, Transferring, IsTransfer}
use Rattle.chain_base.specs.{Chain.Entry, Chain.Chain, InvalidationOption.InvalidationOption}
use Rattle.chain_base.proofs.{CallerLemmas.steps-retold, ArenaLemmas.calls-retold}
use Rattle.ord_tree.specs.{declared.node.SimpleOrdArenaNode.SimpleOrdArenaNode as Node, Node.bare_entry, Node.bare}
use Rattle.ord_tree.specs.MapNode.{MapsTaken}
use Rattle.ord_tree.proofs.Trees.{entry_at-bare, vacant_among-bare}

-- what always holds also holds on `Err`
pub refused_always : {X Y A : Type 0} (r : Result X Y) → A → OnErr r A
refused_always (Ok x) a = tt
refused_always (Err y) a = a

module _ {P T I G : Type 0} where
  -- the items of some nodes
  abbrev pub items_in : List (Node P T I G) → List T
  items_in nodes = map (λ n. n.t) nodes

  -- the index, generation and item of an entry, without its node
  abbrev pub shown_in : ℕ × ℕ × Node P T I G → ℕ × ℕ × T
  shown_in e = (e.0, e.1, e.2.t)

  -- a chain with other entries
  pub bare-refilled : (c : Chain (Node P T I G)) (g : ℕ) (es : List (Entry (Node P T I G))) → bare (refilled c g es) ≡ refilled (bare c) g (map bare_entry es)
  bare-refilled c g es =
      ap (λ (vacant : List ℕ). record { entries = map bare_entry es; capacity = c.capacity; vacant = vacant; generation = g; maximum = c.maximum }) (sym (vacant_among-bare es 1 c.capacity))

  -- entries in the order of the list
  items-bare : (es : List (Entry (Node P T I G))) → items_in (map (λ e. e.item) es) ≡ map (λ (e : Entry T). e.item) (map bare_entry es)
  items-bare [] = refl
  items-bare (e ∷ es) = ap (λ items. e.item.t ∷ items) (items-bare es)

  numbered-bare : (g from : ℕ) (nodes : List (Node P T I G)) → map bare_entry (numbered g from nodes) ≡ numbered g from (items_in nodes)
  numbered-bare g from [] = refl
  numbered-bare g from (n ∷ nodes) = ap (λ es. record { index = from; generation = g; item = n.t } ∷ es) (numbered-bare g (from + 1) nodes)

  pub bare-canonical : (c : Chain (Node P T I G)) (g : ℕ) → bare (canonical c g) ≡ canonical (bare c) g
  bare-canonical c g =
      bare-refilled c g (numbered g 1 (map (λ e. e.item) c.entries))
      ∙ ap (λ es. refilled (bare c) g es) (numbered-bare g 1 (map (λ e. e.item) c.entries) ∙ ap (numbered g 1) (items-bare c.entries))

  pub bare-replaced : (c : Chain (Node P T I G)) (g : ℕ) (nodes : List (Node P T I G)) → bare (replaced c g nodes) ≡ replaced (bare c) g (items_in nodes)
  bare-replaced c g nodes =
      bare-refilled (record c { capacity = max c.capacity (length nodes) }) g (numbered g 1 nodes)
      ∙ ap (λ n. refilled (record (bare c) { capacity = max c.capacity n }) g (map bare_entry (numbered g 1 nodes))) (sym (length-map nodes (λ n. n.t)))
      ∙ ap (λ es. refilled (record (bare c) { capacity = max c.capacity (length (items_in nodes)) }) g es) (numbered-bare g 1 nodes)

  -- entries by rising index
  pub lesser-bare : (es : List (Entry (Node P T I G))) (i : ℕ) → lesser (map bare_entry es) i ≡ lesser es i
  lesser-bare [] i = refl
  lesser-bare (e ∷ es) i = ap (λ n. (if nat_lt e.index i then 1 else 0) + n) (lesser-bare es i)

  item-at : (nodes : List (Node P T I G)) (k : ℕ) (n : Node P T I G) → slice_index_or (items_in nodes) k n.t ≡ (slice_index_or nodes k n).t
  item-at [] k n = refl
  item-at (m ∷ nodes) zero n = refl
  item-at (m ∷ nodes) (suc k) n = item-at nodes k n

  module _ (all : List (Entry (Node P T I G))) (g : ℕ) where
    at_compressed_index-bare : (es : List (Entry (Node P T I G))) → map bare_entry (map (at_compressed_index all g) es) ≡ map (at_compressed_index (map bare_entry all) g) (map bare_entry es)
    at_compressed_index-bare [] = refl
    at_compressed_index-bare (e ∷ es) = rw (lesser-bare all e.index) (ap (λ rest. bare_entry (at_compressed_index all g e) ∷ rest) (at_compressed_index-bare es))

    moved-bare : (nodes : List (Node P T I G)) (es : List (Entry (Node P T I G)))
        → map bare_entry (map (moved all g nodes) es) ≡ map (moved (map bare_entry all) g (items_in nodes)) (map bare_entry es)
    moved-bare nodes [] = refl
    moved-bare nodes (e ∷ es) = grind (arith, common_steps, lesser-bare all e.index, item-at nodes (lesser all e.index) e.item, moved-bare nodes es)

  pub bare-relocated : (c : Chain (Node P T I G)) (g : ℕ) → bare (relocated c g) ≡ relocated (bare c) g
  bare-relocated c g =
      bare-refilled c g (map (at_compressed_index c.entries g) c.entries) ∙ ap (λ es. refilled (bare c) g es) (at_compressed_index-bare c.entries g c.entries)

  bare-compressed : (c : Chain (Node P T I G)) (g : ℕ) (nodes : List (Node P T I G)) → bare (compressed c g nodes) ≡ compressed (bare c) g (items_in nodes)
  bare-compressed c g nodes =
      bare-refilled c g (map (moved c.entries g nodes) c.entries) ∙ ap (λ es. refilled (bare c) g es) (moved-bare c.entries g nodes c.entries)

  rising-bare : (es : List (Entry (Node P T I G))) (from count : ℕ) → rising_among (map bare_entry es) from count ≡ map shown_in (rising_among es from count)
  rising-bare es from zero = refl
  rising-bare es from (suc count) = grind (arith, common_steps, entry_at-bare es from, rising-bare es (from + 1) count)

  -- the closure called on nodes calls f on their items
  module _ {S F : Type 0} (numbers : P → ℕ × ℕ) (outer : S → P → Node P T I G → P → Node P T I G → S → Type 0) (step : F → P → T → P → T → F → Type 0) (inner : S → F)
      (calls : (s : S) (p : P) (n : Node P T I G) (q : P) (m : Node P T I G) (t : S) → outer s p n q m t → step (inner s) p n.t q m.t (inner t)) where
    pub IsCompression-bare : (g : ℕ) (s : S) (old new : Chain (Node P T I G)) → IsCompression numbers outer g s old new → IsCompression numbers step g (inner s) (bare old) (bare new)
    IsCompression-bare g s old new h = record {
      items = items_in h.items;
      last = inner h.last;
      calls = rw (rising-bare old.entries 1 old.capacity) (calls-retold numbers outer step g inner (λ n. n.t) calls (entries_rising old) s h.last [] h.items h.calls);
      after = ap bare h.after ∙ bare-compressed old g h.items;
    }

-- the closure called on the source's nodes calls f on their items
module _ {P T I G Q U J H S F : Type 0} (numbers_from : Q → ℕ × ℕ) (numbers_to : P → ℕ × ℕ) (greatest : Option ℕ)
    (outer : S → Q → InvalidationOption (Node Q U J H) → P → Node P T I G → S → Type 0) (step : F → Q → InvalidationOption U → P → T → F → Type 0) (inner : S → F)
    (calls : (s : S) (q : Q) (taken : InvalidationOption (Node Q U J H)) (p : P) (n : Node P T I G) (t : S) → outer s q taken p n t
    → MapsTaken step (inner s) q taken p n (inner t)) (g : ℕ) (s : S) (source source_after : Chain (Node Q U J H)) (old new : Chain (Node P T I G))
    (h : IsTransfer numbers_from numbers_to greatest outer g s source source_after old new) where
  pub IsTransfer-bare : (after : Chain T) → after ≡ bare new → IsTransfer numbers_from numbers_to greatest step g (inner s) (bare source) (bare source_after) (bare old) after
  IsTransfer-bare after is =
      let start : Transferring S (Node P T I G) = record { closure = s; items = []; generation = source.generation } in
      record {
        last = record { closure = inner h.last.closure; items = items_in h.last.items; generation = h.last.generation };
        calls = steps-retold numbers_from numbers_to greatest outer step inner (λ n. n.t) (λ n. n.t)
            (λ s q taken p n t called. let c = calls s q taken p n t called in (c.plain, c.item, c.overflow, c.called)) g source.entries start h.last h.calls;
        left = ap bare h.left ∙ bare-refilled source h.last.generation [];
        after = is ∙ ap bare h.after ∙ bare-replaced old g h.last.items;
      }
