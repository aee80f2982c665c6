-- What the nodes in a chain store: their links as numbers, and the list without them.
use Rattle.std.specs.{Prelude.◌≡◌, Prelude.ℕ, Prelude.List, Prelude.map, Option.option_map}
use Rattle.chain_base.specs.Chain.{Entry, Chain, entry_at}
use Rattle.ord_tree.specs.{declared.node.SimpleOrdArenaNode.SimpleOrdArenaNode as Node, declared.tree_links.TreeLinks.TreeLinks}
use Rattle.ord_tree.specs.Slots.{Slots}

-- the indexes of the entries, in order
abbrev pub indexes : {T : Type 0} → List (Entry T) → List ℕ
indexes es = map (λ e. e.index) es

module _ {P T I G : Type 0} where
  -- an entry with its item alone, without the node
  abbrev pub bare_entry : Entry (Node P T I G) → Entry T
  bare_entry e = record { index = e.index; generation = e.generation; item = e.item.t }

  -- a generation with a node's item, without the node
  abbrev pub entry_in : ℕ × Node P T I G → ℕ × T
  entry_in e = (e.0, e.1.t)

  -- the chain with its items alone
  abbrev pub bare : Chain (Node P T I G) → Chain T
  bare c = record { entries = map bare_entry c.entries; capacity = c.capacity; vacant = c.vacant; generation = c.generation; maximum = c.maximum }

  -- the links of a node, as numbers
  abbrev pub links_in : Node P T I G → TreeLinks ℕ
  links_in n = record { back = n.p_back; lesser = n.p_tree0; greater = n.p_tree1; rank = n.rank }

  -- From old to new, the links become what `write` makes of them. The item stays.
  pub record Relinks (write : TreeLinks ℕ → TreeLinks ℕ) (old new : Node P T I G) : Type 0 where
    pub links : links_in new ≡ write (links_in old)
    pub item : new.t ≡ old.t

  -- the links at each index of a chain
  abbrev pub slots_of : Chain (Node P T I G) → Slots
  slots_of c = λ i. option_map (λ e. links_in e.1) (entry_at c.entries i)
