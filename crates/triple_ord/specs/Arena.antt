-- An ordered arena as its callers see it: what pointers find in it, and its entries in order. A pointer is the pair of its index and its
-- generation.
use Rattle.std.specs.{Prelude.◌≡◌, Prelude.◌≢◌, Prelude.ℕ, Prelude.◌+◌, Prelude.List, Prelude.max, Prelude.nat_lt, Prelude.if◌then◌else◌, Prelude.Option, Prelude.None, Prelude.IfSome, Prelude.OnSome, Prelude.IsSomeAnd, Prelude.length, Prelude.map, Prelude.slice_get, declared.cmp.Ordering.Ordering, declared.cmp.Ordering.TheVariants.Equal, Option.option_map}
use Rattle.ord_tree.specs.{PlainArena.doubled_capacity, Chain.Chain, Chain.chain_limit, Chain.with_capacity, Chain.entry_at as entry_among}
use Rattle.ord_tree.specs.{Chain.IsSound, Chain.item_of as item_among, Tree.Tree, Tree.IsShrunk}
use Rattle.triple_ord.specs.Search.{pointer, FindsKey, FindsSimilar}

module _ {T : Type 0} where
  -- the item that the pointer names, if any
  abbrev pub item_of : Tree T → ℕ × ℕ → Option T
  item_of a p = item_among a.list.entries p

  -- the generation and the item of the entry at the index
  abbrev pub entry_at : Tree T → ℕ → Option (ℕ × T)
  entry_at a i = entry_among a.list.entries i

  -- the items in order
  abbrev pub items : Tree T → List T
  items a = map (λ e. e.item) a.list.entries

  -- the pointers of the entries in order
  abbrev pub pointers : Tree T → List (ℕ × ℕ)
  pointers a = map pointer a.list.entries

  -- the number of entries
  abbrev pub count : Tree T → ℕ
  count a = length a.list.entries

  -- the list with room for so many entries in all: if its capacity is less, it grows at least as far as an insertion grows it
  abbrev pub with_room_for : ℕ → Chain T → ℕ → Chain T
  with_room_for most c needed = if nat_lt c.capacity needed then with_capacity c (max needed (doubled_capacity (chain_limit most c) c.capacity)) else c

  -- What a call says that reads an arena: its answer, and what is true of the list of every arena.
  pub record Reads (most : ℕ) (greatest : Option ℕ) (a : Tree T) (Answer : Type 0) : Type 0 where
    pub value : Answer
    pub sound : IsSound most greatest a.list

  -- from old to new, p comes to find `found`, and every other pointer finds what it found before
  pub record Updates (old new : Tree T) (p : ℕ × ℕ) (found : Option T) : Type 0 where
    pub changed : item_of new p ≡ found
    pub others : (q : ℕ × ℕ) → q ≢ p → item_of new q ≡ item_of old q

  -- every pointer finds the same in both
  abbrev pub FindSame : Tree T → Tree T → Type 0
  FindSame old new = (p : ℕ × ℕ) → item_of new p ≡ item_of old p

  -- from old to new, the entry of p gets the pointer q: p no longer finds anything, unless it equals q, and all other pointers find the
  -- same
  pub record Renews (old new : Tree T) (p q : ℕ × ℕ) : Type 0 where
    pub found : item_of new q ≡ item_of old p
    pub ended : q ≢ p → item_of new p ≡ None
    pub others : (r : ℕ × ℕ) → r ≢ p → r ≢ q → item_of new r ≡ item_of old r

  -- all entries have the generation g: a pointer with another generation finds nothing
  abbrev pub IsOfGeneration : Tree T → ℕ → Type 0
  IsOfGeneration a g = (p : ℕ × ℕ) → p.1 ≢ g → item_of a p ≡ None

  -- the pointers with the indexes 1, 2 and so on and generation g find these items in turn; no other pointer finds anything
  pub record IsNumbered (a : Tree T) (g : ℕ) (found : List T) : Type 0 where
    pub inside : (k : ℕ) → item_of a (k + 1, g) ≡ slice_get found k
    pub outside : (k : ℕ) → item_of a (0, k) ≡ None
    pub ended : IsOfGeneration a g

  -- What a call does that changes at most the capacity or its limit: every pointer finds what it found.
  pub record KeepsEntries (old new : Tree T) : Type 0 where
    pub found : FindSame old new
    pub count : count new ≡ count old

  -- What a call does that takes an entry out, if `taken` is one: there is one entry fewer, and the shape shrinks.
  pub record TakesEntry {R : Type 0} (most : ℕ) (greatest : Option ℕ) (taken : Option R) (old new : Tree T) : Type 0 where
    pub sound : IsSound most greatest old.list
    pub count : OnSome taken (count old ≡ count new + 1)
    pub shape : OnSome taken (IsShrunk old.shape new.shape)

  -- no pointer finds anything
  abbrev pub FindsNothing : Tree T → Type 0
  FindsNothing a = (p : ℕ × ℕ) → item_of a p ≡ None

-- the pointer finds an item, and `order` is the order of k to its key
abbrev pub FindsBy : {T K : Type 0} → (T → K) → (K → K → Ordering) → Tree T → K → ℕ × ℕ → Ordering → Type 0
FindsBy key cmp a k p order = IsSomeAnd (item_of a p) (λ item. cmp k (key item) ≡ order)

-- What a search by key returned: a pointer, or nothing. The parameters: the key of an item, the order of keys, the numbers of a pointer, the
-- arena, and the key.
module _ {T K P : Type 0} (key : T → K) (cmp : K → K → Ordering) (numbers : P → ℕ × ℕ) (a : Tree T) (k : K) where
  -- a search for an equal key, with some number of visits
  pub record FindsEqual (result : Option P) : Type 0 where
    pub finds : IfSome result (λ p. FindsBy key cmp a k (numbers p) Equal)
    pub found : (visits : ℕ) × FindsKey key cmp a.list.entries k (option_map numbers result) visits

  -- a search for a similar key, with some number of visits
  pub record FindsNearest (result : Option (P × Ordering)) : Type 0 where
    pub finds : IfSome result (λ x. FindsBy key cmp a k (numbers x.0) x.1)
    pub found : (visits : ℕ) × FindsSimilar key cmp a.list.entries k (option_map (λ x. (numbers x.0, x.1)) result) visits
