-- The list machine: the possible replies to each command on an ordered arena, and the state that it leaves.
use Rattle.std.specs.Prelude.{◌≡◌, ℕ, ◌+◌, ◌^◌, ◌<◌, ◌≤◌, ◌==◌, ◌↔◌, Bool, true, false, if◌then◌else◌, List, [], ◌∷◌, length, map, take, max, Option, Some, IsSomeAnd, is_some, IfSome, IfNone, MatchOption, Result, Ok, Err}
use Rattle.std.specs.{declared.cmp.Ordering.Ordering, Option.option_map}
use Rattle.triple_ord.specs.InvalidationResult.TheVariants.{Success, GenerationOverflow}
use Rattle.triple_ord.specs.Invalidation.{valid_value, is_overflow, IsRemoval, IsRenewal}
use Rattle.triple_ord.specs.ArenaCompression.{compressed_generation, compression_overflows}
use Rattle.triple_ord.specs.Generation.{overflows_after}
use Rattle.triple_ord.specs.Chain.{Entry, Chain, IsSound, entry_at, item_of, link_at, first_pointer, last_pointer, removed, renewed, cleared, raised, chain_limit, greatest_index, with_capacity}
use Rattle.triple_ord.specs.{ChainCompression.relocated, ChainCompression.canonical, Link.Link}
use Rattle.triple_ord.specs.{Tree.Tree, Tree.IsSoundTree, Tree.IsShrunk, Tree.with_item, Shape.Shape, Shape.missing}
use Rattle.triple_ord.specs.{Numbers.fib, Numbers.HasDigits, Half.IsRebuilt, Ranks.IsTight, Ranks.HasRank}
use Rattle.triple_ord.specs.declared.error.OrdInsertionError.TheVariants.{BeyondMaxCapacity, AllocError}
use Rattle.triple_ord.specs.{Insertion.InsertsBy, Hint.IsNearHint}
use Rattle.triple_ord.specs.declared.growth.Growth.{Growth}
use Rattle.triple_ord.specs.declared.growth.Growth.TheVariants.{Within, Reallocating}
use Rattle.triple_ord.specs.{ClosureSearch.Shown, ClosureSearch.FindsWith, ClosureSearch.FindsSimilarWith, Order.IsInOrder}
use Rattle.triple_ord.specs.{declared.error.OrdInsertionError.OrdInsertionError, declared.entry_kind.OrdEntryKind.TheVariants.New}
use Rattle.triple_ord.specs.{declared.entry_kind.OrdEntryKind.OrdEntryKind, Place.Aim, Place.at_key, Place.aim_of}
use Rattle.triple_ord.specs.{Rekey.Rekeys, Search.FindsKey, Search.FindsSimilar}
use Rattle.ord_machine.specs.declared.reply.Reply.TheVariants.{Inserted, Refused, Found, Similar, Count, Item, Removed, Renewed, Changed, At, Links, Entries, Ranks, Done, ReductionRefused, Sorted, Stats}
use Rattle.ord_machine.specs.{declared.command.Command.Command, declared.reply.Reply.Reply}
use Rattle.ord_machine.specs.declared.command.Command.TheVariants as commands

-- how items and pointers are read
pub record Reading (P T I G K : Type 0) : Type 0 where
  -- the key of an item, and the order of keys
  pub key : T → K
  pub cmp : K → K → Ordering
  -- the greatest index that an entry may have
  pub most : ℕ
  -- the greatest generation, if generations are counted
  pub greatest : Option ℕ
  -- the index and generation of a pointer, and the numbers of an index and of a generation
  pub pointer : P → ℕ × ℕ
  pub index : I → ℕ
  pub generation : G → ℕ

-- the reading with these parts; a pointer is read as its index and generation
abbrev pub reading_by : {P T I G K : Type 0} → (T → K) → (K → K → Ordering) → ℕ → Option ℕ → (P → ℕ × ℕ) → (I → ℕ) → (G → ℕ) → Reading P T I G K
reading_by key cmp most greatest pointer index generation =
    record { key = key; cmp = cmp; most = most; greatest = greatest; pointer = pointer; index = index; generation = generation }

-- What the code of the items and of the closure may do: `asks f s g` if the closure f, shown the entry of s, gives the answer of s and
-- becomes g; and the items whose clone is never refused memory.
pub record Calls (T F : Type 0) : Type 1 where
  pub asks : F → Shown T → F → Type 0
  pub is_infallible : T → Type 0

-- the calls with these parts
abbrev pub calls_by : {T F : Type 0} → (F → Shown T → F → Type 0) → (T → Type 0) → Calls T F
calls_by asks is_infallible = record { asks = asks; is_infallible = is_infallible }

-- what is known of the history of a shape
pub record Marks : Type 0 where
  -- since it was empty, only insertions came
  pub only_inserted : Bool
  -- since it was empty or rebuilt, no entry came, went or moved
  pub just_built : Bool

-- What a step does: it adds an entry, removes one, moves one, rebuilds the tree, takes all entries out, or keeps the tree as it is.
pub data Effect : Type 0 where
  adds : Effect
  removes : Effect
  moves : Effect
  rebuilds : Effect
  clears : Effect
  keeps : Effect

-- the marks after such a step
abbrev pub marked_by : Effect → Marks → Marks
marked_by adds marks = record { only_inserted = marks.only_inserted; just_built = false }
marked_by removes marks = record { only_inserted = false; just_built = false }
marked_by moves marks = record { only_inserted = false; just_built = false }
marked_by rebuilds marks = record { only_inserted = false; just_built = true }
marked_by clears marks = record { only_inserted = true; just_built = true }
marked_by keeps marks = marks

-- the state of the machine
pub record State (T : Type 0) : Type 0 where
  pub tree : Tree T
  pub marks : Marks

-- the marks are true of the shape
pub record AreTrue (marks : Marks) (shape : Shape) : Type 0 where
  pub only_inserted : marks.only_inserted ≡ true → IsTight shape
  pub just_built : marks.just_built ≡ true → IsRebuilt shape

-- both marks are true if there are no entries
abbrev pub settled : {T : Type 0} → Tree T → Marks → Marks
settled t marks = if length t.list.entries == 0 then record { only_inserted = true; just_built = true } else marks

-- bounds on a search that was shown c of the n entries of the state
pub record IsWithinBoundsByMarks {T : Type 0} (s : State T) (c : ℕ) : Type 0 where
  pub always : let n = length s.tree.list.entries in 0 < n → 2 ^ (c + 1) ≤ (n + 1) ^ 2
  pub inserted : let n = length s.tree.list.entries in s.marks.only_inserted ≡ true → fib (c + 2) ≤ n + 1
  pub built : let n = length s.tree.list.entries in s.marks.just_built ≡ true → (digits : ℕ) → HasDigits n digits → c ≤ digits
  pub empty : let n = length s.tree.list.entries in n ≡ 0 → c ≡ 0

-- Bounds on a search that first makes at most num steps from a hint. The steps are at most as many as the entries; to them it adds a
-- whole search, or none.
pub record IsWithinHintedBoundsByMarks {T : Type 0} (s : State T) (num c : ℕ) : Type 0 where
  pub steps : ℕ
  pub search : ℕ
  pub sum : c ≡ steps + search
  pub few : steps ≤ num
  pub within : steps ≤ length s.tree.list.entries
  pub bounded : IsWithinBoundsByMarks s search

-- the entry at index i was removed, and the generation raised
abbrev pub IsTakenOut : {T : Type 0} → Option ℕ → Tree T → ℕ → Tree T → Type 0
IsTakenOut greatest old i new = (new.list ≡ removed greatest old.list i) × IsShrunk old.shape new.shape

-- the chain after these entries were removed one after another
abbrev pub removed_each : {T : Type 0} → Option ℕ → Chain T → List (Entry T) → Chain T
removed_each greatest c [] = c
removed_each greatest c (e ∷ es) = removed_each greatest (removed greatest c e.index) es

-- a pointer and an item as an entry
abbrev pub entry_of : {P T : Type 0} → (P → ℕ × ℕ) → P × T → Entry T
entry_of pointer pair = record { index = (pointer pair.0).0; generation = (pointer pair.0).1; item = pair.1 }

-- each entry's node has this rank in the shape, in order
abbrev pub HaveRanks : {T : Type 0} → Shape → List (Entry T) → List ℕ → Type 0
HaveRanks shape [] [] = Unit {0}
HaveRanks shape (e ∷ es) (k ∷ ks) = HasRank shape e.index k × HaveRanks shape es ks
HaveRanks shape [] (k ∷ ks) = ⊥
HaveRanks shape (e ∷ es) [] = ⊥

-- the neighbours in a link
abbrev pub prev_next : {T : Type 0} → ℕ × Link T → Option ℕ × Option ℕ
prev_next e = (e.1.prev, e.1.next)

-- the numbers of two indexes
abbrev pub both_numbers : {I : Type 0} → (I → ℕ) → Option I × Option I → Option ℕ × Option ℕ
both_numbers index l = (option_map index l.0, option_map index l.1)

module _ {P T I G A : Type 0} where
  -- the reply to an insertion
  abbrev pub insertion_reply : Result (OrdEntryKind P × Option T) OrdInsertionError → Reply P T A I G
  insertion_reply (Ok inserted) = Inserted inserted.0 inserted.1
  insertion_reply (Err refusal) = Refused refusal

  -- an insertion as the ordered arena defines it: how it gets its slot, and what it goes by
  abbrev pub Inserts : {K : Type 0} → (T → K) → (K → K → Ordering) → ℕ → Growth → Aim K → (P → ℕ × ℕ) → Tree T → T → Reply P T A I G → Tree T → Type 0
  Inserts key cmp most growth aim pointer old item (Inserted kind before) new = InsertsBy key cmp most growth aim pointer old item (Ok (kind, before)) new
  Inserts key cmp most growth aim pointer old item (Refused refusal) new = InsertsBy key cmp most growth aim pointer old item (Err refusal) new
  Inserts key cmp most growth aim pointer old item reply new = ⊥

  -- a search for an equal key
  abbrev pub Finds : {K : Type 0} → (T → K) → (K → K → Ordering) → (P → ℕ × ℕ) → State T → K → Reply P T A I G → Type 0
  Finds key cmp pointer s k (Found p c) = FindsKey key cmp s.tree.list.entries k (option_map pointer p) c × IsWithinBoundsByMarks s c
  Finds key cmp pointer s k reply = ⊥

  -- the same from the entry of a pointer, by at most num steps; a stale pointer adds none
  abbrev pub FindsFrom : {K : Type 0} → (T → K) → (K → K → Ordering) → (P → ℕ × ℕ) → State T → P → ℕ → K → Reply P T A I G → Type 0
  FindsFrom key cmp pointer s p num k (Found q c) =
      FindsKey key cmp s.tree.list.entries k (option_map pointer q) c × IsWithinHintedBoundsByMarks s num c
      × IfNone (item_of s.tree.list.entries (pointer p)) (IsWithinBoundsByMarks s c)
  FindsFrom key cmp pointer s p num k reply = ⊥

  -- a search for a similar key
  abbrev pub FindsNear : {K : Type 0} → (T → K) → (K → K → Ordering) → (P → ℕ × ℕ) → State T → K → Reply P T A I G → Type 0
  FindsNear key cmp pointer s k (Similar found c) =
      FindsSimilar key cmp s.tree.list.entries k (option_map (λ a. (pointer a.0, a.1)) found) c × IsWithinBoundsByMarks s c
  FindsNear key cmp pointer s k reply = ⊥

  -- The same from the entry at an index, by at most num steps. An index without an entry adds none. If the keys are in order, a near one
  -- makes few.
  abbrev pub FindsNearFrom : {K : Type 0} → (T → K) → (K → K → Ordering) → (P → ℕ × ℕ) → State T → ℕ → ℕ → K → Reply P T A I G → Type 0
  FindsNearFrom key cmp pointer s i num k (Similar found c) =
      FindsSimilar key cmp s.tree.list.entries k (option_map (λ a. (pointer a.0, a.1)) found) c × IsWithinHintedBoundsByMarks s num c
      × IfNone (entry_at s.tree.list.entries i) (IsWithinBoundsByMarks s c) × IsNearHint key cmp s.tree.list.entries k i num c
  FindsNearFrom key cmp pointer s i num k reply = ⊥

  -- the visits that a search for an equal key may have
  abbrev pub Visits : {K : Type 0} → (T → K) → (K → K → Ordering) → State T → K → Reply P T A I G → Type 0
  Visits key cmp s k (Count c) = ((found : Option (ℕ × ℕ)) × FindsKey key cmp s.tree.list.entries k found c) × IsWithinBoundsByMarks s c
  Visits key cmp s k reply = ⊥

  -- The item of a pointer. Its clone may be refused memory, unless that never happens.
  abbrev pub Gets : (T → Type 0) → (P → ℕ × ℕ) → Tree T → P → Reply P T A I G → Type 0
  Gets is_infallible pointer t p (Item item) = item ≡ item_of t.list.entries (pointer p)
  Gets is_infallible pointer t p (Refused AllocError) =
      IsSomeAnd (item_of t.list.entries (pointer p)) (λ item. is_infallible item → ⊥)
  Gets is_infallible pointer t p reply = ⊥

  -- the item of a pointer, which another one replaces; the shape stays
  abbrev pub Sets : (P → ℕ × ℕ) → Tree T → P → T → Reply P T A I G → Tree T → Type 0
  Sets pointer old p item (Item before) new =
      (before ≡ item_of old.list.entries (pointer p))
      × MatchOption before (new ≡ old) (λ _. new ≡ with_item old (pointer p).0 item)
  Sets pointer old p item reply new = ⊥

  -- the entry of a pointer gets another item and moves to the place of its key; the pointer stays
  abbrev pub MovesToKey : {K : Type 0} → (T → K) → (K → K → Ordering) → (P → ℕ × ℕ) → Tree T → P → T → Reply P T A I G → Tree T → Type 0
  MovesToKey key cmp pointer old p item (Item before) new =
      (before ≡ item_of old.list.entries (pointer p))
      × MatchOption before (new ≡ old) (λ _. Rekeys key cmp old (pointer p) item new)
  MovesToKey key cmp pointer old p item reply new = ⊥

  -- the entry of a pointer is removed
  abbrev pub Removes : Option ℕ → (P → ℕ × ℕ) → Tree T → P → Reply P T A I G → Tree T → Type 0
  Removes greatest pointer old p (Removed result) new =
      IfSome (valid_value result) (λ taken. taken.0 ≡ p)
      × IsRemoval greatest old.list.generation result (option_map (λ taken. taken.1) (valid_value result)) (item_of old.list.entries (pointer p))
      (IsTakenOut greatest old (pointer p).0 new) (new ≡ old)
  Removes greatest pointer old p reply new = ⊥

  -- the entry at an index is removed
  abbrev pub RemovesAt : Option ℕ → (P → ℕ × ℕ) → Tree T → ℕ → Reply P T A I G → Tree T → Type 0
  RemovesAt greatest pointer old i (Removed result) new =
      IfSome (valid_value result) (λ taken. (pointer taken.0).0 ≡ i)
      × IsRemoval greatest old.list.generation result (option_map (λ taken. ((pointer taken.0).1, taken.1)) (valid_value result)) (entry_at old.list.entries i)
      (IsTakenOut greatest old i new) (new ≡ old)
  RemovesAt greatest pointer old i reply new = ⊥

  -- the entry of a pointer gets a new one with the same index and the raised generation; the shape stays
  abbrev pub Renews : Option ℕ → (P → ℕ × ℕ) → Tree T → P → Reply P T A I G → Tree T → Type 0
  Renews greatest pointer old p (Renewed result) new =
      IsRenewal pointer greatest old.list.generation result (pointer p).0 (is_some (item_of old.list.entries (pointer p)))
      (new ≡ record old { list = renewed greatest old.list (pointer p).0 }) (new ≡ old)
  Renews greatest pointer old p reply new = ⊥

  -- a change of all entries that raises the generation
  abbrev pub Changes : Option ℕ → Tree T → Tree T → Reply P T A I G → Tree T → Type 0
  Changes greatest old after (Changed result) new =
      (new ≡ after) × (is_overflow result ≡ overflows_after greatest old.list.generation)
  Changes greatest old after reply new = ⊥

  -- A rebuild: the entries get new pointers of one generation, as `after` lays them out, and the tree is rebuilt. The generation is the
  -- first if it is reset, else the next, with an overflow if it starts again.
  abbrev pub Rebuilds : Option ℕ → Bool → Tree T → (ℕ → Chain T) → Reply P T A I G → Tree T → Type 0
  Rebuilds greatest reset old after (Changed result) new =
      let generation = old.list.generation in
      (new.list ≡ after (compressed_generation greatest reset generation)) × IsRebuilt new.shape
      × (is_overflow result ≡ compression_overflows greatest reset generation)
  Rebuilds greatest reset old after reply new = ⊥

  -- the end of the list that has this index and generation
  abbrev pub IsEnd : (P → ℕ × ℕ) → Option (ℕ × ℕ) → Reply P T A I G → Type 0
  IsEnd pointer end (At p) = option_map pointer p ≡ end
  IsEnd pointer end reply = ⊥

  -- the indexes of the neighbours in the list
  abbrev pub HasNeighbours : (I → ℕ) → Tree T → I → Reply P T A I G → Type 0
  HasNeighbours index t i (Links links) =
      option_map (both_numbers index) links ≡ option_map prev_next (link_at t.list.entries (index i))
  HasNeighbours index t i reply = ⊥

  -- the whole list, each entry as its pointer and its item; memory may be refused if there is an entry
  abbrev pub Lists : (P → ℕ × ℕ) → Tree T → Reply P T A I G → Type 0
  Lists pointer t (Entries pairs) = map (entry_of pointer) pairs.items ≡ t.list.entries
  Lists pointer t (Refused AllocError) = 0 < length t.list.entries
  Lists pointer t reply = ⊥

  -- the ranks of all entries in order; memory may be refused if there is an entry
  abbrev pub Ranked : Tree T → Reply P T A I G → Type 0
  Ranked t (Ranks ranks) = HaveRanks t.shape t.list.entries ranks.items
  Ranked t (Refused AllocError) = 0 < length t.list.entries
  Ranked t reply = ⊥

  -- The first num entries are removed one after another, each of which raises the generation. Then the others are dropped, which raises
  -- it once more, and the free list is ascending. Memory may be refused if there is an entry to remove; then nothing changes.
  abbrev pub Drains : Option ℕ → (P → ℕ × ℕ) → Tree T → ℕ → Reply P T A I G → Tree T → Type 0
  Drains greatest pointer old num (Entries pairs) new =
      let first = take num old.list.entries in
      (map (entry_of pointer) pairs.items ≡ first)
      × (new ≡ record { list = cleared greatest (removed_each greatest old.list first); shape = missing })
  Drains greatest pointer old num (Refused AllocError) new = (0 < length (take num old.list.entries)) × (new ≡ old)
  Drains greatest pointer old num reply new = ⊥

  -- The capacity becomes the greater of n and the greatest index of an entry, and the free list is ascending. It fails if n is beyond the
  -- limit. Memory may be refused for a greater capacity.
  abbrev pub Reserves : ℕ → Tree T → ℕ → Reply P T A I G → Tree T → Type 0
  Reserves most old n Done new =
      (n ≤ chain_limit most old.list)
      × (new ≡ record old { list = with_capacity old.list (max n (greatest_index old.list.entries)) })
  Reserves most old n (Refused BeyondMaxCapacity) new = (chain_limit most old.list < n) × (new ≡ old)
  Reserves most old n (Refused AllocError) new =
      (n ≤ chain_limit most old.list) × (old.list.capacity < n) × (new ≡ old)
  Reserves most old n reply new = ⊥

  -- the maximum of the capacity becomes n; it fails if the capacity is greater
  abbrev pub SetsMaximum : Tree T → ℕ → Reply P T A I G → Tree T → Type 0
  SetsMaximum old n Done new =
      (old.list.capacity ≤ n) × (new ≡ record old { list = record old.list { maximum = Some n } })
  SetsMaximum old n ReductionRefused new = (n < old.list.capacity) × (new ≡ old)
  SetsMaximum old n reply new = ⊥

  -- whether no entry's key is greater than that of the next entry
  abbrev pub Checks : {K : Type 0} → (T → K) → (K → K → Ordering) → Tree T → Reply P T A I G → Type 0
  Checks key cmp t (Sorted sorted) = (sorted ≡ true) ↔ IsInOrder key cmp t.list.entries
  Checks key cmp t reply = ⊥

  -- length, capacity, generation and maximum
  abbrev pub Counts : (G → ℕ) → Tree T → Reply P T A I G → Type 0
  Counts generation t (Stats len capacity g maximum) =
      (len ≡ length t.list.entries) × (capacity ≡ t.list.capacity) × (generation g ≡ t.list.generation) × (maximum ≡ t.list.maximum)
  Counts generation t reply = ⊥

  -- the possible replies to a command that only reads
  abbrev pub Tells : {K : Type 0} → Reading P T I G K → State T → Command P T I G K → Reply P T A I G → Type 0
  Tells r s (commands.Find k) reply = Finds r.key r.cmp r.pointer s k reply
  Tells r s (commands.FindLinear p num k) reply = FindsFrom r.key r.cmp r.pointer s p num k reply
  Tells r s (commands.Similar k) reply = FindsNear r.key r.cmp r.pointer s k reply
  Tells r s (commands.SimilarLinear i num k) reply = FindsNearFrom r.key r.cmp r.pointer s (r.index i) num k reply
  Tells r s (commands.Visits k) reply = Visits r.key r.cmp s k reply
  Tells r s commands.First reply = IsEnd r.pointer (first_pointer s.tree.list.entries) reply
  Tells r s commands.Last reply = IsEnd r.pointer (last_pointer s.tree.list.entries) reply
  Tells r s (commands.Neighbours i) reply = HasNeighbours r.index s.tree i reply
  Tells r s commands.List reply = Lists r.pointer s.tree reply
  Tells r s commands.Ranks reply = Ranked s.tree reply
  Tells r s commands.Check reply = Checks r.key r.cmp s.tree reply
  Tells r s commands.Stats reply = Counts r.generation s.tree reply
  Tells r s command reply = ⊥

  -- From the state `old`, the command may get this reply, and the tree becomes `new`. Searches by a closure and clones aren't covered
  -- here.
  abbrev pub Replies : {K : Type 0} → Reading P T I G K → State T → Command P T I G K → Reply P T A I G → Tree T → Type 0
  Replies r old (commands.Insert item) reply new =
      Inserts r.key r.cmp r.most Reallocating (at_key (r.key item)) r.pointer old.tree item reply new
  Replies r old (commands.InsertWithin item) reply new =
      Inserts r.key r.cmp r.most Within (at_key (r.key item)) r.pointer old.tree item reply new
  Replies r old (commands.Entry kind item) reply new =
      Inserts r.key r.cmp r.most Reallocating (aim_of r.index kind) r.pointer old.tree item reply new
  Replies r old (commands.EntryWithin kind item) reply new =
      Inserts r.key r.cmp r.most Within (aim_of r.index kind) r.pointer old.tree item reply new
  Replies r old (commands.Set p item) reply new = Sets r.pointer old.tree p item reply new
  Replies r old (commands.Rekey p item) reply new = MovesToKey r.key r.cmp r.pointer old.tree p item reply new
  Replies r old (commands.Remove p) reply new = Removes r.greatest r.pointer old.tree p reply new
  Replies r old (commands.RemoveInx i) reply new = RemovesAt r.greatest r.pointer old.tree (r.index i) reply new
  Replies r old (commands.Invalidate p) reply new = Renews r.greatest r.pointer old.tree p reply new
  -- no entry is left, and the free list is ascending
  Replies r old commands.Clear reply new =
      Changes r.greatest old.tree (record { list = cleared r.greatest old.tree.list; shape = missing }) reply new
  Replies r old commands.IncGeneration reply new =
      Changes r.greatest old.tree (record old.tree { list = raised r.greatest old.tree.list }) reply new
  Replies r old (commands.Compress reset) reply new = Rebuilds r.greatest reset old.tree (relocated old.tree.list) reply new
  Replies r old (commands.Canonical reset) reply new = Rebuilds r.greatest reset old.tree (canonical old.tree.list) reply new
  Replies r old (commands.Reserve n) reply new = Reserves r.most old.tree n reply new
  Replies r old (commands.SetMax n) reply new = SetsMaximum old.tree n reply new
  Replies r old (commands.DrainOrdered num) reply new = Drains r.greatest r.pointer old.tree num reply new
  Replies r old command reply new = Tells r old command reply × (new ≡ old.tree)

  -- The effect of a command by its reply. A failure keeps the tree, and a drain takes all entries out.
  abbrev pub told_effect : Reply P T A I G → Effect
  told_effect (Inserted (New p) before) = adds
  told_effect (Removed (Success taken)) = removes
  told_effect (Removed (GenerationOverflow taken)) = removes
  told_effect reply = keeps

  abbrev pub effect_of : {K : Type 0} → Command P T I G K → Reply P T A I G → Effect
  effect_of (commands.Rekey p item) (Item (Some before)) = moves
  effect_of (commands.Compress reset) reply = rebuilds
  effect_of (commands.Canonical reset) reply = rebuilds
  effect_of commands.Clear reply = clears
  effect_of (commands.DrainOrdered num) (Entries pairs) = clears
  effect_of command reply = told_effect reply

  -- the marks after a command and its reply; if no entry is left, both are true
  abbrev pub marks_after : {K : Type 0} → Command P T I G K → Reply P T A I G → Tree T → Marks → Marks
  marks_after command reply new marks = settled new (marked_by (effect_of command reply) marks)

-- Clones of an item equal it, and the closure can be called for every pointer and item, repeatedly.
pub record CanRun {T F : Type 0} (is_clone : T → T → Type 0) (is_callable : F → Type 0) (f : F) : Type 0 where
  pub clones : (x y : T) → is_clone x y → y ≡ x
  pub callable : is_callable f

-- After a call that may call a closure, this holds with any marks that are true of the tree. The closure g can be called again.
pub record MayCall {T F : Type 0} (is_callable : F → Type 0) (holds : State T → Type 0) (tree : Tree T) (g : F) : Type 0 where
  pub does : (marks : Marks) → AreTrue marks tree.shape → holds (record { tree = tree; marks = marks })
  pub callable : is_callable g

-- The same with what the closure and the clones of items may do.
module _ {P T I G A F : Type 0} where
  -- a search by the closure, which changes from f to g
  abbrev pub AnswersWith : (F → Shown T → F → Type 0) → (P → ℕ × ℕ) → State T → F → Reply P T A I G → F → Type 0
  AnswersWith asks pointer s f (Found p c) g = FindsWith asks s.tree.list.entries f g (option_map pointer p) c × IsWithinBoundsByMarks s c
  AnswersWith asks pointer s f reply g = ⊥

  -- the same for a similar entry
  abbrev pub AnswersSimilarWith : (F → Shown T → F → Type 0) → (P → ℕ × ℕ) → State T → F → Reply P T A I G → F → Type 0
  AnswersSimilarWith asks pointer s f (Similar found c) g =
      FindsSimilarWith asks s.tree.list.entries f g (option_map (λ a. (pointer a.0, a.1)) found) c × IsWithinBoundsByMarks s c
  AnswersSimilarWith asks pointer s f reply g = ⊥

  -- From the state `old` and the closure f, the command may get this reply, and tree and closure become `new` and g. Only a search by the
  -- closure changes it.
  abbrev pub Does : {K : Type 0} → Reading P T I G K → Calls T F → State T → F → Command P T I G K → Reply P T A I G → Tree T → F → Type 0
  Does r calls old f commands.FindWith reply new g = AnswersWith calls.asks r.pointer old f reply g × (new ≡ old.tree)
  Does r calls old f commands.SimilarWith reply new g = AnswersSimilarWith calls.asks r.pointer old f reply g × (new ≡ old.tree)
  Does r calls old f (commands.Get p) reply new g = (Gets calls.is_infallible r.pointer old.tree p reply × (new ≡ old.tree)) × (g ≡ f)
  Does r calls old f command reply new g = Replies r old command reply new × (g ≡ f)

  -- From the state `old` and the closure f, the machine may give this reply to the command and go on to the state `new` and to g. The
  -- state is one that an arena can have: its list is sound, and its shape is one over this list that keeps the rank rules.
  pub record Step {K : Type 0} (r : Reading P T I G K) (calls : Calls T F) (old : State T) (f : F)
      (command : Command P T I G K) (reply : Reply P T A I G) (new : State T) (g : F) : Type 0 where
    pub does : Does r calls old f command reply new.tree g
    pub marks : new.marks ≡ marks_after command reply new.tree old.marks
    pub lawful : IsSound r.most r.greatest new.tree.list
    pub sound : IsSoundTree new.tree

  -- The machine may go from one tree to the other, whatever marks are true of the first.
  pub record StepsBetween {K : Type 0} (r : Reading P T I G K) (calls : Calls T F) (old : Tree T) (f : F)
      (command : Command P T I G K) (reply : Reply P T A I G) (new : Tree T) (g : F) : Type 0 where
    pub does : (marks : Marks) → AreTrue marks old.shape → Does r calls (record { tree = old; marks = marks }) f command reply new g
    pub lawful : IsSound r.most r.greatest new.list
    pub sound : IsSoundTree new

  -- The machine may give these replies to these commands, in order.
  abbrev pub Runs : {K : Type 0} → Reading P T I G K → Calls T F → State T → F → List (Command P T I G K) → List (Reply P T A I G) → State T → F → Type 0
  Runs r calls old f [] [] new g = (new ≡ old) × (g ≡ f)
  Runs r calls old f (command ∷ commands) (reply ∷ replies) new g =
      (mid : State T) × (between : F) × Step r calls old f command reply mid between × Runs r calls mid between commands replies new g
  Runs r calls old f [] (reply ∷ replies) new g = ⊥
  Runs r calls old f (command ∷ commands) [] new g = ⊥

  -- Whatever marks are true of the tree `old`, a run from it ends in the tree `new`, with marks that are true of that.
  abbrev pub RunsBetween : {K : Type 0} → Reading P T I G K → Calls T F → Tree T → F → List (Command P T I G K) → List (Reply P T A I G) → Tree T → F → Type 0
  RunsBetween r calls old f commands replies new g =
      (marks : Marks) → AreTrue marks old.shape
      → (marks' : Marks) × AreTrue marks' new.shape
      × Runs r calls (record { tree = old; marks = marks }) f commands replies (record { tree = new; marks = marks' }) g
