-- A listing: the one view of every container that keeps entries in the order of their keys and names them by pointers.
--
-- The words for what a call makes, as `with_entry`, are closed: a tactic doesn't look into them, and goes by the rules of
-- `listing::proofs::Rules` (`#![tactic(auto, using(listing::proofs::Rules::words))]`).
use Rattle.std.specs.Prelude.{◌≡◌, ◌≢◌, ℕ, zero, suc, ◌+◌, ◌-◌, ◌≤◌, ◌<◌, Bool, ◌==◌, ◌&&◌, nat_lt, if◌then◌else◌, List, [], ◌∷◌, filter, length}
use Rattle.std.specs.Prelude.{Option, Some, None, IsSome, is_some}
use Rattle.std.specs.{List.All, Ordering.is_lt, Ordering.is_le, Ordering.is_gt, declared.cmp.Ordering.Ordering}
use Rattle.std.specs.declared.cmp.Ordering.TheVariants.{Greater, Equal}
use Rattle.triple_ord.specs.{PlainArena.doubled_capacity, Generation.next_generation}
use Rattle.triple_ord.specs.Chain.{times, item_of, without, with_item_among, first_pointer}
-- an entry, and that no two entries share an index
pub use Rattle.triple_ord.specs.Chain.{Entry, IsDistinct}

-- The entries in order, each with an index and a generation, which make its pointer, and an item; the generation of the next pointer; and
-- how many entries there is room for.
pub record Listing (T : Type 0) : Type 0 where
  pub entries : List (Entry T)
  pub generation : ℕ
  pub capacity : ℕ

-- the generation after so many removals
abbrev pub generation_after : Option ℕ → ℕ → ℕ → ℕ
generation_after greatest zero g = g
generation_after greatest (suc n) g = next_generation greatest (generation_after greatest n g)

module _ {T : Type 0} where
  -- the pointer of an entry, and the entry of a pointer with an item
  abbrev pub pointer_of : Entry T → ℕ × ℕ
  pointer_of e = (e.index, e.generation)

  abbrev pub entry_of : ℕ × ℕ → T → Entry T
  entry_of p item = record { index = p.0; generation = p.1; item = item }

  -- the item that a pointer names; None if it is stale
  abbrev pub get : Listing T → ℕ × ℕ → Option T
  get a p = item_of a.entries p

  -- how many entries there are
  abbrev pub count : Listing T → ℕ
  count a = length a.entries

  -- the pointer of the first entry that passes a test
  abbrev pub first_where : (Entry T → Bool) → List (Entry T) → Option (ℕ × ℕ)
  first_where test [] = None
  first_where test (e ∷ es) = if test e then Some (pointer_of e) else first_where test es

  -- whether an entry has this pointer
  abbrev pub is_named_by : ℕ × ℕ → Entry T → Bool
  is_named_by p e = (e.index == p.0) && (e.generation == p.1)

  -- the pointer of the successor of the entry that a pointer names; None at the end, and if it is stale
  abbrev pub next_of : List (Entry T) → ℕ × ℕ → Option (ℕ × ℕ)
  next_of [] p = None
  next_of (e ∷ es) p = if is_named_by p e then first_pointer es else next_of es p

  -- the pointer of its predecessor, where `before` is that of the first entry
  abbrev pub prev_from : Option (ℕ × ℕ) → List (Entry T) → ℕ × ℕ → Option (ℕ × ℕ)
  prev_from before [] p = None
  prev_from before (e ∷ es) p = if is_named_by p e then before else prev_from (Some (pointer_of e)) es p

  -- the pointer of the predecessor; None at the beginning, and if the pointer is stale
  abbrev pub prev_of : List (Entry T) → ℕ × ℕ → Option (ℕ × ℕ)
  prev_of es p = prev_from None es p

  -- the entries behind the first, and those before the last
  abbrev pub behind_first : List (Entry T) → List (Entry T)
  behind_first [] = []
  behind_first (e ∷ es) = es

  abbrev pub before_last : List (Entry T) → List (Entry T)
  before_last [] = []
  before_last (e ∷ []) = []
  before_last (e ∷ f ∷ es) = e ∷ before_last (f ∷ es)

  -- the items of the first entry, and of the last
  abbrev pub first_item : List (Entry T) → Option T
  first_item [] = None
  first_item (e ∷ es) = Some e.item

  abbrev pub last_item : List (Entry T) → Option T
  last_item [] = None
  last_item (e ∷ []) = Some e.item
  last_item (e ∷ f ∷ es) = last_item (f ∷ es)

  -- the listing with these entries after one was removed: the generation is the next one
  abbrev pub with_left : Option ℕ → Listing T → List (Entry T) → Listing T
  with_left greatest a es = record a { entries = es; generation = next_generation greatest a.generation }

  -- the listing with these of its entries left: each removal gave it the next generation
  abbrev pub with_rest : Option ℕ → Listing T → List (Entry T) → Listing T
  with_rest greatest a es = record a { entries = es; generation = generation_after greatest (count a - length es) a.generation }

  -- the listing without the entry of a pointer; the same listing if the pointer is stale
  unfoldable pub without_entry : Option ℕ → Listing T → ℕ × ℕ → Listing T
  without_entry greatest a p = if is_some (get a p) then with_left greatest a (without p.0 a.entries) else a

  -- the listing without its first entry, and without its last; the same listing if it is empty
  unfoldable pub without_first : Option ℕ → Listing T → Listing T
  without_first greatest a = if is_some (first_item a.entries) then with_left greatest a (behind_first a.entries) else a

  unfoldable pub without_last : Option ℕ → Listing T → Listing T
  without_last greatest a = if is_some (last_item a.entries) then with_left greatest a (before_last a.entries) else a

  -- the listing without the entry of a pointer, if there is one
  abbrev pub without_found : Option ℕ → Listing T → Option (ℕ × ℕ) → Listing T
  without_found greatest a None = a
  without_found greatest a (Some p) = without_entry greatest a p

  -- the listing without the first entry that passes a test
  unfoldable pub without_where : Option ℕ → Listing T → (Entry T → Bool) → Listing T
  without_where greatest a test = without_found greatest a (first_where test a.entries)

  -- the listing with the entries that pass a test
  unfoldable pub with_passing : Option ℕ → Listing T → (Entry T → Bool) → Listing T
  with_passing greatest a test = with_rest greatest a (filter test a.entries)

  -- the item of a pointer, if its entry passes a test
  abbrev pub if_passing : (Entry T → Bool) → ℕ × ℕ → Option T → Option T
  if_passing test p None = None
  if_passing test p (Some item) = if test (entry_of p item) then Some item else None

  -- from old to new, a pointer names this now, and every other pointer names what it named
  pub record Updates (old new : Listing T) (p : ℕ × ℕ) (now : Option T) : Type 0 where
    pub changed : get new p ≡ now
    pub others : (q : ℕ × ℕ) → q ≢ p → get new q ≡ get old q

  -- every pointer that names an item in old names the same in new
  abbrev pub Keeps : Listing T → Listing T → Type 0
  Keeps old new = (q : ℕ × ℕ) → IsSome (get old q) → get new q ≡ get old q

  -- A pointer that an entry may get: it has the generation of the listing, and no entry has its index.
  pub record IsFree (a : Listing T) (p : ℕ × ℕ) : Type 0 where
    pub of_generation : p.1 ≡ a.generation
    pub unused : times p.0 a.entries ≡ 0

-- Items that are a key and a value, in the order of the keys.
module _ {K V : Type 0} where
  -- the key of an entry, its value, and both
  abbrev pub key_of : Entry (K × V) → K
  key_of e = e.item.0

  abbrev pub value_of : Entry (K × V) → V
  value_of e = e.item.1

  abbrev pub pair_of : Entry (K × V) → K × V
  pair_of e = e.item

  -- the listing with another value at a pointer, given what the pointer names; the listing itself if it is stale
  abbrev pub with_value : Listing (K × V) → ℕ × ℕ → Option (K × V) → V → Listing (K × V)
  with_value a p None v = a
  with_value a p (Some item) v = record a { entries = with_item_among a.entries p.0 (item.0, v) }

  module _ (cmp : K → K → Ordering) where
    -- no entry's key is greater than that of a later entry
    abbrev pub AreSorted : List (Entry (K × V)) → Type 0
    AreSorted [] = Unit {0}
    AreSorted (e ∷ es) = All (λ f. cmp (key_of e) (key_of f) ≢ Greater) es × AreSorted es

    -- What holds of every listing: its entries are in the order of their keys, no two of them share an index, each index is from 1 to the
    -- capacity, and all fit in that. `most` is the greatest index of a pointer.
    pub record IsSound (most : ℕ) (a : Listing (K × V)) : Type 0 where
      pub sorted : AreSorted a.entries
      pub distinct : IsDistinct a.entries
      pub indexed : (i : ℕ) → 1 ≤ times i a.entries → (0 < i) × (i ≤ a.capacity)
      pub within : count a ≤ a.capacity
      pub limited : a.capacity ≤ most

    -- no entry has an equal key
    abbrev pub IsAbsent : Listing (K × V) → K → Type 0
    IsAbsent a k = All (λ e. cmp k (key_of e) ≢ Equal) a.entries

    -- the key and the value of the first entry, if its key is at most this one
    abbrev pub first_item_until : K → List (Entry (K × V)) → Option (K × V)
    first_item_until k [] = None
    first_item_until k (e ∷ es) = if is_le (cmp (key_of e) k) then Some e.item else None

    -- the entries whose key is at most this one, and those whose key is greater, in order
    abbrev pub entries_until : K → List (Entry (K × V)) → List (Entry (K × V))
    entries_until k es = filter (λ e. is_le (cmp (key_of e) k)) es

    abbrev pub entries_above : K → List (Entry (K × V)) → List (Entry (K × V))
    entries_above k es = filter (λ e. is_gt (cmp (key_of e) k)) es

    -- the entries with one more, after every entry with a key ≤ its own
    abbrev pub put_behind : Entry (K × V) → List (Entry (K × V)) → List (Entry (K × V))
    put_behind x [] = x ∷ []
    put_behind x (e ∷ es) = if is_lt (cmp (key_of x) (key_of e)) then x ∷ e ∷ es else e ∷ put_behind x es

    -- the listing with a new entry, for which it grows if it is full
    unfoldable pub with_entry : ℕ → Listing (K × V) → ℕ × ℕ → K × V → Listing (K × V)
    with_entry most a p item = record a {
      entries = put_behind (entry_of p item) a.entries;
      capacity = if nat_lt (count a) a.capacity then a.capacity else doubled_capacity most a.capacity;
    }

    -- the listing with another key at a pointer, given what the pointer names: its entry goes after every other entry with a key ≤ that
    abbrev pub with_key_from : Listing (K × V) → ℕ × ℕ → Option (K × V) → K → Listing (K × V)
    with_key_from a p None k = a
    with_key_from a p (Some item) k = record a { entries = put_behind (entry_of p (k, item.1)) (without p.0 a.entries) }

    -- the listing with another key at a pointer; the same listing if the pointer is stale
    unfoldable pub with_key : Listing (K × V) → ℕ × ℕ → K → Listing (K × V)
    with_key a p k = with_key_from a p (get a p) k
