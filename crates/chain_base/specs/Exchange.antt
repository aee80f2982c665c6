-- Two entries of a chain swap their indexes. No public clause cites this file.
use Rattle.std.specs.Prelude.{◌≡◌, ℕ, ◌==◌, if◌then◌else◌, List, map, Option}
use Rattle.std.specs.Option.{option_and_then, ForSome}
use Rattle.chain_base.specs.Chain.{Entry, Chain, entry_at, link_at, IsOccupied}

-- the index that k becomes if i and j are swapped
abbrev pub exchanged_index : ℕ → ℕ → ℕ → ℕ
exchanged_index i j k = if k == i then j else if k == j then i else k

module _ {T : Type 0} where
  -- the entry with the index that its own becomes
  abbrev pub in_exchange : ℕ → ℕ → Entry T → Entry T
  in_exchange i j e = record { index = exchanged_index i j e.index; generation = e.generation; item = e.item }

  -- c with the indexes i and j of two entries swapped
  abbrev pub exchanged : Chain T → ℕ → ℕ → Chain T
  exchanged c i j = record c { entries = map (in_exchange i j) c.entries }

  -- all entries have the generation of the chain
  abbrev pub IsEven : Chain T → Type 0
  IsEven c = (i : ℕ) → ForSome (entry_at c.entries i) (λ e. e.0 ≡ c.generation)

  -- indexes i and j have entries, and all entries have the generation of the chain
  pub record MayExchange (c : Chain T) (i j : ℕ) : Type 0 where
    pub first : IsOccupied c i
    pub second : IsOccupied c j
    pub even : IsEven c

  -- the index of the entry before the one at index i
  abbrev pub index_before : List (Entry T) → ℕ → Option ℕ
  index_before es i = option_and_then (λ e. e.1.prev) (link_at es i)
