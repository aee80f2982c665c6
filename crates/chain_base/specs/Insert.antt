-- Where a new entry goes in a chain, and what an insertion does.
use Rattle.std.specs.Prelude.{◌≡◌, ℕ, ◌<◌, ◌≤◌, List, [], ◌∷◌, ◌++◌, Option, Some, None, Result, IfOk}
use Rattle.chain_base.specs.declared.chain.insert.LinkInsertKind.TheVariants.{Disconnected, NextToInx, PrevToInx}
use Rattle.chain_base.specs.Chain.{Entry, Chain, times, first_or, last_or, insert_after, insert_before, IsOccupied, IsFresh, next_index, inserted}
use Rattle.chain_base.specs.declared.chain.insert.LinkInsertKind.{LinkInsertKind}

module _ {P I G T : Type 0} (number : I → ℕ) where
  -- the list with a new entry at the place that `kind` names
  abbrev pub placed : LinkInsertKind P I G → List (Entry T) → Entry T → List (Entry T)
  placed Disconnected es new = new ∷ es
  placed (NextToInx i) es new = insert_after (number i) new es
  placed (PrevToInx i) es new = insert_before (number i) new es

  -- the chain has the place that `kind` names
  abbrev pub CanPlace : LinkInsertKind P I G → Chain T → Type 0
  CanPlace Disconnected c = c.entries ≡ []
  CanPlace (NextToInx i) c = IsOccupied c (number i)
  CanPlace (PrevToInx i) c = IsOccupied c (number i)

module _ {T : Type 0} where
  -- index i is within the capacity, and no entry has it
  pub record IsVacant (c : Chain T) (i : ℕ) : Type 0 where
    pub above : 0 < i
    pub within : i ≤ c.capacity
    pub free : times i c.entries ≡ 0

  -- `new` is `old` with `item` inserted at index i with generation g; `place` puts the entry into the list
  pub record IsInsertion (old new : Chain T) (place : Entry T → List (Entry T)) (item : T) (i g : ℕ) : Type 0 where
    pub next : next_index old ≡ Some i
    pub vacant : IsVacant old i
    pub least : IsFresh old → (k : ℕ) → 0 < k → k < i → IsOccupied old k
    pub generation : g ≡ old.generation
    pub after : new ≡ inserted old place item
    pub fresh : IsFresh old → IsFresh new

  -- A call that inserts `item` returns its pointer: `new` is `before` with the item, at the place of the list that `place` puts it.
  -- `Refused` says when the call fails, `HasRoom` what becomes of the capacity.
  pub record InsertsItem {P E : Type 0} (numbers : P → ℕ × ℕ) (before new : Chain T) (place : Entry T → List (Entry T)) (item : T) (result : Result P E) (Refused HasRoom : Type 0) : Type 0 where
    pub ok : IfOk result (λ p. IsInsertion before new place item (numbers p).0 (numbers p).1)
    pub refused : Refused
    pub room : HasRoom

  -- `place` puts a new entry into the list between these two neighbours
  pub record PutsBetween (es : List (Entry T)) (place : Entry T → List (Entry T)) (prev next : Option ℕ) : Type 0 where
    pub front : List (Entry T)
    pub back : List (Entry T)
    pub split : es ≡ front ++ back
    pub prev_is : prev ≡ last_or None front
    pub next_is : next ≡ first_or None back
    pub puts : (new : Entry T) → place new ≡ front ++ new ∷ back
