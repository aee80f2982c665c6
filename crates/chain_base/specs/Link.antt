-- A link: an item with the indexes of the entries before and after it in the chain.
use Rattle.std.specs.Prelude.{◌≡◌, ℕ, Option}
use Rattle.arena_base.specs.Pointer.{named_of}

-- an item of a chain and its neighbours' indexes; None at an end of the chain
pub record Link (T : Type 0) : Type 0 where
  pub item : T
  pub prev : Option ℕ
  pub next : Option ℕ

-- a call reads a neighbour of a link, which isn't index 0
pub record ReadsNeighbour (result neighbour : Option ℕ) : Type 0 where
  pub value : result ≡ neighbour
  pub named : named_of neighbour ≡ neighbour
