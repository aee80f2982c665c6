-- New pointers for all entries of an arena, by a compression.
use Rattle.std.specs.Prelude.{◌≡◌, ℕ, Bool, Option}
use Rattle.ord_tree.specs.ArenaCompression.{compressed_generation, compression_overflows}
use Rattle.ord_tree.specs.{Half.IsRebuilt, Invalidation.is_overflow, InvalidationOption.InvalidationOption, Tree.Tree}
use Rattle.triple_ord.specs.Arena.{count, IsOfGeneration}

-- What a call does that gives all entries new pointers of one generation: the first if `reset` is true, else the next one. `After` says how
-- the entries stand then, and the result, whether the generation overflowed. Every pointer of another generation has ended, the number of
-- entries stays, and the tree is rebuilt.
pub record Renumbers {T : Type 0} (greatest : Option ℕ) (reset : Bool) (old : Tree T) (result : InvalidationOption (Unit {0})) (new : Tree T)
    (After : ℕ → Type 0) : Type 0 where
  pub after : After (compressed_generation greatest reset old.list.generation)
  pub ended : IsOfGeneration new (compressed_generation greatest reset old.list.generation)
  pub shape : IsRebuilt new.shape
  pub overflow : is_overflow result ≡ compression_overflows greatest reset old.list.generation
  pub count : count new ≡ count old
