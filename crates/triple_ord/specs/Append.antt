-- What an append of many items makes of what pointers find.
use Rattle.std.specs.Prelude.{◌≡◌, ◌↔◌, ◌+◌, ◌<◌, ℕ, [], ◌++◌, None, IsSome, Result, IsErr, IfErr, OnOk, OnErr, Vec, vec_len}
use Rattle.ord_tree.specs.{Append.Appends, Half.IsRebuilt, Tree.Tree}
use Rattle.triple_ord.specs.Arena.{item_of, items, count}

-- from old to new, each pointer that found an item finds it still, and each that finds one only now has the old arena's generation
pub record Extends {T : Type 0} (old new : Tree T) : Type 0 where
  pub kept : (p : ℕ × ℕ) → IsSome (item_of old p) → item_of new p ≡ item_of old p
  pub added : (p : ℕ × ℕ) → item_of old p ≡ None → IsSome (item_of new p) → p.1 ≡ old.list.generation

-- What a call does that appends items behind the last entry, in their order, or gives them back if there are fewer vacant slots than
-- items. Nothing changes then.
pub record AppendsAll {T B : Type 0} (old : Tree T) (added : Vec T B) (result : Result (Unit {0}) (Vec T B)) (new : Tree T) : Type 0 where
  pub items : OnOk result (items new ≡ items old ++ added.items)
  pub found : OnOk result (Extends old new)
  pub capacity : new.list.capacity ≡ old.list.capacity
  pub generation : new.list.generation ≡ old.list.generation
  pub appends : OnOk result (Appends old.list added.items new.list)
  pub shape : OnOk result (0 < vec_len added → IsRebuilt new.shape)
  pub none : added.items ≡ [] → new ≡ old
  pub full : IsErr result ↔ (old.list.capacity < count old + vec_len added)
  pub back : IfErr result (λ given. given ≡ added)
  pub err : OnErr result (new ≡ old)
  pub count : OnOk result (count new ≡ count old + vec_len added)
