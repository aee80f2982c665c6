-- A walk over an ordered arena in index order, whatever its list order.
use Rattle.std.specs.Prelude.{ℕ, Option, IfSome, IsSome}
use Rattle.ord_tree.specs.{ArenaWalk.Walk, ArenaWalk.WalkSteps, Tree.Tree}
use Rattle.triple_ord.specs.{Arena.item_of, Content.content_of}

-- A step over the arena took the walk from `old` to `new` and returned this pointer or nothing. It is a step over the arena's finite map,
-- and the pointer finds an item.
pub record SlotWalkSteps {P T : Type 0} (numbers : P → ℕ × ℕ) (old : Walk) (a : Tree T) (result : Option P) (new : Walk) : Type 0 where
  pub step : WalkSteps numbers old (content_of a) result new
  pub there : IfSome result (λ p. IsSome (item_of a (numbers p)))
