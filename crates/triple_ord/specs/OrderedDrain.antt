-- What contracts see of a drain of an ordered arena in list order.
use Rattle.std.specs.{Prelude.◌≡◌, Prelude.ℕ, Prelude.Option, Prelude.Some, Prelude.None, Prelude.List, Prelude.[], Prelude.◌∷◌, Prelude.MatchOption, Borrow.GName}
use Rattle.ord_tree.specs.{Generation.overflows_after, Invalidation.allowed_value, Invalidation.is_overflow, InvalidationOption.InvalidationOption, Chain.Entry}
use Rattle.ord_tree.specs.{Chain.removed, Tree.Tree, Tree.IsShrunk}
use Rattle.triple_ord.specs.{Arena.item_of, Arena.Updates, declared.arena.drain.OrderedDrain.OrderedDrain}

module _ {P T A Inx Gen : Type 0} where
  -- the arena in its current state
  abbrev pub ordered_drain_arena : OrderedDrain P T A Inx Gen → Tree T
  ordered_drain_arena d = d.arena.now

  -- the ghost name of the reference to the arena
  abbrev pub ordered_drain_lender : OrderedDrain P T A Inx Gen → GName
  ordered_drain_lender d = d.arena.ghost_name

  -- the entries not yet returned
  abbrev pub ordered_drain_rest : OrderedDrain P T A Inx Gen → List (Entry T)
  ordered_drain_rest d = d.arena.now.list.entries

  -- x is the first entry of s and has been removed, and t has the others
  pub record IsDrainedInOrder (greatest : Option ℕ) (numbers : P → ℕ × ℕ) (s : OrderedDrain P T A Inx Gen) (x : InvalidationOption (P × T)) (t : OrderedDrain P T A Inx Gen) : Type 0 where
    pub first : ordered_drain_rest s ≡ record { index = (numbers (allowed_value x).0).0; generation = (numbers (allowed_value x).0).1; item = (allowed_value x).1 } ∷ ordered_drain_rest t
    pub removed_list : (ordered_drain_arena t).list ≡ removed greatest (ordered_drain_arena s).list (numbers (allowed_value x).0).0
    pub shape : IsShrunk (ordered_drain_arena s).shape (ordered_drain_arena t).shape
    pub overflow : is_overflow x ≡ overflows_after greatest (ordered_drain_arena s).list.generation
    pub found : item_of (ordered_drain_arena s) (numbers (allowed_value x).0) ≡ Some (allowed_value x).1
    pub updates : Updates (ordered_drain_arena s) (ordered_drain_arena t) (numbers (allowed_value x).0) None

  -- `next` took s to t and returned r: it returns the entries in order, and removes each
  abbrev pub OrderedDrainSteps : Option ℕ → (P → ℕ × ℕ) → OrderedDrain P T A Inx Gen → Option (InvalidationOption (P × T)) → OrderedDrain P T A Inx Gen → Type 0
  OrderedDrainSteps greatest numbers s r t =
      (ordered_drain_lender t ≡ ordered_drain_lender s) × MatchOption r ((ordered_drain_rest s ≡ []) × (t ≡ s)) (λ x. IsDrainedInOrder greatest numbers s x t)
