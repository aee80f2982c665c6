-- What contracts see of a drain of an ordered arena in index order.
use Rattle.std.specs.{Prelude.◌≡◌, Prelude.ℕ, Prelude.Option, Prelude.Some, Prelude.None, Prelude.List, Prelude.[], Prelude.◌∷◌, Prelude.MatchOption, Borrow.GName}
use Rattle.ord_tree.specs.{Generation.overflows_after, Invalidation.allowed_value, Invalidation.is_overflow, ArenaWalk.pointers, ArenaWalk.walk_rest}
use Rattle.ord_tree.specs.{InvalidationOption.InvalidationOption, Chain.removed, Tree.Tree, Tree.IsShrunk}
use Rattle.triple_ord.specs.{Arena.item_of, Arena.Updates, Arena.FindsNothing, Content.content_of, declared.arena.slot_drain.Drain.Drain}

module _ {P T A Inx Gen : Type 0} where
  -- the arena in its current state
  abbrev pub drain_arena : Drain P T A Inx Gen → Tree T
  drain_arena d = d.arena.now

  -- the ghost name of the reference to the arena
  abbrev pub drain_lender : Drain P T A Inx Gen → GName
  drain_lender d = d.arena.ghost_name

  -- the pointers of the entries not yet returned, by rising index
  abbrev pub drain_rest : Drain P T A Inx Gen → List (ℕ × ℕ)
  drain_rest d = walk_rest d.walk (content_of d.arena.now)

  -- the rest of the drain is every entry of the arena
  abbrev pub ComesWhole : Drain P T A Inx Gen → Type 0
  ComesWhole d = drain_rest d ≡ pointers (content_of d.arena.now)

  -- x is the first entry of s not yet returned and has been removed, and the others are still left in t
  pub record IsDrainedByIndex (greatest : Option ℕ) (numbers : P → ℕ × ℕ) (s : Drain P T A Inx Gen) (x : InvalidationOption (P × T)) (t : Drain P T A Inx Gen) : Type 0 where
    pub first : drain_rest s ≡ (numbers (allowed_value x).0) ∷ drain_rest t
    pub whole : ComesWhole s → ComesWhole t
    pub removed_list : (drain_arena t).list ≡ removed greatest (drain_arena s).list (numbers (allowed_value x).0).0
    pub shape : IsShrunk (drain_arena s).shape (drain_arena t).shape
    pub overflow : is_overflow x ≡ overflows_after greatest (drain_arena s).list.generation
    pub found : item_of (drain_arena s) (numbers (allowed_value x).0) ≡ Some (allowed_value x).1
    pub updates : Updates (drain_arena s) (drain_arena t) (numbers (allowed_value x).0) None

  -- s has no entry left, and t is s; if the rest of s is every entry of the arena, the arena has none
  pub record GivesNothing (s t : Drain P T A Inx Gen) : Type 0 where
    pub none_left : drain_rest s ≡ []
    pub stays : t ≡ s
    pub empty : ComesWhole s → FindsNothing (drain_arena s)

  -- `next` took s to t and returned r: it returns the entries by rising index, and removes each
  abbrev pub DrainSteps : Option ℕ → (P → ℕ × ℕ) → Drain P T A Inx Gen → Option (InvalidationOption (P × T)) → Drain P T A Inx Gen → Type 0
  DrainSteps greatest numbers s r t =
      (drain_lender t ≡ drain_lender s) × MatchOption r (GivesNothing s t) (λ x. IsDrainedByIndex greatest numbers s x t)
