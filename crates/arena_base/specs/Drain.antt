-- A drain of an arena, as contracts see it.
use Rattle.std.specs.{Prelude.◌≡◌, Prelude.ℕ, Prelude.◌+◌, Prelude.Option, Prelude.List, Prelude.[], Prelude.◌∷◌, Prelude.MatchOption, Borrow.GName}
use Rattle.arena_base.specs.{Arena.Arena, Arena.removed, Generation.overflows_after, Invalidation.allowed_value, Invalidation.is_overflow}
use Rattle.arena_base.specs.{Walk.entries_rising, declared.arena.drain.Drain.Drain, declared.invalidation.InvalidationOption.InvalidationOption}

module _ {P T A Inx Gen : Type 0} where
  -- the arena as it is now
  abbrev pub drain_arena : Drain P T A Inx Gen → Arena T
  drain_arena d = d.arena.now

  -- the ghost name of the reference to the arena
  abbrev pub drain_lender : Drain P T A Inx Gen → GName
  drain_lender d = d.arena.ghost_name

  -- the entries still to come
  abbrev pub drain_rest : Drain P T A Inx Gen → List (ℕ × ℕ × T)
  drain_rest d = entries_rising d.arena.now (d.at + 1)

  -- x is the first entry of s and has been removed; t has the others
  pub record IsDrained (greatest : Option ℕ) (numbers : P → ℕ × ℕ) (s : Drain P T A Inx Gen) (x : InvalidationOption (P × T)) (t : Drain P T A Inx Gen) : Type 0 where
    pub first : drain_rest s ≡ ((numbers (allowed_value x).0).0, (numbers (allowed_value x).0).1, (allowed_value x).1) ∷ drain_rest t
    pub removed : drain_arena t ≡ removed greatest (drain_arena s) (numbers (allowed_value x).0).0
    pub overflow : is_overflow x ≡ overflows_after greatest (drain_arena s).generation

  -- `next` took s to t and returned r: a step removes the entry with the least index that is still to come
  abbrev pub DrainSteps : Option ℕ → (P → ℕ × ℕ) → Drain P T A Inx Gen → Option (InvalidationOption (P × T)) → Drain P T A Inx Gen → Type 0
  DrainSteps greatest numbers s r t =
      (drain_lender t ≡ drain_lender s) × MatchOption r ((drain_rest s ≡ []) × (t ≡ s)) (λ x. IsDrained greatest numbers s x t)
