-- The amortized bound: how many ranks change along a run.
use Rattle.std.specs.Prelude.{◌≡◌, ℕ, ◌+◌, ◌*◌, ◌≤◌, List, [], ◌∷◌, length}
use Rattle.std.specs.List.{AllByRecursion}
use Rattle.triple_ord.specs.Chain.{IsSound}
use Rattle.triple_ord.specs.{Tree.IsSoundTree, Shape.Shape, Potential.NamesRankChanges}
use Rattle.ord_machine.specs.Machine.{Calls, Reading, State, Runs, Effect, adds, removes, moves, rebuilds, clears, keeps, effect_of}
use Rattle.ord_machine.specs.{declared.command.Command.Command, declared.reply.Reply.Reply}
use Rattle.ord_machine.specs.declared.command.Command.TheVariants as commands

-- How many rank changes a step adds to the bound: 4 for a new entry, 9 for a removal, 14 for a move. A step that takes all entries out
-- adds none: no entry is left whose rank could have changed.
abbrev pub allowance : Effect → ℕ
allowance adds = 4
allowance removes = 9
allowance moves = 14
allowance rebuilds = 0
allowance clears = 0
allowance keeps = 0

-- a command that doesn't rebuild the tree
abbrev pub KeepsTree : {P T I G K : Type 0} → Command P T I G K → Type 0
KeepsTree (commands.Compress reset) = ⊥
KeepsTree (commands.Canonical reset) = ⊥
KeepsTree command = Unit {0}

module _ {P T I G A : Type 0} where
  -- the sum over all steps: 4m + 9d + 14k for m new entries, d removals and k moves
  abbrev pub allowance_of : {K : Type 0} → List (Command P T I G K) → List (Reply P T A I G) → ℕ
  allowance_of (command ∷ commands) (reply ∷ replies) = allowance (effect_of command reply) + allowance_of commands replies
  allowance_of commands replies = 0

-- From each shape to the next, the ranks of at most `count` entries change in all. An entry counts once for each step that changes its
-- rank.
abbrev pub ChangesRanksAlong : ℕ → Shape → List Shape → Type 0
ChangesRanksAlong count shape [] = Unit {0}
ChangesRanksAlong count shape (next ∷ shapes) =
    (changed : List ℕ) × (rest : ℕ) × NamesRankChanges changed shape next × (length changed + rest ≤ count)
    × ChangesRanksAlong rest next shapes

module _ {P T I G A F : Type 0} where
  -- the shapes that a run leaves, one for each of its commands
  abbrev pub shapes_along : {K : Type 0} (r : Reading P T I G K) (calls : Calls T F) (old : State T) (f : F) (asked : List (Command P T I G K))
      (told : List (Reply P T A I G)) (new : State T) (g : F) → Runs r calls old f asked told new g → List Shape
  shapes_along r calls old f (command ∷ asked) (reply ∷ told) new g run = run.0.tree.shape ∷ shapes_along r calls run.0 run.1 asked told new g run.3
  shapes_along r calls old f asked told new g run = []

-- In every run from a sound tree without a rebuild, ranks change at most 4 times for each new entry, 9 for each removal, 14 for each
-- move, and 3 for each entry at the beginning.
abbrev pub RankChangesLaw : (P T I G A K : Type 0) {F : Type 0} → Calls T F → Type 0
RankChangesLaw P T I G A K {F} calls =
    (r : Reading P T I G K) (old new : State T) (f g : F) (asked : List (Command P T I G K)) (told : List (Reply P T A I G))
    → IsSound r.most r.greatest old.tree.list → IsSoundTree old.tree
    → AllByRecursion KeepsTree asked → (run : Runs r calls old f asked told new g)
    → ChangesRanksAlong (allowance_of asked told + 3 * length old.tree.list.entries) old.tree.shape (shapes_along r calls old f asked told new g run)
