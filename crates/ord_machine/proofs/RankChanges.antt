-- The account of rank changes along a run.
use Rattle.std.proofs.Common.{◌≡◌, ℕ, ◌+◌, ◌≤◌, ◌⊎◌, inl, inr, Option, Some, List, [], ◌∷◌, length, refl, sym, ap, subst, ◌∙◌, arith}
use Rattle.std.proofs.lemmas.List.{length-map}
use Rattle.std.specs.List.{AllByRecursion}
use Rattle.triple_ord.specs.Chain.{IsSound}
use Rattle.triple_ord.specs.{Shape.Shape, Shape.size_of, Tree.Tree, Tree.IsSoundTree, Potential.potential, Potential.ChangesRanksWithin, Ranks.HasRank}
use Rattle.triple_ord.proofs.TreeLemmas.{rank_in-standing, times-walk, times-indexes, potential-le-size, size_of-walk}
use Rattle.triple_ord.specs.Slots.{times, times_in}
use Rattle.triple_ord.specs.declared.entry_kind.OrdEntryKind.TheVariants.{New}
use Rattle.triple_ord.specs.InvalidationResult.TheVariants.{Success, GenerationOverflow}
use Rattle.ord_machine.specs.declared.reply.Reply.TheVariants.{Inserted, Item, Removed, Entries}
use Rattle.ord_machine.specs.Machine.{Calls, Reading, State, Runs, Effect, adds, removes, moves, rebuilds, clears, keeps, told_effect, effect_of}
use Rattle.ord_machine.specs.RankChanges.{allowance, KeepsTree, allowance_of, ChangesRanksAlong, shapes_along, RankChangesLaw}
use Rattle.ord_machine.specs.{declared.command.Command.Command, declared.reply.Reply.Reply}
use Rattle.ord_machine.specs.declared.command.Command.TheVariants as commands
use Rattle.ord_machine.proofs.Outcomes.{Affects, outcome}

-- each index has at most one rank in the shape
abbrev IsSingle : Shape → Type 0
IsSingle s = (i k l : ℕ) → HasRank s i k → HasRank s i l → k ≡ l

-- so it is in a sound tree
single_sound : {T : Type 0} (most : ℕ) (greatest : Option ℕ) (t : Tree T) → IsSound most greatest t.list → IsSoundTree t → IsSingle t.shape
single_sound most greatest t lawful sound i k l a b =
    let once : times_in i t.shape ≤ 1 = omega (arith, lawful.distinct i, times-indexes t.list.entries i, ap (times i) sound.listed, times-walk i t.shape) in
    sym (rank_in-standing t.shape i k once a) ∙ rank_in-standing t.shape i l once b

-- if the shape stays, no rank changes
changed_or_same : (m : ℕ) (old new : Shape) → IsSingle old → ChangesRanksWithin m old new ⊎ (new ≡ old) → ChangesRanksWithin m old new
changed_or_same m old new single (inl within) = within
changed_or_same m old new single (inr same) = rw same ([], omega arith, λ i k l a b. inr (single i k l a b))

-- a step changes ranks within its allowance
within_allowance : (effect : Effect) (old new : Shape) → (effect ≡ rebuilds → ⊥) → IsSingle old → Affects effect old new → ChangesRanksWithin (allowance effect) old new
within_allowance adds old new built single affects = changed_or_same 4 old new single affects.1
within_allowance removes old new built single affects = changed_or_same 9 old new single affects
within_allowance moves old new built single affects = changed_or_same 14 old new single affects
within_allowance rebuilds old new built single affects = absurd (built refl)
within_allowance clears old new built single none = subst (λ (s : Shape). ChangesRanksWithin 0 old s) (sym none) ([], omega arith, λ i k l a b. elim b [ ])
within_allowance keeps old new built single same = changed_or_same 0 old new single (inr same)

module _ {P T I G A : Type 0} where
  not_told : (reply : Reply P T A I G) → told_effect reply ≡ rebuilds → ⊥
  not_told (Inserted (New p) before) e = cc
  not_told (Removed (Success taken)) e = cc
  not_told (Removed (GenerationOverflow taken)) e = cc
  not_told reply e = cc

  not_rebuilt : {K : Type 0} (command : Command P T I G K) (reply : Reply P T A I G) → KeepsTree command → effect_of command reply ≡ rebuilds → ⊥
  not_rebuilt (commands.Compress reset) reply stays e = stays
  not_rebuilt (commands.Canonical reset) reply stays e = stays
  not_rebuilt (commands.Rekey p item) (Item (Some before)) stays e = cc
  not_rebuilt commands.Clear reply stays e = cc
  not_rebuilt (commands.DrainOrdered num) (Entries pairs) stays e = cc
  not_rebuilt command reply stays e = not_told reply e

module _ {P T I G A F K : Type 0} (r : Reading P T I G K) (calls : Calls T F) (new : State T) (g : F) where
  -- an account of `money` pays for the changes along the run, if it holds the potential and the allowance
  account : (asked : List (Command P T I G K)) (told : List (Reply P T A I G)) (old : State T) (f : F) → IsSingle old.tree.shape → AllByRecursion KeepsTree asked
      → (run : Runs r calls old f asked told new g) (money : ℕ) → potential old.tree.shape + allowance_of asked told ≤ money
      → ChangesRanksAlong money old.tree.shape (shapes_along r calls old f asked told new g run)
  account [] [] old f single stays run money enough = tt
  account (command ∷ asked) (reply ∷ told) old f single stays run money enough =
      let mid = run.0 in
      let step = run.2 in
      let paid = within_allowance (effect_of command reply) old.tree.shape mid.tree.shape (not_rebuilt command reply stays.0) single (outcome r old mid.tree calls f command reply run.1 step.does).affects in
      let left = potential mid.tree.shape + allowance_of asked told in
      let rest = account asked told mid run.1 (single_sound r.most r.greatest mid.tree step.lawful step.sound) stays.1 run.3 left (omega arith) in
      (paid.0, left, paid.2, omega (arith, paid.1), rest)
  account [] (reply ∷ told) old f single stays run money enough = absurd run
  account (command ∷ asked) [] old f single stays run money enough = absurd run

pub rank_changes : (P T I G A K : Type 0) {F : Type 0} (calls : Calls T F) → RankChangesLaw P T I G A K calls
rank_changes P T I G A K calls r old new f g asked told lawful sound stays run =
    let t = old.tree in
    let counted : size_of t.shape ≡ length t.list.entries = size_of-walk t.shape ∙ ap length sound.listed ∙ length-map t.list.entries (λ e. e.index) in
    account r calls new g asked told old f (single_sound r.most r.greatest t lawful sound) stays run _ (omega (arith, potential-le-size t.shape, counted))
