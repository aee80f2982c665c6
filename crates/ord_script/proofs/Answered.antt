-- The replies of a script's run from the beginning.
use Rattle.std.proofs.Common.{◌≡◌, ℕ, List, Result, Ok, Err, IfOk, Bor, subst}
use Rattle.std.specs.{declared.cmp.Ordering.TheVariants.Equal, declared.cmp.Ordering.Ordering}
use Rattle.ord_machine.specs.Tree.{Tree}
use Rattle.ord_machine.specs.ClosureSearch.{Asks}
use Rattle.ord_machine.specs.Machine.{calls_by, State, Runs, RunsBetween}
use Rattle.ord_script.specs.Pairs.{Pair, Pointer, PairCommand, PairReply, reading, beginning, script_calls}
use Rattle.ord_machine.proofs.CallerLemmas.{AreTrue-missing, Runs-like}

-- A run of a script from the beginning, with a closure that always answers `Equal`.
module _ {A F : Type 0} (pointer_of : Pointer → ℕ × ℕ) (step : F → Pointer → Bor Pair → Ordering → F → Type 0)
    (equal : (f : F) (p : Pointer) (pair : Bor Pair) (o : Ordering) (g : F) → step f p pair o g → o ≡ Equal) (commands : List PairCommand)
    (old : Tree Pair) (f : F) (new : Tree Pair) (g : F) (empty : old ≡ beginning.tree)
    (is_infallible : Pair → Type 0) (always : (pair : Pair) → is_infallible pair) where
  -- these are the replies of a run of the commands
  abbrev IsRun : List (PairReply A) → Type 0
  IsRun replies = (end : State Pair) × Runs reading script_calls beginning tt commands replies end tt

  -- and of one between these trees and closures
  abbrev RunsThere : List (PairReply A) → Type 0
  RunsThere replies = RunsBetween reading (calls_by (Asks pointer_of step) is_infallible) old f commands replies new g

  from_beginning : (replies : List (PairReply A)) → RunsThere replies → IsRun replies
  from_beginning replies between =
      let run = subst (λ (t : Tree Pair). RunsBetween reading (calls_by (Asks pointer_of step) is_infallible) t f commands replies new g) empty between
      beginning.marks (AreTrue-missing beginning.marks) in (
        record { tree = new; marks = run.0 },
        Runs-like reading (calls_by (Asks pointer_of step) is_infallible) script_calls (λ q. tt)
            (λ q s h asked. equal q asked.named asked.item s.1 h asked.called) (λ pair _. always pair) beginning f commands replies
            (record { tree = new; marks = run.0 }) g run.2,
      )

  -- the same for the result of a call
  pub answered : {V E : Type 0} (result : Result V E) (replies : V → List (PairReply A))
      → IfOk result (λ v. RunsThere (replies v)) → IfOk result (λ v. IsRun (replies v))
  answered (Ok v) replies between = from_beginning (replies v) between
  answered (Err e) replies between = tt
