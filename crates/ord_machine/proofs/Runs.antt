-- A run, step by step.
use Rattle.std.proofs.Common.{◌≡◌, List, [], ◌∷◌, ◌++◌, refl, subst}
use Rattle.triple_ord.specs.Tree.{Tree}
use Rattle.ord_machine.specs.Machine.{Calls, Reading, Marks, State, AreTrue, marks_after, Step, StepsBetween, Runs, RunsBetween}
use Rattle.ord_machine.specs.{declared.command.Command.Command, declared.reply.Reply.Reply}
use Rattle.ord_machine.proofs.Marking.{AreTrue-does}

module _ {P T I G A F K : Type 0} (r : Reading P T I G K) (calls : Calls T F) where
  -- a run of no commands
  pub RunsBetween-none : (t : Tree T) (f : F) (replies : List (Reply P T A I G)) → replies ≡ [] → RunsBetween r calls t f [] replies t f
  RunsBetween-none t f [] none = λ marks holds. (marks, holds, (refl, refl))
  RunsBetween-none t f (q ∷ replies) none = cc

-- a run continues with one step
module _ {P T I G A F K : Type 0} (r : Reading P T I G K) (calls : Calls T F) (command : Command P T I G K)
    (reply : Reply P T A I G) (mid : State T) (between : F) (new : State T) (g : F)
    (step : Step r calls mid between command reply new g) where
  -- from the state `old` and the closure f
  abbrev GoesOn : State T → F → List (Command P T I G K) → List (Reply P T A I G) → Type 0
  GoesOn old f asked told = Runs r calls old f asked told mid between → Runs r calls old f (asked ++ command ∷ []) (told ++ reply ∷ []) new g

  Runs-more : (old : State T) (f : F) (asked : List (Command P T I G K)) (told : List (Reply P T A I G)) → GoesOn old f asked told
  Runs-more old f [] [] run =
      (new, g, subst (λ (s : State T). Step r calls s f command reply new g) run.0 (subst (λ (h : F). Step r calls mid h command reply new g) run.1 step), (refl, refl))
  Runs-more old f (c ∷ asked) (q ∷ told) run = (run.0, run.1, run.2, Runs-more run.0 run.1 asked told run.3)
  Runs-more old f asked told run = absurd run

-- and so does a run between trees
module _ {P T I G A F K : Type 0} (r : Reading P T I G K) (calls : Calls T F) (command : Command P T I G K)
    (reply : Reply P T A I G) (old : Tree T) (f : F) (mid : Tree T) (between : F) (new : Tree T) (g : F)
    (step : StepsBetween r calls mid between command reply new g)
    (asked : List (Command P T I G K)) (told : List (Reply P T A I G)) where
  -- a step between the states that the marks and the trees make
  step_from : (marks : Marks) → AreTrue marks mid.shape
      → Step r calls (record { tree = mid; marks = marks }) between command reply
      (record { tree = new; marks = marks_after command reply new marks }) g
  step_from marks holds = record { does = step.does marks holds; marks = refl; lawful = step.lawful; sound = step.sound }

  pub RunsBetween-more : RunsBetween r calls old f asked told mid between → RunsBetween r calls old f (asked ++ command ∷ []) (told ++ reply ∷ []) new g
  RunsBetween-more so_far marks holds =
      let run = so_far marks holds in (
        marks_after command reply new run.0,
        AreTrue-does r calls (record { tree = mid; marks = run.0 }) between command reply new g step.sound run.1 (step.does run.0 run.1),
        Runs-more r calls command reply _ between _ g (step_from run.0 run.1) (record { tree = old; marks = marks }) f asked told run.2,
      )
