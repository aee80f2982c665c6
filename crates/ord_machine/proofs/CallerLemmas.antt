-- Lemmas on public definitions, for this crate and those above.
use Rattle.std.proofs.Common.{ℕ, List, [], ◌∷◌, Option, Some, None, IsSomeAnd, refl, ap, arith}
use Rattle.triple_ord.specs.{Half.IsRebuilt, Shape.missing, Tree.Tree}
use Rattle.std.specs.List.{FoldsTo}
use Rattle.triple_ord.specs.Chain.{Entry, item_of}
use Rattle.triple_ord.specs.ClosureSearch.{Shown, Searches}
use Rattle.ord_machine.specs.Machine.{Calls, Reading, Marks, State, AreTrue, AnswersWith, AnswersSimilarWith, Gets, Does, Runs}
use Rattle.ord_machine.specs.{declared.reply.Reply.TheVariants.Found, declared.reply.Reply.TheVariants.Similar, declared.reply.Reply.Reply}
use Rattle.ord_machine.specs.{declared.reply.Reply.TheVariants.Item, declared.reply.Reply.TheVariants.Refused}
use Rattle.triple_ord.specs.declared.error.OrdInsertionError.TheVariants.{AllocError}
use Rattle.ord_machine.specs.declared.command.Command.{Command}
use Rattle.ord_machine.specs.declared.command.Command.TheVariants as commands
-- the first rank by the public definitions
pub use Rattle.ord_machine.proofs.FirstRank.{first_rank}

-- the empty shape is rebuilt
rebuilt_missing : IsRebuilt missing
rebuilt_missing = (1, (0, refl, (omega arith, λ j less. absurd (omega (arith, less)))), tt)

-- so all marks are true of it
pub AreTrue-missing : (marks : Marks) → AreTrue marks missing
AreTrue-missing marks = record { only_inserted = λ _. tt; just_built = λ _. rebuilt_missing }

-- A run with one closure is a run with another one whose calls may do the same in each state, if the first one's infallible items include
-- the other's.
module _ {T F H : Type 0} (asks : F → Shown T → F → Type 0) (asks' : H → Shown T → H → Type 0) (at : F → H)
    (like : (f : F) (s : Shown T) (g : F) → asks f s g → asks' (at f) s (at g)) where
  calls-like : (f : F) (shown : List (Shown T)) (g : F) → FoldsTo asks f shown g → FoldsTo asks' (at f) shown (at g)
  calls-like f [] g calls = ap at calls
  calls-like f (s ∷ shown) g calls = (at calls.0, like f s calls.0 calls.1, calls-like calls.0 shown g calls.2)

  searches-like : (entries : List (Entry T)) (f g : F) (last : Option (Shown T)) (c : ℕ) → Searches asks entries f g last c → Searches asks' entries (at f) (at g) last c
  searches-like entries f g last c n = record { shown = n.shown; calls = calls-like f n.shown g n.calls; search = n.search; last_is = n.last_is; count = n.count }

-- an item whose clone may fail, and still may if fewer clones are infallible
may_fail : {T : Type 0} (one other : T → Type 0) → ((x : T) → other x → one x) → (item : Option T)
    → IsSomeAnd item (λ x. one x → ⊥) → IsSomeAnd item (λ x. other x → ⊥)
may_fail one other clones None fails = absurd fails
may_fail one other clones (Some x) fails = λ always. fails (clones x always)

module _ {P T I G A F H K : Type 0} (r : Reading P T I G K) (calls : Calls T F) (calls' : Calls T H)
    (at : F → H) (like : (f : F) (s : Shown T) (g : F) → calls.asks f s g → calls'.asks (at f) s (at g))
    (clones : (x : T) → calls'.is_infallible x → calls.is_infallible x) where
  answers-like : (s : State T) (f : F) (reply : Reply P T A I G) (g : F) → AnswersWith calls.asks r.pointer s f reply g → AnswersWith calls'.asks r.pointer s (at f) reply (at g)
  answers-like s f (Found p c) g answers = ((answers.0.0, searches-like calls.asks calls'.asks at like s.tree.list.entries f g answers.0.0 c answers.0.1, answers.0.2), answers.1)
  answers-like s f reply g answers = absurd answers

  similar-like : (s : State T) (f : F) (reply : Reply P T A I G) (g : F) → AnswersSimilarWith calls.asks r.pointer s f reply g → AnswersSimilarWith calls'.asks r.pointer s (at f) reply (at g)
  similar-like s f (Similar a c) g answers =
      ((answers.0.0, searches-like calls.asks calls'.asks at like s.tree.list.entries f g answers.0.0 c answers.0.1, answers.0.2, answers.0.3), answers.1)
  similar-like s f reply g answers = absurd answers

  gets-like : (s : State T) (p : P) (reply : Reply P T A I G)
      → Gets calls.is_infallible r.pointer s.tree p reply → Gets calls'.is_infallible r.pointer s.tree p reply
  gets-like s p (Item item) gets = gets
  gets-like s p (Refused AllocError) gets = may_fail calls.is_infallible calls'.is_infallible clones (item_of s.tree.list.entries (r.pointer p)) gets
  gets-like s p reply gets = absurd gets

  does-like : (old : State T) (f g : F) (command : Command P T I G K) (reply : Reply P T A I G) (new : Tree T)
      → Does r calls old f command reply new g → Does r calls' old (at f) command reply new (at g)
  does-like old f g commands.FindWith reply new does = (answers-like old f reply g does.0, does.1)
  does-like old f g commands.SimilarWith reply new does = (similar-like old f reply g does.0, does.1)
  does-like old f g (commands.Get p) reply new does = ((gets-like old p reply does.0.0, does.0.1), ap at does.1)
  does-like old f g command reply new does = (does.0, ap at does.1)

  -- a run by the first closure is one by the second
  abbrev AreLike : State T → F → List (Command P T I G K) → List (Reply P T A I G) → State T → F → Type 0
  AreLike old f asked told new g = Runs r calls old f asked told new g → Runs r calls' old (at f) asked told new (at g)

  pub Runs-like : (old : State T) (f : F) (asked : List (Command P T I G K)) (told : List (Reply P T A I G)) (new : State T) (g : F)
      → AreLike old f asked told new g
  Runs-like old f [] [] new g run = (run.0, ap at run.1)
  Runs-like old f (c ∷ commands) (q ∷ replies) new g run =
      let step = run.2 in
      (run.0, at run.1, record { does = does-like old f run.1 c q run.0.tree step.does; marks = step.marks; lawful = step.lawful; sound = step.sound }, Runs-like run.0 run.1 commands replies new g run.3)
  Runs-like old f commands replies new g run = absurd run
