-- Batches of lines: which answers were written, and what a crash leaves.
use Rattle.std.specs.Prelude.{◌≡◌, ◌⊎◌, ℕ, List, [], ◌∷◌, ◌++◌, Bool, true, false, Option, Some, None}
use Rattle.std.specs.Io.{StartsWith}
use Rattle.std.specs.Io.KnownBytes.{Appends}
use Rattle.sqlite_trees.specs.Tree.{Trees}
use Rattle.sqlite_trees.specs.View.{IsClean}
use Rattle.sqlite_trees.specs.declared.store.Store as trees
use Rattle.agenda_store.specs.Plan.{Plan}
use Rattle.agenda_store.specs.Table.{TreesStandFor, rows_of}
use Rattle.agenda_store.specs.Store.{Store}
use Rattle.agenda_store.specs.Requests.{IsSettled}
use Rattle.line_service.specs.declared.style.Style.{Style}
use Rattle.jobs.specs.Answer.{Answers, IsRefused}
use Rattle.jobs.specs.declared.command.Command.{Command}

-- a line that was answered: its command, if it spells one, its answer, and the plan after it
pub record Step : Type 0 where
  pub command : Option Command
  pub text : List ℕ
  pub plan : Plan

-- an answer with the empty line behind it that a frame is
abbrev pub framed : Bool → List ℕ → List ℕ
framed false text = text
framed true text = text ++ 10 ∷ []

-- A line that spells no command is refused.
abbrev pub AnswersCommand : Style → Option Command → Plan → Plan → List ℕ → Type 0
AnswersCommand style None old new text = IsRefused style.is_json old new text
AnswersCommand style (Some command) old new text = Answers style command old new text

-- A line was answered, in a frame if the style has frames.
pub record AnswersLine (style : Style) (command : Option Command) (old new : Plan) (text : List ℕ) : Type 0 where
  pub answer : List ℕ
  pub answers : AnswersCommand style command old new answer
  pub is : text ≡ framed style.is_framed answer

-- The lines were answered one after the other, from a plan on.
abbrev pub AreAnswered : Style → Plan → List Step → Type 0
AreAnswered style plan [] = Unit {0}
AreAnswered style plan (step ∷ steps) = AnswersLine style step.command plan step.plan step.text × AreAnswered style step.plan steps

-- the answers to lines
abbrev pub texts_of : List Step → List ℕ
texts_of [] = []
texts_of (step ∷ steps) = step.text ++ texts_of steps

-- the plan after lines
abbrev pub plan_after : Plan → List Step → Plan
plan_after plan [] = plan
plan_after plan (step ∷ steps) = plan_after step.plan steps

module _ {S : Type 0} (g : trees.Ghosts S) (style : Style) where
  -- What was written are the answers to the lines of `told`, or a beginning of these answers. A crash leaves the plan after these lines, or that after those
  -- of one more batch, `flying`.
  pub record Serves (first last : Store S) (unwritten written : Option (List ℕ)) : Type 0 where
    pub told : List Step
    pub flying : List Step
    pub answered : AreAnswered style first.plan (told ++ flying)
    pub text : List ℕ
    pub writes : Appends unwritten written text
    pub front : StartsWith (texts_of told) text
    pub lasts : IsClean (g.view (rows_of last.table)) → IsSettled g first → (trees : Trees) → g.recovers (rows_of last.table) trees
        → TreesStandFor trees (plan_after first.plan told) ⊎ TreesStandFor trees (plan_after first.plan (told ++ flying))

  -- All answers were written, and a crash leaves the plan after all lines.
  pub record ServesAll (first last : Store S) (unwritten written : Option (List ℕ)) : Type 0 where
    pub told : List Step
    pub answered : AreAnswered style first.plan told
    pub writes : Appends unwritten written (texts_of told)
    pub lasts : IsClean (g.view (rows_of last.table)) → IsSettled g first → (trees : Trees) → g.recovers (rows_of last.table) trees
        → TreesStandFor trees (plan_after first.plan told)

-- A line was answered: what it made of the plan and of the answers.
pub record TakesLine (style : Style) (old new : Plan) (before after : List ℕ) : Type 0 where
  pub command : Option Command
  pub text : List ℕ
  pub answers : AnswersLine style command old new text
  pub is : after ≡ before ++ text

-- some of the bytes were written, from the first on
pub record WritesFront (unwritten written : Option (List ℕ)) (bytes : List ℕ) : Type 0 where
  pub text : List ℕ
  pub writes : Appends unwritten written text
  pub front : StartsWith bytes text
