-- The script of two lines, an insertion and `ranks`, from its bytes to the bytes of its answers.
use Rattle.std.proofs.Common.{◌≡◌, ℕ, pos, List, [], ◌∷◌, Contains, codes, Some, None, refl, sym, ◌∙◌, subst, arith, append-nil}
use Rattle.std.proofs.lemmas.Fmt.{decimal_digit}
use Rattle.ord_machine.specs.OrdInsertionError.TheVariants.{FailedOrdRequirement, NotWithinCapacity, BeyondMaxCapacity, AllocError}
use Rattle.ord_machine.specs.{OrdEntryKind.TheVariants.New, Growth.TheVariants.Reallocating, Insertion.InsertsNew, Place.at_key}
use Rattle.ord_machine.specs.Tree.{Tree}
use Rattle.ord_machine.specs.declared.command.Command.TheVariants as commands
use Rattle.ord_machine.specs.declared.reply.Reply.TheVariants.{Inserted, Refused, Ranks}
use Rattle.ord_machine.specs.{Machine.State, Machine.Inserts, Machine.Runs, Laws.AreFirstReplies}
use Rattle.ord_script.specs.Pairs.{Pair, Pointer, PairCommand, PairReply, reading, beginning, script_calls}
use Rattle.ord_script.specs.{Laws.FirstRankTextLaw, Laws.first_answers, declared.form.Form.TheVariants.Plain, declared.form.Form.Form}
use Rattle.ord_script.specs.{Script.Script, Script.script_of, Arguments.arguments_in, Text.reply_lines, Service.Answers}
use Rattle.ord_machine.proofs.CallerLemmas.{first_rank}

-- the script as read
two_lines : script_of (codes "insert 5 1\nranks\n") ≡ record { commands = commands.Insert (pos 5, 1) ∷ commands.Ranks ∷ []; fault = None }
unfolding arguments_in
two_lines = refl

-- the pointer of the first entry
module _ (item : Pair) (p : Pointer) (new : Tree Pair) where
  first_pointer : InsertsNew reading.key reading.cmp reading.most Reallocating (at_key (reading.key item)) beginning.tree item (reading.pointer p) new
      → (p.0 ≡ 1) × (p.1 ≡ 2)
  first_pointer inserts =
      let next : Some 1 ≡ Some p.0 = inserts.inserted.next in
      let index : 1 ≡ p.0 = cc in
      (sym index, inserts.inserted.generation)

-- the forms of their replies, and the commands
abbrev both_forms : List Form
both_forms = Plain ∷ Plain ∷ []

abbrev both_commands : List PairCommand
both_commands = commands.Insert (pos 5, 1) ∷ commands.Ranks ∷ []

module _ {A : Type 0} where
  -- the effect of the insertion
  abbrev InsertsFirst : Pair → PairReply A → Tree Pair → Type 0
  InsertsFirst item reply new = Inserts reading.key reading.cmp reading.most Reallocating (at_key (reading.key item)) reading.pointer beginning.tree item reply new

  -- the lines of these replies are one of the answers
  abbrev AreAnswer : List (PairReply A) → Type 0
  AreAnswer replies = Contains first_answers (reply_lines both_forms replies)

  -- the lines of both replies
  first_lines : (item : Pair) (first second : PairReply A) (new : Tree Pair) → InsertsFirst item first new → AreFirstReplies (first ∷ second ∷ []) → AreAnswer (first ∷ second ∷ [])
  first_lines item (Inserted (New p) None) (Ranks ranks) new inserts replies =
      let is = first_pointer item p new inserts in
      (0, omega arith, sym (rw (is.0, is.1, replies, decimal_digit 1 (omega arith), decimal_digit 2 (omega arith)) refl))
  first_lines item (Inserted (New p) None) (Refused AllocError) new inserts replies =
      let is = first_pointer item p new inserts in
      (1, omega arith, sym (rw (is.0, is.1, decimal_digit 1 (omega arith), decimal_digit 2 (omega arith)) refl))
  first_lines item (Refused AllocError) (Ranks ranks) new inserts replies = (2, omega arith, sym (rw replies refl))
  first_lines item (Refused BeyondMaxCapacity) second new inserts replies = absurd (omega (arith, inserts.refused.2))
  first_lines item (Refused FailedOrdRequirement) second new inserts replies = absurd inserts.refused
  first_lines item (Refused NotWithinCapacity) second new inserts replies = absurd inserts.refused.2
  first_lines item first second new inserts replies = absurd replies

  -- the lines of all replies
  answer_lines : (replies : List (PairReply A)) (end : State Pair) → Runs reading script_calls beginning tt both_commands replies end tt → AreAnswer replies
  answer_lines [] end run = absurd run
  answer_lines (first ∷ []) end run = absurd run.3
  answer_lines (first ∷ second ∷ []) end run =
      let step = run.2 in
      first_lines (pos 5, 1) first second run.0.tree step.does.0 (first_rank _ _ _ _ _ _ script_calls reading beginning end tt tt (pos 5, 1) (first ∷ second ∷ []) refl run)
  answer_lines (first ∷ second ∷ third ∷ replies) end run = absurd run.3.3

  answer_text : (text : List ℕ) → Answers A (record { commands = both_commands; fault = None }) text → Contains first_answers text
  answer_text text answers =
      subst (λ (t : List ℕ). Contains first_answers t) (sym (answers.lines ∙ append-nil _)) (answer_lines answers.replies answers.end answers.run)

pub first_rank_text : (A : Type 0) → FirstRankTextLaw A
first_rank_text A text answers = answer_text text (subst (λ (script : Script). Answers A script text) two_lines answers)
