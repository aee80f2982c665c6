-- The law of the first rank, as a statement of its own.
use Rattle.std.specs.Prelude.{◌≡◌, List, [], ◌∷◌, None}
use Rattle.triple_ord.specs.{declared.error.OrdInsertionError.TheVariants.AllocError, declared.entry_kind.OrdEntryKind.TheVariants.New}
use Rattle.ord_machine.specs.declared.command.Command.TheVariants as commands
use Rattle.ord_machine.specs.declared.reply.Reply.TheVariants.{Inserted, Refused, Ranks}
use Rattle.ord_machine.specs.{Machine.Reading, Machine.Calls, Machine.State, Machine.Runs, declared.reply.Reply.Reply}

-- The replies to an insertion into an empty arena and to `ranks`: one new entry and its rank 1, unless memory for the ranks is refused;
-- or a failure and no ranks.
abbrev pub AreFirstReplies : {P T I G A : Type 0} → List (Reply P T A I G) → Type 0
AreFirstReplies (Inserted (New p) None ∷ Ranks ranks ∷ []) = ranks.items ≡ 1 ∷ []
AreFirstReplies (Inserted (New p) None ∷ Refused AllocError ∷ []) = Unit {0}
AreFirstReplies (Refused refusal ∷ Ranks ranks ∷ []) = ranks.items ≡ []
AreFirstReplies replies = ⊥

-- a run of these two commands, with any closure, from any empty state, gives such replies
abbrev pub FirstRankLaw : (P T I G A K : Type 0) {F : Type 0} → Calls T F → Type 0
FirstRankLaw P T I G A K {F} calls =
    (r : Reading P T I G K) (old new : State T) (f g : F) (item : T) (replies : List (Reply P T A I G))
    → old.tree.list.entries ≡ []
    → Runs r calls old f (commands.Insert item ∷ commands.Ranks ∷ []) replies new g
    → AreFirstReplies replies
