-- The lines of the answer to a script.
use Rattle.std.specs.Prelude.{◌≡◌, Result, OnOk, String, string_bytes, ℕ, Bool, true, false, List, [], ◌∷◌, ◌++◌, Option, Some, None, codes, decimal, flat_map}
use Rattle.std.specs.declared.cmp.Ordering.TheVariants.{Less, Equal, Greater}
use Rattle.std.specs.{declared.cmp.Ordering.Ordering, Fmt.signed_decimal}
use Rattle.ord_machine.specs.InvalidationResult.TheVariants.{Success, GenerationOverflow, InvalidPtr}
use Rattle.ord_machine.specs.{InvalidationResult.InvalidationResult, Invalidation.is_overflow}
use Rattle.ord_machine.specs.OrdInsertionError.TheVariants.{FailedOrdRequirement, NotWithinCapacity, BeyondMaxCapacity, AllocError}
use Rattle.ord_machine.specs.OrdEntryKind.TheVariants.{New, Replacing}
use Rattle.ord_machine.specs.{OrdInsertionError.OrdInsertionError, OrdEntryKind.OrdEntryKind}
use Rattle.ord_machine.specs.declared.command.Command.TheVariants as commands
use Rattle.ord_script.specs.declared.form.Form.TheVariants.{Plain, Replaced, WithPointer, Cleared, Drained}
use Rattle.ord_script.specs.declared.fault.FaultKind.TheVariants.{UnknownCommand, WrongArguments, BadNumber}
use Rattle.ord_script.specs.{Pairs.Pair, Pairs.Pointer, Pairs.PairCommand, Pairs.PairReply, declared.fault.FaultKind.FaultKind}
use Rattle.ord_script.specs.{declared.fault.Fault.Fault, declared.form.Form.Form}
use Rattle.ord_machine.specs.declared.reply.Reply.TheVariants.{Inserted, Refused, Found, Similar, Count, Item, Removed, Renewed, Changed, At, Links, Entries, Ranks, Done, ReductionRefused, Sorted, Stats}

-- an index and a generation, as 1.2
abbrev pub pointer_text : Pointer → List ℕ
pointer_text p = decimal p.0 ++ codes "." ++ decimal p.1

-- a key and a value, as -50:1
abbrev pub pair_text : Pair → List ℕ
pair_text pair = signed_decimal pair.0 ++ codes ":" ++ decimal pair.1

-- an entry, as 1.2=-50:1
abbrev pub entry_text : Pointer × Pair → List ℕ
entry_text entry = pointer_text entry.0 ++ codes "=" ++ pair_text entry.1

-- the index of a neighbour, or - for none
abbrev pub neighbour_text : Option ℕ → List ℕ
neighbour_text (Some index) = decimal index
neighbour_text None = codes "-"

-- a maximum, or none
abbrev pub maximum_text : Option ℕ → List ℕ
maximum_text (Some maximum) = decimal maximum
maximum_text None = codes "none"

-- why a command failed
abbrev pub refusal_text : OrdInsertionError → List ℕ
refusal_text FailedOrdRequirement = codes "order"
refusal_text NotWithinCapacity = codes "capacity"
refusal_text BeyondMaxCapacity = codes "maximum"
refusal_text AllocError = codes "memory"

-- text was added: if that succeeded, these bytes follow the old ones
abbrev pub Adds : {A E : Type 0} → Result (Unit {0}) E → String A → String A → List ℕ → Type 0
Adds result old new bytes = OnOk result (string_bytes new ≡ string_bytes old ++ bytes)

-- the form of the reply to a command
abbrev pub form_of : PairCommand → Form
form_of (commands.Set p item) = Replaced
form_of (commands.Rekey p item) = Replaced
form_of (commands.RemoveInx i) = WithPointer
form_of commands.Clear = Cleared
form_of (commands.DrainOrdered num) = Drained
form_of command = Plain

-- the item that an entry had before, if there was one
abbrev pub before_text : Option Pair → List ℕ
before_text (Some pair) = codes " " ++ pair_text pair
before_text None = []

-- the pointer of a new entry, or of one whose item was replaced
abbrev pub insertion_text : OrdEntryKind Pointer → Option Pair → List ℕ
insertion_text (New p) before = codes "new " ++ pointer_text p ++ before_text before
insertion_text (Replacing p) before = codes "replaced " ++ pointer_text p ++ before_text before

-- the pointer of an entry, if there is one
abbrev pub optional_pointer_text : Option Pointer → List ℕ
optional_pointer_text (Some p) = codes "at " ++ pointer_text p
optional_pointer_text None = codes "none"

-- how a key compares to an entry's
abbrev pub order_text : Ordering → List ℕ
order_text Less = codes "less"
order_text Equal = codes "equal"
order_text Greater = codes "greater"

-- the pointer of a similar entry and the order, if there is one
abbrev pub similar_text : Option (Pointer × Ordering) → List ℕ
similar_text (Some a) = codes "similar " ++ pointer_text a.0 ++ codes " " ++ order_text a.1
similar_text None = codes "none"

-- an item, or one that was replaced, if there is one
abbrev pub item_word : Form → List ℕ
item_word Replaced = codes "old"
item_word form = codes "item"

abbrev pub item_text : List ℕ → Option Pair → List ℕ
item_text word (Some pair) = word ++ codes " " ++ pair_text pair
item_text word None = codes "none"

-- an overflow of the generations, if there was one
abbrev pub overflow_text : Bool → List ℕ
overflow_text true = codes " overflow"
overflow_text false = []

-- the removed item of a pointer, or of an index
abbrev pub taken_text : Form → Pointer × Pair → List ℕ
taken_text WithPointer taken = pointer_text taken.0 ++ codes " " ++ pair_text taken.1
taken_text form taken = pair_text taken.1

-- the result for a valid pointer or index, or that it is invalid
abbrev pub valid_text : {X : Type 0} → (X → List ℕ) → InvalidationResult X → List ℕ
valid_text shown (Success x) = shown x ++ overflow_text false
valid_text shown (GenerationOverflow x) = shown x ++ overflow_text true
valid_text shown InvalidPtr = codes "invalid"

-- a change of all entries
abbrev pub change_word : Form → List ℕ
change_word Cleared = codes "cleared"
change_word form = codes "ok"

-- both neighbours of an entry, if there is one
abbrev pub links_text : Option (Option ℕ × Option ℕ) → List ℕ
links_text (Some both) = codes "neighbours " ++ neighbour_text both.0 ++ codes " " ++ neighbour_text both.1
links_text None = codes "none"

-- the entries of the arena, or the removed ones
abbrev pub entries_word : Form → List ℕ
entries_word Drained = codes "drained"
entries_word form = codes "list"

-- whether the keys are in order
abbrev pub sorted_text : Bool → List ℕ
sorted_text true = codes "ok"
sorted_text false = codes "incorrect ordering"

-- the numbers of the arena
abbrev pub stats_text : ℕ → ℕ → ℕ → Option ℕ → List ℕ
stats_text len capacity generation maximum =
    codes "len " ++ decimal len ++ codes " capacity " ++ decimal capacity ++ codes " generation " ++ decimal generation
    ++ codes " max " ++ maximum_text maximum

-- the text of a reply
abbrev pub reply_text : {A : Type 0} → Form → PairReply A → List ℕ
reply_text form (Inserted kind before) = insertion_text kind before
reply_text form (Refused refusal) = codes "refused " ++ refusal_text refusal
reply_text form (Found found visits) = optional_pointer_text found
reply_text form (Similar found visits) = similar_text found
reply_text form (Count visits) = codes "visits " ++ decimal visits
reply_text form (Item item) = item_text (item_word form) item
reply_text form (Removed result) = valid_text (λ taken. codes "removed " ++ taken_text form taken) result
reply_text form (Renewed result) = valid_text (λ p. codes "now " ++ pointer_text p) result
reply_text form (Changed result) = change_word form ++ overflow_text (is_overflow result)
reply_text form (At p) = optional_pointer_text p
reply_text form (Links links) = links_text links
reply_text form (Entries entries) = entries_word form ++ flat_map (λ e. codes " " ++ entry_text e) entries.items
reply_text form (Ranks ranks) = codes "ranks" ++ flat_map (λ k. codes " " ++ decimal k) ranks.items
reply_text form Done = codes "ok"
reply_text form ReductionRefused = codes "refused reduction"
reply_text form (Sorted sorted) = sorted_text sorted
reply_text form (Stats len capacity generation maximum) = stats_text len capacity generation maximum

-- a line for each reply
abbrev pub reply_lines : {A : Type 0} → List Form → List (PairReply A) → List ℕ
reply_lines (form ∷ forms) (reply ∷ replies) = reply_text form reply ++ 10 ∷ reply_lines forms replies
reply_lines forms replies = []

-- what is wrong with a line
abbrev pub kind_text : FaultKind → List ℕ
kind_text UnknownCommand = codes "unknown command"
kind_text WrongArguments = codes "wrong arguments"
kind_text BadNumber = codes "bad number"

abbrev pub fault_text : Fault → List ℕ
fault_text fault = codes "line " ++ decimal fault.line ++ codes ": " ++ kind_text fault.kind

-- the line of the fault, if any
abbrev pub fault_line : Option Fault → List ℕ
fault_line None = []
fault_line (Some fault) = fault_text fault ++ 10 ∷ []
