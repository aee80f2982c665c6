-- What pointers name along a run: an entry keeps its pointer while others come and go, and a pointer that has ended stays ended.
use Rattle.std.specs.Prelude.{◌≡◌, ◌≢◌, ℕ, ◌+◌, ◌≤◌, Bool, false, List, ◌∷◌, length, Some, None, IsSome}
use Rattle.std.specs.{List.AllByRecursion, Option.ForSome}
use Rattle.triple_ord.specs.InvalidationResult.TheVariants.{Success, GenerationOverflow}
use Rattle.triple_ord.specs.Chain.{IsSound, entry_at, item_of}
use Rattle.triple_ord.specs.{declared.entry_kind.OrdEntryKind.TheVariants.Replacing}
use Rattle.ord_machine.specs.declared.reply.Reply.TheVariants.{Inserted, Item, Removed, Renewed, Changed, Entries}
use Rattle.ord_machine.specs.{Machine.Reading, Machine.Calls, Machine.State, Machine.Runs, declared.command.Command.Command, declared.reply.Reply.Reply}
use Rattle.ord_machine.specs.declared.command.Command.TheVariants as commands

-- the command resets the generation to the first
abbrev pub resets : {P T I G K : Type 0} → Command P T I G K → Bool
resets (commands.Compress reset) = reset
resets (commands.Canonical reset) = reset
resets command = false

module _ {P T I G A : Type 0} where
  -- how often the generation was raised, by the reply to a call that raises it for each entry, or once
  abbrev pub raises_by : Reply P T A I G → ℕ
  raises_by (Removed (Success taken)) = 1
  raises_by (Removed (GenerationOverflow taken)) = 1
  raises_by (Renewed (Success q)) = 1
  raises_by (Renewed (GenerationOverflow q)) = 1
  raises_by (Changed result) = 1
  raises_by (Entries pairs) = length pairs.items + 1
  raises_by reply = 0

  -- How often a command raises the generation: once for a removal, a renewal or a change of all pointers; for a drain, once for each
  -- entry that it removed and once more for the others.
  abbrev pub raises : {K : Type 0} → Command P T I G K → Reply P T A I G → ℕ
  raises (commands.Remove p) reply = raises_by reply
  raises (commands.RemoveInx i) reply = raises_by reply
  raises (commands.Invalidate p) reply = raises_by reply
  raises commands.Clear reply = raises_by reply
  raises commands.IncGeneration reply = raises_by reply
  raises (commands.Compress reset) reply = raises_by reply
  raises (commands.Canonical reset) reply = raises_by reply
  raises (commands.DrainOrdered num) reply = raises_by reply
  raises command reply = 0

  -- the sum over all commands
  abbrev pub raises_among : {K : Type 0} → List (Command P T I G K) → List (Reply P T A I G) → ℕ
  raises_among (command ∷ commands) (reply ∷ replies) = raises command reply + raises_among commands replies
  raises_among commands replies = 0

-- a part of a run, in which no command resets the generation, and which raises it this often
pub record Part {P T I G K F : Type 0} (A : Type 0) (r : Reading P T I G K) (calls : Calls T F) (old : State T) (f : F) (raised : ℕ) (new : State T) (g : F) : Type 0 where
  pub commands : List (Command P T I G K)
  pub replies : List (Reply P T A I G)
  pub run : Runs r calls old f commands replies new g
  pub never_back : AllByRecursion (λ command. resets command ≡ false) commands
  pub count : raised ≡ raises_among commands replies

-- A run has three parts. At its beginning no entry's generation is above the arena's. The generation is never reset, and all raises
-- together don't go beyond the greatest one. Then a pointer that names an entry after the first part, and none after the second, names
-- none after the third.
abbrev pub EndedPointerLaw : (P T I G A K : Type 0) {F : Type 0} → Calls T F → Type 0
EndedPointerLaw P T I G A K {F} calls =
    (r : Reading P T I G K) (greatest : ℕ) (s0 s1 s2 s3 : State T) (f0 f1 f2 f3 : F) (k l m : ℕ)
    → r.greatest ≡ Some greatest
    → IsSound r.most r.greatest s0.tree.list
    → ((i : ℕ) → ForSome (entry_at s0.tree.list.entries i) (λ e. e.0 ≤ s0.tree.list.generation))
    → Part A r calls s0 f0 k s1 f1 → Part A r calls s1 f1 l s2 f2 → Part A r calls s2 f2 m s3 f3
    → s0.tree.list.generation + k + l + m ≤ greatest
    → (p : ℕ × ℕ) → IsSome (item_of s1.tree.list.entries p) → item_of s2.tree.list.entries p ≡ None
    → item_of s3.tree.list.entries p ≡ None

module _ {P T I G A K : Type 0} (r : Reading P T I G K) (p : ℕ × ℕ) where
  -- an insertion that replaces no item, or the item of an entry with another pointer
  abbrev pub ReplacesAnother : Reply P T A I G → Type 0
  ReplacesAnother (Inserted (Replacing q) before) = r.pointer q ≢ p
  ReplacesAnother reply = Unit {0}

  -- A command that, with its reply, is to other entries than the pointer's: it writes, moves, removes and renews none or another, and it
  -- doesn't remove all entries or give all of them new pointers.
  abbrev pub IsOfOthers : Command P T I G K → Reply P T A I G → Type 0
  IsOfOthers (commands.Insert item) reply = ReplacesAnother reply
  IsOfOthers (commands.InsertWithin item) reply = ReplacesAnother reply
  IsOfOthers (commands.Entry kind item) reply = ReplacesAnother reply
  IsOfOthers (commands.EntryWithin kind item) reply = ReplacesAnother reply
  IsOfOthers (commands.Set q item) reply = r.pointer q ≢ p
  IsOfOthers (commands.Rekey q item) reply = r.pointer q ≢ p
  IsOfOthers (commands.Remove q) reply = r.pointer q ≢ p
  IsOfOthers (commands.RemoveInx i) reply = r.index i ≢ p.0
  IsOfOthers (commands.Invalidate q) reply = r.pointer q ≢ p
  IsOfOthers commands.Clear reply = ⊥
  IsOfOthers (commands.Compress reset) reply = ⊥
  IsOfOthers (commands.Canonical reset) reply = ⊥
  IsOfOthers (commands.DrainOrdered num) reply = ⊥
  IsOfOthers command reply = Unit {0}

  -- the same for all commands of a list
  abbrev pub AreOfOthers : List (Command P T I G K) → List (Reply P T A I G) → Type 0
  AreOfOthers (command ∷ commands) (reply ∷ replies) = IsOfOthers command reply × AreOfOthers commands replies
  AreOfOthers commands replies = Unit {0}

-- A pointer that names an entry names the same item after any run of commands to other entries.
abbrev pub KeptPointerLaw : (P T I G A K : Type 0) {F : Type 0} → Calls T F → Type 0
KeptPointerLaw P T I G A K {F} calls =
    (r : Reading P T I G K) (old new : State T) (f g : F) (asked : List (Command P T I G K)) (told : List (Reply P T A I G)) (p : ℕ × ℕ)
    → IsSound r.most r.greatest old.tree.list → AreOfOthers r p asked told → Runs r calls old f asked told new g
    → IsSome (item_of old.tree.list.entries p) → item_of new.tree.list.entries p ≡ item_of old.tree.list.entries p

-- A rekeyed entry keeps its pointer. Directly afterwards, and after any commands to other entries, the pointer names the new item.
abbrev pub RekeyedPointerLaw : (P T I G A K : Type 0) {F : Type 0} → Calls T F → Type 0
RekeyedPointerLaw P T I G A K {F} calls =
    (r : Reading P T I G K) (old new : State T) (f g : F) (p : P) (item before : T)
    (asked : List (Command P T I G K)) (told : List (Reply P T A I G))
    → IsSound r.most r.greatest old.tree.list → AreOfOthers r (r.pointer p) asked told
    → Runs r calls old f (commands.Rekey p item ∷ asked) (Item (Some before) ∷ told) new g
    → item_of new.tree.list.entries (r.pointer p) ≡ Some item
