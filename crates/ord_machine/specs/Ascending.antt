-- When keys stay distinct along a run.
use Rattle.std.specs.{Prelude.◌≡◌, Prelude.List, Prelude.[], Prelude.map, declared.cmp.Ordering.TheVariants.Equal, List.AllByRecursion}
use Rattle.std.specs.{List.Sorted.IsStrictlySortedBy, Cmp.IsTotalOrder}
use Rattle.triple_ord.specs.declared.insert_kind.OrdInsertKind.TheVariants.{Normal, Linear}
use Rattle.triple_ord.specs.{declared.insert_kind.OrdInsertKind.OrdInsertKind}
use Rattle.ord_machine.specs.{Machine.Reading, Machine.Calls, Machine.State, Machine.Runs, declared.command.Command.Command, declared.reply.Reply.Reply}
use Rattle.ord_machine.specs.declared.command.Command.TheVariants as commands

module _ {P T I G K : Type 0} (r : Reading P T I G K) where
  -- an item replaces that of an entry with an equal key, if there is one, and has an equal key itself
  abbrev pub IsPlacedByKey : OrdInsertKind P K I G → T → Type 0
  IsPlacedByKey (Normal k) item = r.cmp k (r.key item) ≡ Equal
  IsPlacedByKey (Linear i num k) item = r.cmp k (r.key item) ≡ Equal
  IsPlacedByKey kind item = ⊥

  -- A command that gives no two entries equal keys, and swaps no two: any except `Set`, `Rekey` and an insertion by another kind.
  abbrev pub KeepsApart : Command P T I G K → Type 0
  KeepsApart (commands.Entry kind item) = IsPlacedByKey kind item
  KeepsApart (commands.EntryWithin kind item) = IsPlacedByKey kind item
  KeepsApart (commands.Set p item) = ⊥
  -- the entry may move behind one with an equal key
  KeepsApart (commands.Rekey p item) = ⊥
  KeepsApart command = Unit {0}

-- After a run of such commands from an empty state, each key is less than those after it.
abbrev pub AscendingKeysLaw : (P T I G A K : Type 0) {F : Type 0} → Calls T F → Type 0
AscendingKeysLaw P T I G A K {F} calls =
    (r : Reading P T I G K) (old new : State T) (f g : F) (asked : List (Command P T I G K)) (told : List (Reply P T A I G))
    → IsTotalOrder r.cmp → old.tree.list.entries ≡ []
    → AllByRecursion (KeepsApart r) asked → Runs r calls old f asked told new g
    → IsStrictlySortedBy r.cmp (map (λ e. r.key e.item) new.tree.list.entries)
