-- When keys stay in order along a run.
use Rattle.std.specs.{Prelude.◌≡◌, Prelude.List, declared.cmp.Ordering.TheVariants.Equal, List.AllByRecursion, Cmp.IsTotalOrder}
use Rattle.triple_ord.specs.Chain.{IsSound}
use Rattle.triple_ord.specs.declared.insert_kind.OrdInsertKind.TheVariants.{Normal, Nonhereditary, Linear, NonhereditaryLinear}
use Rattle.triple_ord.specs.{declared.insert_kind.OrdInsertKind.OrdInsertKind, Order.IsInOrder}
use Rattle.ord_machine.specs.{Machine.Reading, Machine.Calls, Machine.State, Machine.Runs, declared.command.Command.Command, declared.reply.Reply.Reply}
use Rattle.ord_machine.specs.declared.command.Command.TheVariants as commands

module _ {P T I G K : Type 0} (r : Reading P T I G K) where
  -- an item goes to the place of an entry with an equal key, or behind those with an equal key, and has an equal key itself
  abbrev pub GoesByEqualKey : OrdInsertKind P K I G → T → Type 0
  GoesByEqualKey (Normal k) item = r.cmp k (r.key item) ≡ Equal
  GoesByEqualKey (Nonhereditary k) item = r.cmp k (r.key item) ≡ Equal
  GoesByEqualKey (Linear i num k) item = r.cmp k (r.key item) ≡ Equal
  GoesByEqualKey (NonhereditaryLinear i num k) item = r.cmp k (r.key item) ≡ Equal
  GoesByEqualKey kind item = ⊥

  -- a command that keeps keys in order: any except `Set` and an insertion whose place isn't that of its item's key
  abbrev pub KeepsInOrder : Command P T I G K → Type 0
  KeepsInOrder (commands.Entry kind item) = GoesByEqualKey kind item
  KeepsInOrder (commands.EntryWithin kind item) = GoesByEqualKey kind item
  KeepsInOrder (commands.Set p item) = ⊥
  KeepsInOrder command = Unit {0}

-- After a run of such commands from a state whose keys are in order, the keys are in order.
abbrev pub OrderedKeysLaw : (P T I G A K : Type 0) {F : Type 0} → Calls T F → Type 0
OrderedKeysLaw P T I G A K {F} calls =
    (r : Reading P T I G K) (old new : State T) (f g : F) (asked : List (Command P T I G K)) (told : List (Reply P T A I G))
    → IsTotalOrder r.cmp → IsSound r.most r.greatest old.tree.list → IsInOrder r.key r.cmp old.tree.list.entries
    → AllByRecursion (KeepsInOrder r) asked → Runs r calls old f asked told new g
    → IsInOrder r.key r.cmp new.tree.list.entries
