-- What contracts see of an entry of an insertion.
use Rattle.std.specs.declared.{alloc.Allocator.Ghosts as AllocatorGhosts, cmp.PartialEq.Ghosts as PartialEqGhosts}
use Rattle.std.specs.{Borrow.GName, Borrow.Fml, Borrow.RattleType, Borrow.MutBor, Borrow.RestsIfErr, Prelude.◌≡◌, Prelude.ℕ, Prelude.List, Prelude.Result, Prelude.IfOk, Prelude.IfErr, declared.cmp.Ordering.Ordering}
use Rattle.ord_tree.specs.{BasePtr.Ghosts as PtrGhosts, BasePtrGen.Ghosts as PtrGenGhosts, BasePtrInx.Ghosts as PtrInxGhosts, Chain.Entry, Chain.IsDistinct, Tree.Tree}
use Rattle.ord_tree.specs.Tree.{put_at}
use Rattle.triple_ord.specs.{Arena.count, Arena.FindSame, Entry.IsEntryFor, Insertion.IsRefused, Place.aim_of}
use Rattle.triple_ord.specs.{declared.error.OrdInsertionError.OrdInsertionError, declared.growth.Growth.Growth, declared.insert_kind.OrdInsertKind.OrdInsertKind}
use Rattle.triple_ord.specs.{declared.arena.insert_entry.SimpleOrdArenaInsertEntry.SimpleOrdArenaInsertEntry, declared.entry_kind.OrdEntryKind.OrdEntryKind, contracts.arena.SimpleOrdArena.the_row}

module _ {P T A Inx Gen : Type 0}
    {ptr : PtrGhosts P Inx Gen} {ptr_eq : PartialEqGhosts P}
    {inx : PtrInxGhosts Inx} {inx_eq : PartialEqGhosts Inx}
    {gen : PtrGenGhosts Gen} {gen_eq : PartialEqGhosts Gen} where
  -- the arena in its current state
  abbrev pub entry_arena : SimpleOrdArenaInsertEntry P T A Inx Gen ptr ptr_eq inx inx_eq gen gen_eq → Tree T
  entry_arena e = e.arena.now

  -- the ghost name of the reference to the arena
  abbrev pub entry_lender : SimpleOrdArenaInsertEntry P T A Inx Gen ptr ptr_eq inx inx_eq gen gen_eq → GName
  entry_lender e = e.arena.ghost_name

  -- the pointer that the entry shows, and whether the entry is new
  abbrev pub entry_shown : SimpleOrdArenaInsertEntry P T A Inx Gen ptr ptr_eq inx inx_eq gen gen_eq → OrdEntryKind P
  entry_shown e = e.prepared.shown

  -- the list with a new entry at its place
  abbrev pub entry_put : (P → ℕ × ℕ) → SimpleOrdArenaInsertEntry P T A Inx Gen ptr ptr_eq inx inx_eq gen gen_eq → Entry T → List (Entry T)
  entry_put numbers e = put_at (λ p. (numbers p).0) e.prepared.at e.arena.now.list.entries

  -- the number of entries that the search for its place visited
  abbrev pub entry_visits : SimpleOrdArenaInsertEntry P T A Inx Gen ptr ptr_eq inx inx_eq gen gen_eq → ℕ
  entry_visits e = e.prepared.visits

  -- What a call does that requests an entry for an insertion of this kind. The entry is at its place and holds the caller's reference to
  -- the arena, in which at most the capacity has changed. If the request is refused, there is no place, or no slot.
  pub record RequestsEntry {K : Type 0} (numbers : P → ℕ × ℕ) (key : T → K) (cmp : K → K → Ordering) (number : Inx → ℕ) (growth : Growth) (most : ℕ)
      (kind : OrdInsertKind P K Inx Gen) (old : Tree T) (lender : GName)
      (result : Result (SimpleOrdArenaInsertEntry P T A Inx Gen ptr ptr_eq inx inx_eq gen gen_eq) OrdInsertionError) : Type 0 where
    pub place : IfOk result (λ e. IsEntryFor numbers key cmp number growth most kind old (entry_shown e) (entry_put numbers e) (entry_visits e) (entry_arena e))
    pub found : IfOk result (λ e. FindSame old (entry_arena e))
    pub refused : IfErr result (IsRefused key cmp most growth (aim_of number kind) old)
    pub same_reference : IfOk result (λ e. entry_lender e ≡ lender)
    pub count : IfOk result (λ e. count (entry_arena e) ≡ count old)
    pub distinct : IsDistinct old.list.entries

-- if the call fails, the arena behind m is unchanged
module _ (P T A Inx Gen : RattleType)
    (ptr : PtrGhosts P.Denot Inx.Denot Gen.Denot) (ptr_eq : PartialEqGhosts P.Denot)
    (inx : PtrInxGhosts Inx.Denot) (inx_eq : PartialEqGhosts Inx.Denot)
    (gen : PtrGenGhosts Gen.Denot) (gen_eq : PartialEqGhosts Gen.Denot) (alloc : AllocatorGhosts A.Denot) where
  abbrev pub rests_if_refused : {E : Type 0} → MutBor (Tree T.Denot) → Result (SimpleOrdArenaInsertEntry P.Denot T.Denot A.Denot Inx.Denot Gen.Denot ptr ptr_eq inx inx_eq gen gen_eq) E → Fml
  rests_if_refused m r =
      RestsIfErr (the_row P T A Inx Gen ptr ptr_eq inx inx_eq gen gen_eq alloc) m (λ e. e.arena.ghost_name) r (λ n. n ≡ m.now)
