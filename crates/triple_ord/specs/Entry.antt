-- What an entry of an insertion shows and inserts.
use Rattle.std.specs.{Prelude.◌≡◌, Prelude.ℕ, Prelude.List, Prelude.Option, Prelude.Some, Prelude.None, declared.cmp.Ordering.Ordering}
use Rattle.ord_tree.specs.{Chain.Entry, Chain.next_index, Insert.IsInsertion, Tree.Tree, Tree.IsGrown, Tree.with_item}
use Rattle.triple_ord.specs.{declared.entry_kind.OrdEntryKind.OrdEntryKind, declared.entry_kind.OrdEntryKind.TheVariants.New, declared.entry_kind.OrdEntryKind.TheVariants.Replacing, declared.insert_kind.OrdInsertKind.OrdInsertKind}
use Rattle.triple_ord.specs.{Place.Place, Place.into, Place.over, Place.IsPlace, Place.aim_of, declared.growth.Growth.Growth, Insertion.with_room_by, Gap.Gap, Gap.with_between, EntryVisits.VisitsFor, Search.pointer, Arena.item_of}

module _ {P T : Type 0} (numbers : P → ℕ × ℕ) where
  -- The item went into the arena as the entry showed: as a new entry under its pointer, at the place where `put` inserts it, or in place
  -- of the item that its pointer found.
  abbrev pub InsertsThere : OrdEntryKind P → (Entry T → List (Entry T)) → Tree T → T → Option T → Tree T → Type 0
  InsertsThere (New p) put arena item None new =
      IsInsertion arena.list new.list put item (numbers p).0 (numbers p).1 × IsGrown arena.shape new.shape
  InsertsThere (Replacing p) put arena item (Some before) new =
      (item_of arena (numbers p) ≡ Some before) × (new ≡ with_item arena (numbers p).0 item)
  InsertsThere shown put arena item before new = ⊥

  module _ (growth : Growth) (most : ℕ) (old : Tree T) (arena : Tree T) where
    -- a new entry will have the pointer p and go into the gap; the arena has a slot for it and otherwise equals `old`
    pub record AwaitsNew (gap : Gap old.list.entries) (put : Entry T → List (Entry T)) (p : ℕ × ℕ) : Type 0 where
      pub room : arena ≡ record old { list = with_room_by growth most old.list }
      pub next : next_index arena.list ≡ Some p.0
      pub generation : p.1 ≡ arena.list.generation
      pub puts : (new : Entry T) → put new ≡ with_between gap new

    -- the arena is ready for an insertion at this place
    abbrev pub Awaits : Place old.list.entries → (Entry T → List (Entry T)) → OrdEntryKind P → Type 0
    Awaits (into gap) put (New p) = AwaitsNew gap put (numbers p)
    Awaits (over e) put (Replacing p) = (numbers p ≡ pointer e) × (arena ≡ old)
    Awaits place put shown = ⊥

  -- An entry for an insertion of this kind into `old`: its place, what it shows, the list with a new entry there, the number of entries
  -- that its search visited, and the arena, of which only the capacity may have changed so far.
  pub record IsEntryFor {K I G : Type 0} (key : T → K) (cmp : K → K → Ordering) (number : I → ℕ) (growth : Growth) (most : ℕ) (kind : OrdInsertKind P K I G) (old : Tree T)
      (shown : OrdEntryKind P) (put : Entry T → List (Entry T)) (visits : ℕ) (arena : Tree T) : Type 0 where
    pub place : Place old.list.entries
    pub chosen : IsPlace key cmp (aim_of number kind) place
    pub awaits : Awaits growth most old arena place put shown
    pub visits_are : VisitsFor key cmp number kind old place visits
