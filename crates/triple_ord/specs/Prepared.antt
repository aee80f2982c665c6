-- The place of an insertion as the arena stores it: beside an entry, or the pointer of an entry. No public clause cites this file.
use Rattle.std.specs.Prelude.{◌≡◌, ◌<◌, ℕ, Option, Some, None, IsSome, length, option_map}
use Rattle.std.{proofs.Props.props, specs.declared.cmp.Ordering.Ordering, specs.declared.cmp.Ordering.TheVariants.Less, specs.declared.cmp.Ordering.TheVariants.Equal, specs.declared.cmp.Ordering.TheVariants.Greater}
use Rattle.ord_tree.specs.declared.tree_links.Side.{Side, TheVariants.Lesser as OnLesser, TheVariants.Greater as OnGreater}
use Rattle.ord_tree.specs.{Chain.Entry, Chain.Chain, Chain.entry_at, Chain.next_index, Tree.Tree, Tree.put_at}
use Rattle.triple_ord.specs.declared.insert_kind.OrdInsertKind.TheVariants.{Normal, Nonhereditary, Linear, NonhereditaryLinear}
use Rattle.triple_ord.specs.{declared.prepared.InsertPlace.InsertPlace, declared.prepared.InsertPlace.TheVariants.New, declared.prepared.InsertPlace.TheVariants.Replacing, EntryVisits.HasSeen, EntryVisits.VisitsFor, Gap.with_between}
use Rattle.triple_ord.specs.{declared.ties.Ties.Ties, declared.ties.Ties.TheVariants.Sought, declared.ties.Ties.TheVariants.Passed, declared.entry_kind.OrdEntryKind.OrdEntryKind, declared.insert_kind.OrdInsertKind.OrdInsertKind}
use Rattle.triple_ord.specs.{Place.Aim, Place.Place, Place.into, Place.over, Place.nowhere, Place.IsPlace, Place.aim_of, Search.pointer, Arena.item_of}
use Rattle.triple_ord.specs.declared.entry_kind.OrdEntryKind.TheVariants as shown

-- the index of a pointer
abbrev pub index_in : {P : Type 0} → (P → ℕ × ℕ) → P → ℕ
index_in numbers p = (numbers p).0

-- the order to an entry of what stands on that side of it
abbrev pub order_on : Side → Ordering
order_on OnLesser = Less
order_on OnGreater = Greater

-- the side of an entry on which something of this order to it stands; none for `Equal`
abbrev pub side_by : Ordering → Option Side
side_by Less = Some OnLesser
side_by Equal = None
side_by Greater = Some OnGreater

-- the place of this order to the entry of a pointer: beside it, or that of its item
abbrev pub place_at : {P : Type 0} → P × Ordering → InsertPlace P
place_at (p, Less) = New (Some (p, OnLesser))
place_at (p, Equal) = Replacing p
place_at (p, Greater) = New (Some (p, OnGreater))

-- the entry beside which a search ended, and the side
abbrev pub beside_by : {P : Type 0} → Option (P × Ordering) → Option (P × Side)
beside_by None = None
beside_by (Some a) = option_map (λ side. (a.0, side)) (side_by a.1)

-- a place beside an entry, with the order to that entry in place of the side
abbrev pub by_order : {P : Type 0} → Option (P × Side) → Option (P × Ordering)
by_order None = None
by_order (Some a) = Some (a.0, order_on a.1)

-- a place beside an entry, with the number of the entry's name
abbrev pub by_number : {I : Type 0} → (I → ℕ) → Option (I × Ordering) → Option (ℕ × Ordering)
by_number number None = None
by_number number (Some a) = Some (number a.0, a.1)

-- the kinds of insertion that search by a key, from the root and from a hint, by how the search treats equal keys
abbrev pub kind_by : {P K I G : Type 0} → Ties → K → OrdInsertKind P K I G
kind_by Sought k = Normal k
kind_by Passed k = Nonhereditary k

abbrev pub kind_near : {P K I G : Type 0} → Ties → I → ℕ → K → OrdInsertKind P K I G
kind_near Sought i num k = Linear i num k
kind_near Passed i num k = NonhereditaryLinear i num k

module _ {P T : Type 0} (numbers : P → ℕ × ℕ) where
  -- there is a place for a new entry: as the only one, or on a side of the entry with the pointer's index
  abbrev pub HasRoomAt : Option (P × Side) → Chain T → Type 0
  HasRoomAt None c = length c.entries ≡ 0
  HasRoomAt (Some at) c = IsSome (entry_at c.entries (index_in numbers at.0))

  -- the arena stores the place in this form
  abbrev pub Keeps : (t : Tree T) → InsertPlace P → Place t.list.entries → Type 0
  Keeps t (New at) (into gap) = HasRoomAt at t.list × ((x : Entry T) → put_at (index_in numbers) at t.list.entries x ≡ with_between gap x)
  Keeps t (Replacing p) (over e) = (numbers p ≡ pointer e) × IsSome (item_of t (numbers p))
  Keeps t kept place = ⊥

  module _ {K : Type 0} (key : T → K) (cmp : K → K → Ordering) (t : Tree T) where
    -- a place by a key, as found by a search with c visits
    pub record IsFoundPlace (aim : Aim K) (c : ℕ) (kept : InsertPlace P) : Type 0 where
      pub place : Place t.list.entries
      pub chosen : IsPlace key cmp aim place
      pub keeps : Keeps t kept place
      pub seen : HasSeen place c

    -- a place that needs no search, or nothing if there is no such place
    abbrev pub IsPlaceBeside : Aim K → Option (InsertPlace P) → Type 0
    IsPlaceBeside aim None = IsPlace key cmp {entries = t.list.entries} aim nowhere
    IsPlaceBeside aim (Some kept) = (place : Place t.list.entries) × IsPlace key cmp aim place × Keeps t kept place

    -- the place of an insertion of this kind, with the visits of its search
    pub record IsPlaceFor {I G : Type 0} (number : I → ℕ) (kind : OrdInsertKind P K I G) (kept : InsertPlace P) (c : ℕ) : Type 0 where
      pub place : Place t.list.entries
      pub chosen : IsPlace key cmp (aim_of number kind) place
      pub keeps : Keeps t kept place
      pub visits : VisitsFor key cmp number kind t place c

  -- An item can go there without memory: beside an entry, under the next pointer and into a vacant slot, or in place of the item that the
  -- pointer finds.
  abbrev pub IsReady : OrdEntryKind P → Option (P × Side) → Tree T → Type 0
  IsReady (shown.New p) at t = HasRoomAt at t.list × (next_index t.list ≡ Some (numbers p).0) × ((numbers p).1 ≡ t.list.generation)
      × (length t.list.entries < t.list.capacity)
  IsReady (shown.Replacing p) at t = IsSome (item_of t (numbers p))

  -- each of these is a proposition
  pub HasRoomAt-prop : (at : Option (P × Side)) (c : Chain T) → IsProp (HasRoomAt at c)
  HasRoomAt-prop None c = hlevel props
  HasRoomAt-prop (Some at) c = hlevel props

  pub IsReady-prop : (kind : OrdEntryKind P) (at : Option (P × Side)) (t : Tree T) → IsProp (IsReady kind at t)
  IsReady-prop (shown.New p) at t = hlevel (props, HasRoomAt-prop)
  IsReady-prop (shown.Replacing p) at t = hlevel props
