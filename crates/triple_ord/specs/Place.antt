-- The place of an insertion in the list.
use Rattle.std.specs.{declared.cmp.Ordering.Ordering, declared.cmp.Ordering.TheVariants.Less, declared.cmp.Ordering.TheVariants.Equal, declared.cmp.Ordering.TheVariants.Greater, Borrow.Bor}
use Rattle.std.specs.Prelude.{◌≡◌, ◌≢◌, ℕ, List, [], Option, Some, None, IfSome, IsSomeAnd}
use Rattle.ord_tree.specs.Chain.{Entry, entry_at}
use Rattle.triple_ord.specs.declared.insert_kind.OrdInsertKind.TheVariants.{Empty, Normal, Nonhereditary, Linear, NonhereditaryLinear, Manual}
use Rattle.triple_ord.specs.{Search.order_to, Search.Fits, Search.IsFirstEqual, declared.insert_kind.OrdInsertKind.OrdInsertKind, Gap.Gap, Gap.before, Gap.after}

-- What an insertion goes by: nothing, for an empty list; a key, to replace the item of an equal entry or to go behind all equal ones; or
-- a side of the entry with an index, or that entry itself.
pub data Aim (K : Type 0) : Type 0 where
  alone : Aim K
  at_key : K → Aim K
  behind_key : K → Aim K
  beside : ℕ → Ordering → Aim K

-- what a kind of insertion goes by; a hint doesn't change it
abbrev pub aim_of : {P I G K : Type 0} → (I → ℕ) → OrdInsertKind P K I G → Aim K
aim_of number Empty = alone
aim_of number (Normal k) = at_key k
aim_of number (Nonhereditary k) = behind_key k
aim_of number (Linear i num k) = at_key k
aim_of number (NonhereditaryLinear i num k) = behind_key k
aim_of number (Manual i order) = beside (number i) order

-- the kind with the key that its reference points to
abbrev pub kind_now : {P I G K : Type 0} → OrdInsertKind P (Bor K) I G → OrdInsertKind P K I G
kind_now Empty = Empty
kind_now (Normal k) = Normal k.now
kind_now (Nonhereditary k) = Nonhereditary k.now
kind_now (Linear i num k) = Linear i num k.now
kind_now (NonhereditaryLinear i num k) = NonhereditaryLinear i num k.now
kind_now (Manual i order) = Manual i order

-- a place in a list: a gap, into which a new entry goes; an entry, whose item is replaced; or none
pub data Place {T : Type 0} (entries : List (Entry T)) : Type 0 where
  into : Gap entries → Place entries
  over : Entry T → Place entries
  nowhere : Place entries

-- there is an entry with this index
abbrev pub HasIndex : {T : Type 0} → ℕ → Option (Entry T) → Type 0
HasIndex i e = IsSomeAnd e (λ e. e.index ≡ i)

module _ {T K : Type 0} (key : T → K) (cmp : K → K → Ordering) {entries : List (Entry T)} where
  -- a gap lies behind k if the entry before it, if any, has a key at most k, and the entry after it, if any, a greater one
  pub record LiesBehind (gap : Gap entries) (k : K) : Type 0 where
    pub at_most_before : IfSome (before gap) (λ e. order_to key cmp k e ≢ Less)
    pub greater_after : IfSome (after gap) (λ e. order_to key cmp k e ≡ Less)

  -- The place of an insertion, by what it goes by. A search for a key may stop at any gap that fits it, and may return any entry that is
  -- the first of its group.
  abbrev pub IsPlace : Aim K → Place entries → Type 0
  IsPlace alone (into gap) = entries ≡ []
  IsPlace alone nowhere = entries ≢ []
  IsPlace (at_key k) (into gap) = Fits key cmp gap k
  IsPlace (at_key k) (over e) = IsFirstEqual key cmp entries k e
  IsPlace (behind_key k) (into gap) = LiesBehind gap k
  IsPlace (beside i Less) (into gap) = HasIndex i (after gap)
  IsPlace (beside i Greater) (into gap) = HasIndex i (before gap)
  IsPlace (beside i Equal) (over e) = (e.index ≡ i) × (entry_at entries i ≡ Some (e.generation, e.item))
  IsPlace (beside i order) nowhere = entry_at entries i ≡ None
  IsPlace aim place = ⊥
