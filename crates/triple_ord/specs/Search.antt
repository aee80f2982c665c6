-- The result of a search by key on a list of entries: an equal entry that is the first of its group, or a gap that fits the key.
use Rattle.std.specs.declared.cmp.Ordering.{Ordering, TheVariants.Less, TheVariants.Equal, TheVariants.Greater}
use Rattle.std.specs.Prelude.{◌≡◌, ℕ, ◌≤◌, ◌⊎◌, List, [], Option, Some, None, IfSome}
use Rattle.ord_tree.specs.Chain.{Entry}
use Rattle.triple_ord.specs.Gap.{Gap, before, after, neighbour_count}

-- the pointer of an entry: its index and its generation
abbrev pub pointer : {T : Type 0} → Entry T → ℕ × ℕ
pointer e = (e.index, e.generation)

module _ {T K : Type 0} (key : T → K) (cmp : K → K → Ordering) where
  -- the order of a key to an entry's key
  abbrev pub order_to : K → Entry T → Ordering
  order_to k e = cmp k (key e.item)

  -- a gap fits a key if the entry before it, if any, has a smaller key, and the entry after it, if any, a greater one
  pub record Fits {entries : List (Entry T)} (gap : Gap entries) (k : K) : Type 0 where
    pub lesser_before : IfSome (before gap) (λ e. order_to k e ≡ Greater)
    pub greater_after : IfSome (after gap) (λ e. order_to k e ≡ Less)

  -- e is an entry of the list with an equal key, and the entry before it, if any, has a smaller one
  pub record IsFirstEqual (entries : List (Entry T)) (k : K) (e : Entry T) : Type 0 where
    pub gap : Gap entries
    pub here : after gap ≡ Some e
    pub lesser_before : IfSome (before gap) (λ e. order_to k e ≡ Greater)
    pub equal : order_to k e ≡ Equal

  -- a search stops at a gap that fits the key and has seen the gap's neighbours, so its visits c are at least as many
  pub record StopsAt {entries : List (Entry T)} (gap : Gap entries) (k : K) (c : ℕ) : Type 0 where
    pub fits : Fits gap k
    pub seen : neighbour_count gap ≤ c

  -- e is beside a gap at which the search stops
  abbrev pub IsBeside : List (Entry T) → K → ℕ → Entry T → Type 0
  IsBeside entries k c e = (gap : Gap entries) × StopsAt gap k c × ((before gap ≡ Some e) ⊎ (after gap ≡ Some e))

  -- A search for an equal key with c visits. It returns the pointer of an entry with an equal key whose predecessor, if any, has a
  -- smaller one, or nothing if it stops at a gap that fits.
  abbrev pub FindsKey : List (Entry T) → K → Option (ℕ × ℕ) → ℕ → Type 0
  FindsKey entries k None c = (gap : Gap entries) × StopsAt gap k c
  FindsKey entries k (Some p) c = (e : Entry T) × (p ≡ pointer e) × IsFirstEqual entries k e × (1 ≤ c)

  -- A search for a similar key. It returns the pointer of such an equal entry, or of an entry beside a gap that fits, with the order of k
  -- to its key, or nothing only in an empty list.
  abbrev pub FindsSimilar : List (Entry T) → K → Option ((ℕ × ℕ) × Ordering) → ℕ → Type 0
  FindsSimilar entries k None c = entries ≡ []
  FindsSimilar entries k (Some answer) c =
      (e : Entry T) × (answer ≡ (pointer e, order_to k e)) × (IsFirstEqual entries k e × (1 ≤ c) ⊎ IsBeside entries k c e)
