-- Bounds on the entries that an insertion's search for its place visits.
use Rattle.std.specs.{Prelude.◌≡◌, Prelude.◌≢◌, Prelude.ℕ, Prelude.◌≤◌, Prelude.⊤, Prelude.List, Prelude.[], Prelude.IfNone, Prelude.length, declared.cmp.Ordering.Ordering}
use Rattle.ord_tree.specs.{Chain.Entry, Chain.entry_at, Tree.Tree}
use Rattle.triple_ord.specs.declared.insert_kind.OrdInsertKind.TheVariants.{Empty, Normal, Nonhereditary, Linear, NonhereditaryLinear, Manual}
use Rattle.triple_ord.specs.{VisitBounds.IsWithinBounds, VisitBounds.IsWithinHintedBounds, declared.insert_kind.OrdInsertKind.OrdInsertKind, Place.Place, Place.into, Gap.neighbour_count, Hint.IsNearHint}

module _ {T : Type 0} where
  -- if the place is a gap, its neighbours were seen
  abbrev pub SeesGap : {entries : List (Entry T)} → Place entries → ℕ → Type 0
  SeesGap (into gap) c = neighbour_count gap ≤ c
  SeesGap place c = ⊤

  -- the search for a place saw an entry, if there is one, and the neighbours of a gap
  pub record HasSeen {entries : List (Entry T)} (place : Place entries) (c : ℕ) : Type 0 where
    pub some : entries ≢ [] → 1 ≤ c
    pub beside : SeesGap place c

  -- a search by a key without a hint
  pub record VisitsByKey (old : Tree T) (place : Place old.list.entries) (c : ℕ) : Type 0 where
    pub seen : HasSeen place c
    pub bounded : IsWithinBounds (length old.list.entries) old.shape c

module _ {T K : Type 0} (key : T → K) (cmp : K → K → Ordering) where
  -- A search by a key that first makes at most num steps from the index i. An index without an entry adds none, and on a list in the
  -- order of its keys a near one makes few.
  pub record VisitsFromHint (old : Tree T) (i num : ℕ) (k : K) (place : Place old.list.entries) (c : ℕ) : Type 0 where
    pub seen : HasSeen place c
    pub bounded : IsWithinHintedBounds (length old.list.entries) old.shape num c
    pub unhinted : IfNone (entry_at old.list.entries i) (IsWithinBounds (length old.list.entries) old.shape c)
    pub near : IsNearHint key cmp old.list.entries k i num c

  -- the number c of visits of the search for an insertion's place, by its kind
  abbrev pub VisitsFor : {P I G : Type 0} → (I → ℕ) → OrdInsertKind P K I G → (old : Tree T) → Place old.list.entries → ℕ → Type 0
  VisitsFor number Empty old place c = c ≡ 0
  VisitsFor number (Normal k) old place c = VisitsByKey old place c
  VisitsFor number (Nonhereditary k) old place c = VisitsByKey old place c
  VisitsFor number (Linear i num k) old place c = VisitsFromHint old (number i) num k place c
  VisitsFor number (NonhereditaryLinear i num k) old place c = VisitsFromHint old (number i) num k place c
  VisitsFor number (Manual i order) old place c = c ≡ 0
