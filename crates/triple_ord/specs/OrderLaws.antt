-- Laws of searches and insertions on a list in order, and of rebuilt shapes.
use Rattle.std.specs.{Prelude.◌≡◌, Prelude.◌≢◌, Prelude.◌↔◌, Prelude.ℕ, Prelude.◌⊎◌, Prelude.List, Prelude.[], Prelude.◌∷◌, Prelude.◌++◌, Prelude.Option, Prelude.Some, Prelude.None, Prelude.Result, Prelude.Contains, List.All}
use Rattle.std.specs.declared.cmp.Ordering.{Ordering, TheVariants.Less, TheVariants.Equal, TheVariants.Greater}
use Rattle.ord_tree.specs.{Chain.Entry, Chain.IsDistinct, Half.IsRebuilt, Shape.Shape, Shape.missing, Shape.node, Shape.size_of, Tree.Tree}
use Rattle.triple_ord.specs.{declared.entry_kind.OrdEntryKind.OrdEntryKind, declared.error.OrdInsertionError.OrdInsertionError, Search.pointer, Search.order_to, Search.FindsKey, Search.FindsSimilar, declared.growth.Growth.Growth, Insertion.InsertsBy}
use Rattle.triple_ord.specs.{ClosureSearch.Shown, ClosureSearch.FindsWith, Place.Aim, Place.at_key, Place.behind_key, Gap.Gap, Gap.before, Gap.after, Order.IsInOrder}

module _ {T K : Type 0} (key : T → K) (cmp : K → K → Ordering) where
  -- no entry has an equal key
  abbrev pub IsAbsent : List (Entry T) → K → Type 0
  IsAbsent entries k = (e : Entry T) → Contains entries e → order_to key cmp k e ≢ Equal

  -- On a list in the order of its keys, a search for a key finds nothing exactly if no entry has an equal key.
  abbrev pub AbsentKeyLaw : Type 0
  AbsentKeyLaw = (entries : List (Entry T)) (k : K) (found : Option (ℕ × ℕ)) (c : ℕ)
      → IsInOrder key cmp entries → FindsKey key cmp entries k found c → (found ≡ None) ↔ IsAbsent entries k

  -- the gap is the place of k: all keys before it are smaller, and all keys behind it greater
  pub record IsPlaceOf {entries : List (Entry T)} (gap : Gap entries) (k : K) : Type 0 where
    pub lesser : All (λ e. order_to key cmp k e ≡ Greater) gap.front
    pub greater : All (λ e. order_to key cmp k e ≡ Less) gap.back

  -- On a list in the order of its keys, without an equal key, a search for a similar key returns an entry directly before or after the
  -- key's place.
  abbrev pub BesidePlaceLaw : Type 0
  BesidePlaceLaw = (entries : List (Entry T)) (k : K) (p : ℕ × ℕ) (order : Ordering) (c : ℕ)
      → IsInOrder key cmp entries → IsAbsent entries k → FindsSimilar key cmp entries k (Some (p, order)) c
      → (e : Entry T) × (p ≡ pointer e) × ((gap : Gap entries) × IsPlaceOf gap k × ((before gap ≡ Some e) ⊎ (after gap ≡ Some e)))

-- the answers along a list: first `Greater`, then `Equal`, and then `Less`, each for any number of entries
pub record AreAnsweredInOrder {T : Type 0} (answer : Entry T → Ordering) (entries : List (Entry T)) : Type 0 where
  pub front : List (Entry T)
  pub middle : List (Entry T)
  pub back : List (Entry T)
  pub cut : entries ≡ front ++ (middle ++ back)
  pub greater : All (λ e. answer e ≡ Greater) front
  pub equal : All (λ e. answer e ≡ Equal) middle
  pub less : All (λ e. answer e ≡ Less) back

-- If a closure's answers are a fixed function of the entry, and in this order along the list, a search by the closure finds nothing
-- exactly if no entry is answered `Equal`.
abbrev pub AnsweredInOrderLaw : {T F : Type 0} → (F → Shown T → F → Type 0) → Type 0
AnsweredInOrderLaw {T} {F} asks = (answer : Entry T → Ordering) (entries : List (Entry T)) (f g : F) (found : Option (ℕ × ℕ)) (c : ℕ)
    → ((before after : F) (s : Shown T) → asks before s after → s.1 ≡ answer s.0)
    → AreAnsweredInOrder answer entries → FindsWith asks entries f g found c
    → (found ≡ None) ↔ ((e : Entry T) → Contains entries e → answer e ≢ Equal)

-- an insertion goes by k: in place of an equal entry, or behind all equal ones
abbrev pub GoesBy : {K : Type 0} → Aim K → K → Type 0
GoesBy aim k = (aim ≡ at_key k) ⊎ (aim ≡ behind_key k)

-- An insertion by a key keeps a list in the order of its keys, if the inserted item has an equal key.
abbrev pub KeptOrderLaw : {P T K : Type 0} → (P → ℕ × ℕ) → (T → K) → (K → K → Ordering) → Type 0
KeptOrderLaw {P} {T} {K} numbers key cmp =
    (most : ℕ) (growth : Growth) (aim : Aim K) (k : K) (old new : Tree T) (item : T) (answer : Result (OrdEntryKind P × Option T) OrdInsertionError)
    → GoesBy aim k → cmp k (key item) ≡ Equal → IsDistinct old.list.entries → IsInOrder key cmp old.list.entries
    → InsertsBy key cmp most growth aim numbers old item answer new → IsInOrder key cmp new.list.entries

-- the ranks of the nodes, in order
abbrev pub ranks_of : Shape → List ℕ
ranks_of missing = []
ranks_of (node l i k r) = ranks_of l ++ k ∷ ranks_of r

-- two rebuilt shapes of equal size have the same ranks, position by position
abbrev pub SameRanksLaw : Type 0
SameRanksLaw = (s t : Shape) → IsRebuilt s → IsRebuilt t → size_of s ≡ size_of t → ranks_of s ≡ ranks_of t
