-- The result of a search by a closure on a list of entries: the entries that it showed to the closure, and the closure's answers.
use Rattle.std.specs.{Borrow.Bor, List.All, List.FoldsTo, Option.option_map, Ordering.is_eq, Prelude.map, declared.cmp.Ordering.Ordering}
use Rattle.std.specs.Prelude.{◌≡◌, ◌≢◌, ℕ, ◌⊎◌, if◌then◌else◌, List, [], ◌∷◌, Option, Some, None, IfSome, MatchOption, Contains, length}
use Rattle.std.specs.declared.cmp.Ordering.TheVariants.{Less, Equal, Greater}
use Rattle.ord_tree.specs.Chain.{Entry, IsDistinct}
use Rattle.triple_ord.specs.{Gap.Gap, Gap.before, Gap.after, Gap.last_of, Search.pointer}

-- an entry that was shown, with its answer
abbrev pub Shown : Type 0 → Type 0
Shown T = Entry T × Ordering

-- all elements of a list but the last
abbrev pub but_last : {X : Type 0} → List X → List X
but_last [] = []
but_last (x ∷ []) = []
but_last (x ∷ (y ∷ ys)) = x ∷ but_last (y ∷ ys)

-- the value that came with the answer `Equal`, if any
abbrev pub where_equal : {X : Type 0} → Option (X × Ordering) → Option X
where_equal None = None
where_equal (Some s) = if is_eq s.1 then Some s.0 else None

module _ {T : Type 0} where
  -- the entries that were shown, without their answers
  abbrev pub entries_of : List (Shown T) → List (Entry T)
  entries_of shown = map (λ s. s.0) shown

  -- The search stops at a gap. The entry before it, if any, was answered `Greater`, and the one after it, if any, `Less`. The entry shown
  -- last, if any, is one of the two.
  pub record StopsAfter {entries : List (Entry T)} (gap : Gap entries) (shown : List (Shown T)) : Type 0 where
    pub greater_before : IfSome (before gap) (λ e. Contains shown (e, Greater))
    pub less_after : IfSome (after gap) (λ e. Contains shown (e, Less))
    pub last_beside : IfSome (last_of None shown) (λ s. (before gap ≡ Some s.0) ⊎ (after gap ≡ Some s.0))

  -- Different entries of the list were shown. `Equal` was answered only at the last of them, or nowhere; in that case the search stops at
  -- a gap.
  pub record IsSearch (entries : List (Entry T)) (shown : List (Shown T)) : Type 0 where
    pub within : All (λ s. Contains entries s.0) shown
    pub different : IsDistinct (entries_of shown)
    pub equal_last : All (λ s. s.1 ≢ Equal) (but_last shown)
    pub ends : ((e : Entry T) × (last_of None shown ≡ Some (e, Equal))) ⊎ ((gap : Gap entries) × StopsAfter gap shown)

  -- the entry that was shown last, with its answer
  abbrev pub similar_of : Option (Shown T) → Option ((ℕ × ℕ) × Ordering)
  similar_of last = option_map (λ s. (pointer s.0, s.1)) last

-- Calls of a closure: in `asks f s g`, f was shown the entry of s, gave the answer of s and became g.
module _ {T F : Type 0} (asks : F → Shown T → F → Type 0) where
  -- c calls took f to g, one for each entry that the search showed
  pub record Searches (entries : List (Entry T)) (f g : F) (last : Option (Shown T)) (c : ℕ) : Type 0 where
    pub shown : List (Shown T)
    pub calls : FoldsTo asks f shown g
    pub search : IsSearch entries shown
    pub last_is : last ≡ last_of None shown
    pub count : c ≡ length shown

  -- a search by a closure returns the pointer of the entry that was answered `Equal`, if any
  abbrev pub FindsWith : List (Entry T) → F → F → Option (ℕ × ℕ) → ℕ → Type 0
  FindsWith entries f g found c = (last : Option (Shown T)) × Searches entries f g last c × (found ≡ option_map pointer (where_equal last))

  -- a search for a similar entry returns the pointer of the entry shown last, with its answer, or nothing only in an empty list
  abbrev pub FindsSimilarWith : List (Entry T) → F → F → Option ((ℕ × ℕ) × Ordering) → ℕ → Type 0
  FindsSimilarWith entries f g found c = (last : Option (Shown T)) × Searches entries f g last c × (found ≡ similar_of last)
      × MatchOption found (entries ≡ []) (λ a. Unit {0})

-- f was called with the pointer and the item of an entry, by this step of the closure
module _ {P T F : Type 0} (pointer_of : P → ℕ × ℕ) (step : F → P → Bor T → Ordering → F → Type 0) where
  pub record Asks (f : F) (s : Shown T) (g : F) : Type 0 where
    pub named : P
    pub item : Bor T
    pub names : pointer_of named ≡ pointer s.0
    pub shows : item.now ≡ s.0.item
    pub called : step f named item s.1 g
