-- Recasting an arena's items, one after another by rising index, up to the first error.
use Rattle.std.specs.{Prelude.◌≡◌, Prelude.ℕ, Prelude.Some, Prelude.Result, Prelude.Ok, Prelude.Err, Prelude.List, Prelude.[], Prelude.◌∷◌, Prelude.◌++◌, Prelude.MatchResult, List.FoldsTo}
use Rattle.ord_tree.specs.{ArenaWalk.pointers, Tree.Tree, Tree.with_item}
use Rattle.triple_ord.specs.{Arena.entry_at, Content.content_of}

-- `gives` describes an item after its recast, and what the recast returned
module _ {T I : Type 0} (gives : T → Result (Unit {0}) I → T → Type 0) where
  -- the item of the entry at index i was recast, r was returned, and nothing else changed
  pub record RecastsItem (r : Result (Unit {0}) I) (old : Tree T) (i : ℕ) (new : Tree T) : Type 0 where
    pub entry : ℕ × T
    pub item : T
    pub found : entry_at old i ≡ Some entry
    pub given : gives entry.1 r item
    pub after : new ≡ with_item old i item

  -- the item that this pointer finds was recast
  abbrev pub RecastsNext : Tree T → ℕ × ℕ → Tree T → Type 0
  RecastsNext old p new = RecastsItem (Ok tt) old p.0 new

  -- the items were recast by rising index: all of them, or up to the first whose own recast returned an error, which is returned
  pub record RecastsItems (old : Tree T) (r : Result (Unit {0}) I) (new : Tree T) : Type 0 where
    pub recast : List (ℕ × ℕ)
    pub left : List (ℕ × ℕ)
    pub split : pointers (content_of old) ≡ recast ++ left
    pub reached : Tree T
    pub calls : FoldsTo RecastsNext old recast reached
    pub ends : MatchResult r (λ all. (left ≡ []) × (new ≡ reached))
        (λ e. (p : ℕ × ℕ) × (behind : List (ℕ × ℕ)) × (left ≡ p ∷ behind) × RecastsItem (Err e) reached p.0 new)
