-- What becomes of pointers along the calls of a listing: one that ended names nothing again, unless the generations begin again; and one
-- that names an item names it while calls are to other entries.
use Rattle.std.specs.Prelude.{◌≡◌, ◌≢◌, ℕ, ◌<◌, ◌≤◌, List, [], ◌∷◌, Option, None, IsSome, ◌⊎◌}
use Rattle.listing.specs.Listing.{Listing, get, Updates, Keeps}

module _ {T : Type 0} where
  -- One call: a pointer that comes to name an item has the generation of the listing, before the call or after it.
  pub record IsStep (old new : Listing T) : Type 0 where
    pub comes : (q : ℕ × ℕ) → get old q ≡ None → IsSome (get new q) → (q.1 ≡ old.generation) ⊎ (q.1 ≡ new.generation)

  -- no pointer ends
  abbrev pub EndsNone : Listing T → Listing T → Type 0
  EndsNone old new = (q : ℕ × ℕ) → IsSome (get old q) → IsSome (get new q)

  -- A call that removes one entry at most, or all at once: unless no pointer ends, the generation changes.
  unfoldable pub Raises : Listing T → Listing T → Type 0
  Raises old new = EndsNone old new ⊎ (new.generation ≢ old.generation)

  -- The generations didn't begin again: the generation is greater, or it is the same and no pointer ends.
  abbrev pub GoesOn : Listing T → Listing T → Type 0
  GoesOn old new = (old.generation < new.generation) ⊎ ((new.generation ≡ old.generation) × EndsNone old new)

  -- A run of calls: each listing comes from the one before it by a call that doesn't make the generations begin again.
  abbrev pub IsRun : Listing T → List (Listing T) → Listing T → Type 0
  IsRun old [] new = new ≡ old
  IsRun old (next ∷ rest) new = IsStep old next × GoesOn old next × IsRun next rest new

  -- No pointer that names an item has a generation above the listing's.
  pub record HasNoLaterPointer (a : Listing T) : Type 0 where
    pub not_above : (q : ℕ × ℕ) → IsSome (get a q) → q.1 ≤ a.generation

  -- a pointer has ended: it names nothing, and its generation has passed
  pub record HasEnded (a : Listing T) (q : ℕ × ℕ) : Type 0 where
    pub nothing : get a q ≡ None
    pub passed : q.1 < a.generation

  -- From old to new, each pointer that had ended stays so; and if `old` has no later pointer, `new` has none, and each pointer that named
  -- an item and names none has ended.
  pub record KeepsEnded (old new : Listing T) : Type 0 where
    pub ended : (q : ℕ × ℕ) → HasEnded old q → HasEnded new q
    pub no_later : HasNoLaterPointer old → HasNoLaterPointer new
    pub ends : (q : ℕ × ℕ) → HasNoLaterPointer old → IsSome (get old q) → get new q ≡ None → HasEnded new q

-- Calls to other entries than that of the pointer q.
module _ {T : Type 0} (q : ℕ × ℕ) where
  -- one call: it keeps every pointer, or changes what another one names
  abbrev pub IsOfOthers : Listing T → Listing T → Type 0
  IsOfOthers old new = Keeps old new ⊎ ((p : ℕ × ℕ) × (now : Option T) × Updates old new p now × (q ≢ p))

  -- a run of them
  abbrev pub AreOfOthers : Listing T → List (Listing T) → Listing T → Type 0
  AreOfOthers old [] new = new ≡ old
  AreOfOthers old (next ∷ rest) new = IsOfOthers old next × AreOfOthers next rest new

-- A pointer that names an item names it after any run of calls to other entries.
pub record KeptPointerLaw (T : Type 0) : Type 0 where
  pub run : (q : ℕ × ℕ) (old new : Listing T) (between : List (Listing T)) → AreOfOthers q old between new → IsSome (get old q) → get new q ≡ get old q

-- Pointers that ended stay so, along a run of calls that don't make the generations begin again.
pub record EndedPointerLaw (T : Type 0) : Type 0 where
  pub one : (old new : Listing T) → IsStep old new → GoesOn old new → KeepsEnded old new
  pub run : (old new : Listing T) (between : List (Listing T)) → IsRun old between new → KeepsEnded old new
