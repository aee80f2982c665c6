-- What a timeline is: the value that holds at each time, told by the times at which it changes.
use Rattle.std.specs.Prelude.{◌≡◌, ◌≢◌, ℕ, ◌+◌, ◌*◌, ◌<◌, ◌≤◌, ◌⊎◌, ◌↔◌, leb, nat_lt, if◌then◌else◌, List, [], ◌∷◌, length, Option, Some, None, IsSome, IfSome, Result, Err, OnOk, OnErr}
use Rattle.std.specs.{List.AllByRecursion, Option.option_map, Borrow.Bor}
use Rattle.sorted_arena.specs.{PlainArena.capacity_for, ReallocationError.ReallocationError}
use Rattle.sorted_arena.specs.ReallocationError.TheVariants.{BeyondMaxCapacity, AllocError}
use Rattle.timeline.specs.declared.span.{Span.Span, WholeSpan.WholeSpan, Gap.Gap}
-- how many changes there can be
pub use Rattle.sorted_arena.specs.PlainPointer.{most_entries}

-- a change: from this time on the value is this one, or there is none
pub record Change (V : Type 0) : Type 0 where
  pub time : ℕ
  pub value : Option V

-- A timeline: its changes, by their times, and how many of them there is room for before it has to grow.
pub record Timeline (V : Type 0) : Type 0 where
  pub changes : List (Change V)
  pub capacity : ℕ

module _ {V : Type 0} where
  -- the value at a time, where `held` is the one before these changes: that of the last change at or before the time
  abbrev pub value_after : Option V → List (Change V) → ℕ → Option V
  value_after held [] t = held
  value_after held (c ∷ cs) t = if leb c.time t then value_after c.value cs t else held

  -- the value at a time; before the first change there is none
  abbrev pub value_at : List (Change V) → ℕ → Option V
  value_at cs t = value_after None cs t

  -- each change is later than those before it
  abbrev pub IsRising : List (Change V) → Type 0
  IsRising [] = Unit {0}
  IsRising (c ∷ cs) = AllByRecursion (λ d. c.time < d.time) cs × IsRising cs

  -- each change brings another value than the one before it, which is `held` before the first
  abbrev pub IsJoinedAfter : Option V → List (Change V) → Type 0
  IsJoinedAfter held [] = Unit {0}
  IsJoinedAfter held (c ∷ cs) = (c.value ≢ held) × IsJoinedAfter c.value cs

  -- what is true of the changes of every timeline: no two have one time, and no two neighbours have equal values
  pub record AreChanges (cs : List (Change V)) : Type 0 where
    pub rising : IsRising cs
    pub joined : IsJoinedAfter None cs

  -- what is true of every timeline
  pub record IsTimeline (t : Timeline V) : Type 0 where
    pub rising : IsRising t.changes
    pub joined : IsJoinedAfter None t.changes
    pub within : length t.changes ≤ t.capacity
    pub limited : t.capacity ≤ most_entries

  -- so many more settings fit without growing: each needs room for two changes
  abbrev pub HasRoomFor : ℕ → Timeline V → Type 0
  HasRoomFor n t = length t.changes + 2 * n ≤ t.capacity

  -- the capacity with room for two more changes
  abbrev pub roomy_capacity : Timeline V → ℕ
  roomy_capacity t = capacity_for most_entries t.capacity (length t.changes + 2)

  -- the capacity after a setting from one time until another; one over no time takes no room
  abbrev pub capacity_set : Timeline V → ℕ → ℕ → ℕ
  capacity_set t from until = if nat_lt from until then roomy_capacity t else t.capacity

  -- from one time until before another the value is this one, or none, and at every other time it is what it was
  pub record IsSet (old : List (Change V)) (from until : ℕ) (value : Option V) (new : List (Change V)) : Type 0 where
    pub within : (t : ℕ) → from ≤ t → t < until → value_at new t ≡ value
    pub outside : (t : ℕ) → (t < from) ⊎ (until ≤ t) → value_at new t ≡ value_at old t

  -- from one time on the value is this one, or none, and before it is what it was
  pub record IsSetFrom (old : List (Change V)) (from : ℕ) (value : Option V) (new : List (Change V)) : Type 0 where
    pub within : (t : ℕ) → from ≤ t → value_at new t ≡ value
    pub before : (t : ℕ) → t < from → value_at new t ≡ value_at old t

  -- one value, whose clone may be refused, holds from one time until another and then
  abbrev pub HoldsRefusable : (V → Type 0) → List (Change V) → ℕ → ℕ → Type 0
  HoldsRefusable is_infallible cs from until = (v : V) × (¬ (is_infallible v)) × ((t : ℕ) → from ≤ t → t ≤ until → value_at cs t ≡ Some v)

  -- A call that makes this the value from one time until another, or removes the values there. It needs room for two more changes, and
  -- maybe a clone of the value that goes on at the end. It takes the room of at most one setting. If it fails, nothing changes.
  pub record SetsStretch (is_infallible : V → Type 0) (old : Timeline V) (from until : ℕ) (value : Option V)
      (result : Result (Unit {0}) ReallocationError) (new : Timeline V) : Type 0 where
    pub set : OnOk result (IsSet old.changes from until value new.changes)
    pub full : (result ≡ Err BeyondMaxCapacity) ↔ ((from < until) × (most_entries < length old.changes + 2))
    pub memory : result ≡ Err AllocError
        → (from < until) × ((old.capacity < length old.changes + 2) ⊎ HoldsRefusable is_infallible old.changes from until)
    pub capacity : OnOk result (new.capacity ≡ capacity_set old from until)
    pub room : OnOk result ((n : ℕ) → HasRoomFor (n + 1) old → HasRoomFor n new)
    pub err : OnErr result (new ≡ old)
    pub lawful : IsTimeline new

  -- A call that makes this the value from one time on, or removes the values from then on. It needs room for two more changes, and takes
  -- the room of at most one setting. If it fails, nothing changes.
  pub record SetsFrom (old : Timeline V) (from : ℕ) (value : Option V)
      (result : Result (Unit {0}) ReallocationError) (new : Timeline V) : Type 0 where
    pub set : OnOk result (IsSetFrom old.changes from value new.changes)
    pub full : (result ≡ Err BeyondMaxCapacity) ↔ (most_entries < length old.changes + 2)
    pub memory : result ≡ Err AllocError → old.capacity < length old.changes + 2
    pub capacity : OnOk result (new.capacity ≡ roomy_capacity old)
    pub room : OnOk result ((n : ℕ) → HasRoomFor (n + 1) old → HasRoomFor n new)
    pub err : OnErr result (new ≡ old)
    pub lawful : IsTimeline new

  -- The stretch around a time, from the change that began it until the next change, if there is one.
  pub record IsWholeSpan (cs : List (Change V)) (t : ℕ) (span : WholeSpan V) : Type 0 where
    pub begins : span.from ≤ t
    pub ends : IfSome span.until (λ until. t < until)
    pub holds : (u : ℕ) → span.from ≤ u → IfSome span.until (λ until. u < until) → value_at cs u ≡ Some span.value
    pub another_before : (u : ℕ) → u + 1 ≡ span.from → value_at cs u ≢ Some span.value
    pub another_after : IfSome span.until (λ until. value_at cs until ≢ Some span.value)

  -- The first stretch of a value, whole: before it none holds.
  pub record IsFirstSpan (cs : List (Change V)) (span : WholeSpan V) : Type 0 where
    pub whole : IsWholeSpan cs span.from span
    pub none_before : (t : ℕ) → t < span.from → value_at cs t ≡ None

  -- The last stretch of a value, whole: after it none holds.
  pub record IsLastSpan (cs : List (Change V)) (span : WholeSpan V) : Type 0 where
    pub whole : IsWholeSpan cs span.from span
    pub none_after : IfSome span.until (λ until. (t : ℕ) → until ≤ t → value_at cs t ≡ None)

  -- no value holds at any time
  abbrev pub IsBlank : List (Change V) → Type 0
  IsBlank cs = (t : ℕ) → value_at cs t ≡ None

  -- the first time after a time at which the value is another one; None if it holds for ever
  abbrev pub IsNextChange : List (Change V) → ℕ → Option ℕ → Type 0
  IsNextChange cs t None = (u : ℕ) → t ≤ u → value_at cs u ≡ value_at cs t
  IsNextChange cs t (Some n) = (t < n) × ((u : ℕ) → t ≤ u → u < n → value_at cs u ≡ value_at cs t) × (value_at cs n ≢ value_at cs t)

  -- The first stretch of a value from one time until another: before it none holds, over it its value does, and where it ends another
  -- value or none begins, unless that is the end of the time that was asked for.
  pub record IsNextSpan (cs : List (Change V)) (from until : ℕ) (span : Span V) : Type 0 where
    pub begins : from ≤ span.from
    pub lasts : span.from < span.until
    pub ends : span.until ≤ until
    pub none_before : (t : ℕ) → from ≤ t → t < span.from → value_at cs t ≡ None
    pub holds : (t : ℕ) → span.from ≤ t → t < span.until → value_at cs t ≡ Some span.value
    pub another_after : span.until < until → value_at cs span.until ≢ Some span.value

  -- no value holds from one time until another
  abbrev pub HasNone : List (Change V) → ℕ → ℕ → Type 0
  HasNone cs from until = (t : ℕ) → from ≤ t → t < until → value_at cs t ≡ None

  -- All stretches of a value from one time until another, in turn: the first one, and then those from its end on, until there is none.
  abbrev pub AreSpans : List (Change V) → ℕ → ℕ → List (Span V) → Type 0
  AreSpans cs from until [] = HasNone cs from until
  AreSpans cs from until (span ∷ spans) = IsNextSpan cs from until span × AreSpans cs span.until until spans

  -- a value holds at each time from one until another
  abbrev pub HasValues : List (Change V) → ℕ → ℕ → Type 0
  HasValues cs from until = (t : ℕ) → from ≤ t → t < until → IsSome (value_at cs t)

  -- The first stretch without a value from one time until another: before it values hold, and where it ends a value begins, unless that
  -- is the end of the time that was asked for.
  pub record IsNextGap (cs : List (Change V)) (from until : ℕ) (gap : Gap) : Type 0 where
    pub begins : from ≤ gap.from
    pub lasts : gap.from < gap.until
    pub ends : gap.until ≤ until
    pub values_before : HasValues cs from gap.from
    pub none : HasNone cs gap.from gap.until
    pub value_after : gap.until < until → IsSome (value_at cs gap.until)

  -- All stretches without a value from one time until another, in turn.
  abbrev pub AreGaps : List (Change V) → ℕ → ℕ → List Gap → Type 0
  AreGaps cs from until [] = HasValues cs from until
  AreGaps cs from until (gap ∷ gaps) = IsNextGap cs from until gap × AreGaps cs gap.until until gaps

-- what a span, whole or cut, and a change show of the value that they refer to
abbrev pub shown_span : {V : Type 0} → Span (Bor V) → Span V
shown_span s = record { from = s.from; until = s.until; value = s.value.now }

abbrev pub shown_whole : {V : Type 0} → WholeSpan (Bor V) → WholeSpan V
shown_whole s = record { from = s.from; until = s.until; value = s.value.now }

abbrev pub shown_change : {V : Type 0} → ℕ × Option (Bor V) → Change V
shown_change c = record { time = c.0; value = option_map (λ v. v.now) c.1 }
