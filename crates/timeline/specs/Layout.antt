-- How a timeline lies in its arena, and what its private calls leave (layout).
use Rattle.std.specs.Prelude.{◌≡◌, ◌≢◌, ℕ, ◌+◌, ◌≤◌, ◌<◌, leb, not, filter, if◌then◌else◌, List, [], ◌∷◌, ◌++◌, length, map, Option, Some, None, ◌⊎◌, IfSome}
use Rattle.std.specs.{List.AllByRecursion, Option.option_map, Ordering.nat_cmp, Borrow.Bor}
use Rattle.sorted_arena.specs.{Chain.Entry, Chain.IsDistinct, Chain.from_index, Gap.first_of, Gap.last_of, Sorted.Sorted, Sorted.pointer_of, Sorted.IsSound}
use Rattle.timeline.specs.{Timeline.most_entries, Timeline.Change, Timeline.Timeline, Timeline.value_at, Timeline.IsRising, Timeline.IsSet, Timeline.IsSetFrom, Timeline.HoldsRefusable, Timeline.roomy_capacity, Timeline.capacity_set, declared.walk.Piece.Piece, declared.span.Span.Span}
use Rattle.timeline.specs.declared.span.Gap.{Gap as FreeTime}

-- whether a time is reached by an end, which may be none; and whether it is behind the end
abbrev pub IsReached : Option ℕ → ℕ → Type 0
IsReached None t = Unit {0}
IsReached (Some until) t = t ≤ until

abbrev pub IsBeyond : Option ℕ → ℕ → Type 0
IsBeyond None t = ⊥
IsBeyond (Some until) t = until < t

-- no time is from this one until before the end
abbrev pub IsEmptyTime : ℕ → Option ℕ → Type 0
IsEmptyTime from None = ⊥
IsEmptyTime from (Some until) = until ≤ from

module _ {V : Type 0} where
  -- the changes before a time
  abbrev pub earlier : ℕ → List (Change V) → List (Change V)
  earlier t cs = filter (λ c. not (leb t c.time)) cs

  -- the changes after a time
  abbrev pub later : ℕ → List (Change V) → List (Change V)
  later t cs = filter (λ c. not (leb c.time t)) cs

  -- the value behind all changes
  abbrev pub last_value : Option V → List (Change V) → Option V
  last_value held [] = held
  last_value held (c ∷ cs) = last_value c.value cs

  -- what is put between where the value becomes another at a time: a change, or nothing where the value is the one that held
  abbrev pub Brings : Option V → ℕ → Option V → List (Change V) → Type 0
  Brings held t value put = ((held ≡ value) × (put ≡ [])) ⊎ ((held ≢ value) × (put ≡ record { time = t; value = value } ∷ []))

  -- the changes after the value was made another at a time
  pub record IsChanged (old : List (Change V)) (t : ℕ) (value : Option V) (new : List (Change V)) : Type 0 where
    pub put : List (Change V)
    pub brings : Brings (last_value None (earlier t old)) t value put
    pub after : new ≡ earlier t old ++ (put ++ later t old)

  -- an entry as a change: its key is the time
  abbrev pub change : Entry (ℕ × Option V) → Change V
  change e = record { time = e.item.0; value = e.item.1 }

  -- the changes that an arena holds
  abbrev pub changes_of : Sorted ℕ (Option V) → List (Change V)
  changes_of a = map change a.entries

  -- a pair of an arena as a change
  abbrev pub change_of : ℕ × Option V → Change V
  change_of item = record { time = item.0; value = item.1 }

  -- time and value of a pair, if it has a value
  abbrev pub valued : ℕ × Option V → Option (ℕ × V)
  valued item = option_map (λ v. (item.0, v)) item.1

  -- the timeline that an arena holds
  abbrev pub timeline_of : Sorted ℕ (Option V) → Timeline V
  timeline_of a = record { changes = changes_of a; capacity = a.capacity }

  -- The entries, no two of which share an index, are cut behind a time, and these are the pointers of the entries beside the cut.
  pub record IsAround (es : List (Entry (ℕ × Option V))) (t : ℕ) (beside : Option (ℕ × ℕ) × Option (ℕ × ℕ)) : Type 0 where
    pub distinct : IsDistinct es
    pub front : List (Entry (ℕ × Option V))
    pub back : List (Entry (ℕ × Option V))
    pub cut : es ≡ front ++ back
    pub until : AllByRecursion (λ (c : Change V). c.time ≤ t) (map change front)
    pub after : AllByRecursion (λ (c : Change V). t < c.time) (map change back)
    pub before_is : beside.0 ≡ option_map pointer_of (last_of None front)
    pub after_is : beside.1 ≡ option_map pointer_of (first_of back)

  -- The time from which on the value stays as it is; None if there are no changes. Before that time another value or none holds.
  abbrev pub IsLastChange : List (Change V) → Option ℕ → Type 0
  IsLastChange cs None = cs ≡ []
  IsLastChange cs (Some n) = ((u : ℕ) → n ≤ u → value_at cs u ≡ value_at cs n) × ((u : ℕ) → u + 1 ≡ n → value_at cs u ≢ value_at cs n) × (n ≡ 0 → value_at cs n ≢ None)

  -- the entries are cut at the one that a pointer names
  pub record IsAt (es : List (Entry (ℕ × Option V))) (p : ℕ × ℕ) : Type 0 where
    pub front : List (Entry (ℕ × Option V))
    pub entry : Entry (ℕ × Option V)
    pub back : List (Entry (ℕ × Option V))
    pub cut : es ≡ front ++ entry ∷ back
    pub named : p ≡ pointer_of entry

  -- A call that leaves the capacity of an arena as it is, and the arena sound.
  pub record KeepsCapacity (old new : Sorted ℕ (Option V)) : Type 0 where
    pub capacity : new.capacity ≡ old.capacity
    pub sound : IsSound nat_cmp most_entries new

  -- A call that may take changes out of an arena. If a pointer names a change, `takes` says what is left. The capacity stays.
  pub record TakesChange (old : Sorted ℕ (Option V)) (p : ℕ × ℕ) (takes : IsAt old.entries p → Type 0)
      (new : Sorted ℕ (Option V)) : Type 0 where
    pub taken : (at : IsAt old.entries p) → takes at
    pub keeps : KeepsCapacity old new
    pub count : length new.entries ≤ length old.entries

  -- a change is taken out directly behind the one at a pointer, if the end reaches it
  abbrev pub TakesNext : Option ℕ → {es : List (Entry (ℕ × Option V))} → {p : ℕ × ℕ} → IsAt es p → Option (Option V) → List (Entry (ℕ × Option V)) → Type 0
  TakesNext until {es = es} at None new = (new ≡ es) × IfSome (first_of at.back) (λ f. IsBeyond until f.item.0)
  TakesNext until at (Some v) new = (f : Entry (ℕ × Option V)) × (back : List (Entry (ℕ × Option V))) × (at.back ≡ f ∷ back) × IsReached until f.item.0 × (f.item.1 ≡ v) × (new ≡ at.front ++ at.entry ∷ back)

  -- the value of the last of these, if there is one
  abbrev pub last_taken : Option (Option V) → List (Entry (ℕ × Option V)) → Option (Option V)
  last_taken other [] = other
  last_taken other (e ∷ es) = last_taken (Some e.item.1) es

  -- all changes behind the one at a pointer are taken out that the end reaches; `moved` is the value of the last of them
  pub record TakesBehind (until : Option ℕ) {es : List (Entry (ℕ × Option V))} {p : ℕ × ℕ} (at : IsAt es p) (moved : Option (Option V)) (new : List (Entry (ℕ × Option V))) : Type 0 where
    pub taken : List (Entry (ℕ × Option V))
    pub rest : List (Entry (ℕ × Option V))
    pub parts : at.back ≡ taken ++ rest
    pub reached : AllByRecursion (λ (c : Change V). IsReached until c.time) (map change taken)
    pub beyond : AllByRecursion (λ (c : Change V). IsBeyond until c.time) (map change rest)
    pub left : new ≡ at.front ++ at.entry ∷ rest
    pub moved_is : moved ≡ last_taken None taken

  -- the change directly before the one at a pointer is taken out, if it is at this time
  abbrev pub TakesSame : ℕ → {es : List (Entry (ℕ × Option V))} → {p : ℕ × ℕ} → IsAt es p → Option (Option V) → List (Entry (ℕ × Option V)) → Type 0
  TakesSame from {es = es} at None new = (new ≡ es) × IfSome (last_of None at.front) (λ d. d.item.0 ≢ from)
  TakesSame from at (Some v) new = (front : List (Entry (ℕ × Option V))) × (d : Entry (ℕ × Option V)) × (at.front ≡ front ++ d ∷ []) × (d.item.0 ≡ from) × (d.item.1 ≡ v) × (new ≡ front ++ at.entry ∷ at.back)

  abbrev pub or_else : Option (Option V) → Option (Option V) → Option (Option V)
  or_else None other = other
  or_else (Some v) other = Some v

  -- the changes behind an end; none where there is no end
  abbrev pub later_than : Option ℕ → List (Change V) → List (Change V)
  later_than None cs = []
  later_than (Some until) cs = later until cs

  -- the value of the last change that was taken out, if there is one
  abbrev pub held_or : Option V → Option (Option V) → Option V
  held_or held None = held
  held_or held (Some v) = v

  -- The changes at a time and behind the one at a pointer are taken out that the end reaches. If one was, `moved` is the value of the last.
  pub record TakesOver (from : ℕ) (until : Option ℕ) {es : List (Entry (ℕ × Option V))} {p : ℕ × ℕ} (at : IsAt es p) (moved : Option (Option V)) (new : List (Entry (ℕ × Option V))) : Type 0 where
    pub behind : Option (Option V)
    pub mid : List (Entry (ℕ × Option V))
    pub takes_behind : TakesBehind until at behind mid
    pub at_mid : IsAt mid p
    pub same_mid : (at_mid.front ≡ at.front) × (at_mid.entry ≡ at.entry) × (at_mid.back ≡ takes_behind.rest)
    pub same : Option (Option V)
    pub takes_same : TakesSame from at_mid same new
    pub moved_is : moved ≡ or_else behind same

  -- where a value was set aside, or taken out, it is the one that holds at the end; otherwise the one before the pointer
  abbrev pub end_value_of : {es : List (Entry (ℕ × Option V))} → {p : ℕ × ℕ} → IsAt es p → Option (Option V) → Option (Option V) → Option V
  end_value_of at spare taken = held_or (held_or (last_value None (map change at.front)) taken) spare

  -- a clone of the value before the pointer may be refused, and no other is there
  pub record IsRefusable (is_infallible : V → Type 0) {es : List (Entry (ℕ × Option V))} {p : ℕ × ℕ} (at : IsAt es p) (spare taken : Option (Option V)) : Type 0 where
    pub unspared : spare ≡ None
    pub untaken : taken ≡ None
    pub value : V
    pub held : last_value None (map change at.front) ≡ Some value
    pub refusable : ¬ (is_infallible value)

  -- the change at a pointer goes if it brings the value of the one before it
  abbrev pub IsJoinedTo : {es : List (Entry (ℕ × Option V))} → {p : ℕ × ℕ} → IsAt es p → List (Entry (ℕ × Option V)) → Type 0
  IsJoinedTo {es = es} at new = ((last_value None (map change at.front) ≡ at.entry.item.1) × (new ≡ at.front ++ at.back)) ⊎ ((last_value None (map change at.front) ≢ at.entry.item.1) × (new ≡ es))

  -- The change at a pointer is behind all before it, and those behind it are behind an end.
  pub record IsOpen (es : List (Entry (ℕ × Option V))) (p : ℕ × ℕ) (until : ℕ) : Type 0 where
    pub at : IsAt es p
    pub rising : IsRising (map change at.front) × IsRising (map change at.back)
    pub before : AllByRecursion (λ (c : Change V). c.time < at.entry.item.0) (map change at.front)
    pub behind : AllByRecursion (λ (c : Change V). until < c.time) (map change at.back)
    pub later : at.entry.item.0 < until

  -- the value of the change at the pointer begins there, and at the end this one does
  pub record IsFinished {es : List (Entry (ℕ × Option V))} {p : ℕ × ℕ} {until : ℕ} (stands : IsOpen es p until) (value : Option V) (new : List (Change V)) : Type 0 where
    pub mid : List (Change V)
    pub begun : IsChanged (map change (stands.at.front ++ stands.at.back)) stands.at.entry.item.0 stands.at.entry.item.1 mid
    pub ended : IsChanged mid until value new

  -- at the end the value becomes what it was there; for ever there is no end
  abbrev pub EndsAt : List (Change V) → Option ℕ → List (Change V) → List (Change V) → Type 0
  EndsAt old None mid new = new ≡ mid
  EndsAt old (Some until) mid new = IsChanged mid until (value_at old until) new

  -- The changes from one time until an end, if there is one, are taken out, then the value begins, and ends.
  pub record IsPainted (old : List (Change V)) (from : ℕ) (until : Option ℕ) (value : Option V) (new : List (Change V)) : Type 0 where
    pub mid : List (Change V)
    pub begun : IsChanged (earlier from old ++ later_than until old) from value mid
    pub ended : EndsAt old until mid new

  -- what a setting until an end, or for ever, makes of the values, and of the capacity
  abbrev pub Sets : List (Change V) → ℕ → Option ℕ → Option V → List (Change V) → Type 0
  Sets old from None value new = IsSetFrom old from value new
  Sets old from (Some until) value new = IsSet old from until value new

  abbrev pub capacity_put : Timeline V → ℕ → Option ℕ → ℕ
  capacity_put t from None = roomy_capacity t
  capacity_put t from (Some until) = capacity_set t from until

  -- at the end a value would hold on, but its clone may be refused
  abbrev pub CannotEnd : (V → Type 0) → List (Change V) → ℕ → Option ℕ → Type 0
  CannotEnd is_infallible cs from None = ⊥
  CannotEnd is_infallible cs from (Some until) = HoldsRefusable is_infallible cs from until

  -- where the next entry is the one with this index, if any, these are what is left
  abbrev pub left_from : List (Entry (ℕ × Option V)) → Option (ℕ × ℕ) → List (Entry (ℕ × Option V))
  left_from es None = []
  left_from es (Some p) = from_index es p.0

  -- The entries, no two of which share an index, are cut, and this is the pointer of the first one behind the cut.
  pub record IsBehind (es : List (Entry (ℕ × Option V))) (next : Option (ℕ × ℕ)) : Type 0 where
    pub distinct : IsDistinct es
    pub front : List (Entry (ℕ × Option V))
    pub back : List (Entry (ℕ × Option V))
    pub cut : es ≡ front ++ back
    pub named : next ≡ option_map pointer_of (first_of back)

  -- The pieces of a time over which nothing changes, where `held` is the value before the changes that are left.
  abbrev pub pieces_after : Option V → List (Change V) → ℕ → ℕ → List (Piece V)
  pieces_after held [] from until = if leb until from then [] else record { from = from; until = until; value = held } ∷ []
  pieces_after held (c ∷ cs) from until =
      if leb until from then []
      else (if leb until c.time then record { from = from; until = until; value = held } ∷ []
      else record { from = from; until = c.time; value = held } ∷ pieces_after c.value cs c.time until)

  -- the pieces from one time until another
  abbrev pub pieces_of : List (Change V) → ℕ → ℕ → List (Piece V)
  pieces_of cs from until = pieces_after (value_at cs from) (later from cs) from until

  -- the pieces that have a value, and those that have none
  abbrev pub with_span : ℕ → ℕ → Option V → List (Span V) → List (Span V)
  with_span from until None spans = spans
  with_span from until (Some v) spans = record { from = from; until = until; value = v } ∷ spans

  abbrev pub spans_among : List (Piece V) → List (Span V)
  spans_among [] = []
  spans_among (p ∷ ps) = with_span p.from p.until p.value (spans_among ps)

  abbrev pub with_gap : ℕ → ℕ → Option V → List FreeTime → List FreeTime
  with_gap from until None gaps = record { from = from; until = until } ∷ gaps
  with_gap from until (Some v) gaps = gaps

  abbrev pub gaps_among : List (Piece V) → List FreeTime
  gaps_among [] = []
  gaps_among (p ∷ ps) = with_gap p.from p.until p.value (gaps_among ps)

-- what a piece shows of the value that it refers to
abbrev pub shown_piece : {V : Type 0} → Piece (Bor V) → Piece V
shown_piece p = record { from = p.from; until = p.until; value = option_map (λ v. v.now) p.value }
