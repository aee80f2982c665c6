-- What a call makes of a sorted arena, by its result.
use Rattle.std.specs.Prelude.{◌≡◌, ◌+◌, ◌≤◌, ◌<◌, ℕ, Bool, List, ◌++◌, map, take, length, Option, Some, None, Result, Ok, Err, Vec, vec_len}
use Rattle.std.specs.Prelude.{IsOk, OnOk, OnErr, IfErr}
use Rattle.std.specs.{Vec.vec_capacity, declared.cmp.Ordering.Ordering}
use Rattle.listing.specs.Chain.{Entry}
use Rattle.listing.specs.ReallocationError.{ReallocationError, TheVariants.BeyondMaxCapacity as NoRoom, TheVariants.AllocError as NoMemory}
use Rattle.sorted_arena.specs.declared.error.SortedError.{SortedError, TheVariants.OutOfOrder, TheVariants.BeyondMaxCapacity, TheVariants.AllocError}
use Rattle.listing.specs.Steps.{IsStep}
use Rattle.sorted_arena.specs.Sorted.{Sorted, pair_of, count, with_passing, IsOutOfOrder, Keeps}

-- why a call was refused that gives something back with the reason
abbrev pub refusal_of : {T X E : Type 0} → Result T (X × E) → Option E
refusal_of (Ok t) = None
refusal_of (Err e) = Some e.1

-- a refusal of room as one of pairs that were to be in order
abbrev pub sorted_error : ReallocationError → SortedError
sorted_error NoRoom = BeyondMaxCapacity
sorted_error NoMemory = AllocError

-- A call that inserts pairs in order behind all entries, up to the first that is out of order or has no room: that one and the rest come
-- back. Old pointers stay valid. The capacity never falls, and stays where all pairs fit; memory is refused only where they don't.
pub record ExtendsSorted {K V B : Type 0} (cmp : K → K → Ordering) (most : ℕ) (old : Sorted K V)
    (pairs : List (K × V)) (result : Result (Unit {0}) (Vec (K × V) B × SortedError)) (new : Sorted K V) : Type 0 where
  pub ok : OnOk result (map pair_of new.entries ≡ map pair_of old.entries ++ pairs)
  pub back : IfErr result (λ e. (front : List (K × V)) × (pairs ≡ front ++ e.0.items)
      × (map pair_of new.entries ≡ map pair_of old.entries ++ front))
  pub unsorted : (at : ℕ) → refusal_of result ≡ Some (OutOfOrder at) → IsOutOfOrder cmp (map pair_of old.entries) pairs at
  pub before : (at : ℕ) → refusal_of result ≡ Some (OutOfOrder at) → map pair_of new.entries ≡ map pair_of old.entries ++ take at pairs
  pub refused : OnErr result (count new < count old + length pairs)
  pub kept : Keeps old new
  pub generation : new.generation ≡ old.generation
  pub step : IsStep old new
  pub grown : old.capacity ≤ new.capacity
  pub room : count old + length pairs ≤ old.capacity → new.capacity ≡ old.capacity
  pub full : refusal_of result ≡ Some BeyondMaxCapacity → (count new ≡ most) × (most < count old + length pairs)
  pub memory : refusal_of result ≡ Some AllocError → (count new ≡ new.capacity) × (old.capacity < count old + length pairs)

-- A call that moves entries to the end of a vector, in order, and leaves those that pass a test. If the vector is refused memory, nothing changes.
pub record DrainsInto {K V B E : Type 0} (greatest : Option ℕ) (old : Sorted K V) (taken : List (Entry (K × V))) (stays : Entry (K × V) → Bool)
    (given filled : Vec (K × V) B) (result : Result (Unit {0}) E) (new : Sorted K V) : Type 0 where
  pub drained : OnOk result (filled.items ≡ given.items ++ map pair_of taken)
  pub after : OnOk result (new ≡ with_passing greatest old stays)
  pub room : vec_len given + length taken ≤ vec_capacity given → IsOk result
  pub kept : OnErr result (filled.items ≡ given.items)
  pub err : OnErr result (new ≡ old)

-- A call that changes nothing but the capacity.
pub record ChangesCapacity {K V : Type 0} (old new : Sorted K V) : Type 0 where
  pub entries : new.entries ≡ old.entries
  pub generation : new.generation ≡ old.generation
