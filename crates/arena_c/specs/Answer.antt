-- What a call leaves and answers.
use Rattle.std.specs.Prelude.{◌≡◌, ◌≢◌, ◌↔◌, ℕ, ℤ, List, Option, Some, None, is_some, IsSomeAnd, if◌then◌else◌, Result, Ok, Err}
use Rattle.std.specs.{List.Contains, Option.option_map_or, Option.option_and_then}
use Rattle.sorted_arena.specs.ReallocationError.{ReallocationError, TheVariants.BeyondMaxCapacity, TheVariants.AllocError}
use Rattle.sorted_arena.specs.Sorted.{count, Updates}
use Rattle.arena_c.specs.{declared.entry.Pointer.Pointer, Shown.Arena, Shown.numbers_of}
use Rattle.arena_c.specs.Status.{ok, not_found, full, no_memory, closed}

module _ {X : Type 0} where
  -- the status of a call that found this, or nothing
  abbrev pub found_status : Option X → ℕ
  found_status found = if is_some found then ok else not_found

  -- what a call that found this, or nothing, leaves in the variable for it
  abbrev pub found_or : X → Option X → X
  found_or before found = option_map_or (λ x. x) found before

  -- the status of a call that looks for something in an arena, which may be closed
  abbrev pub look_status : (Arena → Option X) → Option Arena → ℕ
  look_status look arena = option_map_or (λ a. found_status (look a)) arena closed

  -- A call that looks for something in an arena. It answers whether it found it, and writes it exactly then. The arena stays as it is.
  pub record Looks (look : Arena → Option X) (old new : Option Arena) (status : ℕ) (before after : X) : Type 0 where
    pub answer : status ≡ look_status look old
    pub written : after ≡ found_or before (option_and_then look old)
    pub arena : new ≡ old

-- both arenas are open, and the first was changed so to the second
abbrev pub Becomes : (Arena → Arena → Type 0) → Option Arena → Option Arena → Type 0
Becomes change None new = ⊥
Becomes change (Some a) None = ⊥
Becomes change (Some a) (Some b) = change a b

-- A call that changes what it finds. It answers whether it found it, and writes it exactly then. If it found nothing, the arena stays as it is.
pub record Changes {X : Type 0} (look : Arena → Option X) (change : Arena → Arena → Type 0) (old new : Option Arena) (status : ℕ) (before after : X) : Type 0 where
  pub answer : status ≡ look_status look old
  pub written : after ≡ found_or before (option_and_then look old)
  pub changed : status ≡ ok → Becomes change old new
  pub kept : status ≢ ok → new ≡ old

-- A call that changes an open arena, and never fails. It answers OK if the arena is open, else CLOSED, and then the arena stays as it is.
pub record ChangesOpen (change : Arena → Arena → Type 0) (old new : Option Arena) (status : ℕ) : Type 0 where
  pub answer : status ≡ (if is_some old then ok else closed)
  pub changed : status ≡ ok → Becomes change old new
  pub kept : status ≢ ok → new ≡ old

-- A call that changes an open arena, or fails. It answers one of these statuses, and CLOSED exactly if the arena is closed. On all but OK
-- the arena stays as it is.
pub record ChangesOrFails (statuses : List ℕ) (change : Arena → Arena → Type 0) (old new : Option Arena) (status : ℕ) : Type 0 where
  pub known : Contains statuses status
  pub changed : status ≡ ok → Becomes change old new
  pub kept : status ≢ ok → new ≡ old
  pub closed : (status ≡ closed) ↔ (old ≡ None)

-- A call that inserts an entry, and writes its pointer, or fails. It wants memory only where the arena is full.
pub record InsertsOrFails (statuses : List ℕ) (change : Arena → Arena → Type 0) (key : ℤ) (value : ℕ)
    (old new : Option Arena) (status : ℕ) (before after : Pointer) : Type 0 where
  pub arena : ChangesOrFails statuses change old new status
  pub updates : status ≡ ok → Becomes (λ a b. Updates a b (numbers_of after) (Some (key, value))) old new
  pub memory : status ≡ no_memory → IsSomeAnd old (λ a. count a ≡ a.capacity)
  pub kept : status ≢ ok → after ≡ before

-- the status of a reservation
abbrev pub status_of_reservation : Result (Unit {0}) ReallocationError → ℕ
status_of_reservation (Ok u) = ok
status_of_reservation (Err BeyondMaxCapacity) = full
status_of_reservation (Err AllocError) = no_memory
