-- What calls give back: entries with their pointers, and a value that wasn't used.
use Rattle.std.specs.Prelude.{◌≡◌, ◌==◌, ◌+◌, ◌≤◌, ℕ, Bool, List, map, take, drop, length, Option, Some, None, Result, Vec, vec_len, IsOk, OnOk, OnErr}
use Rattle.std.specs.{List.Retain.IsFiltered, Vec.vec_capacity, Ordering.is_eq, declared.cmp.Ordering.Ordering}
use Rattle.listing.specs.Chain.{Entry, times}
use Rattle.sorted_arena.specs.Sorted.{Sorted, first_where, key_of, with_entry, with_passing, IsAbsent, IsFree}

-- an entry as a removal gives it: its pointer, its key and its value
abbrev pub given_entry : {P K V : Type 0} → (P → ℕ × ℕ) → P × K × V → Entry (K × V)
given_entry numbers x = record { index = (numbers x.0).0; generation = (numbers x.0).1; item = (x.1, x.2) }

-- the entries of a vector of removed ones behind those that it had
abbrev pub entries_behind : {P K V B : Type 0} → (P → ℕ × ℕ) → Vec (P × K × V) B → Vec (P × K × V) B → List (Entry (K × V))
entries_behind numbers given filled = map (given_entry numbers) (drop (length given.items) filled.items)

-- A call that moves entries to the end of a vector, in order, each with the pointer that it had, and leaves those that pass a test. If the
-- vector is refused memory, nothing changes.
pub record DrainsEntriesInto {P K V B E : Type 0} (numbers : P → ℕ × ℕ) (greatest : Option ℕ) (old : Sorted K V) (taken : List (Entry (K × V)))
    (stays : Entry (K × V) → Bool) (given filled : Vec (P × K × V) B) (result : Result (Unit {0}) E) (new : Sorted K V) : Type 0 where
  pub held : OnOk result (take (length given.items) filled.items ≡ given.items)
  pub drained : OnOk result (entries_behind numbers given filled ≡ taken)
  pub after : OnOk result (new ≡ with_passing greatest old stays)
  pub room : vec_len given + length taken ≤ vec_capacity given → IsOk result
  pub kept : OnErr result (filled.items ≡ given.items)
  pub err : OnErr result (new ≡ old)

-- A call that asks a closure once for each of these entries, in order, and moves those for which it answers `true` to the end of a vector,
-- in order, each with the pointer that it had. The others stay. If the vector is refused memory, nothing changes.
pub record ExtractsInto {F P K V B E : Type 0} (numbers : P → ℕ × ℕ) (R : F → Entry (K × V) → Bool → F → Type 0) (greatest : Option ℕ) (old : Sorted K V)
    (asked : List (Entry (K × V))) (f : F) (given filled : Vec (P × K × V) B) (result : Result (Unit {0}) E) (new : Sorted K V) : Type 0 where
  pub held : OnOk result (take (length given.items) filled.items ≡ given.items)
  pub extracted : OnOk result (IsFiltered R f asked (entries_behind numbers given filled))
  pub after : OnOk result (new ≡ with_passing greatest old (λ e. times e.index (entries_behind numbers given filled) == 0))
  pub room : vec_len given + length asked ≤ vec_capacity given → IsOk result
  pub kept : OnErr result (filled.items ≡ given.items)
  pub err : OnErr result (new ≡ old)

-- If no entry has an equal key, a new one is inserted. Otherwise the first that has one is found, nothing changes, and the value comes back.
abbrev pub FindsOrInserts : {K V : Type 0} → (K → K → Ordering) → ℕ → Sorted K V → ℕ × ℕ → K → V → Option V → Sorted K V → Type 0
FindsOrInserts cmp most old p k v None new = IsAbsent cmp old k × IsFree old p × (new ≡ with_entry cmp most old p (k, v))
FindsOrInserts cmp most old p k v (Some back) new = (Some p ≡ first_where (λ e. is_eq (cmp k (key_of e))) old.entries) × (back ≡ v) × (new ≡ old)
