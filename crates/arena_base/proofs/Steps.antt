-- Each step on the vector of slots and the stack of vacant indexes is a step of the arena in contracts, and keeps it sound. In the first
-- part the slots are those from index 1 on.
use Rattle.arena_base.proofs.Words.{inl, inr, ◌≡◌, ℕ, zero, suc, ◌+◌, ◌<◌, ◌≤◌, true, Option, Some, None, List, [], ◌∷◌, ◌++◌, cond, length, get_or, set, replicate, is_some, take, ◌-◌, refl, arith, ◌≢◌, drop, map, sym, ap, ◌∙◌, subst}
use Rattle.arena_base.proofs.Words.{add-one, reverse, slice_get, cases_eq, false≢true, eq-eqb, get_or-take, length-set, length-append, get_or-set_same, get_or-set_other, map-append, take-map, take_all, length-map, length-replicate}
use Rattle.arena_base.proofs.Words.{length-take, ext_get_or, get_or_past, map_push, take_more, map-set, get_or-map, reverse-append, reverse-reverse, set-set, set_comm, get_or_default, sum_by-set, none-some, same_Some, slice_get_within}
use Rattle.arena_base.proofs.Words.{get_or_from_slice_get, vec_len, map-replicate, option_map, ForSome, slot, Slot, Occupied, Vacant, Arena, vacant_from, times, IsSound, IsInsertion, limit_of, resized, greatest_occupied, IsFresh}
use Rattle.arena_base.proofs.Slots.{entries, count_by-cons, greatest_occupied-above, get_or-entries, entry-none, vacant_slots-from, times-cons, times-append, length-vacant_from, length-vacant_from-padded, vacant_from-vacant, times-set}
use Rattle.arena_base.proofs.Words.{arena_capacity, with_slot, freed, IsVacant, swapped, IsLawfulGeneration, entry_in, vacant_slots, arena_of, AllVacantFrom, slot_entry, with_slot_generation, Inside, Generations, Indexes}
use Rattle.arena_base.proofs.Slots.{vacant_from-some, vacant_from-least, vacant_from-filled_first}

pub limit_of-below : (most : ℕ) (maximum : Option ℕ) → limit_of most maximum ≤ most
limit_of-below most maximum = grind arith

module _ {T : Type 0} where
  -- the arena of these slots from index 1 on
  abbrev pub arena : List (Option (ℕ × T)) → List ℕ → ℕ → Option ℕ → Arena T
  arena slots vacant generation maximum = record { slots = None ∷ slots; vacant = vacant; generation = generation; maximum = maximum }

  -- the entries are lawful
  abbrev pub AreLawful : Option ℕ → List (Option (ℕ × T)) → Type 0
  AreLawful greatest slots = (k : ℕ) → ForSome (get_or slots k None) (λ e. IsLawfulGeneration greatest e.0)

  pub lawful-some : (greatest : Option ℕ) (old : ℕ × T) → IsLawfulGeneration greatest old.0
      → ForSome (Some old) (λ e. IsLawfulGeneration greatest e.0)
  lawful-some greatest old ok e is = subst (λ (x : ℕ × T). IsLawfulGeneration greatest x.0) (same_Some old e is) ok

  lawful-cons : (greatest : Option ℕ) (slots : List (Option (ℕ × T))) → AreLawful greatest slots → AreLawful greatest (None ∷ slots)
  lawful-cons greatest slots lawful zero e is = absurd (none-some e is)
  lawful-cons greatest slots lawful (suc k) e is = lawful k e is

  module _ {most : ℕ} {greatest : Option ℕ} {slots : List (Option (ℕ × T))} {vacant : List ℕ} {generation : ℕ} {maximum : Option ℕ}
      (sound : IsSound most greatest (arena slots vacant generation maximum)) where
    -- Another slot at a position. The list of vacant indexes changes with it: on each side of the equation, the position's own index
    -- comes first if that slot is vacant.
    module _ (k : ℕ) (new : Option (ℕ × T)) (listed : List ℕ) (within : k < length slots)
        (lawful : ForSome new (λ e. IsLawfulGeneration greatest e.0))
        (turn : vacant_from (k + 1) (get_or slots k None ∷ []) ++ listed ≡ vacant_from (k + 1) (new ∷ []) ++ vacant) where
      lawful-set : AreLawful greatest (set slots k new)
      lawful-set j e at =
          elim (cases_eq j k) [
            | inl same ↦ lawful e (sym (get_or-set_same slots k new None within) ∙ rw same at at)
            | inr other ↦ sound.entries_lawful (suc j) e (sym (get_or-set_other slots k j new None other) ∙ at)
          ]

      pub sound-set : IsSound most greatest (arena (set slots k new) listed generation maximum)
      sound-set = record {
        begins = refl;
        within_limit = rw length-set sound.within_limit;
        generation_lawful = sound.generation_lawful;
        entries_lawful = lawful-cons greatest (set slots k new) lawful-set;
        vacant_listed = λ i.
            omega (arith, sound.vacant_listed i, ap (times i) turn, times-append i, times-set i (k + 1) new slots 1 k (omega arith) within);
        counted =
            let counts = sum_by-set (λ x. cond (is_some x) 1 0) slots k new None within in
            let own = length-vacant_from (k + 1) (get_or slots k None ∷ []) in let put = length-vacant_from (k + 1) (new ∷ []) in
            let before = count_by-cons None slots in let after = count_by-cons None (set slots k new) in
            omega (arith, sound.counted, counts, own, put, before, after, length-set slots k new, ap length turn, length-append {A = ℕ});
      }

  -- the index that is taken next names a vacant slot
  module _ {most : ℕ} {greatest : Option ℕ} {slots : List (Option (ℕ × T))} {i : ℕ} {rest : List ℕ} {generation : ℕ} {maximum : Option ℕ}
      (sound : IsSound most greatest (arena slots (i ∷ rest) generation maximum)) where
    pub first-vacant : IsVacant (arena slots (i ∷ rest) generation maximum) i
    first-vacant =
        let one : times i (i ∷ rest) ≡ 1 + times i rest = rw (times-cons i rest i, eq-eqb i i refl) in
        let at = vacant_from-vacant 1 slots i (omega (arith, sound.vacant_listed i)) in let next : i ≡ suc at.0 = omega (arith, at.1) in
        record { above = omega (arith, next); within = omega (arith, next, at.2); free = rw next at.3 }

  -- an entry is put in its slot
  module _ {most : ℕ} {greatest : Option ℕ} {slots : List (Option (ℕ × T))} (k : ℕ) {rest : List ℕ} {generation : ℕ} {maximum : Option ℕ}
      (sound : IsSound most greatest (arena slots ((k + 1) ∷ rest) generation maximum)) (item : T) where
    abbrev pub filled : Arena T
    filled = arena (set slots k (Some (generation, item))) rest generation maximum

    pub sound-filled : IsSound most greatest filled
    sound-filled =
        let vacant = first-vacant sound in let free : get_or slots k None ≡ None = rw add-one at vacant.free in
        sound-set sound k (Some (generation, item)) rest (omega (arith, vacant.within))
        (lawful-some greatest (generation, item) sound.generation_lawful) (rw free refl)

    pub insertion-filled : IsInsertion (arena slots ((k + 1) ∷ rest) generation maximum) filled item (k + 1) generation
    insertion-filled = record {
      next = refl;
      vacant = first-vacant sound;
      least = least;
      generation = refl;
      after = rw add-one refl;
      fresh = λ fresh. sym (vacant_from-filled_first (k + 1) rest 1 slots k (generation, item) (omega arith) (sym fresh));
    }
      where
        least : (k + 1) ∷ rest ≡ vacant_from 1 slots → (j : ℕ) → 0 < j → j < k + 1 → is_some (get_or (None ∷ slots) j None) ≡ true
        least fresh (suc j) above before = vacant_from-least (k + 1) rest 1 slots j (sym fresh) (omega arith)
        least fresh zero above before = absurd (omega arith)

pub stack-top : {X : Type 0} (xs : List X) (k : X) → slice_get xs (length xs - 1) ≡ Some k → xs ≡ take (length xs - 1) xs ++ k ∷ []
stack-top xs k is =
    let n = length xs - 1 in
    sym (take_all (n + 1) xs (omega arith)) ∙ (take_more xs n k (slice_get_within xs n k is) ∙ rw (get_or_from_slice_get xs n k k is))

some_of : {X : Type 0} (o : Option X) → is_some o ≡ true → (x : X) × (o ≡ Some x)
some_of None h = absurd (false≢true h)
some_of (Some x) h = (x, refl)

module _ {P T A Inx Gen : Type 0} (gen : Generations Gen) (inx : Indexes Inx) (s : Inside P T A Inx Gen) where
  -- the arena with these slots and this stack in place of its own
  abbrev pub stored : List (Slot T Gen) → List Inx → Arena T
  stored slots stack = arena_of gen.number slots (map inx.number stack) s.generation s.maximum

  -- the arena with its own slots and stack
  abbrev pub current : Arena T
  current = stored s.slots.items s.vacant.items

  abbrev pub Sound : Arena T → Type 0
  Sound a = IsSound inx.most gen.greatest a

  module _ (a : Arena T) (view : current ≡ a) where
    pub capacity-is : arena_capacity a ≡ length s.slots.items
    capacity-is = rw (← view) (omega (arith, length-map s.slots.items (entry_in gen.number)))

    -- the position of an entry, found in the fields
    pub found-viewed : (k i : ℕ) → record { number : i ≡ k + 1; within : k < arena_capacity current }
        → record { number : i ≡ k + 1; within : k < arena_capacity a }
    found-viewed k i at = record { number = at.number; within = rw (← view) at.within }

    module _ (k i : ℕ) (found : record { number : i ≡ k + 1; within : k < arena_capacity a }) where
      inside : k < length s.slots.items
      inside = omega (arith, found.within, capacity-is)

      pub slot-within : k < vec_len s.slots
      slot-within = omega (arith, inside, s.slots.ok.0)

      -- a slot that was read, by its index
      pub read : (x : Slot T Gen) → x ≡ get_or s.slots.items k x → slot a i ≡ entry_in gen.number x
      read x is =
          rw (← view, found.number, add-one)
          (get_or-map (entry_in gen.number) s.slots.items k x None inside ∙ ap (entry_in gen.number) (sym is))

      pub read-occupied : (x : Slot T Gen) → x ≡ get_or s.slots.items k x → is_some (slot a i) ≡ true → is_some (slot_entry x) ≡ true
      read-occupied x is there = grind (arith, read x is)

      was-there : is_some (slot a i) ≡ true → is_some (get_or (entries gen.number s.slots.items) k None) ≡ true
      was-there there = rw (← view, found.number, add-one) at there

      inside-entries : k < length (entries gen.number s.slots.items)
      inside-entries = omega (arith, inside, length-map s.slots.items (entry_in gen.number))

      -- an entry is written over another
      module _ (x : Slot T Gen) (f : ℕ × T → ℕ × T) (is : entry_in gen.number x ≡ option_map f (slot a i)) where
        pub written : stored (set s.slots.items k x) s.vacant.items ≡ with_slot a i (option_map f (slot a i))
        written = rw (← is, ← view, found.number, add-one, map-set) refl

        pub written-sound : Sound current → is_some (slot a i) ≡ true → ForSome (slot a i) (λ e. IsLawfulGeneration gen.greatest (f e).0)
            → Sound (stored (set s.slots.items k x) s.vacant.items)
        written-sound sound there lawful =
            let old = some_of (slot a i) there in let put : entry_in gen.number x ≡ Some (f old.0) = is ∙ ap (option_map f) old.1 in
            rw (map-set, put)
            (sound-set sound k (Some (f old.0)) _ inside-entries (lawful-some gen.greatest (f old.0) (lawful old.0 old.1))
            (rw (vacant_from-some (k + 1) _ (was-there there)) refl))

      -- an entry gets the arena's generation
      pub renewed : (old x : Slot T Gen) → old ≡ get_or s.slots.items k old → x ≡ with_slot_generation old s.generation
          → entry_in gen.number x ≡ option_map (λ e. (a.generation, e.1)) (slot a i)
      renewed old x was is = rw (is, read old was, ← view) (grind arith)

      -- an entry is taken out, and its index is pushed on the stack
      module _ (x : Slot T Gen) (empty : x ≡ Vacant) (stack : List Inx) (j : Inx) (same : inx.number j ≡ i)
          (pushed : stack ≡ s.vacant.items ++ j ∷ []) where
        pub taken : stored (set s.slots.items k x) stack ≡ freed a i
        taken = rw (← view, empty, pushed, map_push, reverse-append, map-set, same, found.number, add-one) refl

        pub taken-sound : Sound current → is_some (slot a i) ≡ true → Sound (stored (set s.slots.items k x) stack)
        taken-sound sound there =
            rw (empty, pushed, map_push, reverse-append, map-set, same, found.number)
            (sound-set sound k None _ inside-entries (λ e is. absurd (none-some e is))
            (rw (vacant_from-some (k + 1) _ (was-there there)) refl))

  -- the index on top of the stack is taken next
  module _ (a : Arena T) (view : current ≡ a) (sound : Sound current) (below : List Inx) (j : Inx)
      (top : s.vacant.items ≡ below ++ j ∷ []) where
    pub top-vacant : IsVacant a (inx.number j)
    top-vacant = rw (← view, top, map_push, reverse-append) (first-vacant (rw (top, map_push, reverse-append) at sound))

    -- an entry is put in its slot
    module _ (k : ℕ) (position : inx.number j ≡ k + 1) (item : T) where
      pub put-sound : Sound (stored (set s.slots.items k (Occupied s.generation item)) below)
      put-sound = rw map-set (sound-filled k (rw (top, map_push, reverse-append, position) at sound) item)

      pub insertion : (i g : ℕ) → i ≡ inx.number j → g ≡ gen.number s.generation
          → IsInsertion a (stored (set s.slots.items k (Occupied s.generation item)) below) item i g
      insertion i g here now =
          rw (← view, here, now, top, map_push, reverse-append, position, map-set)
          (insertion-filled k (rw (top, map_push, reverse-append, position) at sound) item)

pub get_or-padded : {X : Type 0} (xs : List X) (m k : ℕ) (d : X) → get_or (xs ++ replicate m d) k d ≡ get_or xs k d
get_or-padded [] (suc m) (suc k) d = get_or-padded [] m k d
get_or-padded (x ∷ xs) m (suc k) d = get_or-padded xs m k d
get_or-padded xs m k d = refl

-- vacant slots that were added are vacant, and those that are cut off don't matter
module _ {T G : Type 0} (slots padded : List (Slot T G)) (m : ℕ) (is : padded ≡ slots ++ replicate m Vacant) where
  pub added-vacant : AllVacantFrom (length slots) padded
  added-vacant = λ k past. rw is (get_or-padded slots m k Vacant ∙ get_or_past slots k Vacant past)

  pub added-vacant_cut : (n : ℕ) → AllVacantFrom (length slots) (take n padded)
  added-vacant_cut n = λ k past. grind (arith, get_or-take n padded k Vacant, get_or_past (take n padded) k Vacant, length-take n padded, added-vacant k past)

-- slots are padded to the wanted number
pub length-padded : {X : Type 0} (n : ℕ) (xs padded : List X) (d : X)
    → padded ≡ xs ++ replicate (n - length xs) d → length xs ≤ n → length padded ≡ n
length-padded {X = X} n xs padded d is fits =
    rw is (omega (arith, length-append xs (replicate (n - length xs) d), length-replicate {A = X} (n - length xs) d))

module _ {X : Type 0} (n : ℕ) (slots : List (Option X)) where
  pub resized-cons : resized (n + 1) (None ∷ slots) ≡ None ∷ resized n slots
  resized-cons = let less : n + 1 - suc (length slots) ≡ n - length slots = omega arith in rw (less, add-one)

  pub length-resized : length (resized n slots) ≡ n
  length-resized = grind (arith, length-append {A = Option X}, length-take {A = Option X}, length-replicate {A = Option X})

  pub get_or-resized : (k : ℕ) → k < n → get_or (resized n slots) k None ≡ get_or slots k None
  get_or-resized k below = get_or-padded (take n slots) (n - length slots) k None ∙ get_or-take n slots k None below

  get_or-resized_past : (k : ℕ) → n ≤ k → get_or (resized n slots) k None ≡ None
  get_or-resized_past k past = get_or_past (resized n slots) k None (omega (arith, length-resized))

  -- a list of this length with the same slot at each position
  pub resized-is : (ys : List (Option X)) → length ys ≡ n → ((k : ℕ) → k < n → get_or ys k None ≡ get_or slots k None) → ys ≡ resized n slots
  resized-is ys long same =
      ext_get_or None ys (resized n slots) (long ∙ sym length-resized)
      (λ k below. same k (omega arith) ∙ sym (get_or-resized k (omega arith)))

  -- vacant slots were added, and those beyond were cut off
  pub resized-padded : take n (slots ++ replicate (n - length slots) None) ≡ resized n slots
  resized-padded =
      let padded = slots ++ replicate {A = Option X} (n - length slots) None in
      resized-is (take n padded) (omega (arith, length-take {A = Option X}, length-append {A = Option X}, length-replicate {A = Option X}))
      (λ k below. get_or-take n padded k None below ∙ get_or-padded slots (n - length slots) k None)

  -- a resized list has no new entries
  pub resized-some : (k : ℕ) (e : X) → get_or (resized n slots) k None ≡ Some e → get_or slots k None ≡ Some e
  resized-some k e is = grind (arith, get_or-resized k, get_or-resized_past k)

  -- if no entry is lost, each index keeps its slot
  pub resized-same : ((k : ℕ) → n ≤ k → get_or slots k None ≡ None) → (i : ℕ) → get_or (resized n slots) i None ≡ get_or slots i None
  resized-same none i = grind (arith, get_or-resized i, get_or-resized_past i, none i)

-- vacant slots at the end make no difference
pub resized-again : {X : Type 0} (n m : ℕ) (slots : List (Option X)) → resized n (slots ++ replicate m None) ≡ resized n slots
resized-again n m slots =
    resized-is n slots (resized n (slots ++ replicate m None)) (length-resized n (slots ++ replicate m None))
    (λ k below. get_or-resized n (slots ++ replicate m None) k below ∙ get_or-padded slots m k None)

module _ {T G : Type 0} (number : G → ℕ) (n : ℕ) (slots padded : List (Slot T G)) (is : padded ≡ slots ++ replicate (n - length slots) Vacant) where
  pub entries-resized : (cut : List (Slot T G)) → cut ≡ take n padded → entries number cut ≡ resized n (entries number slots)
  entries-resized cut same =
      rw (same, is, ← take-map, map-append, map-replicate, ← length-map slots (entry_in number)) (resized-padded n (entries number slots))

  pub entries-padded : length slots ≤ n → entries number padded ≡ resized n (entries number slots)
  entries-padded fits = entries-resized padded (sym (take_all n padded (omega (arith, length-padded n slots padded Vacant is fits))))

  module _ (least : greatest_occupied (None ∷ entries number slots) ≤ n) where
    beyond : (k : ℕ) → n ≤ k → get_or (entries number slots) k None ≡ None
    beyond k past = greatest_occupied-above (None ∷ entries number slots) (suc k) (omega arith)

    -- the slots beyond the greatest occupied index, and those that were added, are vacant
    pub padded-vacant : AllVacantFrom n padded
    padded-vacant = λ k past.
        rw is (get_or-padded slots (n - length slots) k Vacant
        ∙ entry-none number (get_or slots k Vacant) (sym (get_or-entries number slots k) ∙ beyond k past))

    -- an entry keeps its slot
    pub resized-full : (k : ℕ) → is_some (get_or (entries number slots) k None) ≡ true → get_or (take n padded) k Vacant ≢ Vacant
    resized-full k there = λ vacant.
        let none : get_or (entries number (take n padded)) k None ≡ None = get_or-entries number (take n padded) k ∙ ap (entry_in number) vacant in
        let same = resized-same n (entries number slots) beyond k in
        false≢true (ap is_some (sym none ∙ (ap (λ ss. get_or ss k None) (entries-resized (take n padded) refl) ∙ same)) ∙ there)

-- the vacant indexes are listed again
module _ {T Inx Gen : Type 0} (gen : Generations Gen) (inx : Indexes Inx) (next : List (Slot T Gen)) (listed : List Inx) (generation : Gen)
    (maximum : Option ℕ) (all : map inx.number listed ≡ reverse (vacant_slots 1 next)) where
  abbrev pub listed_anew : Arena T
  listed_anew = arena_of gen.number next (map inx.number listed) generation maximum

  pub relisted : listed_anew ≡ arena (entries gen.number next) (vacant_from 1 (entries gen.number next)) (gen.number generation) maximum
  relisted = rw (all, reverse-reverse, vacant_slots-from gen.number) refl

  pub relisted-fresh : IsFresh listed_anew
  relisted-fresh = subst (λ (v : Arena T). IsFresh v) (sym relisted) refl

  module _ (n : ℕ) (slots : List (Option (ℕ × T))) (is : entries gen.number next ≡ resized n slots) where
    pub relisted-sound : n ≤ limit_of inx.most maximum → IsLawfulGeneration gen.greatest (gen.number generation)
        → AreLawful gen.greatest slots → IsSound inx.most gen.greatest listed_anew
    relisted-sound within now lawful = rw (relisted, is) (record {
      begins = refl;
      within_limit = omega (arith, length-resized n slots);
      generation_lawful = now;
      entries_lawful = lawful-cons gen.greatest (resized n slots) (λ k e there. lawful k e (resized-some n slots k e there));
      vacant_listed = λ i. refl;
      counted = omega (arith, count_by-cons None (resized n slots), length-vacant_from 1 (resized n slots));
    })

-- after growing, a slot is vacant
pub resized-room : {X : Type 0} (n : ℕ) (slots : List (Option X)) → take 1 slots ≡ None ∷ [] → length slots - 1 < n
    → 0 < length (vacant_from 1 (drop 1 (resized (n + 1) slots)))
resized-room n (None ∷ slots) begins more = rw resized-cons (omega (arith, length-vacant_from-padded 1 (n - length slots) (take n slots)))
resized-room n slots begins more = absurd (cc)

-- slots made by adding n vacant ones to none
pub entries-made : {T G : Type 0} (number : G → ℕ) (n : ℕ) (next : List (Slot T G)) → next ≡ [] ++ replicate (n - 0) Vacant
    → entries number next ≡ resized n []
entries-made number n next is = entries-padded number n [] next is (omega arith)

-- Two entries whose slots are swapped, and whose generations are then put back, have swapped their items.

-- only the later writes to the same two positions count
set-twice : {X : Type 0} (xs : List X) (p q : ℕ) (a b c d : X) → set (set (set (set xs p a) q b) p c) q d ≡ set (set xs p c) q d
set-twice {X = X} xs p q a b c d = grind (arith, set-set {A = X}, set_comm {A = X})

-- a slot whose generation is known
module _ {T G : Type 0} (xs : List (Slot T G)) (k : ℕ) (within : k < length xs) where
  occupied-by : (s : Slot T G) (era : G) → s ≡ get_or xs k s → option_map (λ e. e.0) (slot_entry s) ≡ Some era
      → (item : T) × ((d : Slot T G) → get_or xs k d ≡ Occupied era item)
  occupied-by (Occupied old item) era is at =
      let same : Occupied old item ≡ Occupied era item = cc in
      (item, λ d. get_or_default xs k d (Occupied old item) within ∙ (sym is ∙ same))
  occupied-by Vacant era is at = cc

-- Slots xs, with entries at p and q, become ys by a swap; then s1 is written to p, and s2 to q.
pub record IsExchange {T G : Type 0} (xs ys : List (Slot T G)) (p q : ℕ) (sp sq y1 y2 s1 s2 : Slot T G) (gp gq : G) : Type 0 where
  pub p_within : p < length xs
  pub q_within : q < length xs
  pub p_is : sp ≡ get_or xs p sp
  pub q_is : sq ≡ get_or xs q sq
  pub p_era : option_map (λ (e : G × T). e.0) (slot_entry sp) ≡ Some gp
  pub q_era : option_map (λ (e : G × T). e.0) (slot_entry sq) ≡ Some gq
  pub same_len : length ys ≡ length xs
  pub p_after : (d : Slot T G) → get_or ys p d ≡ get_or xs q d
  pub q_after : (d : Slot T G) → get_or ys q d ≡ get_or xs p d
  pub after : (d : Slot T G) → ys ≡ set (set xs p (get_or xs q d)) q (get_or xs p d)
  pub first_old : y1 ≡ get_or ys p y1
  pub first : s1 ≡ with_slot_generation y1 gp
  pub second_old : y2 ≡ get_or (set ys p s1) q y2
  pub second : s2 ≡ with_slot_generation y2 gq

module _ {T G : Type 0} {xs ys : List (Slot T G)} {p q : ℕ} {sp sq y1 y2 s1 s2 : Slot T G} {gp gq : G}
    (h : IsExchange xs ys p q sp sq y1 y2 s1 s2 gp gq) where
  one : (item : T) × ((d : Slot T G) → get_or xs p d ≡ Occupied gp item)
  one = occupied-by xs p h.p_within sp gp h.p_is h.p_era

  other : (item : T) × ((d : Slot T G) → get_or xs q d ≡ Occupied gq item)
  other = occupied-by xs q h.q_within sq gq h.q_is h.q_era

  -- each position has the other's item
  exchanged : set (set ys p s1) q s2 ≡ set (set xs p (Occupied gp other.0)) q (Occupied gq one.0)
  exchanged =
      let first : s1 ≡ Occupied gp other.0 = h.first ∙ ap (λ s. with_slot_generation s gp) (h.first_old ∙ (h.p_after y1 ∙ other.1 y1)) in
      let same = get_or-set_same ys p s1 y2 (omega (arith, h.p_within, h.same_len)) in
      let second : s2 ≡ Occupied gq one.0 =
      grind (arith, h.second, h.second_old, same, get_or-set_other ys p q s1 y2, h.q_after y2, one.1 y2, other.1 y2) in
      cc (h.after sp, set-twice xs p q (get_or xs q sp) (get_or xs p sp) s1 s2, first, second)

module _ {P T A Inx Gen : Type 0} (gen : Generations Gen) (inx : Indexes Inx) (s : Inside P T A Inx Gen) {ys : List (Slot T Gen)} {p q : ℕ}
    {sp sq y1 y2 s1 s2 : Slot T Gen} {gp gq : Gen} (h : IsExchange s.slots.items ys p q sp sq y1 y2 s1 s2 gp gq) where
  abbrev slots : List (Option (ℕ × T))
  slots = entries gen.number s.slots.items

  abbrev now : Arena T
  now = stored gen inx s (set (set ys p s1) q s2) s.vacant.items

  first-entry : get_or slots p None ≡ Some (gen.number gp, (one h).0)
  first-entry = get_or-entries gen.number s.slots.items p ∙ ap (entry_in gen.number) ((one h).1 Vacant)

  second-entry : get_or slots q None ≡ Some (gen.number gq, (other h).0)
  second-entry = get_or-entries gen.number s.slots.items q ∙ ap (entry_in gen.number) ((other h).1 Vacant)

  pub swapped-view : (a : Arena T) → current gen inx s ≡ a → (i j : ℕ) → i ≡ p + 1 → j ≡ q + 1 → now ≡ swapped a i j
  swapped-view a view i j first second =
      rw (exchanged h, ← view, first, second, add-one p, add-one q, first-entry, second-entry, map-set, map-set) refl

  pub swapped-sound : Sound gen inx s (current gen inx s) → Sound gen inx s now
  swapped-sound sound =
      let e : ℕ × T = (gen.number gp, (other h).0) in let d : ℕ × T = (gen.number gq, (one h).0) in
      let count = length-map s.slots.items (entry_in gen.number) in
      let there : is_some (get_or (set slots p (Some e)) q None) ≡ true =
      grind (arith, get_or-set_same slots p (Some e) None, get_or-set_other slots p q (Some e) None, second-entry, count, h.p_within) in
      let half =
      sound-set sound p (Some e) (reverse (map inx.number s.vacant.items)) (omega (arith, h.p_within))
      (lawful-some gen.greatest e (sound.entries_lawful (suc p) (gen.number gp, (one h).0) first-entry)) (rw first-entry refl) in
      rw (exchanged h, map-set, map-set)
      (sound-set half q (Some d) _ (omega (arith, h.q_within, length-set slots p (Some e)))
      (lawful-some gen.greatest d (sound.entries_lawful (suc q) (gen.number gq, (other h).0) second-entry))
      (rw (vacant_from-some (q + 1) (get_or (set slots p (Some e)) q None) there) refl))
