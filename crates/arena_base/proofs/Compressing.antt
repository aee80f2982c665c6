-- The state halfway through a compression.
use Rattle.arena_base.proofs.Words.{◌≡◌, ℕ, zero, suc, ◌+◌, ◌<◌, ◌≤◌, Option, Some, None, List, [], ◌∷◌, ◌++◌, length, get_or, set, replicate, ◌-◌, refl, arith, drop, map, sym, ap, ◌∙◌, chained_keeps, length-set, length-append, length-map}
use Rattle.arena_base.proofs.Words.{length-replicate, drop_more, drop_all, set_at, get_or_at, append_assoc, map_push, length_push, append-nil, map-id, none-some, map-map, FoldsTo, Slot, Occupied, Vacant, Arena, resized, HoldsSame}
use Rattle.arena_base.proofs.Words.{CompressionStep, IsCompression, compressed, items_rising, IsLawfulGeneration, entry_in, slot_entry, entries_from, entries_rising, Inside, Generations, Indexes, CompressesSlots}
use Rattle.arena_base.proofs.{Steps.AreLawful, Steps.lawful-some, Steps.stored, Steps.current, Steps.resized-cons, Steps.entries-padded, Slots.entries}

-- the calls of the closure for these entries, from one state to another
abbrev pub Calls : {P T F : Type 0} (numbers : P → ℕ × ℕ) (step : F → P → T → P → T → F → Type 0) (g : ℕ)
    → F × List T → List (ℕ × ℕ × T) → F × List T → Type 0
Calls numbers step g s entries t = FoldsTo (CompressionStep numbers step g) s entries t

module _ {P T G F : Type 0} (numbers : P → ℕ × ℕ) (number : G → ℕ) (step : F → P → T → P → T → F → Type 0) (generation : G) where
  -- the calls for the entries of these slots, the first of which has index i
  abbrev CallsAt : F × List T → ℕ → List (Slot T G) → F × List T → Type 0
  CallsAt s i slots t = Calls numbers step (number generation) s (entries_from i (entries number slots)) t

  -- the items moved to the first slots, the vacated slots, and the slots still to come
  pub record CompressedBelow (first : F) (old : List (Slot T G)) (f : F) (slots : List (Slot T G)) (from to : ℕ) : Type 0 where
    pub items : List T
    pub gap : ℕ
    pub answers : length items ≡ to
    pub visited : to + gap ≡ from
    pub within : length slots ≡ length old
    pub shape : slots ≡ map (λ item. Occupied generation item) items ++ (replicate gap Vacant ++ drop from old)
    pub calls : (s : F × List T) → CallsAt (f, items) (from + 1) (drop from old) s → CallsAt (first, []) 1 old s

  pub compressed-begins : (f : F) (old : List (Slot T G)) → CompressedBelow f old f old 0 0
  compressed-begins f old = record { items = []; gap = 0; answers = refl; visited = refl; within = refl; shape = refl; calls = λ s p. p }

vacated : {X : Type 0} (gap : ℕ) (x : X) (rest : List X) → replicate gap x ++ (x ∷ rest) ≡ x ∷ (replicate gap x ++ rest)
vacated zero x rest = refl
vacated (suc n) x rest = ap (λ xs. x ∷ xs) (vacated n x rest)

module _ {P T G F : Type 0} {numbers : P → ℕ × ℕ} {number : G → ℕ} {step : F → P → T → P → T → F → Type 0} {generation : G} {first : F}
    {old : List (Slot T G)} {f : F} {slots : List (Slot T G)} {from to : ℕ} (b : CompressedBelow numbers number step generation first old f slots from to) where
  abbrev done : List (Slot T G)
  done = map (λ item. Occupied generation item) b.items

  length-done : length done ≡ to
  length-done = length-map b.items (λ item. Occupied generation item) ∙ b.answers

  pub compressed-ends : length old ≤ from → from ≤ length old → CompressesSlots numbers number step generation first old slots
  compressed-ends past upto =
      let none : drop from old ≡ [] = drop_all from old past in
      let gap : b.gap ≡ length old - length b.items = omega (arith, b.answers, b.visited) in
      record {
        items = b.items;
        last = f;
        calls = b.calls (f, b.items) (rw none refl);
        fits = omega (arith, b.answers, b.visited, upto);
        after = b.shape ∙ rw (none, append-nil, gap) refl;
      }

  module _ (inside : from < length old) where
    abbrev before : List (Slot T G)
    before = done ++ replicate b.gap Vacant

    length-before : length before ≡ from
    length-before = omega (arith, b.visited, length-done, length-append done (replicate b.gap Vacant), length-replicate {A = Slot T G} b.gap Vacant)

    opened : slots ≡ before ++ (get_or old from Vacant ∷ drop (from + 1) old)
    opened = b.shape ∙ rw (drop_more old from Vacant inside) (sym (append_assoc done (replicate b.gap Vacant) _))

    at_from : (now : Slot T G) → now ≡ get_or slots from now → get_or old from Vacant ≡ now
    at_from now read =
        sym (get_or_at before (get_or old from Vacant) (drop (from + 1) old) now from length-before) ∙ (ap (λ xs. get_or xs from now) (sym opened) ∙ sym read)

    -- the slots after the slot is vacated
    emptied : set slots from Vacant ≡ done ++ (Vacant ∷ (replicate b.gap Vacant ++ drop (from + 1) old))
    emptied = ap (λ xs. set xs from Vacant) opened ∙ rw (set_at before _ _ Vacant from length-before, append_assoc, vacated)

    -- the slot that the item moves to is vacant
    pub compressed-free : (x : Slot T G) → x ≡ get_or (set slots from Vacant) to x → x ≡ Vacant
    compressed-free x read = read ∙ (ap (λ xs. get_or xs to x) emptied ∙ get_or_at done Vacant (replicate b.gap Vacant ++ drop (from + 1) old) x to length-done)

    module _ (now : Slot T G) (read : now ≡ get_or slots from now) where
      pub compressed-vacant : slot_entry now ≡ None → CompressedBelow numbers number step generation first old f (set slots from Vacant) (from + 1) to
      compressed-vacant none =
          let vacant : now ≡ Vacant = grind arith in
          record {
            items = b.items;
            gap = suc b.gap;
            answers = b.answers;
            visited = omega (arith, b.visited);
            within = length-set slots from Vacant ∙ b.within;
            shape = emptied;
            calls = λ s p. b.calls s (rw (drop_more old from Vacant inside, at_from now read ∙ vacant) p);
          }

      module _ (e : G) (was new : T) (p q : P) (next : F) (is : slot_entry now ≡ Some (e, was))
          (old_pointer : record { index : (numbers p).0 ≡ from + 1; generation : (numbers p).1 ≡ number e })
          (new_pointer : record { index : (numbers q).0 ≡ to + 1; generation : (numbers q).1 ≡ number generation }) (called : step f p was q new next) where
        abbrev after : List (Slot T G)
        after = set (set slots from Vacant) to (Occupied generation new)

        pub compressed-filled : CompressedBelow numbers number step generation first old next after (from + 1) (to + 1)
        compressed-filled =
            let occupied : now ≡ Occupied e was = grind arith in
            record {
              items = b.items ++ new ∷ [];
              gap = b.gap;
              answers = length_push b.items new ∙ ap (λ n. n + 1) b.answers;
              visited = omega (arith, b.visited);
              within = rw (length-set, length-set) b.within;
              shape =
                  rw (emptied, set_at done Vacant _ (Occupied generation new) to length-done, map_push)
                  (sym (append_assoc done (Occupied generation new ∷ []) _));
              calls = λ s c. b.calls s (rw (drop_more old from Vacant inside, at_from now read ∙ occupied) (
                (next, b.items ++ new ∷ []),
                record {
                  from = p;
                  to = q;
                  item = new;
                  from_index = old_pointer.index;
                  from_generation = old_pointer.generation;
                  to_index = rw b.answers new_pointer.index;
                  to_generation = new_pointer.generation;
                  called = called;
                  behind = refl;
                },
                c,
              ));
            }

-- Calls of one kind are calls of another: `state` and `item` map the states and the items.
module _ {P X T M F : Type 0} (numbers : P → ℕ × ℕ) (below : M → P → X → P → X → M → Type 0) (above : F → P → T → P → T → F → Type 0)
    (g : ℕ) (state : M → F) (item : X → T)
    (like : (m : M) (p : P) (x : X) (q : P) (y : X) (n : M) → below m p x q y n → above (state m) p (item x) q (item y) (state n)) where
  -- an entry with the other's item
  abbrev pub retold : ℕ × ℕ × X → ℕ × ℕ × T
  retold e = (e.0, e.1, item e.2)

  pub calls-retold : (es : List (ℕ × ℕ × X)) (m n : M) (xs ys : List X) → Calls numbers below g (m, xs) es (n, ys)
      → Calls numbers above g (state m, map item xs) (map retold es) (state n, map item ys)
  calls-retold [] m n xs ys same = ap (λ (s : M × List X). (state s.0, map item s.1)) same
  calls-retold (e ∷ es) m n xs ys calls =
      let s = calls.1 in (
        (state calls.0.0, map item calls.0.1),
        record {
          from = s.from;
          to = s.to;
          item = item s.item;
          from_index = s.from_index;
          from_generation = s.from_generation;
          to_index = s.to_index ∙ ap (λ n. n + 1) (sym (length-map xs item));
          to_generation = s.to_generation;
          called = like m s.from e.2 s.to s.item calls.0.0 s.called;
          behind = ap (map item) s.behind ∙ map_push item xs s.item;
        },
        calls-retold es calls.0.0 n calls.0.1 ys calls.2,
      )

-- the same items, in other states
module _ {P T M F : Type 0} (numbers : P → ℕ × ℕ) (below : M → P → T → P → T → M → Type 0) (above : F → P → T → P → T → F → Type 0)
    (g : ℕ) (state : M → F) (like : (m : M) (p : P) (x : T) (q : P) (y : T) (n : M) → below m p x q y n → above (state m) p x q y (state n)) where
  pub compression-retold : (m : M) (old new : Arena T) → IsCompression numbers below g m old new
      → IsCompression numbers above g (state m) old new
  compression-retold m old new c =
      let calls = calls-retold numbers below above g state (λ x. x) like (entries_rising old 0) m c.last [] c.items c.calls in
      record { items = c.items; last = state c.last; calls = rw (map-id (entries_rising old 0), map-id c.items) at calls; after = c.after }

-- if each call returns the item that it is shown, the items stay the same
module _ {P F T : Type 0} (numbers : P → ℕ × ℕ) (step : F → P → T → P → T → F → Type 0) (g : ℕ)
    (answers : (f : F) (p : P) (item : T) (q : P) (new : T) (f' : F) → step f p item q new f' → new ≡ item) where
  pub compressed-given_back : (f : F) (old new : Arena T) → IsCompression numbers step g f old new
      → HoldsSame new (compressed old g (items_rising old))
  compressed-given_back f old new h =
      let same = chained_keeps (CompressionStep numbers step g) (λ es t. t.1 ≡ map (λ (e : ℕ × ℕ × T). e.2) es)
      (λ es s e t is called. called.behind ∙ rw (is, map_push, answers s.0 called.from e.2 called.to called.item t.0 called.called) refl)
      (entries_rising old 0) (f, []) (h.last, h.items) refl h.calls in
      rw same at h.after

pub compressed-lawful : {T : Type 0} (greatest : Option ℕ) (g : ℕ) (items : List T) → IsLawfulGeneration greatest g
    → AreLawful greatest (map (λ item. Some (g, item)) items)
compressed-lawful greatest g [] now k e is = absurd (none-some e is)
compressed-lawful greatest g (x ∷ items) now zero e is = lawful-some greatest (g, x) now e is
compressed-lawful greatest g (x ∷ items) now (suc k) e is = compressed-lawful greatest g items now k e is

module _ {T Gen : Type 0} (number : Gen → ℕ) (n : ℕ) (next : List (Slot T Gen)) (generation : Gen) (items : List T)
    (is : next ≡ map (λ item. Occupied generation item) items ++ replicate (n - length items) Vacant) (fits : length items ≤ n) where
  pub entries-compressed : entries number next ≡ resized n (map (λ item. Some (number generation, item)) items)
  entries-compressed =
      let filled = map (λ item. Occupied generation item) items in
      let long : length filled ≡ length items = length-map items (λ item. Occupied generation item) in
      entries-padded number n filled next (rw (← long) at is) (omega arith)
      ∙ ap (resized n) (map-map (entry_in number) (λ item. Occupied generation item) items)

module _ {P T A Inx Gen F : Type 0} (numbers : P → ℕ × ℕ) (gen : Generations Gen) (inx : Indexes Inx)
    (step : F → P → T → P → T → F → Type 0) (s : Inside P T A Inx Gen) (next : List (Slot T Gen)) (listed : List Inx) (f : F)
    (a : Arena T) (g : ℕ) (seen : current gen inx s ≡ record a { generation = g }) where
  pub compressed-after : CompressesSlots numbers gen.number step s.generation f s.slots.items next
      → IsCompression numbers step g f a (stored gen inx s next listed)
  compressed-after p =
      let same : None ∷ entries gen.number s.slots.items ≡ a.slots = ap (λ v. v.slots) seen in
      let named : gen.number s.generation ≡ g = ap (λ v. v.generation) seen in let n = length s.slots.items in
      let count : n + 1 ≡ length a.slots = omega (arith, ap length same, length-map s.slots.items (entry_in gen.number)) in
      let made = map (λ item. Some (g, item)) p.items in
      let slots : None ∷ entries gen.number next ≡ resized (length a.slots) (None ∷ made) =
      rw (← count, resized-cons, ← named) (ap (λ r. None ∷ r) (entries-compressed gen.number n next s.generation p.items p.after p.fits)) in
      record {
        items = p.items;
        last = p.last;
        calls = rw (← same, ← named) p.calls;
        after = record { slots = slots; generation = named; maximum = ap (λ v. v.maximum) seen };
      }
