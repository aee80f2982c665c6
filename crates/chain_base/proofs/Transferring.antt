-- The steps of a transfer.
use Rattle.std.proofs.Common.{◌≡◌, ℕ, zero, suc, ◌+◌, ◌-◌, ◌<◌, ◌≤◌, max, List, [], ◌∷◌, ◌++◌, map, length, length-append, append_assoc, Option, Some, None, OnSome, OnOk, IsOk, IsErr, Result, Ok, Err, is_some, true, slice_get, refl, sym, ap, ◌∙◌, arith, option_map}
use Rattle.std.proofs.{lemmas.List.append-nil, lemmas.List.length-map, lemmas.List.map-id, lemmas.List.map_push, lemmas.Grind.common_steps, lemmas.Option.same_Some, lemmas.Result.on_ok_weaker, lemmas.Fn.FoldsTo-push}
use Rattle.std.specs.List.{FoldsTo}
use Rattle.arena_base.specs.{declared.invalidation.InvalidationOption.InvalidationOption, Generation.overflows_after, Invalidation.allowed_value, Invalidation.is_overflow}
use Rattle.chain_base.specs.Chain.{Entry, Chain, times, entry_at, first_pointer, link_at, insert_after, vacant_among, removed, with_capacity, greatest_index, inserted, IsSound}
use Rattle.chain_base.specs.{Transfer.filled_with, Transfer.last_index_of, Transfer.place_behind, Transfer.TakesFirst, Transfer.HasTaken, Link.Link}
use Rattle.chain_base.specs.{Compression.numbered, Compression.Transferring, Compression.TransferStep, Compression.IsTransfer, Insert.placed, Insert.CanPlace}
use Rattle.chain_base.proofs.{Canonical.numbered-push, Canonical.times-numbered, Canonical.vacant-same, Room.greatest-within, Lists.same_index}

-- what holds if an option is some holds if it is mapped to some value
pub on_taken : {X Y : Type 0} (f : X → Y) (y : Y) (o : Option X) (A : Type 0) → option_map f o ≡ Some y → OnSome o A → A
on_taken f y o A is some = grind (arith, common_steps)

module _ {T : Type 0} where
  -- a capacity grows
  module _ {X E : Type 0} (most : ℕ) (greatest : Option ℕ) (c new : Chain T) (n : ℕ) (r : Result X E) (sound : IsSound most greatest c)
      (less : c.capacity < n) where
    pub capacity-raised : OnOk r (new ≡ with_capacity c (max n (greatest_index c.entries))) → OnOk r ((new.capacity ≡ max c.capacity n) × (new.maximum ≡ c.maximum))
    capacity-raised is = on_ok_weaker r (λ same. (grind (arith, common_steps, greatest-within), ap (λ (c : Chain T). c.maximum) same)) is

  -- the item in a link, with a generation or its number
  module _ {G : Type 0} (number : G → ℕ) where
    pub item-numbered : (o : Option (G × Link T))
        → option_map (λ (e : ℕ × Link T). e.1.item) (option_map (λ (e : G × Link T). (number e.0, e.1)) o) ≡ option_map (λ (e : G × Link T). e.1.item) o
    item-numbered o = grind (arith, common_steps)

  -- the first entry is removed
  module _ {Q : Type 0} (numbers : Q → ℕ × ℕ) (greatest : Option ℕ) (old new : Chain T) (from : Q) (taken : InvalidationOption T)
      (head : Some (numbers from) ≡ first_pointer old.entries)
      (value : Some (allowed_value taken) ≡ option_map (λ e. e.1.item) (link_at old.entries (numbers from).0))
      (overflow : is_overflow taken ≡ overflows_after greatest old.generation) (gone : new ≡ removed greatest old (numbers from).0) where
    pub takes-first : (es : List (Entry T)) → old.entries ≡ es → TakesFirst numbers greatest old new from taken
    takes-first [] is = absurd (let none : Some (numbers from) ≡ None = rw is at head in cc)
    takes-first (e ∷ rest) is =
        let pair : ◌≡◌ {A = ℕ × ℕ} (numbers from) (e.index, e.generation) = same_Some (numbers from) (e.index, e.generation) (rw is at head) in
        let at : (numbers from).0 ≡ e.index = ap (λ (p : ℕ × ℕ). p.0) pair in
        record {
          entry = e;
          rest = rest;
          split = is;
          from_index = at;
          from_generation = ap (λ (p : ℕ × ℕ). p.1) pair;
          taken_item = same_Some (allowed_value taken) e.item (rw (is, at, same_index e.index) at value);
          taken_overflow = overflow;
          left = ap (λ (c : Chain T). c.entries) gone ∙ rw (is, at, same_index e.index) refl;
          capacity = ap (λ (c : Chain T). c.capacity) gone;
          maximum = ap (λ (c : Chain T). c.maximum) gone;
          raised = ap (λ (c : Chain T). c.generation) gone;
        }

  insert_after-last : (g from : ℕ) (x : T) (xs : List T) (new : Entry T) → insert_after (from + length xs) new (numbered g from (x ∷ xs)) ≡ numbered g from (x ∷ xs) ++ new ∷ []
  insert_after-last g from x [] new = grind (arith, common_steps)
  insert_after-last g from x (y ∷ ys) new = grind (arith, common_steps, insert_after-last g (from + 1) y ys new)

  entry_at-last : (g from : ℕ) (x : T) (xs : List T) → is_some (entry_at (numbered g from (x ∷ xs)) (from + length xs)) ≡ true
  entry_at-last g from x [] = grind (arith, common_steps)
  entry_at-last g from x (y ∷ ys) = grind (arith, common_steps, entry_at-last g (from + 1) y ys)

  module _ (P G : Type 0) {I : Type 0} (number : I → ℕ) where
    -- the pointer to the last of so many entries in a row
    abbrev IsLast : Option I → List T → Type 0
    IsLast last items = option_map number last ≡ last_index_of (length items)

    pub can_place-behind : (last : Option I) (c : Chain T) (items : List T) → IsLast last items
        → CanPlace {P = P} {I = I} {G = G} number (place_behind last) (filled_with c items)
    can_place-behind None c [] is = refl
    can_place-behind (Some i) c (x ∷ xs) is = grind (arith, common_steps, number i, i, entry_at-last c.generation 1 x xs)
    can_place-behind last c items is = absurd cc

    pub placed-behind : (last : Option I) (g : ℕ) (ts : List T) (e : Entry T) → IsLast last ts
        → placed {P = P} {G = G} number (place_behind last) (numbered g 1 ts) e ≡ numbered g 1 ts ++ e ∷ []
    placed-behind None g [] new is = refl
    placed-behind (Some i) g (x ∷ xs) new is = grind (arith, common_steps, number i, i, insert_after-last g 1 x xs new)
    placed-behind last g ts new is = absurd cc

  vacant-none : (es : List (Entry T)) (from n m : ℕ) → ((j : ℕ) → from ≤ j → j < from + n → times j es ≡ 1) → vacant_among es from (n + m) ≡ vacant_among es (from + n) m
  vacant-none es from zero m all = let same : from ≡ from + 0 = omega arith in let none : 0 + m ≡ m = omega arith in ap (λ n. vacant_among es from n) none ∙ ap (λ i. vacant_among es i m) same
  vacant-none es from (suc n) m all =
      let later : from + 1 + n ≡ from + suc n = omega arith in
      let more : suc n + m ≡ suc (n + m) = omega arith in
      ap (vacant_among es from) more
      ∙ rw (all from (omega arith) (omega arith)) (vacant-none es (from + 1) n m (λ j more less. all j (omega (arith, more)) (omega (arith, less))) ∙ ap (λ i. vacant_among es i m) later)

  vacant-numbered : (g : ℕ) (xs : List T) (m : ℕ) → vacant_among (numbered g 1 xs) 1 (length xs + m) ≡ vacant_among {T = T} [] (1 + length xs) m
  vacant-numbered g xs m = grind (arith, common_steps, vacant-none (numbered g 1 xs) 1 (length xs) m, times-numbered g 1 xs, vacant-same)

  pub vacant-next : (c : Chain T) (items : List T) (x : T) → length items < c.capacity → (filled_with c items).vacant ≡ (1 + length items) ∷ (filled_with c (items ++ x ∷ [])).vacant
  vacant-next c items x less =
      let m = c.capacity - length items - 1 in
      let now : c.capacity ≡ length items + suc m = omega (arith, less) in
      let after : c.capacity ≡ length (items ++ x ∷ []) + m = omega (arith, less, length-append items (x ∷ [])) in
      let later : 1 + length (items ++ x ∷ []) ≡ 1 + length items + 1 = omega (arith, length-append items (x ∷ [])) in
      ap (vacant_among (numbered c.generation 1 items) 1) now ∙ vacant-numbered c.generation items (suc m)
      ∙ ap (λ is. (1 + length items) ∷ is) (sym (ap (vacant_among (numbered c.generation 1 (items ++ x ∷ [])) 1) after ∙ vacant-numbered c.generation (items ++ x ∷ []) m ∙ ap (λ i. vacant_among {T = T} [] i m) later))

  -- one more
  module _ (c : Chain T) (items : List T) (x : T) (place : Entry T → List (Entry T)) (less : length items < c.capacity)
      (puts : (new : Entry T) → place new ≡ numbered c.generation 1 items ++ new ∷ []) where
    pub filled-more : inserted (filled_with c items) place x ≡ filled_with c (items ++ x ∷ [])
    filled-more = grind (arith, common_steps, vacant-next, numbered-push)

  -- there is room
  length-numbered : (g from : ℕ) (xs : List T) → length (numbered g from xs) ≡ length xs
  length-numbered g from [] = refl
  length-numbered g from (x ∷ xs) = ap suc (length-numbered g (from + 1) xs)

  pub has-room : {X E : Type 0} (r : Result X E) (c : Chain T) (items : List T) → length items < c.capacity → (IsErr r → length (filled_with c items).entries ≡ c.capacity) → IsOk r
  has-room r c items less full = grind (arith, common_steps, length-numbered)

  module _ {P : Type 0} (numbers : P → ℕ × ℕ) (c chain : Chain T) (items : List T) (less : length items < c.capacity) (put : chain ≡ filled_with c items) where
    next-is : (o : Option P) (vacant : List ℕ) → vacant ≡ chain.vacant → option_map (λ p. (numbers p).0) o ≡ slice_get vacant 0 → option_map (λ p. (numbers p).0) o ≡ Some (1 + length items)
    next-is o vacant same is = is ∙ ap (λ is. slice_get is 0) (same ∙ ap (λ (c : Chain T). c.vacant) put)
        ∙ grind (arith, common_steps, vacant-numbered c.generation items (suc (c.capacity - length items - 1)))

    pub next-some : (o : Option P) (vacant : List ℕ) → vacant ≡ chain.vacant → option_map (λ p. (numbers p).0) o ≡ slice_get vacant 0 → is_some o ≡ true
    next-some o vacant same is = grind (arith, common_steps, next-is)

    pub next-at : (p : P) (o : Option P) (vacant : List ℕ) → o ≡ Some p → vacant ≡ chain.vacant → option_map (λ p. (numbers p).0) o ≡ slice_get vacant 0 → (numbers p).0 ≡ length items + 1
    next-at p o vacant found same is = grind (arith, common_steps, items, found, next-is, vacant, same)

-- one more entry has moved
module _ {P Q T U M : Type 0} (numbers_from : Q → ℕ × ℕ) (numbers_to : P → ℕ × ℕ) (greatest : Option ℕ) (step : M → Q → InvalidationOption U → P → T → M → Type 0) (m : M) (source : Chain U) (c : Chain T) where
  abbrev Taken : Chain U → Chain T → M → Type 0
  Taken rest now n = HasTaken numbers_from numbers_to greatest step m source rest c now n

  abbrev pub taken-none : c ≡ filled_with c [] → Taken source c m
  taken-none empty = record { gone = []; items = []; split = refl; calls = refl; count = refl; put = empty; capacity = refl; maximum = refl }

  module _ (rest after : Chain U) (now then_now : Chain T) (n n' : M) (from : Q) (taken : InvalidationOption U) (to : P) (item : T)
      (h : Taken rest now n) (t : TakesFirst numbers_from greatest rest after from taken) (at : (numbers_to to).0 ≡ length h.items + 1)
      (of : (numbers_to to).1 ≡ c.generation) where
    abbrev pub taken-more : step n from taken to item n' → then_now ≡ filled_with c (h.items ++ item ∷ []) → Taken after then_now n'
    taken-more called put = record {
      gone = h.gone ++ t.entry ∷ [];
      items = h.items ++ item ∷ [];
      split = h.split ∙ ap (λ es. h.gone ++ es) (t.split ∙ ap (λ es. t.entry ∷ es) (sym t.left)) ∙ sym (append_assoc h.gone (t.entry ∷ []) after.entries);
      calls =
          FoldsTo-push (TransferStep numbers_from numbers_to greatest step c.generation) (record { closure = m; items = []; generation = source.generation }) h.gone
          (record { closure = n; items = h.items; generation = rest.generation }) t.entry (record { closure = n'; items = h.items ++ item ∷ []; generation = after.generation }) h.calls
          (record {
            from = from;
            taken = taken;
            to = to;
            item = item;
            from_index = t.from_index;
            from_generation = t.from_generation;
            taken_item = t.taken_item;
            taken_overflow = t.taken_overflow;
            to_index = at;
            to_generation = of;
            called = called;
            behind = refl;
            raised = t.raised;
          });
      count = omega (arith, h.count, length-append h.items (item ∷ []), length-append h.gone (t.entry ∷ []));
      put = put;
      capacity = t.capacity ∙ h.capacity;
      maximum = t.maximum ∙ h.maximum;
    }

-- the last index grows by one
pub last-more : {I T : Type 0} (number : I → ℕ) (i : I) (items : List T) (item : T) → number i ≡ length items + 1 → Some (number i) ≡ last_index_of (length (items ++ item ∷ []))
last-more number i items item at = grind (arith, common_steps)

-- a whole transfer
module _ {P Q T U M : Type 0} (numbers_from : Q → ℕ × ℕ) (numbers_to : P → ℕ × ℕ) (greatest : Option ℕ)
    (step : M → Q → InvalidationOption U → P → T → M → Type 0) {X E : Type 0} (g : ℕ) (m n : M) (source rest source_after : Chain U)
    (old base new : Chain T) (r : Result X E) (x : X) (era : base.generation ≡ g)
    (capacity : base.capacity ≡ max old.capacity (length source.entries)) (maximum : base.maximum ≡ old.maximum)
    (h : HasTaken numbers_from numbers_to greatest step m source rest base new n) (all : rest.entries ≡ []) (is : r ≡ Ok x)
    (sized : OnOk r (source_after ≡ with_capacity rest (max rest.capacity (greatest_index rest.entries)))) where
  pub transferred : IsTransfer numbers_from numbers_to greatest step g m source source_after old new
  transferred =
      let whole : source.entries ≡ h.gone = h.split ∙ ap (λ es. h.gone ++ es) all ∙ append-nil h.gone in
      let size : max rest.capacity (greatest_index rest.entries) ≡ source.capacity = omega (arith, h.capacity, ap greatest_index all) in
      let count : max old.capacity (length source.entries) ≡ max old.capacity (length h.items) = ap (max old.capacity) (ap length whole ∙ sym h.count) in
      record {
        last = record { closure = n; items = h.items; generation = rest.generation };
        calls = rw (whole, ← era) h.calls;
        left = (rw is at sized) ∙ rw (size, all, h.maximum) refl;
        after = h.put ∙ rw (era, capacity ∙ count, maximum) refl;
      }

-- Calls of one kind are calls of another: `state`, `item` and `part` map the states and the items.
module _ {P Q S F X T V U : Type 0} (numbers_from : Q → ℕ × ℕ) (numbers_to : P → ℕ × ℕ) (greatest : Option ℕ)
    (below : S → Q → InvalidationOption V → P → X → S → Type 0) (above : F → Q → InvalidationOption U → P → T → F → Type 0) (state : S → F) (item : X → T) (part : V → U)
    (like : (s : S) (q : Q) (taken : InvalidationOption V) (p : P) (x : X) (t : S) → below s q taken p x t
    → (plain : InvalidationOption U) × (allowed_value plain ≡ part (allowed_value taken)) × (is_overflow plain ≡ is_overflow taken) × above (state s) q plain p (item x) (state t)) where
  abbrev pub retold : Transferring S X → Transferring F T
  retold s = record { closure = state s.closure; items = map item s.items; generation = s.generation }

  -- an entry with the other's item
  abbrev pub part_entry : Entry V → Entry U
  part_entry e = record { index = e.index; generation = e.generation; item = part e.item }

  -- the calls of the other kind
  abbrev pub Retold : ℕ → List (Entry V) → Transferring S X → Transferring S X → Type 0
  Retold g es s t = FoldsTo (TransferStep numbers_from numbers_to greatest above g) (retold s) (map part_entry es) (retold t)

  pub steps-retold : (g : ℕ) (es : List (Entry V)) (s t : Transferring S X) → FoldsTo (TransferStep numbers_from numbers_to greatest below g) s es t → Retold g es s t
  steps-retold g [] s t h = ap retold h
  steps-retold g (e ∷ es) s t h =
      let one = h.1 in
      let call = like s.closure one.from one.taken one.to one.item h.0.closure one.called in (
        retold h.0,
        record {
          from = one.from;
          taken = call.0;
          to = one.to;
          item = item one.item;
          from_index = one.from_index;
          from_generation = one.from_generation;
          taken_item = call.1 ∙ ap part one.taken_item;
          taken_overflow = call.2 ∙ one.taken_overflow;
          to_index = one.to_index ∙ ap (λ n. n + 1) (sym (length-map s.items item));
          to_generation = one.to_generation;
          called = call.3;
          behind = ap (map item) one.behind ∙ map_push item s.items one.item;
          raised = one.raised;
        },
        steps-retold g es h.0 t h.2,
      )

-- the same items, in other states
module _ {P Q S F T U X E : Type 0} (from : Q → ℕ × ℕ) (to : P → ℕ × ℕ) (greatest : Option ℕ)
    (below : S → Q → InvalidationOption U → P → T → S → Type 0) (above : F → Q → InvalidationOption U → P → T → F → Type 0) (state : S → F)
    (like : (s : S) (q : Q) (taken : InvalidationOption U) (p : P) (x : T) (t : S) → below s q taken p x t → above (state s) q taken p x (state t))
    (g : ℕ) (s : S) (source left : Chain U) (old new : Chain T) where
  pub transfer-retold : (r : Result X E) → OnOk r (IsTransfer from to greatest below g s source left old new)
      → OnOk r (IsTransfer from to greatest above g (state s) source left old new)
  transfer-retold (Ok x) h =
      let steps = steps-retold from to greatest below above state (λ x. x) (λ x. x) (λ s q taken p x t called. (taken, refl, refl, like s q taken p x t called)) g source.entries
      (record { closure = s; items = []; generation = source.generation }) h.last h.calls in
      record {
        last = record { closure = state h.last.closure; items = h.last.items; generation = h.last.generation };
        calls = rw (map-id source.entries, map-id h.last.items) at steps;
        left = h.left;
        after = h.after;
      }
  transfer-retold (Err e) h = tt
