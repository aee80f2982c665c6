-- Facts about clones: their calls in terms of another closure, their pointers, and clones with the same items. Then the state halfway
-- through a clone.
use Rattle.arena_base.proofs.Words.{◌≡◌, ℕ, zero, suc, ◌+◌, ◌<◌, ◌≤◌, Option, Some, None, List, [], ◌∷◌, ◌++◌, length, get_or, replicate, take, ◌-◌, refl, arith, drop, map, sym, ap, ◌∙◌, reverse, max, Result, Ok, Err, map-append}
use Rattle.arena_base.proofs.Words.{length-map, drop_more, append_assoc, map_push, append-nil, get_or-drop, map-id, FoldsTo-push, none-some, AllocError, OnOk, OnErr, FoldsTo, Arena, vacant_from, resized, greatest_occupied, arena_capacity}
use Rattle.arena_base.proofs.Words.{IsLawful, FindSame, item_if, CloneStep, IsClone, IsRefusedClone, StopsAtRefusal, Grants, with_items, taken_over, HasSamePointers, Slot, entry_in, vacant_slots, arena_of, entries_from, entries_rising}
use Rattle.arena_base.proofs.Steps.{AreLawful, lawful-some, current, Sound, capacity-is, get_or-padded, resized-cons, resized-same, resized-again, entries-padded, relisted, relisted-sound}
use Rattle.arena_base.proofs.{Words.chained_keeps, Words.ClonesSlots, Words.Inside, Words.Generations, Words.Indexes, Words.Occupied, Words.Vacant, Slots.era, Slots.entries, Slots.greatest_occupied-above, Slots.none-from_generation}
use Rattle.arena_base.proofs.Words.{◌⊎◌, inl, inr}
use Rattle.arena_base.specs.{Clone.IsArenaClone, Room.ClonesBy, Room.ClonesOrFails}
use Rattle.arena_base.specs.declared.error.ReallocationError.{ReallocationError, TheVariants.BeyondMaxCapacity, TheVariants.AllocError as NoMemory}

-- the calls of the closure for these entries, from one state to another
abbrev pub Calls : {P U T F : Type 0} (numbers : P → ℕ × ℕ) (step : F → P → U → T → F → Type 0)
    → F × List T → List (ℕ × ℕ × U) → F × List T → Type 0
Calls numbers step s entries t = FoldsTo (CloneStep numbers step) s entries t

-- Calls of one kind are calls of another: `state`, `from` and `to` map the states, the items shown and the items made.
module _ {P W X U T M F : Type 0} (numbers : P → ℕ × ℕ) (below : M → P → W → X → M → Type 0) (above : F → P → U → T → F → Type 0)
    (state : M → F) (from : W → U) (to : X → T)
    (like : (m : M) (p : P) (w : W) (x : X) (n : M) → below m p w x n → above (state m) p (from w) (to x) (state n)) where
  -- an entry with the item that the other is shown
  abbrev pub reshown : ℕ × ℕ × W → ℕ × ℕ × U
  reshown e = (e.0, e.1, from e.2)

  pub clones-retold : (es : List (ℕ × ℕ × W)) (m n : M) (xs ys : List X) → Calls numbers below (m, xs) es (n, ys)
      → Calls numbers above (state m, map to xs) (map reshown es) (state n, map to ys)
  clones-retold [] m n xs ys same = ap (λ (s : M × List X). (state s.0, map to s.1)) same
  clones-retold (e ∷ es) m n xs ys calls =
      let s = calls.1 in let called = like m s.pointer e.2 s.item calls.0.0 s.called in
      let behind = ap (map to) s.behind ∙ map_push to xs s.item in (
        (state calls.0.0, map to calls.0.1),
        record { pointer = s.pointer; item = to s.item; index = s.index; generation = s.generation; called = called; behind = behind },
        clones-retold es calls.0.0 n calls.0.1 ys calls.2,
      )

-- The same for calls the last of which was refused.
module _ {P W X U T M F : Type 0} (numbers : P → ℕ × ℕ) (below : M → P → W → Result X AllocError → M → Type 0) (above : F → P → U → Result T AllocError → F → Type 0)
    (state : M → F) (from : W → U) (to : X → T)
    (grants : (m : M) (p : P) (w : W) (x : X) (n : M) → below m p w (Ok x) n → above (state m) p (from w) (Ok (to x)) (state n))
    (refuses : (m : M) (p : P) (w : W) (e : AllocError) (n : M) → below m p w (Err e) n → above (state m) p (from w) (Err e) (state n)) where
  pub stops-retold : (m : M) (es : List (ℕ × ℕ × W)) (n : M) → StopsAtRefusal {T = X} numbers below m es n
      → StopsAtRefusal {T = T} numbers above (state m) (map (λ (e : ℕ × ℕ × W). (e.0, e.1, from e.2)) es) (state n)
  stops-retold m es n s =
      let told : ℕ × ℕ × W → ℕ × ℕ × U = λ e. (e.0, e.1, from e.2) in
      record {
        before = map told s.before;
        refused = told s.refused;
        behind = map told s.behind;
        split = ap (map told) s.split ∙ map-append told s.before (s.refused ∷ s.behind);
        items = map to s.items;
        reached = state s.reached;
        calls = clones-retold numbers (Grants numbers below) (Grants numbers above) state from to grants s.before m s.reached [] s.items s.calls;
        pointer = s.pointer;
        index = s.index;
        generation = s.generation;
        refusal = s.refusal;
        called = refuses s.reached s.pointer s.refused.2 s.refusal n s.called;
      }

-- the same items, in other states
module _ {P U T M F : Type 0} (numbers : P → ℕ × ℕ) (below : M → P → U → T → M → Type 0) (above : F → P → U → T → F → Type 0) (state : M → F)
    (like : (m : M) (p : P) (u : U) (x : T) (n : M) → below m p u x n → above (state m) p u x (state n)) where
  pub clones-restated : (es : List (ℕ × ℕ × U)) (m n : M) (ys : List T) → Calls numbers below (m, []) es (n, ys)
      → Calls numbers above (state m, []) es (state n, ys)
  clones-restated es m n ys calls =
      rw (map-id es, map-id ys) at (clones-retold numbers below above state (λ u. u) (λ x. x) like es m n [] ys calls)

  pub clone-restated : (m : M) (source : Arena U) (old new : Arena T) (n : M) → IsClone numbers below m source old new n
      → (last : F) × IsClone numbers above (state m) source old new last
  clone-restated m source old new n c =
      (state n, record { items = c.items; calls = clones-restated (entries_rising source 0) m n c.items c.calls; after = c.after })

-- a clone of an arena, if less is said of it
pub IsArenaClone-weaker : {T U A B : Type 0} (source : Arena U) (new : Arena T) → (A → B) → IsArenaClone source new A → IsArenaClone source new B
IsArenaClone-weaker source new weaker c = record { made = weaker c.made; pointers = c.pointers; fresh = c.fresh }

-- the same for a refusal
module _ {P U T M F : Type 0} (numbers : P → ℕ × ℕ) (below : M → P → U → Result T AllocError → M → Type 0) (above : F → P → U → Result T AllocError → F → Type 0) (state : M → F)
    (like : (m : M) (p : P) (u : U) (r : Result T AllocError) (n : M) → below m p u r n → above (state m) p u r (state n)) where
  pub stops-restated : (m : M) (es : List (ℕ × ℕ × U)) (n : M) → StopsAtRefusal numbers below m es n → StopsAtRefusal numbers above (state m) es (state n)
  stops-restated m es n s =
      rw (map-id es) at (stops-retold numbers below above state (λ u. u) (λ x. x) (λ m p u x. like m p u (Ok x)) (λ m p u e. like m p u (Err e)) m es n s)

  pub refusal-restated : (m : M) (source : Arena U) (old new : Arena T) (n : M) → IsRefusedClone numbers below m source old new n
      → (last : F) × IsRefusedClone numbers above (state m) source old new last
  refusal-restated m source old new n c = (state n, record { stops = stops-restated m (entries_rising source 0) n c.stops; after = c.after })

-- each call keeps something of the item that it is shown
module _ {P F W X K : Type 0} (numbers : P → ℕ × ℕ) (step : F → P → W → X → F → Type 0) (see : W → K) (keep : X → K)
    (keeps : (f : F) (p : P) (u : W) (x : X) (g : F) → step f p u x g → keep x ≡ see u) where
  pub clones-keep : (es : List (ℕ × ℕ × W)) (f g : F) (xs ys : List X) → Calls numbers step (f, xs) es (g, ys)
      → map keep ys ≡ map keep xs ++ map (λ (e : ℕ × ℕ × W). see e.2) es
  clones-keep es f g xs ys calls =
      chained_keeps (CloneStep numbers step) (λ es t. map keep t.1 ≡ map keep xs ++ map (λ (e : ℕ × ℕ × W). see e.2) es)
      (λ es s e t is called. ap (map keep) called.behind
      ∙ rw (map_push keep s.1 called.item, is, keeps s.0 called.pointer e.2 called.item t.0 called.called, map_push) (append_assoc (map keep xs) _ _))
      es (f, xs) (g, ys) (sym (append-nil (map keep xs))) calls

-- no call changes what is seen of the closure's state
module _ {P F W X K : Type 0} (numbers : P → ℕ × ℕ) (step : F → P → W → Result X AllocError → F → Type 0) (see : F → K)
    (leaves : (f : F) (p : P) (u : W) (r : Result X AllocError) (g : F) → step f p u r g → see g ≡ see f) where
  pub clones-leave : (es : List (ℕ × ℕ × W)) (f g : F) (ys : List X) → Calls numbers (Grants numbers step) (f, []) es (g, ys) → see g ≡ see f
  clones-leave es f g ys calls =
      chained_keeps (CloneStep numbers (Grants numbers step)) (λ es t. see t.0 ≡ see f)
      (λ es s e t is called. leaves s.0 called.pointer e.2 (Ok called.item) t.0 called.called ∙ is) es (f, []) (g, ys) refl calls

  pub stops-leave : (es : List (ℕ × ℕ × W)) (f g : F) → StopsAtRefusal numbers step f es g → see g ≡ see f
  stops-leave es f g s =
      leaves s.reached s.pointer s.refused.2 (Err s.refusal) g s.called ∙ clones-leave s.before f s.reached s.items s.calls

with_items-same : {U : Type 0} (i : ℕ) (slots : List (Option (ℕ × U))) → with_items slots (map (λ e. e.2) (entries_from i slots)) ≡ slots
with_items-same i [] = refl
with_items-same i (s ∷ slots) = grind (arith, with_items-same (i + 1) slots)

module _ {T U : Type 0} where
  -- if there are as many items as entries, each entry has one
  with_items-era : (slots : List (Option (ℕ × U))) (items : List T) (i k : ℕ) → length items ≡ length (entries_from i slots)
      → era (get_or (with_items slots items) k None) ≡ era (get_or slots k None)
  with_items-era (None ∷ slots) items i (suc k) count = with_items-era slots items (i + 1) k count
  with_items-era (Some e ∷ slots) (item ∷ items) i (suc k) count = with_items-era slots items (i + 1) k (omega arith)
  with_items-era slots items i k count = grind arith

-- a clone has the pointers of its source
module _ {P U T F : Type 0} (numbers : P → ℕ × ℕ) (step : F → P → U → T → F → Type 0) (f : F) (source : Arena U) (old new : Arena T) (last : F) where
  pub clone-pointers : IsClone numbers step f source old new last → HasSamePointers new source
  clone-pointers c = λ p.
      let es = entries_rising source 0 in
      let kept = clones-keep {K = ℕ} numbers step (λ u. 0) (λ x. 0) (λ f p u x g called. refl) es f last [] c.items c.calls in
      let count : length c.items ≡ length es = sym (length-map c.items (λ x. 0)) ∙ (ap length kept ∙ length-map es (λ e. 0)) in
      let told = λ (k : ℕ). with_items-era source.slots c.items 0 k count in
      let same = resized-same (max (arena_capacity old) (greatest_occupied source.slots) + 1) (with_items source.slots c.items) in
      let above = greatest_occupied-above source.slots in
      let kept : era (get_or new.slots p.0 None) ≡ era (get_or source.slots p.0 None) =
      ap era (ap (λ ss. get_or ss p.0 None) c.after.slots
      ∙ same (λ k past. none-from_generation _ (told k ∙ ap era (above k (omega arith)))) p.0) ∙ told p.0 in
      grind (arith, kept)

-- a clone by a closure that returns the item that it is shown
module _ {P U F : Type 0} (numbers : P → ℕ × ℕ) (step : F → P → U → U → F → Type 0) (answers : (f : F) (p : P) (u : U) (x : U) (g : F) → step f p u x g → x ≡ u)
    (f : F) (source old new : Arena U) (made : (last : F) × IsClone numbers step f source old new last) where
  abbrev c : IsClone numbers step f source old new made.0
  c = made.1

  pub copy-found : FindSame new source
  copy-found p =
      let kept = clones-keep numbers step (λ u. u) (λ x. x) answers (entries_rising source 0) f made.0 [] c.items c.calls in
      let after = rw ((rw (map-id c.items) at kept), with_items-same 0 source.slots) at c.after in
      let same = resized-same (max (arena_capacity old) (greatest_occupied source.slots) + 1) source.slots in
      ap (item_if p.1) (ap (λ ss. get_or ss p.0 None) after.slots ∙ same (λ k h. greatest_occupied-above source.slots k (omega arith)) p.0)

module _ {X : Type 0} where
  -- if no slot has an entry, there is none to clone
  entries-none : (i : ℕ) (slots : List (Option (ℕ × X))) → ((k : ℕ) → get_or slots k None ≡ None) → entries_from i slots ≡ []
  entries-none i (None ∷ slots) none = entries-none (i + 1) slots (λ k. none (suc k))
  entries-none i slots none = let first = none 0 in cc

  with_items-none : {T : Type 0} (slots : List (Option (ℕ × X))) → ((k : ℕ) → get_or slots k None ≡ None)
      → with_items {T = T} slots [] ≡ replicate (length slots) None
  with_items-none (None ∷ slots) none = ap (λ rest. None ∷ rest) (with_items-none slots (λ k. none (suc k)))
  with_items-none slots none = let first = none 0 in cc

module _ {P T U G F : Type 0} (numbers : P → ℕ × ℕ) (number : G → ℕ) (step : F → P → U → T → F → Type 0) where
  -- the slots are clones of the source's slots with indexes from 1 on and below i
  pub record ClonedBelow (first : F) (source : List (Option (ℕ × U))) (f : F) (slots : List (Slot T G)) (i : ℕ) : Type 0 where
    pub items : List T
    pub before : List (ℕ × ℕ × U)
    pub split : entries_from 0 source ≡ before ++ entries_from i (drop i source)
    pub calls : Calls numbers step (first, []) before (f, items)
    pub shape : (rest : List T) → with_items source (items ++ rest) ≡ None ∷ map (entry_in number) slots ++ with_items (drop i source) rest

  pub cloned-begins : (f : F) (source : List (Option (ℕ × U))) → take 1 source ≡ None ∷ [] → ClonedBelow f source f [] 1
  cloned-begins f (None ∷ source) begins = record { items = []; before = []; split = refl; calls = refl; shape = λ rest. refl }
  cloned-begins f source begins = absurd (cc)

module _ {P T U G F : Type 0} {numbers : P → ℕ × ℕ} {number : G → ℕ} {step : F → P → U → T → F → Type 0} {first : F} {source : List (Option (ℕ × U))}
    {f : F} {slots : List (Slot T G)} {i : ℕ} (b : ClonedBelow numbers number step first source f slots i) where
  abbrev copies : List (Option (ℕ × T))
  copies = map (entry_in number) slots

  pub cloned-ends : greatest_occupied source < i → ClonesSlots numbers number step first source slots f
  cloned-ends past =
      let none : (k : ℕ) → get_or (drop i source) k None ≡ None = λ k. get_or-drop i source k None ∙ greatest_occupied-above source (i + k) (omega arith) in
      record {
        items = b.items;
        calls = rw (b.split, entries-none i (drop i source) none, append-nil) b.calls;
        vacant_behind = length (drop i source);
        after = ap (with_items source) (sym (append-nil b.items)) ∙ (b.shape [] ∙ ap (λ ss. None ∷ copies ++ ss) (with_items-none (drop i source) none));
      }

  module _ (inside : i < length source) where
    opened : (s : Option (ℕ × U)) → get_or source i None ≡ s → drop i source ≡ s ∷ drop (i + 1) source
    opened s is = drop_more source i None inside ∙ ap (λ x. x ∷ drop (i + 1) source) is

    behind : (s : Slot T G) (rest : List (Option (ℕ × T))) → None ∷ copies ++ entry_in number s ∷ rest ≡ None ∷ map (entry_in number) (slots ++ s ∷ []) ++ rest
    behind s rest = ap (λ xs. None ∷ xs) (rw (map_push (entry_in number) slots s) (sym (append_assoc copies (entry_in number s ∷ []) rest)))

    pub cloned-vacant : get_or source i None ≡ None → ClonedBelow numbers number step first source f (slots ++ Vacant ∷ []) (i + 1)
    cloned-vacant none = record {
      items = b.items;
      before = b.before;
      split = b.split ∙ ap (λ ss. b.before ++ entries_from i ss) (opened None none);
      calls = b.calls;
      shape = λ rest. b.shape rest ∙ rw (opened None none) (behind Vacant (with_items (drop (i + 1) source) rest));
    }

    module _ (e : G) (u : U) (p : P) (item : T) (next : F) (there : get_or source i None ≡ Some (number e, u)) (p_index : (numbers p).0 ≡ i)
        (p_generation : (numbers p).1 ≡ number e) (called : step f p u item next) where
      pub cloned-entry : ClonedBelow numbers number step first source next (slots ++ Occupied e item ∷ []) (i + 1)
      cloned-entry =
          let at = opened (Some (number e, u)) there in
          record {
            items = b.items ++ item ∷ [];
            before = b.before ++ (i, number e, u) ∷ [];
            split = b.split ∙ rw at (sym (append_assoc b.before ((i, number e, u) ∷ []) (entries_from (i + 1) (drop (i + 1) source))));
            calls =
                FoldsTo-push (CloneStep numbers step) (first, []) b.before _ (i, number e, u) (next, b.items ++ item ∷ []) b.calls
                (record { pointer = p; item = item; index = p_index; generation = p_generation; called = called; behind = refl });
            shape = λ rest.
                rw (append_assoc b.items (item ∷ []) rest)
                (b.shape (item ∷ rest) ∙ rw at (behind (Occupied e item) (with_items (drop (i + 1) source) rest)));
          }

module _ {P T U G F : Type 0} {numbers : P → ℕ × ℕ} {number : G → ℕ} {step : F → P → U → Result T AllocError → F → Type 0} {first : F}
    {source : List (Option (ℕ × U))} {f : F} {slots : List (Slot T G)} {i : ℕ}
    (b : ClonedBelow numbers number (Grants numbers step) first source f slots i) (inside : i < length source)
    (e : ℕ) (u : U) (p : P) (refusal : AllocError) (next : F) (there : get_or source i None ≡ Some (e, u)) (p_index : (numbers p).0 ≡ i)
    (p_generation : (numbers p).1 ≡ e) (called : step f p u (Err refusal) next) where
  pub cloned-refused : StopsAtRefusal numbers step first (entries_from 0 source) next
  cloned-refused = record {
    before = b.before;
    refused = (i, e, u);
    behind = entries_from (i + 1) (drop (i + 1) source);
    split = b.split ∙ ap (λ ss. b.before ++ entries_from i ss) (opened b inside (Some (e, u)) there);
    items = b.items;
    reached = f;
    calls = b.calls;
    pointer = p;
    index = p_index;
    generation = p_generation;
    refusal = refusal;
    called = called;
  }

-- with other items, the entries keep lawful generations
with_items-lawful : {T U : Type 0} (greatest : Option ℕ) (slots : List (Option (ℕ × U))) (items : List T)
    → AreLawful greatest slots → AreLawful greatest (with_items slots items)
with_items-lawful greatest (None ∷ slots) items lawful (suc k) e is = with_items-lawful greatest slots items (λ j. lawful (suc j)) k e is
with_items-lawful greatest (Some s ∷ slots) (item ∷ items) lawful zero e is = lawful-some greatest (s.0, item) (lawful 0 s refl) e is
with_items-lawful greatest (Some s ∷ slots) (item ∷ items) lawful (suc k) e is = with_items-lawful greatest slots items (λ j. lawful (suc j)) k e is
with_items-lawful greatest slots items lawful k e is = absurd (none-some e is)

-- The slots that a clone leaves in memory, and their arena: vacant slots follow the cloned ones.
module _ {P T A U Inx Gen F : Type 0} (numbers : P → ℕ × ℕ) (gen : Generations Gen) (inx : Indexes Inx) (step : F → P → U → Result T AllocError → F → Type 0)
    (s : Inside P T A Inx Gen) (copies next : List (Slot T Gen)) (generation : Gen) (listed : List Inx)
    (all : map inx.number listed ≡ reverse (vacant_slots 1 next)) (a : Arena T) (seen : current gen inx s ≡ a)
    (source : Arena U) (named : gen.number generation ≡ source.generation) (room : greatest_occupied source.slots ≤ arena_capacity a)
    (within : length copies ≤ length s.slots.items) (padded : next ≡ copies ++ replicate (length s.slots.items - length copies) Vacant) (f last : F) where
  abbrev n : ℕ
  n = length s.slots.items

  abbrev after : Arena T
  after = arena_of gen.number next (map inx.number listed) generation s.maximum

  abbrev Cloned : Result Unit AllocError → Type 0
  Cloned r = OnOk r (ClonesSlots numbers gen.number (Grants numbers step) f source.slots copies last)

  is : entries gen.number next ≡ resized n (entries gen.number copies)
  is = entries-padded gen.number n copies next padded within

  -- if the slots are those that the contract names
  taken_over-view : (made : List (Option (ℕ × T))) → None ∷ entries gen.number next ≡ resized (n + 1) made → after ≡ taken_over source a made
  taken_over-view made shape =
      let same : n ≡ max (arena_capacity a) (greatest_occupied source.slots) = omega (arith, capacity-is gen inx s a seen, room) in
      relisted gen inx next listed generation s.maximum all
      ∙ (ap (λ ss. record { slots = ss; vacant = vacant_from 1 (drop 1 ss); generation = gen.number generation; maximum = s.maximum }) shape
      ∙ rw (same, named, ← seen) refl)

  pub clone-whole : ClonesSlots numbers gen.number (Grants numbers step) f source.slots copies last
      → IsClone numbers (Grants numbers step) f source a after last
  clone-whole p =
      let shape = ap (λ xs. None ∷ xs) (is ∙ sym (resized-again n p.vacant_behind (entries gen.number copies)))
      ∙ (sym (resized-cons n (entries gen.number copies ++ replicate p.vacant_behind None)) ∙ ap (resized (n + 1)) (sym p.after)) in
      let view = taken_over-view (with_items source.slots p.items) shape in
      record {
        items = p.items;
        calls = p.calls;
        after = record { slots = ap (λ v. v.slots) view; generation = ap (λ v. v.generation) view; maximum = ap (λ v. v.maximum) view };
      }

  pub clone-refused : (r : Result Unit AllocError) → OnErr r (StopsAtRefusal numbers step f (entries_rising source 0) last)
      → OnErr r (copies ≡ []) → OnErr r (IsRefusedClone numbers step f source a after last)
  clone-refused (Ok x) stops none = tt
  clone-refused (Err e) stops none =
      let shape = ap (λ xs. None ∷ xs) (is ∙ ap (λ cs. resized n (entries gen.number cs)) none)
      ∙ (sym (resized-cons n []) ∙ resized-again (n + 1) 1 []) in
      record { stops = stops; after = taken_over-view [] shape }

  copies-lawful : (r : Result Unit AllocError) → Cloned r → OnErr r (copies ≡ []) → AreLawful gen.greatest source.slots
      → AreLawful gen.greatest (entries gen.number copies)
  copies-lawful (Ok x) p none lawful k e there =
      with_items-lawful gen.greatest source.slots p.items lawful (suc k) e
      (ap (λ ss. get_or ss (suc k) None) p.after ∙ (get_or-padded (entries gen.number copies) p.vacant_behind k None ∙ there))
  copies-lawful (Err x) p none lawful k e there = absurd (none-some e (rw none at there))

  pub clone-sound : Sound gen inx s (current gen inx s) → IsLawful inx.most gen.greatest source → (r : Result Unit AllocError) → Cloned r
      → OnErr r (copies ≡ []) → Sound gen inx s after
  clone-sound sound lawful r p none =
      relisted-sound gen inx next listed generation s.maximum all n (entries gen.number copies) is
      (omega (arith, sound.within_limit, length-map s.slots.items (entry_in gen.number)))
      (rw named lawful.generation_lawful) (copies-lawful r p none lawful.entries_lawful)

-- If a clone failed, nothing has changed, or an item was refused memory.
pub failed-clone : {R : Type 0} {limit capacity needed : ℕ} {r : Result R ReallocationError} {After Same Refused : Type 0}
    → ClonesOrFails limit capacity needed r After Same Refused → (e : ReallocationError) → r ≡ Err e → Same ⊎ Refused
failed-clone c BeyondMaxCapacity is = inl (c.beyond_kept is)
failed-clone c NoMemory is = elim (c.memory is) [ inl kept ↦ inl kept.1 | inr refused ↦ inr refused ]

-- such a call in terms of another container: of its numbers, and of what is true after it
module _ {R C S A K F C' S' A' K' F' : Type 0} (l c n l' c' n' : ℕ) (same : (l ≡ l') × (c ≡ c') × (n ≡ n'))
    (callable : C → C') (source : S → S') (kept : K → K') (refused : F → F') where
  pub failed-clone-retold : (r : Result R ReallocationError) (e : ReallocationError) → r ≡ Err e → ClonesBy l c n r C S A K F → ClonesBy l' c' n' r C' S' A' K' F'
  failed-clone-retold r e is clones = record {
    callable = callable clones.callable;
    source = source clones.source;
    clones = record {
      ok = rw is tt;
      beyond = rw (← same.0, ← same.2) clones.clones.beyond;
      beyond_kept = λ b. kept (clones.clones.beyond_kept b);
      memory = λ m. elim (clones.clones.memory m) [ inl h ↦ inl (rw (← same.1, ← same.2) h.0, kept h.1) | inr h ↦ inr (refused h) ];
    };
  }
