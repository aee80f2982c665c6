-- The finite map of an ordered arena after changes of its capacity, compressions, removals and recasts; its first and last indexes.
use Rattle.std.proofs.Common.{length-take}
use Rattle.ord_tree.specs.{PlainArena.item_of, ArenaCompression.CompressionStep, ArenaCompression.IsCompression, ArenaCompression.compressed}
use Rattle.ord_tree.specs.{ArenaWalk.entries_rising as arena_rising, ChainCompression.compressed as chain_compressed}
use Rattle.ord_tree.specs.{ChainCompression.IsCompression as IsChainCompression, Chain.with_capacity as chain_with_capacity}
use Rattle.triple_ord.proofs.Words.{◌≡◌, ℕ, zero, suc, ◌+◌, ◌-◌, ◌<◌, ◌≤◌, ◌↔◌, Option, Some, None, Result, Ok, Err, List, [], ◌∷◌, ◌++◌, length, map, get_or, take, drop, reverse, replicate, slice_get, is_some, Bool, true, false, max}
use Rattle.triple_ord.proofs.Words.{IsSome, walk_rest, WalkSteps, Entry, Chain, entry_at, times, IsSound, greatest_index, IsFirstIndex, IsLastIndex, drop-set-lt, pointers, walk_from, removed, FindsNothing, content_removed, cases_eq}
use Rattle.triple_ord.proofs.Words.{drop_more, drop_all, refl, sym, ap, subst, ◌∙◌, add-one, arith, option_map, FoldsTo, same_lists, get_or_default, length-append, take-map, drop-map, slice_get_past, Arena, HoldsSame, slot, item_if}
use Rattle.triple_ord.proofs.Words.{greatest_occupied, times-greatest, below-greatest_index, Link, SimpleOrdArenaNode, Tree, IsChainOf, slots_from, content_of, slot_is, item_is, len_is, length-slots, slots-within, slots-beyond, outside}
use Rattle.triple_ord.proofs.Words.{set, take-set-le, with_capacity, resized, IsFirstEntry, IsLastEntry, arena_len, Walk, pointers_from, entries_from, compressed-at, compressed-length, entry_at-compressed, occurs-entry, below-greatest}
use Rattle.triple_ord.proofs.Words.{greatest-or_none, IsArenaOf, entry_before, rising_among, entries_rising, moved, entry_at-absent, length-entries, common_steps, append_assoc, FoldsTo-push, entry_at-with_item_among}
use Rattle.triple_ord.proofs.{Bare.link_generation-under, Bare.capacity-under, Bare.option_map-twice, Words.entry_at-with_item_among_other, Words.with_item}
use Rattle.triple_ord.specs.{Recasting.RecastsItem, Recasting.RecastsNext, Recasting.RecastsItems, SlotWalk.SlotWalkSteps}

-- two lists of slots of the same length that show the same are equal
same-slots : {X : Type 0} (xs ys : List (Option X)) → length xs ≡ length ys → ((k : ℕ) → get_or xs k None ≡ get_or ys k None) → xs ≡ ys
same-slots xs ys long same =
    same_lists xs ys long (λ k d within. get_or_default xs k d None within ∙ (same k ∙ get_or_default ys k None d (omega (arith, within, long))))

module _ {T : Type 0} where
  -- the entries by rising index, read from the slots
  rising-is : (es : List (Entry T)) (from n : ℕ) → entries_from from (slots_from es from n) ≡ rising_among es from n
  rising-is es from zero = refl
  rising-is es from (suc n) = step (entry_at es from) _ _ (rising-is es (from + 1) n)
    where
      step : (o : Option (ℕ × T)) (slots : List (Option (ℕ × T))) (rising : List (ℕ × ℕ × T)) → entries_from (from + 1) slots ≡ rising
          → entries_from from (o ∷ slots) ≡ entry_before from o rising
      step o slots rising more = grind (arith, common_steps)

  take-none : (n : ℕ) → let none : List (Option (ℕ × T)) = [] in take n none ≡ none
  take-none n = grind (arith, common_steps)

  -- the slots of a list within another capacity, if no entry is beyond the old one
  slots-resized : (es : List (Entry T)) (from n c : ℕ) → ((k : ℕ) → from + c ≤ k → entry_at es k ≡ None)
      → slots_from es from n ≡ take n (slots_from es from c) ++ replicate (n - c) None
  slots-resized es from zero c none = grind (arith, common_steps)
  slots-resized es from (suc n) zero none =
      let whole : suc n - zero ≡ suc n = omega arith in
      rw whole (ap (λ s. s ∷ slots_from es (from + 1) n) (none from (omega arith))
      ∙ ap (λ ss. None ∷ ss) (slots-resized es (from + 1) n zero (λ k h. none k (omega (arith, h))) ∙ (let all : n - zero ≡ n = omega arith in rw (all, take-none n) refl)))
  slots-resized es from (suc n) (suc c) none = grind (arith, common_steps, slots-resized es (from + 1) n c (λ k h. none k (omega (arith, h))))

  resized-slots : (n : ℕ) (xs : List (Option (ℕ × T))) → resized (n + 1) (None ∷ xs) ≡ None ∷ (take n xs ++ replicate (n - length xs) None)
  resized-slots n xs = let less : suc n - suc (length xs) ≡ n - length xs = omega arith in rw (add-one, less) refl

  abbrev pub NoneBeyond : Tree T → Type 0
  NoneBeyond t = (k : ℕ) → 1 + t.list.capacity ≤ k → entry_at t.list.entries k ≡ None

  pub content-capacity : (t u : Tree T) (n : ℕ) → NoneBeyond t → u.list ≡ chain_with_capacity t.list n
      → HoldsSame (content_of u) (with_capacity (content_of t) n)
  content-capacity t u n none is =
      let slots : List (Option (ℕ × T)) = slots_from t.list.entries 1 t.list.capacity in
      let same = ap (λ ss. None ∷ ss) (slots-resized t.list.entries 1 n t.list.capacity none)
      ∙ ap (λ m. None ∷ (take n slots ++ replicate (n - m) None)) (sym (length-slots t.list.entries 1 t.list.capacity)) ∙ sym (resized-slots n slots) in
      rw is (record { slots = same; generation = refl; maximum = refl })

  module _ (most : ℕ) (greatest : Option ℕ) (t : Tree T) (sound : IsSound most greatest t.list) where
    beyond : NoneBeyond t
    beyond k above = outside most greatest t sound k (λ first within. omega (arith, above, within))

    slot_entry : (i g : ℕ) → option_map (λ e. e.0) (entry_at t.list.entries i) ≡ Some g
        → option_map (λ e. e.0) (slot (content_of t) i) ≡ Some g
    slot_entry i g is = ap (option_map (λ (e : ℕ × T). e.0)) (slot_is most greatest t sound i) ∙ is

    no_slot : (k : ℕ) → times k t.list.entries ≡ 0 → slot (content_of t) k ≡ None
    no_slot k none = slot_is most greatest t sound k ∙ entry_at-absent t.list.entries k none

    pub first-found : (i g : ℕ) → IsFirstIndex t.list.entries i g → IsFirstEntry (content_of t) i g
    first-found i g is = record { entry = slot_entry i g is.entry; least = λ k below. no_slot k (is.least k below) }

    pub last-found : (i g : ℕ) → IsLastIndex t.list.entries i g → IsLastEntry (content_of t) i g
    last-found i g is = record { entry = slot_entry i g is.entry; greatest = λ k above. no_slot k (is.greatest k above) }

    greatest-above : greatest_index t.list.entries ≤ greatest_occupied (content_of t).slots
    greatest-above = go t.list.entries refl
      where
        go : (es : List (Entry T)) → t.list.entries ≡ es → greatest_index es ≤ greatest_occupied (content_of t).slots
        go [] is = omega arith
        go (e ∷ es) is =
            let i = greatest_index (e ∷ es) in
            let there = occurs-entry (e ∷ es) i (times-greatest e es) in
            grind (arith, common_steps, there, below-greatest (content_of t).slots i, slot_is most greatest t sound i, is)

    greatest-is : greatest_occupied (content_of t).slots ≡ greatest_index t.list.entries
    greatest-is =
        let i = greatest_occupied (content_of t).slots in
        grind (arith, common_steps, greatest-above, greatest-or_none (content_of t).slots, no_slot i, below-greatest_index t.list.entries i)

    abbrev reallocated : ℕ → Tree T
    reallocated n = record t { list = chain_with_capacity t.list (max n (greatest_index t.list.entries)) }

    pub content-reallocated : (u : Tree T) (n : ℕ) → u ≡ reallocated n
        → HoldsSame (content_of u) (with_capacity (content_of t) (max n (greatest_occupied (content_of t).slots)))
    content-reallocated u n h =
        let same = content-capacity t u (max n (greatest_index t.list.entries)) beyond (ap (λ v. v.list) h) in
        subst (λ m. HoldsSame (content_of u) (with_capacity (content_of t) (max n m))) (sym greatest-is) same

    pub none-found : (N : Type 0) → N ↔ (length t.list.entries ≡ 0) → N ↔ (arena_len (content_of t) ≡ 0)
    none-found N h = (λ n. len_is most greatest t sound ∙ h.0 n, λ z. h.1 (sym (len_is most greatest t sound) ∙ z))

    -- an arena whose list is compressed is compressed as a map
    module _ (u : Tree T) (g : ℕ) (items : List T) (long : length items ≡ length t.list.entries) where
      below : (i : ℕ) → 1 ≤ times i t.list.entries → i < 1 + t.list.capacity
      below i there = let inside = sound.within i there in let upto : i ≤ t.list.capacity = inside.1 in omega (arith, upto)

      fits : length items < suc t.list.capacity
      fits = omega (arith, long, sound.counted)

      abbrev moved_entries : List (Entry T)
      moved_entries = map (moved t.list.entries g items) t.list.entries

      moved-slot : (k : ℕ) → get_or (slots_from moved_entries 1 t.list.capacity) k None ≡ option_map (λ item. (g, item)) (slice_get items k)
      moved-slot k =
          let here = entry_at-compressed t.list.entries sound.distinct g items long (1 + t.list.capacity) below k in
          let within = slots-within moved_entries 1 t.list.capacity k in
          grind (arith, common_steps, within, slots-beyond moved_entries 1 t.list.capacity k, here, slice_get_past items k, sound.counted)

      slot-compressed : (k : ℕ) → get_or (None ∷ slots_from moved_entries 1 t.list.capacity) k None
          ≡ get_or (resized (suc t.list.capacity) (None ∷ map (λ item. Some (g, item)) items)) k None
      slot-compressed zero = refl
      slot-compressed (suc k) = moved-slot k ∙ sym (compressed-at (suc t.list.capacity) g items k fits)

      slots-compressed : None ∷ slots_from moved_entries 1 t.list.capacity
          ≡ resized (suc t.list.capacity) (None ∷ map (λ item. Some (g, item)) items)
      slots-compressed =
          let long = length-slots moved_entries 1 t.list.capacity in
          same-slots _ _ (omega (arith, long, compressed-length (suc t.list.capacity) g items fits)) slot-compressed

      content-compressed : u.list ≡ chain_compressed t.list g items → HoldsSame (content_of u) (compressed (content_of t) g items)
      content-compressed is =
          let count : suc t.list.capacity ≡ length (content_of t).slots = ap suc (sym (length-slots t.list.entries 1 t.list.capacity)) in
          rw is (record { slots = slots-compressed ∙ ap (λ n. resized n (None ∷ map (λ item. Some (g, item)) items)) count; generation = refl; maximum = refl })

-- the closure of a compression was called once for each entry
module _ {P T F : Type 0} (numbers : P → ℕ × ℕ) (step : F → P → T → P → T → F → Type 0) (g : ℕ) where
  items-counted : (es : List (ℕ × ℕ × T)) (s t : F × List T) → FoldsTo (CompressionStep numbers step g) s es t → length t.1 ≡ length s.1 + length es
  items-counted [] s t same = omega (arith, ap (λ (s : F × List T). length s.1) same)
  items-counted (e ∷ es) s t calls = omega (arith, items-counted es calls.0 t calls.2, ap length calls.1.behind, length-append s.1 (calls.1.item ∷ []))

  module _ (most : ℕ) (greatest : Option ℕ) (t u : Tree T) (f : F) (sound : IsSound most greatest t.list) where
    pub content-compression : IsChainCompression numbers step g f t.list u.list
        → IsCompression numbers step g f (content_of t) (content_of u)
    content-compression is =
        let rising : arena_rising (content_of t) 0 ≡ entries_rising t.list = rising-is t.list.entries 1 t.list.capacity in
        let many : length (arena_rising (content_of t) 0) ≡ length t.list.entries = length-entries 0 (content_of t).slots ∙ len_is most greatest t sound in
        let calls : FoldsTo (CompressionStep numbers step g) (f, []) (arena_rising (content_of t) 0) (is.last, is.items) = rw rising is.calls in
        record {
          items = is.items;
          last = is.last;
          calls = calls;
          after = content-compressed most greatest t sound u g is.items (omega (arith, items-counted (arena_rising (content_of t) 0) (f, []) (is.last, is.items) calls, many)) is.after;
        }

-- What a walk by index returns depends only on the generations at the indexes.
module _ {X Y : Type 0} where
  -- slots with the same generations
  abbrev IsAlike : List (Option (ℕ × X)) → List (Option (ℕ × Y)) → Type 0
  IsAlike xs ys = map (option_map (λ e. e.0)) xs ≡ map (option_map (λ e. e.0)) ys

  abbrev AgreeAt : List (Option (ℕ × X)) → List (Option (ℕ × Y)) → ℕ → Type 0
  AgreeAt xs ys k = option_map (λ e. e.0) (get_or xs k None) ≡ option_map (λ e. e.0) (get_or ys k None)

  alike-by_index : (xs : List (Option (ℕ × X))) (ys : List (Option (ℕ × Y))) → length xs ≡ length ys → ((k : ℕ) → AgreeAt xs ys k) → IsAlike xs ys
  alike-by_index (x ∷ xs) (y ∷ ys) long same = rw (same 0, alike-by_index xs ys (omega (arith, long)) (λ k. same (suc k))) refl
  alike-by_index xs ys long same = grind (arith, common_steps)

  pointers-alike : (from : ℕ) (xs : List (Option (ℕ × X))) (ys : List (Option (ℕ × Y))) → IsAlike xs ys → pointers_from from xs ≡ pointers_from from ys
  pointers-alike from (x ∷ xs) (y ∷ ys) alike = grind (arith, common_steps, pointers-alike (from + 1) xs ys (cc))
  pointers-alike from [] [] alike = refl
  pointers-alike from xs ys alike = absurd (cc)

  rest-alike : (a : Arena X) (b : Arena Y) → IsAlike a.slots b.slots → (w : Walk) → walk_rest w a ≡ walk_rest w b
  rest-alike a b alike w = go w.falling
    where
      go : (falling : Bool) → walk_rest (record { at = w.at; falling = falling }) a ≡ walk_rest (record { at = w.at; falling = falling }) b
      go true = ap reverse (pointers-alike 0 (take (w.at + 1) a.slots) (take (w.at + 1) b.slots) (sym (take-map _ (w.at + 1) a.slots) ∙ ap (take (w.at + 1)) alike ∙ take-map _ (w.at + 1) b.slots))
      go false = pointers-alike (w.at + 1) (drop (w.at + 1) a.slots) (drop (w.at + 1) b.slots) (sym (drop-map _ (w.at + 1) a.slots) ∙ ap (drop (w.at + 1)) alike ∙ drop-map _ (w.at + 1) b.slots)

  -- a pointer that finds an item in one finds an item in the other
  there-alike : (g : ℕ) (x : Option (ℕ × X)) (y : Option (ℕ × Y)) → option_map (λ e. e.0) x ≡ option_map (λ e. e.0) y → IsSome (item_if g x) → IsSome (item_if g y)
  there-alike g x y alike some = grind (arith, common_steps)

  -- a step over one is a step over the other
  module _ {P : Type 0} (numbers : P → ℕ × ℕ) (a : Arena X) (b : Arena Y) (same : (w : Walk) → walk_rest w a ≡ walk_rest w b)
      (there : (p : ℕ × ℕ) → IsSome (item_of a p) → IsSome (item_of b p)) where
    steps-alike : (old new : Walk) (r : Option P) → WalkSteps numbers old a r new → WalkSteps numbers old b r new
    steps-alike old new None step = record { none_left = sym (same old) ∙ step.none_left; stays = step.stays }
    steps-alike old new (Some p) step =
        record { there = there (numbers p) step.there; first = sym (same old) ∙ (step.first ∙ ap (λ rest. (numbers p) ∷ rest) (same new)); stands = step.stands }

-- A walk over the arena under a tree's chain is a walk over the tree's entries.
module _ {P T I G Q : Type 0} (most : ℕ) (greatest : Option ℕ) (t : Tree T) (sound : IsSound most greatest t.list) (numbers : Q → ℕ × ℕ)
    (c : Chain (SimpleOrdArenaNode P T I G)) (a : Arena (Link (SimpleOrdArenaNode P T I G))) (under : IsChainOf t c)
    (laid : IsArenaOf c a) where
  pub steps-under : take 1 a.slots ≡ None ∷ [] → (old new : Walk) (r : Option Q) → WalkSteps numbers old a r new
      → SlotWalkSteps numbers old t r new
  steps-under begins old new r step =
      told r (steps-alike numbers a (content_of t) (rest-alike a (content_of t) (alike-by_index a.slots (content_of t).slots long same)) there old new r step)
    where
      long : length a.slots ≡ length (content_of t).slots
      long =
          let all = length-slots t.list.entries 1 t.list.capacity in
          omega (arith, ap length begins, length-take 1 a.slots, laid.capacity, capacity-under t c under, all)

      same : (k : ℕ) → option_map (λ e. e.0) (get_or a.slots k None) ≡ option_map (λ e. e.0) (get_or (content_of t).slots k None)
      same k = ap (option_map (λ e. e.0)) (laid.slots k) ∙ (link_generation-under t c under k ∙ ap (option_map (λ e. e.0)) (sym (slot_is most greatest t sound k)))

      there : (p : ℕ × ℕ) → IsSome (item_of a p) → IsSome (item_of (content_of t) p)
      there p = there-alike p.1 (slot a p.0) (slot (content_of t) p.0) (same p.0)

      told : (r : Option Q) → WalkSteps numbers old (content_of t) r new → SlotWalkSteps numbers old t r new
      told None step = record { step = step; there = tt }
      told (Some p) step = record { step = step; there = rw (item_is most greatest t sound (numbers p)) at step.there }

-- A removal, by what a walk by index still returns.
module _ {T : Type 0} where
  -- no pointer has an index below that of the first slot
  first-above : (from : ℕ) (slots : List (Option (ℕ × T))) (p : ℕ × ℕ) (rest : List (ℕ × ℕ)) → pointers_from from slots ≡ p ∷ rest → from ≤ p.0
  first-above from (None ∷ slots) p rest is = omega (arith, first-above (from + 1) slots p rest is)
  first-above from slots p rest is = grind (arith, common_steps)

  -- without the first entry the others are left
  others-left : (from k i g : ℕ) (slots : List (Option (ℕ × T))) (rest : List (ℕ × ℕ)) → i ≡ from + k
      → pointers_from from slots ≡ (i, g) ∷ rest → pointers_from from (set slots k None) ≡ rest
  others-left from zero i g (None ∷ slots) rest at is = absurd (omega (arith, at, first-above (from + 1) slots (i, g) rest is))
  others-left from (suc k) i g (None ∷ slots) rest at is = others-left (from + 1) k i g slots rest (omega (arith, at)) is
  others-left from k i g slots rest at is = grind (arith, common_steps)

  -- if there is no pointer, no slot has an entry
  none-there : (from : ℕ) (slots : List (Option (ℕ × T))) (k : ℕ) → pointers_from from slots ≡ [] → get_or slots k None ≡ None
  none-there from (None ∷ slots) (suc k) is = none-there (from + 1) slots k is
  none-there from slots k is = grind (arith, common_steps)

  -- if a walk had every entry left and has none, the arena has no entries
  pub nothing-left : (most : ℕ) (greatest : Option ℕ) (t : Tree T) (rest : List (ℕ × ℕ)) → IsSound most greatest t.list → rest ≡ []
      → rest ≡ pointers (content_of t) → FindsNothing t
  nothing-left most greatest t rest sound none whole p =
      sym (item_is most greatest t sound p) ∙ ap (item_if p.1) (none-there 0 (content_of t).slots p.0 (sym whole ∙ none))

  module _ (most : ℕ) (greatest : Option ℕ) (t u : Tree T) (i : ℕ) (sound : IsSound most greatest t.list) (removal : u.list ≡ removed greatest t.list i) where
    slots-removed : (content_of u).slots ≡ set (content_of t).slots i None
    slots-removed = (content_removed most greatest t u i sound removal).slots

    -- a walk that has returned the entry returns the same afterwards
    pub rest-removed : (w : Walk) → walk_rest (walk_from w i) (content_of t) ≡ walk_rest (walk_from w i) (content_of u)
    rest-removed w = sym (go w.falling)
      where
        front : (i : ℕ) → take (i - 1 + 1) (set (content_of t).slots i None) ≡ take (i - 1 + 1) (content_of t).slots
        front zero = refl
        front (suc k) = let same : suc k - 1 + 1 ≡ suc k = omega arith in rw same (take-set-le (suc k) (content_of t).slots (suc k) None (omega arith))

        go : (falling : Bool) → walk_rest (walk_from (record { at = w.at; falling = falling }) i) (content_of u) ≡ walk_rest (walk_from (record { at = w.at; falling = falling }) i) (content_of t)
        go true = ap (λ slots. reverse (pointers_from 0 (take (i - 1 + 1) slots))) slots-removed ∙ ap (λ slots. reverse (pointers_from 0 slots)) (front i)
        go false = ap (λ slots. pointers_from (i + 1) (drop (i + 1) slots)) slots-removed ∙ ap (pointers_from (i + 1)) (drop-set-lt (i + 1) (content_of t).slots i None (omega arith))

    -- if its rest had all entries, it has all that are left
    pub whole-removed : (g : ℕ) (before after : List (ℕ × ℕ)) → before ≡ (i, g) ∷ after → before ≡ pointers (content_of t) → after ≡ pointers (content_of u)
    whole-removed g before after first whole = sym (ap (pointers_from 0) slots-removed ∙ others-left 0 i i g (content_of t).slots after (omega arith) (sym whole ∙ first))

-- what is shown to be missing is missing
pub vacant_of : {X : Type 0} (o : Option X) → is_some o ≡ false → o ≡ None
vacant_of o is = grind (arith, common_steps)

module _ {T I : Type 0} (gives : T → Result (Unit {0}) I → T → Type 0) (old : Tree T) where
  abbrev generation_at : Tree T → ℕ → Option ℕ
  generation_at t i = option_map (λ (e : ℕ × T). e.0) (entry_at t.list.entries i)

  -- the rest from index i on
  abbrev rest_from : ℕ → List (ℕ × ℕ)
  rest_from i = pointers_from i (drop i (content_of old).slots)

  -- the items at the indexes below i were recast
  pub record RecastBelow (now : Tree T) (i : ℕ) : Type 0 where
    pub recast : List (ℕ × ℕ)
    pub split : pointers (content_of old) ≡ recast ++ rest_from i
    pub calls : FoldsTo (RecastsNext gives) old recast now
    pub kept : (k : ℕ) → generation_at now k ≡ generation_at old k

  length-content : length (content_of old).slots ≡ suc old.list.capacity
  length-content = ap suc (length-slots old.list.entries 1 old.list.capacity)

  module _ (most : ℕ) (greatest : Option ℕ) (sound : IsSound most greatest old.list) (now : Tree T) (i : ℕ) (b : RecastBelow now i) (within : i ≤ old.list.capacity) where
    slots_at : drop i (content_of old).slots ≡ entry_at old.list.entries i ∷ drop (i + 1) (content_of old).slots
    slots_at = drop_more (content_of old).slots i None (omega (arith, length-content, within)) ∙ ap (λ s. s ∷ drop (i + 1) (content_of old).slots) (slot_is most greatest old sound i)

    -- the rest, if an entry is next and if none is
    pointer_at : (o : Option (ℕ × T)) (rest : List (Option (ℕ × T))) (g : ℕ) → option_map (λ (e : ℕ × T). e.0) o ≡ Some g
        → pointers_from i (o ∷ rest) ≡ (i, g) ∷ pointers_from (i + 1) rest
    pointer_at o rest g is = grind (arith, common_steps)

    no_pointer : (o : Option (ℕ × T)) (rest : List (Option (ℕ × T))) → option_map (λ (e : ℕ × T). e.0) o ≡ None → pointers_from i (o ∷ rest) ≡ pointers_from (i + 1) rest
    no_pointer o rest is = grind (arith, common_steps)

    -- no entry has the index
    pub recast-vacant : entry_at now.list.entries i ≡ None → RecastBelow now (i + 1)
    recast-vacant none =
        let skipped = no_pointer (entry_at old.list.entries i) (drop (i + 1) (content_of old).slots)
        (sym (b.kept i) ∙ ap (option_map (λ (e : ℕ × T). e.0)) none) in
        record { recast = b.recast; split = b.split ∙ ap (λ ps. b.recast ++ ps) (ap (pointers_from i) slots_at ∙ skipped); calls = b.calls; kept = b.kept }

    -- the pointer of the entry at the index, and those after it
    next : (e : ℕ × T) → entry_at now.list.entries i ≡ Some e → rest_from i ≡ (i, e.0) ∷ rest_from (i + 1)
    next e is = ap (pointers_from i) slots_at ∙ pointer_at (entry_at old.list.entries i) (drop (i + 1) (content_of old).slots) e.0 (sym (b.kept i) ∙ ap (option_map (λ (e : ℕ × T). e.0)) is)

    pub recast-next : (after : Tree T) → RecastsItem gives (Ok tt) now i after → RecastBelow after (i + 1)
    recast-next after step =
        record {
          recast = b.recast ++ (i, step.entry.0) ∷ [];
          split = b.split ∙ (ap (λ ps. b.recast ++ ps) (next step.entry step.found) ∙ sym (append_assoc b.recast ((i, step.entry.0) ∷ []) (rest_from (i + 1))));
          calls = FoldsTo-push (RecastsNext gives) old b.recast now (i, step.entry.0) after b.calls step;
          kept = λ k. ap (λ t. generation_at t k) step.after ∙ (written step.item k ∙ b.kept k);
        }
      where
        written : (item : T) (k : ℕ) → generation_at (with_item now i item) k ≡ generation_at now k
        written item k =
            let here = option_map-twice (λ (e : ℕ × T). (e.0, item)) (λ (e : ℕ × T). e.0) (entry_at now.list.entries i) in
            let es = now.list.entries in
            grind (arith, common_steps, cases_eq k i, here, entry_at-with_item_among es i item, entry_at-with_item_among_other es i k item)

    pub recast-failed : (err : I) (after : Tree T) → RecastsItem gives (Err err) now i after → RecastsItems gives old (Err err) after
    recast-failed err after step =
        record { recast = b.recast; left = rest_from i; split = b.split; reached = now; calls = b.calls; ends = ((i, step.entry.0), rest_from (i + 1), next step.entry step.found, step) }

  pub recast-ends : (now : Tree T) (i : ℕ) → RecastBelow now i → old.list.capacity < i → RecastsItems gives old (Ok tt) now
  recast-ends now i b past =
      let none : rest_from i ≡ [] = ap (pointers_from i) (drop_all i (content_of old).slots (omega (arith, length-content, past))) in
      record { recast = b.recast; left = rest_from i; split = b.split; reached = now; calls = b.calls; ends = (none, refl) }
