-- A clone of a chain: its slots hold the source's links with other items, so it is the source's list with these items.
use Rattle.std.proofs.Common.{OnOk, Ok, ◌≡◌, ℕ, suc, ◌+◌, ◌<◌, ◌≤◌, max, List, [], ◌∷◌, length, map, take, get_or, slice_get, Option, Some, None, Result, Err, MatchResult, count_by, is_some, refl, sym, ap, ◌∙◌, arith, inl, inr, ◌⊎◌, ◌==◌, true, false, map-id, option_map}
use Rattle.std.proofs.{lemmas.Grind.common_steps, lemmas.Bool.false≢true}
use Rattle.std.specs.{declared.alloc.AllocError.AllocError, List.FoldsTo}
use Rattle.arena_base.specs.declared.error.ReallocationError.TheVariants.{BeyondMaxCapacity, AllocError as NoMemory}
use Rattle.arena_base.specs.Arena.{Arena, slot, arena_capacity, arena_len, greatest_occupied, resized, IsFresh}
use Rattle.arena_base.specs.Clone.{CloneStep, Grants, with_items, IsClone as IsArenaClone, IsRefusedClone as IsRefusedArena, StopsAtRefusal, taken_over as arena_taken_over}
use Rattle.arena_base.specs.{declared.error.ReallocationError.ReallocationError, Walk.entries_from, Walk.entries_rising}
use Rattle.arena_base.proofs.CallerLemmas.{clones-retold, clones-restated, clones-keep, clones-leave, stops-retold, stops-restated, stops-leave}
use Rattle.chain_base.specs.Chain.{Entry, Chain, times, link_at, link_between, greatest_index, vacant_indexes, IsSound}
use Rattle.chain_base.specs.Clone.{links_among, links_rising, HasItems, taken_over, ClonesLink, IsClone, IsRefusedClone}
use Rattle.chain_base.specs.{Layout.chain_of, Layout.met, Layout.IsLaidOut, Walk.pointers, Link.Link}
use Rattle.chain_base.proofs.Vacancy.{HoldIndexes, held-some, held-is, get_or-resized, length-resized, vacant-held, greatest-links, past-greatest, held-occurs}
use Rattle.chain_base.proofs.Lists.{option_map-itself, IsRow, IsRow-links, link_between-absent, entry_at-link, SameIndexes}
use Rattle.chain_base.proofs.Steps.{Lies, lies, held-laid, IsLaidOut-resized, IsLaidOut-cleared}
use Rattle.chain_base.proofs.{LaidOut.IsChainIn, LaidOut.laid-held, LaidOut.IsLaidOut-walked, Ranking.place-slots, Ranking.among-arena}

-- what a clone keeps of a link
abbrev ends_of : {X : Type 0} → Link X → Option ℕ × Option ℕ
ends_of l = (l.prev, l.next)

-- what it keeps of the entry at an index
abbrev frame : {X : Type 0} → Option (ℕ × Link X) → Option (ℕ × Option ℕ × Option ℕ)
frame o = option_map (λ e. (e.0, e.1.prev, e.1.next)) o

framed : {X Y : Type 0} (o : Option (ℕ × Link X)) (p : Option (ℕ × Link Y)) → frame o ≡ frame p → is_some o ≡ true → is_some p ≡ true
framed o p same some = grind (arith, common_steps)

module _ {T U : Type 0} where
  -- lists of the same pointers
  pub alike-pointers : (es : List (Entry T)) (fs : List (Entry U)) → pointers es ≡ pointers fs → SameIndexes es fs
  alike-pointers [] [] same = grind (arith, common_steps)
  alike-pointers (e ∷ es) (f ∷ fs) same = grind (arith, common_steps, alike-pointers es fs)
  alike-pointers es fs same = absurd cc

  -- the entries of a list, as found at their indexes
  abbrev relisted : (ℕ → Option (ℕ × Link T)) → List (Entry U) → List (Entry T)
  relisted at [] = []
  relisted at (e ∷ es) = met e.index (at e.index) (λ next. relisted at es)

  module _ (at : ℕ → Option (ℕ × Link T)) (at0 : ℕ → Option (ℕ × Link U)) (same : (i : ℕ) → frame (at i) ≡ frame (at0 i)) where
    row-relisted : (before : Option ℕ) (es : List (Entry U)) → IsRow at0 before es → IsRow at before (relisted at es) × (pointers (relisted at es) ≡ pointers es)
    row-relisted before [] row = (tt, refl)
    row-relisted before (e ∷ es) row = grind (arith, common_steps, row-relisted (Some e.index) es row.1, row, IsRow, alike-pointers)

    row-links : (before : Option ℕ) (es : List (Entry T)) → IsRow at before es → (i : ℕ) → 1 ≤ times i es → at i ≡ link_between before None es i
    row-links before [] row i there = absurd (omega arith)
    row-links before (e ∷ es) row i there = grind (arith, common_steps, row-links (Some e.index) es row.1 i, row)

  -- slots with new items keep the source's generations and neighbours
  abbrev KeepEnds : ℕ → List (Option (ℕ × Link U)) → List (Link T) → Type 0
  KeepEnds i slots items = map ends_of items ≡ map (λ (e : ℕ × ℕ × Link U). ends_of e.2) (entries_from i slots)

  with_items-frame : (i : ℕ) (slots : List (Option (ℕ × Link U))) (xs : List (Link T)) → KeepEnds i slots xs
      → (k : ℕ) → frame (get_or (with_items slots xs) k None) ≡ frame (get_or slots k None)
  with_items-frame i (None ∷ slots) xs same (suc k) = with_items-frame (i + 1) slots xs same k
  with_items-frame i (Some e ∷ slots) (x ∷ xs) same (suc k) = with_items-frame (i + 1) slots xs (cc) k
  with_items-frame i slots xs same k = grind (arith, common_steps)

  -- and each has the item at its place
  abbrev HasItem : List (Option (ℕ × Link U)) → List (Link T) → ℕ → Type 0
  HasItem slots items k = option_map (λ (e : ℕ × Link T). e.1.item) (get_or (with_items slots items) k None) ≡ slice_get (map (λ l. l.item) items) (count_by is_some (take k slots))

  with_items-item : (slots : List (Option (ℕ × Link U))) (items : List (Link T)) (k : ℕ) (e : ℕ × Link U) → get_or slots k None ≡ Some e → HasItem slots items k
  with_items-item (None ∷ slots) items (suc k) e is = grind (arith, common_steps, with_items-item slots items k e is)
  with_items-item (Some d ∷ slots) (x ∷ items) (suc k) e is = grind (arith, common_steps, with_items-item slots items k e is)
  with_items-item slots items k e is = grind (arith, common_steps)

  module _ (slots0 : List (Option (ℕ × Link U))) (slots : List (Option (ℕ × Link T))) (first last : Option ℕ) (es : List (Entry U)) (laid : IsLaidOut slots0 first last es)
      (same : (i : ℕ) → frame (get_or slots i None) ≡ frame (get_or slots0 i None)) where
    abbrev at : ℕ → Option (ℕ × Link T)
    at i = get_or slots i None

    row : IsRow at None (relisted at es) × (pointers (relisted at es) ≡ pointers es)
    row = row-relisted at (λ i. get_or slots0 i None) same None es (IsRow-links (λ i. get_or slots0 i None) None es laid.distinct (λ i there. laid.links i))

    alike : SameIndexes (relisted at es) es
    alike = alike-pointers (relisted at es) es row.1

    laid-relisted : IsLaidOut slots first last (relisted at es)
    laid-relisted = laid-held slots first last (relisted at es) (row-links at (λ i. get_or slots0 i None) same None (relisted at es) row.0)
        (λ i some. omega (arith, alike.count i, held-occurs slots0 es i (held-laid slots0 first last es laid) (framed (at i) (get_or slots0 i None) (same i) some)))
        (λ i. omega (arith, alike.count i, laid.distinct i)) (laid.first_is ∙ sym (alike.first None)) (laid.last_is ∙ sym (alike.last None))

-- slots that are all vacant
resized-laid : {T : Type 0} (n : ℕ) → IsLaidOut {T = T} (resized n []) None None []
resized-laid n = grind (arith, common_steps, IsLaidOut-cleared)

-- The step of a clone of links, from that of its items. What makes the items is behind a reference, which keeps its name.
abbrev pub link_step : {P T U M N G : Type 0} → (M → P → Link U → Result T AllocError → M → Type 0) → (N → M) → (N → G) → N → P → Link U → Result (Link T) AllocError → N → Type 0
link_step step inner name m p link answer n =
    (name n ≡ name m) × MatchResult answer (λ new. ClonesLink step (inner m) p link new (inner n)) (λ refusal. step (inner m) p link (Err refusal) (inner n))

module _ {P T U M N G : Type 0} (numbers : P → ℕ × ℕ) (step : M → P → Link U → Result T AllocError → M → Type 0) (inner : N → M) (name : N → G) where
  -- the calls in terms of items
  module _ (es : List (ℕ × ℕ × Link U)) (m n : N) (ys : List (Link T))
      (calls : FoldsTo {P = N × List (Link T)} (CloneStep numbers (Grants numbers (link_step step inner name))) (m, []) es (n, ys)) where
    items-told : FoldsTo {P = M × List T} (CloneStep numbers (Grants numbers step)) (inner m, []) es (inner n, map (λ l. l.item) ys)
    items-told =
        let told = clones-retold numbers (Grants numbers (link_step step inner name)) (Grants numbers step) inner (λ u. u) (λ l. l.item) (λ m p u x n made. made.1.called) es m n [] ys calls in
        rw (map-id es) at told

  -- the same for a refusal
  stops-told : (m : N) (es : List (ℕ × ℕ × Link U)) (n : N) → StopsAtRefusal {T = Link T} numbers (link_step step inner name) m es n
      → StopsAtRefusal numbers step (inner m) es (inner n)
  stops-told m es n s =
      let told = stops-retold numbers (link_step step inner name) step inner (λ u. u) (λ l. l.item) (λ m p u x n made. made.1.called) (λ m p u e n called. called.1) m es n s in
      rw (map-id es) at told

  -- the name of the reference that was left
  module _ (m n : N) (a0 : Arena (Link U)) (a b : Arena (Link T)) where
    pub name-cloned : IsArenaClone numbers (Grants numbers (link_step step inner name)) m a0 a b n → name n ≡ name m
    name-cloned c = clones-leave numbers (link_step step inner name) name (λ m p u r n made. made.0) (entries_rising a0 0) m n c.items c.calls

    pub name-stopped : IsRefusedArena numbers (link_step step inner name) m a0 a b n → name n ≡ name m
    name-stopped c = stops-leave numbers (link_step step inner name) name (λ m p u r n made. made.0) (entries_rising a0 0) m n c.stops

  module _ (most : ℕ) (greatest : Option ℕ) (a0 : Arena (Link U)) (first last : Option ℕ) (laid : IsChainIn a0 first last)
      (sound : IsSound most greatest (chain_of a0 first)) (a b : Arena (Link T)) (m n : N) where
    abbrev es : List (Entry U)
    es = (chain_of a0 first).entries

    held : HoldIndexes a0.slots es
    held = held-laid a0.slots first last es laid

    rising : entries_rising a0 0 ≡ links_rising (chain_of a0 first)
    rising = sym (map-id (entries_rising a0 0))
        ∙ among-arena (λ (l : Link U). l) (link_at es) (links_among es) (λ i. refl) (λ i n. refl) a0.slots
        (link_between-absent None None es 0 (grind (arith, common_steps, sound.within 0))) (λ i. option_map-itself (slot a0 i) ∙ laid.links i)

    abbrev size : ℕ
    size = max (arena_capacity a) (greatest_occupied a0.slots)

    beyond : (k : ℕ) → size < k → slot a0 k ≡ None
    beyond k far = past-greatest a0.slots k (omega arith)

    laid0 : IsLaidOut (resized (size + 1) a0.slots) first last es
    laid0 = IsLaidOut-resized a0 first last es size beyond laid

    module _ (c : IsArenaClone numbers (Grants numbers (link_step step inner name)) m a0 a b n) where
      frames : (i : ℕ) → frame (get_or (with_items a0.slots c.items) i None) ≡ frame (slot a0 i)
      frames = with_items-frame 0 a0.slots c.items
          (clones-keep numbers (Grants numbers (link_step step inner name)) ends_of ends_of (λ f p u x g made. (let before = made.1.before in let behind = made.1.behind in cc)) (entries_rising a0 0) m n [] c.items c.calls)

      past : (k : ℕ) → size + 1 ≤ k → get_or (with_items a0.slots c.items) k None ≡ None
      past k far = grind (arith, common_steps, frames k, beyond k)

      at-slots : (i : ℕ) → slot b i ≡ get_or (with_items a0.slots c.items) i None
      at-slots i = ap (λ ss. get_or ss i None) c.after.slots ∙ get_or-resized (size + 1) (with_items a0.slots c.items) i past

      frames2 : (i : ℕ) → frame (slot b i) ≡ frame (get_or (resized (size + 1) a0.slots) i None)
      frames2 i = ap frame (at-slots i) ∙ (frames i ∙ sym (ap frame (get_or-resized (size + 1) a0.slots i (λ k far. beyond k (omega arith)))))

      abbrev list : List (Entry T)
      list = relisted (slot b) es

      laid-list : IsLaidOut b.slots first last list
      laid-list = laid-relisted (resized (size + 1) a0.slots) b.slots first last es laid0 frames2

      has-items : HasItems es (map (λ l. l.item) c.items) list
      has-items = record {
        order = (row (resized (size + 1) a0.slots) b.slots first last es laid0 frames2).1;
        made = λ i there.
            let e = held-some (slot a0 i) (held-is a0.slots es i held there) in
            ap (option_map (λ e. e.1)) (entry_at-link None None list i ∙ ap (option_map (λ e. (e.0, e.1.item))) (sym (laid-list.links i)))
            ∙ twice (slot b i) ∙ ap (option_map (λ e. e.1.item)) (at-slots i)
            ∙ with_items-item a0.slots c.items i e.0 e.1 ∙ ap (slice_get (map (λ l. l.item) c.items)) (place-slots a0.slots es held i);
      }
        where
          twice : (o : Option (ℕ × Link T)) → option_map (λ e. e.1) (option_map {U = ℕ × T} (λ e. (e.0, e.1.item)) o) ≡ option_map (λ e. e.1.item) o
          twice o = grind (arith, common_steps)

      pub Lies-cloned : (first1 : Option ℕ) → IsFresh b → Lies b first last (taken_over (chain_of a0 first) (chain_of a first1) list)
      Lies-cloned first1 fresh =
          let capacity : arena_capacity b ≡ max (arena_capacity a) (greatest_index es) =
          omega (arith, ap length c.after.slots, length-resized (size + 1) (with_items a0.slots c.items), greatest-links a0.slots es held) in
          lies b first last (taken_over (chain_of a0 first) (chain_of a first1) list) laid-list capacity
          (fresh ∙ vacant-held b.slots list (held-laid b.slots first last list laid-list) ∙ ap (vacant_indexes list) capacity) c.after.generation c.after.maximum

      pub clone-chain : (first1 : Option ℕ) → IsFresh b → IsClone numbers (Grants numbers step) (inner m) (chain_of a0 first) (chain_of a first1) (chain_of b first) (inner n)
      clone-chain first1 fresh =
          grind (arith, common_steps, Lies-cloned first1 fresh, rising, items-told (entries_rising a0 0) m n, has-items)

    pub rising-told : StopsAtRefusal {T = Link T} numbers (link_step step inner name) m (entries_rising a0 0) n
        → StopsAtRefusal numbers step (inner m) (links_rising (chain_of a0 first)) (inner n)
    rising-told stops = rw (← rising) (stops-told m (entries_rising a0 0) n stops)

-- a refusal leaves no entry
module _ {T U : Type 0} (a0 : Arena (Link U)) (first last : Option ℕ) (laid : IsChainIn a0 first last)
    (a b : Arena (Link T)) where
  pub refused-chain : (first1 : Option ℕ) → b ≡ arena_taken_over a0 a [] → chain_of b None ≡ taken_over (chain_of a0 first) (chain_of a first1) []
  refused-chain first1 is =
      let size = max (arena_capacity a) (greatest_occupied a0.slots) in
      let none : IsLaidOut b.slots None None [] = rw is (resized-laid (size + 1)) in
      let long : length b.slots ≡ size + 1 = ap (λ (x : Arena (Link T)). length x.slots) is ∙ length-resized (size + 1) [] in
      let capacity : arena_capacity b ≡ max (arena_capacity a) (greatest_index (chain_of a0 first).entries) = omega (arith, long, greatest-links a0.slots _ (held-laid a0.slots first last _ laid)) in
      let fresh : IsFresh b = rw is refl in
      let done = lies b None None (taken_over (chain_of a0 first) (chain_of a first1) []) none capacity
      (fresh ∙ vacant-held {T = T} b.slots [] (held-laid b.slots None None [] none) ∙ ap (vacant_indexes {T = T} []) capacity) (ap (λ (x : Arena (Link T)). x.generation) is) (ap (λ (x : Arena (Link T)). x.maximum) is) in
      done.chain

-- the receiver of a clone that failed: unchanged, or without entries
module _ {T U : Type 0} (a0 : Arena (Link U)) (a b : Arena (Link T)) (first last : Option ℕ) (laid : IsChainIn a first last)
    (left : (b ≡ a) ⊎ (b ≡ arena_taken_over a0 a [])) where
  no-ends : arena_len a ≡ 0 → (first ≡ None) × (last ≡ None)
  no-ends none = grind (arith, common_steps)

  pub empty-laid : (arena_len b == 0) ≡ true → IsChainIn b None None
  empty-laid empty = grind (arith, common_steps, IsLaidOut-walked, left, no-ends, resized-laid)

  pub unrefused : (arena_len b == 0) ≡ false → b ≡ arena_taken_over a0 a [] → ⊥
  unrefused some gone = grind (arith, common_steps, false≢true, resized-laid)

  pub filled-laid : (arena_len b == 0) ≡ false → IsChainIn b first last
  filled-laid some = elim left [ inl kept ↦ rw kept laid | inr gone ↦ absurd (unrefused some gone) ]

  pub kept-chain : b ≡ a → (arena_len b == 0) ≡ true → chain_of b None ≡ chain_of a first
  kept-chain kept empty = grind (arith, common_steps, no-ends)

-- what a clone that failed keeps of the state of what makes its items, if its calls keep it
pub left-refused : {M K X Z : Type 0} (see : M → K) (m n : M) → (Z → see n ≡ see m) → (X × (n ≡ m)) ⊎ Z → see n ≡ see m
left-refused see m n stops (inl kept) = ap see kept.1
left-refused see m n stops (inr refused) = stops refused

-- A clone in states of one kind is one in states of another.
module _ {P T U M F X E : Type 0} (numbers : P → ℕ × ℕ) (below : M → P → Link U → T → M → Type 0) (above : F → P → Link U → T → F → Type 0) (state : M → F)
    (like : (m : M) (p : P) (u : Link U) (x : T) (n : M) → below m p u x n → above (state m) p u x (state n)) where
  pub clone-restated : (r : Result X E) (m : M) (source : Chain U) (old new : Chain T) (n : M) → OnOk r (IsClone numbers below m source old new n)
      → OnOk r ((last : F) × IsClone numbers above (state m) source old new last)
  clone-restated (Ok x) m source old new n c = (
    state n,
    record { items = c.items; calls = clones-restated numbers below above state like (links_rising source) m n c.items c.calls; entries = c.entries; after = c.after },
  )
  clone-restated (Err e) m source old new n c = tt

-- the same for a refusal
module _ {P T U M F : Type 0} (numbers : P → ℕ × ℕ) (below : M → P → Link U → Result T AllocError → M → Type 0)
    (above : F → P → Link U → Result T AllocError → F → Type 0) (state : M → F)
    (like : (m : M) (p : P) (u : Link U) (r : Result T AllocError) (n : M) → below m p u r n → above (state m) p u r (state n)) (m : M)
    (source : Chain U) (old new : Chain T) (n : M) where
  pub refusal-restated : IsRefusedClone numbers below m source old new n → (last : F) × IsRefusedClone numbers above (state m) source old new last
  refusal-restated c = (state n, record { stops = stops-restated numbers below above state like m (links_rising source) n c.stops; after = c.after })
