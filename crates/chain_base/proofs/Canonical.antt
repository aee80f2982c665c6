-- The canonical order of a chain: once its entries have the least indexes, each in turn is swapped to that of its place.
use Rattle.std.proofs.Common.{◌≡◌, ◌≢◌, ℕ, zero, suc, ◌+◌, ◌-◌, ◌<◌, ◌≤◌, true, List, [], ◌∷◌, ◌++◌, length, map, replicate, slice_get, slice_index_or, Option, Some, None, IsSome, is_some, cond, if◌then◌else◌, refl, sym, ap, ◌∙◌, arith, inl, inr, length-append}
use Rattle.std.proofs.lemmas.List.{map-append, map-id, append_assoc, append-nil, length-map}
use Rattle.std.proofs.{lemmas.Option.same_Some, lemmas.Option.slice_get-map, lemmas.Option.get_or_from_slice_get, lemmas.Grind.common_steps}
use Rattle.std.proofs.lemmas.Bool.Decides.{eqb_tells, nat_tests}
use Rattle.std.specs.{Option.option_map, Option.option_and_then, Option.ForSome, Prelude.nat_lt}
use Rattle.chain_base.specs.Compression.{lesser, compressed_index, entry_before, rising_among, entries_rising, moved, at_compressed_index, relocated, numbered, canonical, IsCompression, refilled}
use Rattle.chain_base.specs.Chain.{Entry, Chain, IsDistinct, IsSound, times, entry_at, first_or, vacant_among}
use Rattle.chain_base.specs.{Exchange.exchanged_index, Exchange.in_exchange, Exchange.exchanged, Walk.index_after}
use Rattle.chain_base.proofs.Lists.{same_index, times-append, times-here, entry_at-some, entry_at-link, entry_at-absent, times-unlinked, other_index}
use Rattle.chain_base.proofs.Ranking.{lesser-zero, lesser-next, lesser-le, lesser-below, lesser-all, place-found, place-injective}
use Rattle.chain_base.proofs.Renumbering.{link_at-split, times-renumbered, times-changed, times-source}
use Rattle.chain_base.proofs.{Exchanging.other-twice, Exchanging.other-injective, Vacancy.held-link, Vacancy.times-link, Kept.calls-keep}

map-kept : {A B : Type 0} (v : A → B) (f : A → A) → ((x : A) → v (f x) ≡ v x) → (xs : List A) → map v (map f xs) ≡ map v xs
map-kept v f kept [] = refl
map-kept v f kept (x ∷ xs) = rw (kept x, map-kept v f kept xs) refl

-- what follows an entry, or nothing
module _ {X : Type 0} (from : ℕ) (o : Option (ℕ × X)) (xs : List (ℕ × ℕ × X)) (m k : ℕ) where
  entry_before-at : (y : ℕ × ℕ × X) → slice_get xs m ≡ Some y → k ≡ cond (is_some o) 1 0 + m → slice_get (entry_before from o xs) k ≡ Some y
  entry_before-at y is at = grind (arith, common_steps)

module _ {T : Type 0} where
  pub occurs-entry : (es : List (Entry T)) (i : ℕ) → 1 ≤ times i es → is_some (entry_at es i) ≡ true
  occurs-entry es i occurs = entry_at-some es i ∙ ap is_some (held-link es i occurs).1

  pub entry-absent : (es : List (Entry T)) (i : ℕ) → entry_at es i ≡ None → times i es ≡ 0
  entry-absent es i none = grind (arith, common_steps, entry_at-link None None es i, times-unlinked None None es i)

  -- an index that finds an entry occurs in the list
  pub entry-occurs : (es : List (Entry T)) (i : ℕ) → IsSome (entry_at es i) → 1 ≤ times i es
  entry-occurs es i there = grind (arith, common_steps, i, entry_at-absent)

  -- entries numbered in a row, and one more
  pub numbered-push : (g from : ℕ) (xs : List T) (x : T) → numbered g from (xs ++ x ∷ []) ≡ numbered g from xs ++ record { index = from + length xs; generation = g; item = x } ∷ []
  numbered-push g from [] x = let at : from + 0 ≡ from = omega arith in rw at refl
  numbered-push g from (y ∷ xs) x = grind (arith, common_steps, numbered-push g (from + 1) xs x)

  pub times-numbered : (g from : ℕ) (xs : List T) (i : ℕ) → times i (numbered g from xs) ≡ (if nat_lt i from then 0 else (if nat_lt i (from + length xs) then 1 else 0))
  times-numbered g from [] i = grind (arith, nat_tests)
  times-numbered g from (x ∷ xs) i = let ih = times-numbered g (from + 1) xs i in grind (arith, nat_tests)

  -- an entry is at its place among the entries by rising index
  module _ (es : List (Entry T)) (distinct : IsDistinct es) where
    rising-at : (count from x k : ℕ) (e : ℕ × T) → entry_at es x ≡ Some e → from ≤ x → x < from + count
        → lesser es from + k ≡ lesser es x → slice_get (rising_among es from count) k ≡ Some (x, e.0, e.1)
    rising-at zero from x k e is above below same = absurd (omega arith)
    rising-at (suc n) from x k e is above below same =
        elim (eqb_tells from x) [
          | inl h ↦ let none : k ≡ 0 = omega (arith, same, ap (lesser es) h.1) in rw (h.1, is, none) refl
          | inr h ↦
              let m = lesser es x - lesser es (from + 1) in
              let far : lesser es (from + 1) ≤ lesser es x = lesser-le es (from + 1) x (omega (arith, h.1)) in
              let once : times from es ≡ cond (is_some (entry_at es from)) 1 0 = times-link es distinct from ∙ ap (λ b. cond b 1 0) (sym (entry_at-some es from)) in
              entry_before-at from (entry_at es from) _ m k _ (rising-at n (from + 1) x m e is (omega (arith, h.1)) (omega arith) (omega arith))
              (omega (arith, once, lesser-next es from))
        ]

  module _ (most : ℕ) (greatest : Option ℕ) (c : Chain T) (sound : IsSound most greatest c) where
    pub rising-entry : (i : ℕ) (e : ℕ × T) → entry_at c.entries i ≡ Some e → slice_get (entries_rising c) (lesser c.entries i) ≡ Some (i, e.0, e.1)
    rising-entry i e is =
        grind (arith, common_steps, entry-occurs c.entries i (ap is_some is), rising-at c.entries sound.distinct c.capacity 1 i (lesser c.entries i) e is, lesser-next c.entries 0, lesser-zero c.entries)

    -- the indexes after a compression are those from 1 on
    all-lesser : lesser c.entries (c.capacity + 1) ≡ length c.entries
    all-lesser = lesser-all c.entries (c.capacity + 1) (λ y there. let within = sound.within y there in omega (arith, within.1))

    changed : (g x : ℕ) → 1 ≤ times x c.entries → times (compressed_index c.entries x) (map (at_compressed_index c.entries g) c.entries) ≡ 1
    changed g x there = omega (arith, times-changed (compressed_index c.entries) (λ x p. (g, p.1)) c.entries sound.distinct (place-injective c.entries) x there, sound.distinct x)

    relocated-inside : (g i : ℕ) → 0 < i → i ≤ length c.entries → times i (map (at_compressed_index c.entries g) c.entries) ≡ 1
    relocated-inside g i above below = grind (arith, common_steps, all-lesser, changed g, place-found c.entries sound.distinct (c.capacity + 1) (i - 1))

    relocated-within : (g i : ℕ) → 1 ≤ times i (map (at_compressed_index c.entries g) c.entries) → (0 < i) × (i ≤ length c.entries)
    relocated-within g i occurs =
        let x = times-source (compressed_index c.entries) (λ x p. (g, p.1)) c.entries i occurs in
        let at = x.1 in
        let below = lesser-below c.entries x.0 (c.capacity + 1) x.2 (omega (arith, sound.within x.0 x.2)) in
        (omega (arith, at), omega (arith, at, below, all-lesser))

    relocated-indexes : (g : ℕ) (items : List T) → length items ≡ length c.entries → (i : ℕ) → times i (map (at_compressed_index c.entries g) c.entries) ≡ times i (numbered g 1 items)
    relocated-indexes g items long i = grind (arith, nat_tests, relocated-inside g i, relocated-within g i, times-numbered g 1 items i)

  -- lists whose calls returned each item unchanged
  module _ (all : List (Entry T)) (g : ℕ) (items : List T) where
    -- each entry has the item at its place
    abbrev HasItems : List (Entry T) → Type 0
    HasItems es = (i : ℕ) (e : ℕ × T) → entry_at es i ≡ Some e → slice_index_or items (lesser all i) e.1 ≡ e.1

    map-moved : (es : List (Entry T)) → IsDistinct es → HasItems es → map (moved all g items) es ≡ map (at_compressed_index all g) es
    map-moved [] distinct same = refl
    map-moved (e ∷ es) distinct same =
        let here : slice_index_or items (lesser all e.index) e.item ≡ e.item = same e.index (e.generation, e.item) (rw (same_index e.index) refl) in
        let behind : (i : ℕ) (f : ℕ × T) → entry_at es i ≡ Some f → entry_at (e ∷ es) i ≡ Some f =
        λ i f is. grind (arith, common_steps, entry-occurs es i, distinct i) in
        rw (here, map-moved es (λ i. omega (arith, distinct i)) (λ i f is. same i f (behind i f is))) refl

  -- a compression whose calls return each item unchanged
  module _ {P F : Type 0} (numbers : P → ℕ × ℕ) (step : F → P → T → P → T → F → Type 0) (g most : ℕ) (greatest : Option ℕ)
      (back : (f : F) (p : P) (x : T) (q : P) (y : T) (h : F) → step f p x q y h → y ≡ x) (f : F) (old new : Chain T) where
    pub compression-relocates : IsSound most greatest old → IsCompression numbers step g f old new → new ≡ relocated old g
    compression-relocates sound c =
        let items : c.items ≡ map (λ (e : ℕ × ℕ × T). e.2) (entries_rising old) =
        sym (map-id c.items) ∙ calls-keep numbers step g (λ (x : T). x) back c.last c.items (entries_rising old) f [] c.calls in
        let place = λ (i : ℕ). lesser old.entries i in
        let same = λ (i : ℕ) (e : ℕ × T) (is : entry_at old.entries i ≡ Some e).
        get_or_from_slice_get c.items (place i) e.1 e.1 (ap (λ xs. slice_get xs (place i)) items
        ∙ (slice_get-map (λ (e : ℕ × ℕ × T). e.2) (entries_rising old) (place i) ∙ ap (option_map (λ (e : ℕ × ℕ × T). e.2)) (rising-entry most greatest old sound i e is))) in
        c.after ∙ ap (refilled old g) (map-moved old.entries g c.items old.entries sound.distinct same)

  -- what is seen of an item, if the calls of a compression keep it
  module _ {K : Type 0} (see : T → K) where
    seen-at : (items : List T) (k : ℕ) (d : T) → option_map see (slice_get items k) ≡ Some (see d) → see (slice_index_or items k d) ≡ see d
    seen-at items k d is = by (slice_get items k) refl is
      where
        by : (o : Option T) → slice_get items k ≡ o → option_map see o ≡ Some (see d) → see (slice_index_or items k d) ≡ see d
        by None at is = absurd cc
        by (Some x) at is = ap see (get_or_from_slice_get items k x d at) ∙ same_Some (see x) (see d) is

    map-seen : (all : List (Entry T)) (g : ℕ) (items : List T) (es : List (Entry T)) → IsDistinct es
        → ((i : ℕ) (e : ℕ × T) → entry_at es i ≡ Some e → see (slice_index_or items (lesser all i) e.1) ≡ see e.1)
        → map see (map (λ e. e.item) (map (moved all g items) es)) ≡ map see (map (λ e. e.item) es)
    map-seen all g items [] distinct same = refl
    map-seen all g items (e ∷ es) distinct same =
        let here : see (slice_index_or items (lesser all e.index) e.item) ≡ see e.item = same e.index (e.generation, e.item) (rw (same_index e.index) refl) in
        let behind : (i : ℕ) (f : ℕ × T) → entry_at es i ≡ Some f → entry_at (e ∷ es) i ≡ Some f =
        λ i f is. grind (arith, common_steps, entry-occurs es i, distinct i) in
        rw (here, map-seen all g items es (λ i. omega (arith, distinct i)) (λ i f is. same i f (behind i f is))) refl

    module _ {P F : Type 0} (numbers : P → ℕ × ℕ) (step : F → P → T → P → T → F → Type 0) (g most : ℕ) (greatest : Option ℕ)
        (leaves : (f : F) (p : P) (x : T) (q : P) (y : T) (h : F) → step f p x q y h → see y ≡ see x) (f : F) (old new : Chain T) where
      pub compression-keeps : IsSound most greatest old → IsCompression numbers step g f old new
          → map see (map (λ e. e.item) new.entries) ≡ map see (map (λ e. e.item) old.entries)
      compression-keeps sound c =
          let items = calls-keep numbers step g see leaves c.last c.items (entries_rising old) f [] c.calls in
          let place = λ (i : ℕ). lesser old.entries i in
          let same = λ (i : ℕ) (e : ℕ × T) (is : entry_at old.entries i ≡ Some e). seen-at c.items (place i) e.1
          (sym (slice_get-map see c.items (place i)) ∙ ap (λ ks. slice_get ks (place i)) items
          ∙ (slice_get-map (λ (e : ℕ × ℕ × T). see e.2) (entries_rising old) (place i) ∙ ap (option_map (λ (e : ℕ × ℕ × T). see e.2)) (rising-entry most greatest old sound i e is))) in
          ap (λ (d : Chain T). map see (map (λ (e : Entry T). e.item) d.entries)) c.after ∙ map-seen old.entries g c.items old.entries sound.distinct same

  -- the generations of the entries
  abbrev pub eras : List (Entry T) → List ℕ
  eras es = map (λ e. e.generation) es

  era-at : (es : List (Entry T)) (n g i : ℕ) (x : ℕ × T) → eras es ≡ replicate n g → entry_at es i ≡ Some x → x.0 ≡ g
  era-at (e ∷ es) (suc n) g i x all is = grind (arith, common_steps, era-at es n g i x)
  era-at es n g i x all is = grind (arith, common_steps)

  relocated-eras : (fs : List (Entry T)) (es : List (Entry T)) (g : ℕ) → eras (map (at_compressed_index es g) fs) ≡ replicate (length fs) g
  relocated-eras [] es g = refl
  relocated-eras (f ∷ fs) es g = ap (λ rest. g ∷ rest) (relocated-eras fs es g)

  pub relocated-items : (fs : List (Entry T)) (es : List (Entry T)) (g : ℕ) → map (λ e. e.item) (map (at_compressed_index es g) fs) ≡ map (λ e. e.item) fs
  relocated-items fs es g = map-kept (λ (e : Entry T). e.item) (at_compressed_index es g) (λ e. refl) fs

  exchanged-times : (es : List (Entry T)) → IsDistinct es → (i j : ℕ) → 1 ≤ times i es → 1 ≤ times j es → (k : ℕ) → times k (map (in_exchange i j) es) ≡ times k es
  exchanged-times es distinct i j at_i at_j k = ap (λ m. times m (map (in_exchange i j) es)) (sym (other-twice i j k))
      ∙ times-renumbered (exchanged_index i j) (λ x p. p) es (exchanged_index i j k) (λ y occurs same. other-injective i j y (exchanged_index i j k) same)
      ∙ grind (arith, nat_tests, distinct i, distinct j)

  numbered-apart : (g from : ℕ) (xs : List T) (i j : ℕ) → ((m : ℕ) → from ≤ m → m < from + length xs → (m ≢ i) × (m ≢ j)) → map (in_exchange i j) (numbered g from xs) ≡ numbered g from xs
  numbered-apart g from [] i j apart = refl
  numbered-apart g from (x ∷ xs) i j apart =
      let first = apart from (omega arith) (omega arith) in
      rw (other_index from i first.0, other_index from j first.1, numbered-apart g (from + 1) xs i j (λ m above below. apart m (omega arith) (omega arith))) refl

  -- a list with a first entry
  pub record Begun (es : List (Entry T)) : Type 0 where
    pub entry : Entry T
    pub behind : List (Entry T)
    pub here : es ≡ entry ∷ behind

  begun : (es : List (Entry T)) → 0 < length es → Begun es
  begun [] some = absurd (omega arith)
  begun (e ∷ es) some = record { entry = e; behind = es; here = refl }

  -- the first k entries have the indexes of their places
  pub record CanonicalBelow (c : Chain T) (g n : ℕ) (items : List T) (now : Chain T) (at : Option ℕ) (k : ℕ) : Type 0 where
    pub done : List T
    pub rest : List (Entry T)
    pub so_far : length done ≡ k
    pub split : now.entries ≡ numbered g 1 done ++ rest
    pub left : items ≡ done ++ map (λ e. e.item) rest
    pub number : length items ≡ n
    pub indexes : (i : ℕ) → times i now.entries ≡ times i (numbered g 1 items)
    pub even : eras now.entries ≡ replicate n g
    pub at_is : at ≡ first_or None rest
    pub kept : now ≡ record c { entries = now.entries }
    pub era : c.generation ≡ g

  module _ (most : ℕ) (greatest : Option ℕ) (c c1 : Chain T) (g : ℕ) (at : Option ℕ) (sound : IsSound most greatest c)
      (is : c1 ≡ relocated c g) (first : at ≡ first_or None c1.entries) where
    pub canonical-begins : CanonicalBelow (relocated c g) g (length c.entries) (map (λ e. e.item) c.entries) c1 at 0
    canonical-begins = grind (arith, common_steps, relocated-items, length-map, relocated-indexes, relocated-eras)

  module _ {c : Chain T} {g n : ℕ} {items : List T} {now : Chain T} {at : Option ℕ} {k : ℕ} (b : CanonicalBelow c g n items now at k) where
    distinct : IsDistinct now.entries
    distinct i = let same = b.indexes i in let is = times-numbered g 1 items i in grind (arith, nat_tests)

    lengths : length b.done + length b.rest ≡ n
    lengths = sym (ap length b.left ∙ length-append b.done _ ∙ ap (λ m. length b.done + m) (length-map b.rest (λ e. e.item))) ∙ b.number

    pub canonical-even : (i : ℕ) → ForSome (entry_at now.entries i) (λ e. e.0 ≡ now.generation)
    canonical-even i = λ x is. era-at now.entries n g i x b.even is ∙ sym (ap (λ (d : Chain T). d.generation) b.kept ∙ b.era)

    module _ (more : k < n) where
      -- the next entry
      pub met : Begun b.rest
      met = begun b.rest (omega (arith, lengths, b.so_far))

      whole : now.entries ≡ numbered g 1 b.done ++ met.entry ∷ met.behind
      whole = b.split ∙ ap (λ fs. numbered g 1 b.done ++ fs) met.here

      counted : times met.entry.index now.entries ≡ times met.entry.index (numbered g 1 b.done) + (1 + times met.entry.index met.behind)
      counted = grind (arith, common_steps, met, whole, times-append, times-here)

      pub met-at : at ≡ Some met.entry.index
      met-at = b.at_is ∙ ap (first_or None) met.here

      pub met-occurs : 1 ≤ times met.entry.index now.entries
      met-occurs = omega (arith, counted)

      pub next-occurs : 1 ≤ times (k + 1) now.entries
      next-occurs = let same = b.indexes (k + 1) in let is = times-numbered g 1 items (k + 1) in let long = b.number in grind (arith, nat_tests)

      unmet : times met.entry.index (numbered g 1 b.done) ≡ 0
      unmet = omega (arith, counted, distinct met.entry.index)

      entry-even : met.entry.generation ≡ g
      entry-even =
          grind (
            arith,
            common_steps,
            era-at now.entries n g met.entry.index (met.entry.generation, met.entry.item) b.even,
            entry_at-link None None now.entries met.entry.index,
            link_at-split now.entries (numbered g 1 b.done) met.entry met.behind whole distinct met.entry.index refl,
          )

      apart : (m : ℕ) → 1 ≤ m → m < 1 + length b.done → (m ≢ met.entry.index) × (m ≢ k + 1)
      apart m above below = grind (arith, common_steps, times-numbered, met, unmet)

      pub canonical-step : (next : Chain T) (after : Option ℕ) → next ≡ exchanged now met.entry.index (k + 1) → after ≡ index_after next.entries (k + 1) → CanonicalBelow c g n items next after (k + 1)
      canonical-step next after is goes =
          let i = met.entry.index in
          let j = k + 1 in
          let spot : 1 + length b.done ≡ j = omega (arith, b.so_far) in
          let new : Entry T = record { index = 1 + length b.done; generation = g; item = met.entry.item } in
          let entries : next.entries ≡ map (in_exchange i j) now.entries = ap (λ (d : Chain T). d.entries) is in
          let tail : List (Entry T) = map (in_exchange i j) met.behind in
          let moved_entry : in_exchange i j met.entry ≡ new = rw (same_index i, spot, entry-even) refl in
          let there : next.entries ≡ numbered g 1 b.done ++ new ∷ tail =
          entries ∙ ap (map (in_exchange i j)) whole ∙ map-append (in_exchange i j) (numbered g 1 b.done) (met.entry ∷ met.behind) ∙ rw (numbered-apart g 1 b.done i j apart, moved_entry) refl in
          let indexes : (m : ℕ) → times m next.entries ≡ times m (numbered g 1 items) = λ m. rw entries (exchanged-times now.entries distinct i j met-occurs next-occurs m ∙ b.indexes m) in
          let once : IsDistinct next.entries = λ m. omega (arith, indexes m, b.indexes m, distinct m) in
          record {
            done = b.done ++ met.entry.item ∷ [];
            rest = tail;
            so_far = length-append b.done (met.entry.item ∷ []) ∙ omega (arith, b.so_far);
            split = there ∙ (sym (append_assoc (numbered g 1 b.done) (new ∷ []) tail) ∙ ap (λ fs. fs ++ tail) (sym (numbered-push g 1 b.done met.entry.item)));
            left = b.left ∙ (ap (λ fs. b.done ++ map (λ e. e.item) fs) met.here
                ∙ (ap (λ xs. b.done ++ met.entry.item ∷ xs) (sym (map-kept (λ (e : Entry T). e.item) (in_exchange i j) (λ e. refl) met.behind))
                ∙ sym (append_assoc b.done (met.entry.item ∷ []) (map (λ e. e.item) tail))));
            number = b.number;
            indexes = indexes;
            even = ap eras entries ∙ map-kept (λ (e : Entry T). e.generation) (in_exchange i j) (λ e. refl) now.entries ∙ b.even;
            at_is = goes ∙ ap (option_and_then (λ e. e.1.next)) (link_at-split next.entries (numbered g 1 b.done) new tail there once j spot);
            kept = is ∙ (ap (λ (d : Chain T). exchanged d i j) b.kept ∙ ap (λ fs. record c { entries = fs }) (sym entries));
            era = b.era;
          }

  pub vacant-same : {U : Type 0} (xs : List (Entry T)) (ys : List (Entry U)) (n from : ℕ) → ((m : ℕ) → from ≤ m → times m xs ≡ times m ys) → vacant_among xs from n ≡ vacant_among ys from n
  vacant-same xs ys zero from same = refl
  vacant-same xs ys (suc n) from same = rw (same from (omega arith), vacant-same xs ys n (from + 1) (λ m far. same m (omega (arith, far)))) refl

  -- in the end all entries have the indexes of their places
  module _ (most : ℕ) (greatest : Option ℕ) (c : Chain T) (g : ℕ) (now : Chain T) (at : Option ℕ) (k : ℕ) (sound : IsSound most greatest c)
      (past : length c.entries ≤ k) where
    pub canonical-ends : CanonicalBelow (relocated c g) g (length c.entries) (map (λ e. e.item) c.entries) now at k → now ≡ canonical c g
    canonical-ends b = grind (arith, common_steps, lengths, append-nil, vacant-same, relocated-indexes, length-map)

-- an index is some if its number is
pub chosen : {I : Type 0} (number : I → ℕ) (o : Option I) (k : ℕ) → option_map number o ≡ Some k → is_some o ≡ true
chosen number o k is = grind (arith, common_steps)

pub chosen-is : {I : Type 0} (number : I → ℕ) (o : Option I) (k : ℕ) (i : I) → option_map number o ≡ Some k → o ≡ Some i → number i ≡ k
chosen-is number o k i is there = same_Some (number i) k (sym (ap (option_map number) there) ∙ is)
