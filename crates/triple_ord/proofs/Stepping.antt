-- Walking along a list, forward and back; steps from a hint, and a search that first makes them, with the number of entries visited.
use Rattle.std.proofs.Math.Nat.{pow-le-pow_left}
use Rattle.triple_ord.proofs.Words.{◌≡◌, ◌≢◌, ℕ, true, false, not, ◌==◌, ◌+◌, ◌≤◌, List, [], ◌∷◌, ◌++◌, Option, Some, None, IsSome, IfSome, length, refl, sym, ap, ◌∙◌, arith, inl, inr, ◌⊎◌, append_assoc, length-append, option_map}
use Rattle.triple_ord.proofs.Words.{IsTotalOrder, entry_at, link_at, Gap, first_of, last_of, present, order_to, pointer, Fits, FindsSimilar, IsInOrder, is_eq, ordering_index, ordering_reverse, Ordering, Less, Equal, Greater, Link, Entry}
use Rattle.triple_ord.proofs.Words.{IsDistinct, common_steps, Shape, IsFirstEqual, IsBeside, IsWithinBounds, IsWithinHintedBounds, IsNearHint, Settles, position_of, way_length, neighbour_towards, CameFrom, IsStepping, ◌-◌, ◌^◌, IfNone}
use Rattle.triple_ord.proofs.Words.{is_some, IsNear, times, entry_at-link, occurs-entry, Bool, map, reverse, reverse-append, eqb_tells, option_and_then, times-append, Tree, item_of}
use Rattle.triple_ord.proofs.Inserting.{last_of-append, begins, ends, some_last, stands, IsLinked, link-read, entry_at-here, from_index-here, no_last}
use Rattle.triple_ord.proofs.OrderLaws.{stands-before, stands-behind}
use Rattle.triple_ord.specs.{OrderedWalk.ordered_rest, OrderedWalk.GivesEntry, Walk.entries_left, Walk.IsWalking}

first-reverse : {X : Type 0} (xs : List X) (o : Option X) → last_of None xs ≡ o → first_of (reverse xs) ≡ o
first-reverse xs None is = ap (λ ys. first_of (reverse ys)) (no_last xs is)
first-reverse xs (Some x) is = let front = ends xs x is in ap (λ ys. first_of (reverse ys)) front.1 ∙ ap first_of (reverse-append front.0 (x ∷ []))

module _ {T : Type 0} where
  -- the entries from an entry's neighbour on
  follows : (es front : List (Entry T)) (e : Entry T) (back : List (Entry T)) → IsDistinct es → es ≡ front ++ e ∷ back
      → entries_left es (option_map (λ e. e.index) (first_of back)) ≡ back
  follows es front e [] distinct cut = refl
  follows es front e (f ∷ back) distinct cut = from_index-here es distinct (front ++ e ∷ []) f back (cut ∙ simp append_assoc)

  module _ (es front : List (Entry T)) (e : Entry T) (back : List (Entry T)) (i g : ℕ) (item : T) (next : Option ℕ)
      (distinct : IsDistinct es) (cut : es ≡ front ++ e ∷ back) (index : e.index ≡ i) (era : e.generation ≡ g) (same : e.item ≡ item) where
    at_entry : option_map (λ e. e.index) (first_of back) ≡ next
        → entries_left es (Some i) ≡ record { index = i; generation = g; item = item } ∷ entries_left es next
    at_entry after = rw (← index, ← era, ← same, ← after, follows es front e back distinct cut) (from_index-here es distinct front e back cut)

  -- the entry shown at an index, and the entries from its neighbour on
  module _ (es : List (Entry T)) (i g : ℕ) (l : Link T) (distinct : IsDistinct es) where
    pub walk-step : Some (g, l) ≡ link_at es i
        → entries_left es (Some i) ≡ record { index = i; generation = g; item = l.item } ∷ entries_left es l.next
    walk-step found =
        let s = stands es i (rw (entry_at-link None None es i, ← found) refl) in
        let linked = link-read es distinct s.front s.entry s.back s.cut g l (ap (link_at es) s.here ∙ sym found) in
        at_entry es s.front s.entry s.back i g l.item l.next distinct s.cut s.here linked.generation linked.item linked.next

  -- a walk at an entry has it left, and goes on at its neighbour with one entry fewer
  pub walk-left : (es : List (Entry T)) (i g left : ℕ) (l : Link T) → IsWalking es (Some i) left → Some (g, l) ≡ link_at es i → 1 ≤ left
  walk-left es i g left l walking found = omega (arith, walking.counted, ap length (walk-step es i g l walking.distinct found))

  pub walk-goes : (es : List (Entry T)) (i g left : ℕ) (l : Link T) (next : Option ℕ) → IsWalking es (Some i) left
      → Some (g, l) ≡ link_at es i → next ≡ l.next → IsWalking es next (left - 1)
  walk-goes es i g left l next walking found goes =
      rw goes record { distinct = walking.distinct; counted = omega (arith, walking.counted, ap length (walk-step es i g l walking.distinct found)) }

  -- from an index without an entry nothing is left
  pub from-absent : (i : ℕ) (es : List (Entry T)) → times i es ≡ 0 → entries_left es (Some i) ≡ []
  from-absent i [] none = refl
  from-absent i (e ∷ es) none = grind (arith, common_steps, from-absent i es)

  pub link-absent : (es : List (Entry T)) (i : ℕ) → None ≡ link_at es i → times i es ≡ 0
  link-absent es i missing = grind (arith, common_steps, occurs-entry es i, entry_at-link None None es i)

  pub walk-end : (es : List (Entry T)) (i : ℕ) → None ≡ link_at es i → entries_left es (Some i) ≡ []
  walk-end es i missing = from-absent i es (link-absent es i missing)

  -- A list of entries in reverse: each entry's neighbours change places. So a walk back along a list is a walk along the reversed list.
  times-reverse : (i : ℕ) (es : List (Entry T)) → times i (reverse es) ≡ times i es
  times-reverse i [] = refl
  times-reverse i (e ∷ es) = ap (times i) (reverse-append (e ∷ []) es) ∙ omega (arith, times-reverse i es, times-append i (reverse es) (e ∷ []))

  module _ (a : Tree T) (i : ℕ) (distinct : IsDistinct a.list.entries) where
    distinct-reverse : IsDistinct (reverse a.list.entries)
    distinct-reverse j = omega (arith, times-reverse j a.list.entries, distinct j)

    -- a step of a walk, in either direction
    module _ (g : ℕ) (l : Link T) (found : ◌≡◌ {A = Option (ℕ × Link T)} (Some (g, l)) (link_at a.list.entries i)) where
      there : IsSome (item_of a (i, g))
      there = rw (entry_at-link None None a.list.entries i, ← found) (elim (eqb_tells g g) [ inl h ↦ rw h.0 refl | inr h ↦ absurd (h.1 refl) ])

      pub gives-rising : GivesEntry (record { at = Some i; falling = false }) (record { at = l.next; falling = false }) a i g
      gives-rising =
          record {
            stood = refl;
            there = there;
            first = ap (map pointer) (walk-step a.list.entries i g l distinct found);
            stands = ap (λ o. record { at = o; falling = false }) (ap (option_and_then (λ (e : ℕ × Link T). e.1.next)) found);
          }

      pub gives-falling : GivesEntry (record { at = Some i; falling = true }) (record { at = l.prev; falling = true }) a i g
      gives-falling =
          let s = stands a.list.entries i (rw (entry_at-link None None a.list.entries i, ← found) refl) in
          let linked = link-read a.list.entries distinct s.front s.entry s.back s.cut g l (ap (link_at a.list.entries) s.here ∙ sym found) in
          let cut : reverse a.list.entries ≡ reverse s.back ++ s.entry ∷ reverse s.front =
          ap reverse s.cut ∙ reverse-append s.front (s.entry ∷ s.back) ∙ ap (λ xs. xs ++ reverse s.front) (reverse-append (s.entry ∷ []) s.back) ∙ simp append_assoc in
          record {
            stood = refl;
            there = there;
            first = ap (map pointer) (at_entry (reverse a.list.entries) (reverse s.back) s.entry (reverse s.front) i g l.item l.prev distinct-reverse cut
                s.here linked.generation linked.item (ap (option_map (λ e. e.index)) (first-reverse s.front (last_of None s.front) refl) ∙ linked.prev));
            stands = ap (λ o. record { at = o; falling = true }) (ap (option_and_then (λ (e : ℕ × Link T). e.1.prev)) found);
          }

    pub rest-missing : (falling : Bool) → None ≡ link_at a.list.entries i → ordered_rest (record { at = Some i; falling = falling }) a ≡ []
    rest-missing false none = ap (map pointer) (walk-end a.list.entries i none)
    rest-missing true none = ap (map pointer) (from-absent i (reverse a.list.entries) (times-reverse i a.list.entries ∙ link-absent a.list.entries i none))

-- a gap has a neighbour on each side that has entries
after-count : {X : Type 0} (back : List X) → (present (first_of back) ≡ 1) ⊎ ((present (first_of back) ≡ 0) × (length back ≡ 0))
after-count back = grind (arith, common_steps)

before-count : {X : Type 0} (front : List X) → (present (last_of None front) ≡ 1) ⊎ ((present (last_of None front) ≡ 0) × (length front ≡ 0))
before-count [] = inr (refl, refl)
before-count (x ∷ front) = inl (ap present (some_last x front).1)

-- the entry whose index is read
pub read_index : {T : Type 0} (o : Option (Entry T)) (j : ℕ) → option_map (λ e. e.index) o ≡ Some j → (e : Entry T) × (o ≡ Some e) × (e.index ≡ j)
read_index None j is = absurd (cc)
read_index (Some e) j is = (e, refl, cc)

module _ {T K : Type 0} (key : T → K) (cmp : K → K → Ordering) (es : List (Entry T)) (k : K) (distinct : IsDistinct es) where
  pub stepping-begins : (i : ℕ) → IsSome (entry_at es i) → IsStepping key cmp es k (position_of es i) i 0 Equal
  stepping-begins i some =
      let s = stands es i some in
      let all = ap length s.cut ∙ length-append s.front (s.entry ∷ s.back) in
      record {
        front = s.front;
        entry = s.entry;
        back = s.back;
        cut = s.cut;
        here = s.here;
        from = (refl, s.place);
        within = omega (arith, all, s.place);
        few = omega (arith, all);
      }

  -- the order has turned, if there is an entry on this side
  abbrev pub HasTurned : Ordering → Ordering → Option ℕ → Type 0
  HasTurned came o beside = IfSome beside (λ j. o ≡ ordering_reverse came)

  module _ (start visits : ℕ) (front back : List (Entry T)) where
    abbrev pub CameHere : Ordering → Type 0
    CameHere came = CameFrom key cmp es k start visits front back came

    abbrev pub IsAnswered : Ordering → Option (Entry T) → Type 0
    IsAnswered o beside = IfSome beside (λ e. order_to key cmp k e ≡ o) × (present beside ≤ visits)

    -- as long as the order is the same, each step goes one position further
    place-less : (came : Ordering) → CameHere came → Less ≢ ordering_reverse came → length front + visits ≡ start
    place-less Greater from ahead = absurd (ahead refl)
    place-less came from ahead = omega arith

    place-greater : (came : Ordering) → CameHere came → Greater ≢ ordering_reverse came → length front ≡ start + visits
    place-greater Less from ahead = absurd (ahead refl)
    place-greater came from ahead = omega arith

    -- if the order turns, the steps came from the entry on the other side; otherwise there is none
    pub low-answered : (came : Ordering) → CameHere came → (o : Option (Entry T)) → last_of None front ≡ o
        → HasTurned came Less (option_map (λ e. e.index) o) → IsAnswered Greater o
    low-answered came from None is turned = (tt, omega arith)
    low-answered Greater from (Some f) is turned = let same : from.0 ≡ f = (let both = from.1 in cc) in (rw same at from.2, from.3)
    low-answered came from (Some f) is turned = absurd (cc)

    pub high-answered : (came : Ordering) → CameHere came → (o : Option (Entry T)) → first_of back ≡ o
        → HasTurned came Greater (option_map (λ e. e.index) o) → IsAnswered Less o
    high-answered came from None is turned = (tt, omega arith)
    high-answered Less from (Some f) is turned = let same : from.0 ≡ f = (let both = from.1 in cc) in (rw same at from.2, from.3)
    high-answered came from (Some f) is turned = absurd (cc)

  module _ (start i visits : ℕ) (came : Ordering) (s : IsStepping key cmp es k start i visits came) where
    pub stepping-occupied : IsSome (entry_at es i)
    stepping-occupied = rw (← s.here, entry_at-here es distinct s.front s.entry s.back s.cut) refl

    module _ (generation : ℕ) (l : Link T) (is : link_at es i ≡ Some (generation, l)) where
      pub linked : IsLinked s.front s.entry s.back generation l
      linked = link-read es distinct s.front s.entry s.back s.cut generation l (ap (link_at es) s.here ∙ is)

      pub stepping-order : (o : Ordering) → o ≡ cmp k (key l.item) → order_to key cmp k s.entry ≡ o
      stepping-order o order = ap (λ t. cmp k (key t)) linked.item ∙ sym order

      -- a step to a neighbour
      pub stepping-goes : (o : Ordering) → o ≡ cmp k (key l.item) → (j : ℕ) → neighbour_towards l o ≡ Some j → o ≢ ordering_reverse came
          → IsStepping key cmp es k start j (visits + 1) o
      stepping-goes Less order j next ahead =
          let n = read_index (last_of None s.front) j (linked.prev ∙ next) in
          let end = ends s.front n.0 n.1 in
          let place = place-less start visits s.front s.back came s.from ahead in
          let length-front = ap length end.1 ∙ length-append end.0 (n.0 ∷ []) in
          record {
            front = end.0;
            entry = n.0;
            back = s.entry ∷ s.back;
            cut = s.cut ∙ (ap (λ (xs : List (Entry T)). xs ++ s.entry ∷ s.back) end.1 ∙ simp append_assoc);
            here = n.2;
            from = (s.entry, refl, stepping-order Less order, omega arith, omega (arith, place, length-front));
            within = s.within;
            few = omega (arith, place, length-front, s.within);
          }
      stepping-goes Equal order j next ahead = absurd (cc)
      stepping-goes Greater order j next ahead =
          let n = read_index (first_of s.back) j (linked.next ∙ next) in
          let begin = begins s.back n.0 n.1 in
          let place = place-greater start visits s.front s.back came s.from ahead in
          record {
            front = s.front ++ s.entry ∷ [];
            entry = n.0;
            back = begin.0;
            cut = s.cut ∙ (ap (λ (xs : List (Entry T)). s.front ++ s.entry ∷ xs) begin.1 ∙ simp append_assoc);
            here = n.2;
            from = (s.entry, last_of-append None s.front s.entry [], stepping-order Greater order, omega arith, omega (arith, place, length-append s.front (s.entry ∷ [])));
            within = s.within;
            few = omega (arith, place, ap length s.cut, length-append s.front (s.entry ∷ s.back), ap length begin.1);
          }

      pub named : (pointer s.entry) ≡ (i, generation)
      named = let g = linked.generation in let h = s.here in cc

      -- the steps end with a result
      pub stepping-settles : (o : Ordering) → o ≡ cmp k (key l.item) → is_eq o ≡ false → HasTurned came o (neighbour_towards l o)
          → FindsSimilar key cmp es k (Some ((i, generation), o)) (visits + 1)
      stepping-settles Less order other turned =
          let low = low-answered start visits s.front s.back came s.from (last_of None s.front) refl (rw (← linked.prev) at turned) in
          let gap : Gap es = record { front = s.front; back = s.entry ∷ s.back; cut = s.cut } in
          (s.entry, rw (named, stepping-order Less order) refl, inr (gap, record { fits = record { lesser_before = low.0; greater_after = stepping-order Less order }; seen = omega (arith, low.1) }, inr refl))
      stepping-settles Equal order other turned = absurd (cc)
      stepping-settles Greater order other turned =
          let high = high-answered start visits s.front s.back came s.from (first_of s.back) refl (rw (← linked.next) at turned) in
          let last = last_of-append None s.front s.entry [] in
          let gap : Gap es = record { front = s.front ++ s.entry ∷ []; back = s.back; cut = s.cut ∙ simp append_assoc } in
          (s.entry, rw (named, stepping-order Greater order) refl, inr (gap, record { fits = record { lesser_before = rw last (stepping-order Greater order); greater_after = high.0 }; seen = rw last (omega (arith, high.1)) }, inl last))

    -- on a list in the order of its keys, with a gap that fits, no entry is equal
    module _ (real : K → K → Ordering) (total : IsTotalOrder real) (ordered : IsInOrder key real es) (gap : Gap es) (fits : Fits key real gap k) where
      pub stepping-unequal : order_to key real k s.entry ≢ Equal
      stepping-unequal equal =
          let low = stands-before key real total k es ordered gap fits s.front s.back s.entry s.cut (λ less. let both = equal in cc) in
          let high = stands-behind key real total k es ordered gap fits s.front s.back s.entry s.cut (λ greater. let both = equal in cc) in
          absurd (omega (arith, low, high))

      -- the steps go towards that gap and not beyond its far neighbour, if the order used agrees with the real one
      pub stepping-near : ((other : K) → cmp k other ≡ Less → real k other ≡ Less) → ((other : K) → cmp k other ≡ Greater → real k other ≢ Less)
          → visits + 1 ≤ way_length gap start
      stepping-near lesser greater = by_way came s.from
        where
          cut-gap : length es ≡ length gap.front + length gap.back
          cut-gap = ap length gap.cut ∙ length-append gap.front gap.back

          cut-here : length es ≡ length s.front + (1 + length s.back)
          cut-here = let n = ap length s.cut in omega (arith, n, length-append s.front (s.entry ∷ s.back))

          by_way : (came : Ordering) → CameFrom key cmp es k start visits s.front s.back came → visits + 1 ≤ way_length gap start
          by_way Less from =
              let begin = begins s.back from.0 from.1 in
              let cut : es ≡ (s.front ++ s.entry ∷ []) ++ from.0 ∷ begin.0 = s.cut ∙ (ap (λ (xs : List (Entry T)). s.front ++ s.entry ∷ xs) begin.1 ∙ simp append_assoc) in
              let behind = stands-behind key real total k es ordered gap fits (s.front ++ s.entry ∷ []) begin.0 from.0 cut (λ more. let less = lesser _ from.2 in cc) in
              grind (arith, common_steps, from.3, from.4, behind, length-append s.front (s.entry ∷ []), before-count gap.front)
          by_way Equal from = grind (arith, common_steps, from.0, from.1, after-count gap.back, before-count gap.front, cut-gap, cut-here)
          by_way Greater from =
              let end = ends s.front from.0 from.1 in
              let cut : es ≡ end.0 ++ from.0 ∷ (s.entry ∷ s.back) = s.cut ∙ (ap (λ (xs : List (Entry T)). xs ++ s.entry ∷ s.back) end.1 ∙ simp append_assoc) in
              let before = stands-before key real total k es ordered gap fits end.0 (s.entry ∷ s.back) from.0 cut (greater _ from.2) in
              let counted = ap length end.1 ∙ length-append end.0 (from.0 ∷ []) in
              grind (arith, common_steps, from.3, from.4, before, counted, after-count gap.back, cut-gap, cut-here)

-- orders distinguished by a test
pub apart : (o p : Ordering) → not (ordering_index o == ordering_index p) ≡ true → o ≢ p
apart o p test same = grind (arith, common_steps)

pub alike : (o p : Ordering) → not (ordering_index o == ordering_index p) ≡ false → o ≡ p
alike o p test = grind (arith, common_steps)

-- A search that first makes steps from a hint: its result, and how many entries it visits.
module _ {T K : Type 0} (key : T → K) (cmp : K → K → Ordering) (es : List (Entry T)) (k : K) where
  -- a search with more visits has seen no less
  pub FindsSimilar-more : (found : Option ((ℕ × ℕ) × Ordering)) (c d : ℕ) → c ≤ d → FindsSimilar key cmp es k found c → FindsSimilar key cmp es k found d
  FindsSimilar-more None c d more empty = empty
  FindsSimilar-more (Some a) c d more found = (found.0, found.1, seen found.2)
    where
      seen : (IsFirstEqual key cmp es k found.0 × (1 ≤ c)) ⊎ IsBeside key cmp es k c found.0 → (IsFirstEqual key cmp es k found.0 × (1 ≤ d)) ⊎ IsBeside key cmp es k d found.0
      seen (inl first) = inl (first.0, omega (arith, first.1, more))
      seen (inr beside) = let stop = beside.1 in inr (beside.0, record { fits = stop.fits; seen = omega (arith, stop.seen, more) }, beside.2)

  module _ {P : Type 0} (pointer_of : P → ℕ × ℕ) (visits : ℕ) where
    abbrev named_by : Option (P × Ordering) → Option ((ℕ × ℕ) × Ordering)
    named_by found = option_map (λ a. (pointer_of a.0, a.1)) found

    -- if the steps have a result, it is the search's
    pub settled-similar : (found : Option (P × Ordering)) → Settles key cmp es k (named_by found) visits → is_some found ≡ true
        → FindsSimilar key cmp es k (named_by found) visits
    settled-similar (Some a) settled some = settled
    settled-similar None settled some = absurd (cc)

  -- the steps leave it open only if the hint is too far away
  module _ {X : Type 0} (i num visits : ℕ) where
    pub settled-near : (found : Option X) → IsNear key cmp es k i num found visits → is_some found ≡ true → IsNearHint key cmp es k i num visits
    settled-near None near some = absurd (cc)
    settled-near (Some x) near some = λ ordered there gap fits few. near ordered gap fits

    pub open-near : (found : Option X) (c : ℕ) → IsNear key cmp es k i num found visits → is_some found ≡ false → IsNearHint key cmp es k i num c
    open-near None c near none = λ ordered there gap fits few. let far = near ordered gap fits in absurd (omega (arith, far, few))
    open-near (Some x) c near none = absurd (cc)

-- zero visits are within the bounds
pub unvisited : (n : ℕ) (shape : Shape) → IsWithinBounds n shape 0
unvisited n shape = record {
  ranked = λ some. let four : 2 ^ 2 ≤ (n + 1) ^ 2 = pow-le-pow_left {n = 2} {m = n + 1} (omega (arith, some)) 2 in omega (arith, four);
  tight = λ tight. omega arith;
  rebuilt = λ rebuilt digits has. omega arith;
  empty = λ none. refl;
}

pub hinted-whole : (n : ℕ) (shape : Shape) (num steps c : ℕ) → steps ≤ num → steps ≤ n → steps ≤ c → IsWithinBounds n shape (c - steps) → IsWithinHintedBounds n shape num c
hinted-whole n shape num steps c few within more bounded =
    record { steps = steps; search = c - steps; sum = omega (arith, more); few = few; within = within; bounded = bounded }

-- if the hint has an entry, nothing is claimed about a hint without one
pub named-unhinted : {X : Type 0} (P : Type 0) (o : Option X) → true ≡ is_some o → IfNone o P
named-unhinted P o there = grind (arith, common_steps)
