-- A list cut at one of its elements: its ends, the entry that an index occurring once finds, and the gap where a search by a key that
-- ended there puts a new entry.
use Rattle.std.proofs.Math.Path.{fun_ext}
use Rattle.triple_ord.proofs.Words.{◌≡◌, ℕ, List, [], ◌∷◌, ◌++◌, Option, Some, None, IsSome, length, refl, ap, arith, inl, inr, eqb_tells, position_of, ◌≢◌, true, ◌≤◌, sym, ◌∙◌, ◌⊎◌, append_assoc, Side, Lesser, OnGreater, is_eq, Ordering, Equal}
use Rattle.triple_ord.proofs.Words.{common_steps, option_map, Link, Entry, times, IsDistinct, entry_at, link_between, link_at, from_index, Gap, order_to, IsFirstEqual, StopsAt, IsBeside, FindsKey, FindsSimilar, where_equal, Chain}
use Rattle.triple_ord.specs.Prepared.{order_on}
use Rattle.triple_ord.proofs.Words.{insert_after, insert_before, with_item_among, times-append, entry_at-between, first_of, last_of, IsInsertion, put_on, before, after, with_between}

module _ {X : Type 0} where
  pub last_of-append : (other : Option X) (xs : List X) (x : X) (ys : List X) → last_of other (xs ++ x ∷ ys) ≡ last_of (Some x) ys
  last_of-append other [] x ys = refl
  last_of-append other (y ∷ xs) x ys = last_of-append (Some y) xs x ys

  -- the beginning and the end of a list
  pub begins : (xs : List X) (x : X) → first_of xs ≡ Some x → (ys : List X) × (xs ≡ x ∷ ys)
  begins [] x is = absurd (cc)
  begins (y ∷ ys) x is = (ys, cc)

  ends_with : (other : Option X) (y : X) (ys : List X) (x : X) → last_of other (y ∷ ys) ≡ Some x → (front : List X) × (y ∷ ys ≡ front ++ x ∷ [])
  ends_with other y [] x is = ([], cc)
  ends_with other y (z ∷ zs) x is = let rest = ends_with (Some y) z zs x is in (y ∷ rest.0, ap (λ xs. y ∷ xs) rest.1)

  pub ends : (xs : List X) (x : X) → last_of None xs ≡ Some x → (front : List X) × (xs ≡ front ++ x ∷ [])
  ends [] x is = absurd (cc)
  ends (y ∷ ys) x is = ends_with None y ys x is

  -- a list with an element has a first and a last one
  pub some_last : (x : X) (xs : List X) → (y : X) × (last_of (Some x) xs ≡ Some y)
  some_last x [] = (x, refl)
  some_last x (y ∷ ys) = some_last y ys

  pub no_first : (xs : List X) → first_of xs ≡ None → xs ≡ []
  no_first xs none = grind (arith, common_steps)

  pub no_last : (xs : List X) → last_of None xs ≡ None → xs ≡ []
  no_last [] none = refl
  no_last (x ∷ xs) none = absurd (let last = (some_last x xs).1 in cc)

module _ {T : Type 0} where
  -- an existing entry is at its position
  pub record StandsAt (es : List (Entry T)) (i : ℕ) : Type 0 where
    pub front : List (Entry T)
    pub entry : Entry T
    pub back : List (Entry T)
    pub cut : es ≡ front ++ entry ∷ back
    pub here : entry.index ≡ i
    pub first : times i front ≡ 0
    pub place : length front ≡ position_of es i

  pub stands : (es : List (Entry T)) (i : ℕ) → IsSome (entry_at es i) → StandsAt es i
  stands [] i some = absurd (cc)
  stands (e ∷ es) i some = elim (eqb_tells e.index i) [
    | inl h ↦ record { front = []; entry = e; back = es; cut = refl; here = h.1; first = refl; place = rw h.0 refl }
    | inr h ↦
        let rest = stands es i (rw h.0 at some) in
        record {
          front = e ∷ rest.front;
          entry = rest.entry;
          back = rest.back;
          cut = ap (λ xs. e ∷ xs) rest.cut;
          here = rest.here;
          first = rw h.0 (omega (arith, rest.first));
          place = rw h.0 (omega (arith, rest.place));
        }
  ]

  pub put_before : (new : Entry T) (front : List (Entry T)) (e : Entry T) (back : List (Entry T)) → times e.index front ≡ 0
      → insert_before e.index new (front ++ e ∷ back) ≡ front ++ new ∷ e ∷ back
  put_before new [] e back none = grind (arith, common_steps)
  put_before new (f ∷ front) e back none = grind (arith, common_steps, put_before new front e back)

  pub put_after : (new : Entry T) (front : List (Entry T)) (e : Entry T) (back : List (Entry T)) → times e.index front ≡ 0
      → insert_after e.index new (front ++ e ∷ back) ≡ front ++ e ∷ new ∷ back
  put_after new [] e back none = grind (arith, common_steps)
  put_after new (f ∷ front) e back none = grind (arith, common_steps, put_after new front e back)

  put_instead : (x : T) (front : List (Entry T)) (e : Entry T) (back : List (Entry T)) → times e.index front ≡ 0
      → with_item_among (front ++ e ∷ back) e.index x ≡ front ++ record e { item = x } ∷ back
  put_instead item [] e back none = grind (arith, common_steps)
  put_instead item (f ∷ front) e back none = grind (arith, common_steps, put_instead item front e back)

  from_here : (front : List (Entry T)) (e : Entry T) (back : List (Entry T)) → times e.index front ≡ 0 → from_index (front ++ e ∷ back) e.index ≡ e ∷ back
  from_here [] e back none = grind (arith, common_steps)
  from_here (f ∷ front) e back none = grind (arith, common_steps, from_here front e back)

  abbrev entry_link : Option (Entry T) → Entry T → Option (Entry T) → ℕ × Link T
  entry_link low e high = (e.generation, record { item = e.item; prev = option_map (λ e. e.index) low; next = option_map (λ e. e.index) high })

  -- the link of an entry has the indexes of its neighbours
  module _ (e : Entry T) (back : List (Entry T)) where
    abbrev IsLinkedBehind : Option (Entry T) → List (Entry T) → Type 0
    IsLinkedBehind o front = link_between (option_map (λ x. x.index) o) None (front ++ e ∷ back) e.index ≡ Some (entry_link (last_of o front) e (first_of back))

    link_here : (o : Option (Entry T)) (front : List (Entry T)) → times e.index front ≡ 0 → IsLinkedBehind o front
    link_here o [] none = grind (arith, common_steps)
    link_here o (f ∷ front) none = grind (arith, common_steps, link_here (Some f) front)

  -- this generation and this link belong to the entry
  pub record IsLinked (front : List (Entry T)) (e : Entry T) (back : List (Entry T)) (g : ℕ) (l : Link T) : Type 0 where
    pub generation : e.generation ≡ g
    pub item : e.item ≡ l.item
    pub prev : option_map (λ e. e.index) (last_of None front) ≡ l.prev
    pub next : option_map (λ e. e.index) (first_of back) ≡ l.next

  -- an entry of a list in which each index occurs once
  module _ (es : List (Entry T)) (distinct : IsDistinct es) (front : List (Entry T)) (e : Entry T) (back : List (Entry T)) (cut : es ≡ front ++ e ∷ back) where
    pub nowhere_else : times e.index (front ++ back) ≡ 0
    nowhere_else = grind (arith, common_steps, rw cut at (distinct e.index), times-append e.index front (e ∷ back), times-append e.index front back)

    pub not_before : times e.index front ≡ 0
    not_before = omega (arith, nowhere_else, times-append e.index front back)

    pub entry_at-here : entry_at es e.index ≡ Some (e.generation, e.item)
    entry_at-here = rw cut (entry_at-between front e back nowhere_else)

    pub insert_before-here : (new : Entry T) → insert_before e.index new es ≡ front ++ new ∷ e ∷ back
    insert_before-here new = rw cut (put_before new front e back not_before)

    pub insert_after-here : (new : Entry T) → insert_after e.index new es ≡ front ++ e ∷ new ∷ back
    insert_after-here new = rw cut (put_after new front e back not_before)

    pub with_item-here : (item : T) → with_item_among es e.index item ≡ front ++ record e { item = item } ∷ back
    with_item-here item = rw cut (put_instead item front e back not_before)

    pub from_index-here : from_index es e.index ≡ e ∷ back
    from_index-here = rw cut (from_here front e back not_before)

    pub link-read : (g : ℕ) (l : Link T) → link_at es e.index ≡ Some (g, l) → IsLinked front e back g l
    link-read g l is =
        let here = link_here e back None front not_before in
        let found = rw cut at is in
        let read : entry_link (last_of None front) e (first_of back) ≡ (g, l) = cc in
        record { generation = ap (λ x. x.0) read; item = ap (λ x. x.1.item) read; prev = ap (λ x. x.1.prev) read; next = ap (λ x. x.1.next) read }

pub equal_by : (o : Ordering) → is_eq o ≡ true → o ≡ Equal
equal_by o test = grind (arith, common_steps)

-- a search for a similar key shows whether there is an equal one
module _ {T K : Type 0} (key : T → K) (cmp : K → K → Ordering) (es : List (Entry T)) (k : K) (c : ℕ) where
  beside-other : (e : Entry T) → IsBeside key cmp es k c e → order_to key cmp k e ≢ Equal
  beside-other e b equal = grind (arith, common_steps, b.1.fits.lesser_before, b.1.fits.greater_after, b.2)

  -- an entry that compares equal is the first of its group
  pub first-of_equal : (e : Entry T) → (IsFirstEqual key cmp es k e × (1 ≤ c)) ⊎ IsBeside key cmp es k c e → order_to key cmp k e ≡ Equal → IsFirstEqual key cmp es k e × (1 ≤ c)
  first-of_equal e found equal = elim found [ inl first ↦ first | inr beside ↦ absurd (beside-other e beside equal) ]

  -- an entry that doesn't compare equal is beside a gap that fits
  pub stop-of_other : (e : Entry T) → (IsFirstEqual key cmp es k e × (1 ≤ c)) ⊎ IsBeside key cmp es k c e → order_to key cmp k e ≢ Equal → IsBeside key cmp es k c e
  stop-of_other e found other = elim found [ inl first ↦ absurd (other first.0.equal) | inr beside ↦ beside ]

  -- in an empty list there is one gap, and it fits
  pub stop-of_empty : es ≡ [] → (gap : Gap es) × StopsAt key cmp gap k c
  stop-of_empty empty =
      let gap : Gap es = record { front = []; back = []; cut = empty } in
      (gap, record { fits = record { lesser_before = tt; greater_after = tt }; seen = omega arith })

  -- the search found an equal entry, or stopped at a gap that fits
  module _ {P : Type 0} (numbers : P → ℕ × ℕ) where
    pub finds_key-similar : (found : Option (P × Ordering)) → FindsSimilar key cmp es k (option_map (λ a. (numbers a.0, a.1)) found) c
        → FindsKey key cmp es k (option_map numbers (where_equal found)) c
    finds_key-similar None empty = stop-of_empty empty
    finds_key-similar (Some (p, Equal)) found =
        let first = first-of_equal found.0 found.2 (sym (ap (λ a. a.1) found.1)) in
        (found.0, ap (λ a. a.0) found.1, first.0, first.1)
    finds_key-similar (Some (p, o)) found =
        let beside = stop-of_other found.0 found.2 (λ same. let is : o ≡ Equal = ap (λ a. a.1) found.1 ∙ same in cc) in
        (beside.0, beside.1)

-- the entries after and before a gap are found by their indexes, and a new entry beside them goes into the gap
module _ {T : Type 0} (es : List (Entry T)) (e : Entry T) (distinct : IsDistinct es) (gap : Gap es) where
  cut-after : (back : List (Entry T)) → gap.back ≡ e ∷ back → es ≡ gap.front ++ e ∷ back
  cut-after back is = rw (← is) gap.cut

  pub entry_at-after : after gap ≡ Some e → entry_at es e.index ≡ Some (e.generation, e.item)
  entry_at-after here = let back = begins gap.back e here in entry_at-here es distinct gap.front e back.0 (cut-after back.0 back.1)

  pub puts-before : after gap ≡ Some e → (new : Entry T) → insert_before e.index new es ≡ with_between gap new
  puts-before here new = let back = begins gap.back e here in insert_before-here es distinct gap.front e back.0 (cut-after back.0 back.1) new ∙ ap (λ ys. gap.front ++ new ∷ ys) (sym back.1)

  cut-before : (front : List (Entry T)) → gap.front ≡ front ++ e ∷ [] → es ≡ front ++ e ∷ gap.back
  cut-before front is = gap.cut ∙ rw is (simp append_assoc)

  pub entry_at-before : before gap ≡ Some e → entry_at es e.index ≡ Some (e.generation, e.item)
  entry_at-before here = let front = ends gap.front e here in entry_at-here es distinct front.0 e gap.back (cut-before front.0 front.1)

  puts-behind : (front : List (Entry T)) → gap.front ≡ front ++ e ∷ [] → (new : Entry T) → insert_after e.index new es ≡ with_between gap new
  puts-behind front is new = insert_after-here es distinct front e gap.back (cut-before front is) new ∙ rw is (simp append_assoc)

  pub puts-after : before gap ≡ Some e → (new : Entry T) → insert_after e.index new es ≡ with_between gap new
  puts-after here = let front = ends gap.front e here in puts-behind front.0 front.1

-- an insertion by another description of the same place
module _ {T : Type 0} (c d : Chain T) (place other : Entry T → List (Entry T)) (item : T) (i g : ℕ)
    (same : (new : Entry T) → place new ≡ other new) where
  pub IsInsertion-same : IsInsertion c d place item i g → IsInsertion c d other item i g
  IsInsertion-same ins = rw (fun_ext same) at ins

order_on-unequal : (side : Side) → order_on side ≢ Equal
order_on-unequal side same = grind (arith, common_steps)

-- the place that a search found for a new entry is a gap that fits
module _ {T K : Type 0} (key : T → K) (cmp : K → K → Ordering) (es : List (Entry T)) (k : K) where
  pub record HasPlace (c : ℕ) (put : Entry T → List (Entry T)) : Type 0 where
    pub gap : Gap es
    pub stops : StopsAt key cmp gap k c
    pub puts : (new : Entry T) → put new ≡ with_between gap new

  pub place-alone : es ≡ [] → (c : ℕ) → HasPlace c (λ new. new ∷ es)
  place-alone empty c =
      let gap : Gap es = record { front = []; back = []; cut = empty } in
      record { gap = gap; stops = record { fits = record { lesser_before = tt; greater_after = tt }; seen = omega arith }; puts = λ new. ap (λ xs. new ∷ xs) empty }

  module _ (distinct : IsDistinct es) (p : ℕ × ℕ) (o : Ordering) (c : ℕ) (found : FindsSimilar key cmp es k (Some (p, o)) c) where
    named : found.0.index ≡ p.0
    named = sym (ap (λ a. a.0.0) found.1)

    ordered : order_to key cmp k found.0 ≡ o
    ordered = sym (ap (λ a. a.1) found.1)

    pub similar-seen : 1 ≤ c
    similar-seen = grind (arith, common_steps, found.2)

    pub similar-here : entry_at es found.0.index ≡ Some (found.0.generation, found.0.item)
    similar-here = grind (arith, common_steps, found.2, entry_at-after es found.0 distinct, entry_at-before es found.0 distinct)

    pub similar-occupied : IsSome (entry_at es p.0)
    similar-occupied = rw (← named, similar-here) refl

    beside_placed : (b : IsBeside key cmp es k c found.0) (side : Side) → order_to key cmp k found.0 ≡ order_on side → HasPlace c (put_on side found.0.index es)
    beside_placed b Lesser is = elim b.2 [
      | inl low ↦ absurd (let more = rw low at b.1.fits.lesser_before in cc)
      | inr high ↦ record { gap = b.0; stops = b.1; puts = puts-before es found.0 distinct b.0 high }
    ]
    beside_placed b OnGreater is = elim b.2 [
      | inl low ↦ record { gap = b.0; stops = b.1; puts = puts-after es found.0 distinct b.0 low }
      | inr high ↦ absurd (let less = rw high at b.1.fits.greater_after in cc)
    ]

    -- a new entry beside it is in a gap that fits
    pub similar-placed : (side : Side) → o ≡ order_on side → HasPlace c (put_on side p.0 es)
    similar-placed side on =
        let beside = stop-of_other key cmp es k c found.0 found.2 (λ same. order_on-unequal side (sym on ∙ sym ordered ∙ same)) in
        rw (← named) (beside_placed beside side (ordered ∙ on))

    pub similar-first : o ≡ Equal → IsFirstEqual key cmp es k found.0
    similar-first equal = (first-of_equal key cmp es k c found.0 found.2 (ordered ∙ equal)).0
