-- Where pointers and indexes lead in lists: an entry that a pointer names, and the last entry before a place.
use Rattle.std.proofs.Common.{◌≡◌, ◌≢◌, ℕ, ◌<◌, ◌≤◌, ◌+◌, slice_get, List, [], ◌∷◌, ◌++◌, length, Option, Some, None, IsSome, refl, sym, ap, subst, ◌∙◌, arith, inl, inr}
use Rattle.std.proofs.lemmas.{Grind.common_steps, Bool.Decides.eqb_tells}
use Rattle.std.specs.{Option.option_map}
use Rattle.chain_base.specs.Chain.{Entry, Chain, IsDistinct, times, entry_at, item_of, last_or, last_pointer, insert_after, insert_before}
use Rattle.chain_base.specs.Insert.{IsInsertion}
use Rattle.chain_base.proofs.CallerLemmas.{last_or-append, times-append, after-insertion, entry_at-absent, entry_at-between, entry_at-between_other, occurs-entry}
use Rattle.sorted_arena.specs.Gap.{last_of}
use Rattle.sorted_arena.specs.Sorted.{Listing, Updates}
use Rattle.order_book.specs.declared.ladder.Resting.{Resting}
use Rattle.order_book.proofs.Rows.{OrderEntry, Orders}

-- a pointer as its numbers
pub same-pointer : (o : Option (ℕ × ℕ)) → option_map (λ (p : ℕ × ℕ). p) o ≡ o
same-pointer None = refl
same-pointer (Some p) = refl

pub some-same : {X : Type 0} {x y : X} → Some x ≡ Some y → x ≡ y
some-same is = cc

pub some-mapped : {X Y : Type 0} (f : X → Y) (o : Option X) (y : Y) → option_map f o ≡ Some y → IsSome o
some-mapped f None y is = absurd (cc)
some-mapped f (Some x) y is = refl

pub same-index : (o : Option ℕ) → option_map (λ (i : ℕ). i) o ≡ o
same-index None = refl
same-index (Some i) = refl

-- if not all slots are taken, there is a next one
pub next-some : (vacant : List ℕ) (o : Option (ℕ × ℕ)) → 0 < length vacant → option_map (λ (p : ℕ × ℕ). p.0) o ≡ slice_get vacant 0 → IsSome o
next-some [] o more is = absurd (omega (arith, more))
next-some (i ∷ vacant) None more is = absurd (cc)
next-some (i ∷ vacant) (Some p) more is = refl

module _ {T : Type 0} where
  -- a list is cut at the entry that a pointer names
  pub record NamedCut (es : List (Entry T)) (p : ℕ × ℕ) (item : T) : Type 0 where
    pub front : List (Entry T)
    pub entry : Entry T
    pub back : List (Entry T)
    pub cut : es ≡ front ++ entry ∷ back
    pub pointer : p ≡ (entry.index, entry.generation)
    pub item_is : entry.item ≡ item

  pub named-cut : (es : List (Entry T)) (p : ℕ × ℕ) (item : T) → item_of es p ≡ Some item → NamedCut es p item
  named-cut [] p item found = absurd (cc)
  named-cut (e ∷ es) p item found = elim (eqb_tells e.index p.0) [
    | inl h ↦ elim (eqb_tells e.generation p.1) [
      | inl k ↦
          let here : item_of (e ∷ es) p ≡ Some e.item = rw (h.0, k.0) refl in
          record { front = []; entry = e; back = es; cut = refl; pointer = sym (ap (λ i. (i, e.generation)) h.1 ∙ ap (λ g. (p.0, g)) k.1); item_is = cc }
      | inr k ↦ absurd (let none : item_of (e ∷ es) p ≡ None = rw (h.0, k.0) refl in cc)
    ]
    | inr h ↦
        let rest = named-cut es p item (let same : item_of (e ∷ es) p ≡ item_of es p = rw h.0 refl in sym same ∙ found) in
        record { front = e ∷ rest.front; entry = rest.entry; back = rest.back; cut = ap (λ xs. e ∷ xs) rest.cut; pointer = rest.pointer; item_is = rest.item_is }
  ]

  -- the index of the last entry, also where others stand before it
  pub last_or-some : (o : Option ℕ) (es : List (Entry T)) (i : ℕ) → last_or None es ≡ Some i → last_or o es ≡ Some i
  last_or-some o [] i is = absurd (cc)
  last_or-some o (e ∷ es) i is = is

  pub last_or-behind : (front es : List (Entry T)) (i : ℕ) → last_or None es ≡ Some i → last_or None (front ++ es) ≡ Some i
  last_or-behind front es i is = last_or-append None front es ∙ last_or-some (last_or None front) es i is

  pub last_or-of : (o : Option (Entry T)) (es : List (Entry T)) → last_or (option_map (λ (e : Entry T). e.index) o) es ≡ option_map (λ (e : Entry T). e.index) (last_of o es)
  last_or-of o [] = refl
  last_or-of o (e ∷ es) = last_or-of (Some e) es

  pub last_or-more : (e : Entry T) (es : List (Entry T)) → (i : ℕ) × (last_or None (e ∷ es) ≡ Some i)
  last_or-more e [] = (e.index, refl)
  last_or-more e (f ∷ es) = last_or-more f es

  -- the last index is in the list
  times-last : (es : List (Entry T)) (i : ℕ) → last_or None es ≡ Some i → 1 ≤ times i es
  times-last [] i is = absurd (cc)
  times-last (e ∷ []) i is = let here : e.index ≡ i = cc in rw here (grind (arith, common_steps))
  times-last (e ∷ f ∷ es) i is = grind (arith, common_steps, times-last (f ∷ es) i is)

  -- the last of some entries behind one is not that one, if indexes are distinct
  pub last-apart : (x e : Entry T) (es : List (Entry T)) (i : ℕ) → IsDistinct (x ∷ e ∷ es) → last_or None (e ∷ es) ≡ Some i → x.index ≢ i
  last-apart x e es i distinct last same =
      let there : 1 ≤ times i (e ∷ es) = times-last (e ∷ es) i last in
      let once : times i (x ∷ e ∷ es) ≤ 1 = distinct i in
      let twice : times i (x ∷ e ∷ es) ≡ 1 + times i (e ∷ es) = rw same (grind (arith, common_steps)) in
      absurd (omega (arith, there, once, twice))

  pub distinct-back : (front back : List (Entry T)) → IsDistinct (front ++ back) → IsDistinct back
  distinct-back front back distinct i = omega (arith, distinct i, times-append i front back)

  pub distinct-front : (front back : List (Entry T)) → IsDistinct (front ++ back) → IsDistinct front
  distinct-front front back distinct i = omega (arith, distinct i, times-append i front back)

  -- the first and the last pointer
  pub last_pointer-end : (front : List (Entry T)) (e : Entry T) → last_pointer (front ++ e ∷ []) ≡ Some (e.index, e.generation)
  last_pointer-end [] e = refl
  last_pointer-end (x ∷ []) e = refl
  last_pointer-end (x ∷ y ∷ front) e = last_pointer-end (y ∷ front) e

  pub record EndCut (es : List (Entry T)) (p : ℕ × ℕ) : Type 0 where
    pub front : List (Entry T)
    pub entry : Entry T
    pub cut : es ≡ front ++ entry ∷ []
    pub pointer : p ≡ (entry.index, entry.generation)

  pub end-cut : (es : List (Entry T)) (p : ℕ × ℕ) → Some p ≡ last_pointer es → EndCut es p
  end-cut [] p is = absurd (cc)
  end-cut (e ∷ []) p is = record { front = []; entry = e; cut = refl; pointer = cc }
  end-cut (e ∷ f ∷ es) p is =
      let rest = end-cut (f ∷ es) p is in
      record { front = e ∷ rest.front; entry = rest.entry; cut = ap (λ xs. e ∷ xs) rest.cut; pointer = rest.pointer }

  -- a new entry directly behind the last one of a stretch, and in front of all
  pub put-behind : (new : Entry T) (front back : List (Entry T)) (i : ℕ) → last_or None front ≡ Some i → times i front ≤ 1 → insert_after i new (front ++ back) ≡ front ++ new ∷ back
  put-behind new [] back i last once = absurd (cc)
  put-behind new (e ∷ []) back i last once = elim (eqb_tells e.index i) [
    | inl h ↦ rw h.0 refl
    | inr h ↦ absurd (h.1 (let here : e.index ≡ i = cc in here))
  ]
  put-behind new (e ∷ f ∷ front) back i last once =
      let there : 1 ≤ times i (f ∷ front) = times-last (f ∷ front) i last in
      elim (eqb_tells e.index i) [
        | inl h ↦ absurd (let twice : times i (e ∷ f ∷ front) ≡ 1 + times i (f ∷ front) = rw h.0 refl in omega (arith, there, once, twice))
        | inr h ↦
            let less : times i (e ∷ f ∷ front) ≡ 0 + times i (f ∷ front) = rw h.0 refl in
            rw h.0 (ap (λ es. e ∷ es) (put-behind new (f ∷ front) back i last (omega (arith, once, less))))
      ]

  pub put-first : (new : Entry T) (e : Entry T) (es : List (Entry T)) → insert_before e.index new (e ∷ es) ≡ new ∷ e ∷ es
  put-first new e es = elim (eqb_tells e.index e.index) [
    | inl h ↦ rw h.0 refl
    | inr h ↦ absurd (h.1 refl)
  ]

  pub none-before : (front : List (Entry T)) → last_or None front ≡ None → front ≡ []
  none-before [] none = refl
  none-before (e ∷ front) none = absurd (let some = (last_or-more e front).1 in cc)

  -- the entry at the index of the last one of a stretch is there
  pub last-occupied : (front back : List (Entry T)) (i : ℕ) → last_or None front ≡ Some i → IsSome (entry_at (front ++ back) i)
  last-occupied front back i last = occurs-entry (front ++ back) i (omega (arith, times-last front i last, times-append i front back))

  pub no-end : (es : List (Entry T)) → None ≡ last_pointer es → es ≡ []
  no-end [] is = refl
  no-end (e ∷ []) is = absurd (cc)
  no-end (e ∷ f ∷ es) is = absurd (let rest = no-end (f ∷ es) is in cc)

-- a new entry between others: its pointer finds it, and every other pointer what it found
module _ {T : Type 0} (old new : Listing T) (p : ℕ × ℕ) (item : T) (front back : List (Entry T)) where
  abbrev between : Entry T
  between = record { index = p.0; generation = p.1; item = item }

  pub updates-between : old.entries ≡ front ++ back → new.entries ≡ front ++ record { index = p.0; generation = p.1; item = item } ∷ back → times p.0 old.entries ≡ 0
      → Updates old new p (Some item)
  updates-between before after unused = record { changed = rw after (here (subst (λ (es : List (Entry T)). times p.0 es ≡ 0) before unused)); others = others }
    where
      here : times p.0 (front ++ back) ≡ 0 → item_of (front ++ between ∷ back) p ≡ Some item
      here none = let found = entry_at-between front between back none in grind (arith, common_steps)

      others : (q : ℕ × ℕ) → q ≢ p → item_of new.entries q ≡ item_of old.entries q
      others q apart = elim (eqb_tells q.0 p.0) [
        | inl same ↦ elim (eqb_tells p.1 q.1) [
          | inl k ↦ absurd (apart (ap (λ i. (i, q.1)) same.1 ∙ ap (λ g. (p.0, g)) (sym k.1)))
          | inr k ↦
              let none : entry_at old.entries p.0 ≡ None = entry_at-absent old.entries p.0 unused in
              let found : entry_at new.entries p.0 ≡ Some (p.1, item) = ap (λ es. entry_at es p.0) after ∙ entry_at-between front between back (subst (λ (es : List (Entry T)). times p.0 es ≡ 0) before unused) in
              rw (same.1, none, found, k.0) refl
        ]
        | inr other ↦
            let kept : entry_at new.entries q.0 ≡ entry_at old.entries q.0 =
            ap (λ es. entry_at es q.0) after ∙ entry_at-between_other front between back q.0 (λ is. other.1 is) ∙ ap (λ es. entry_at es q.0) (sym before) in
            rw kept refl
      ]

module _ {T : Type 0} where
  -- What an insertion makes of a list that is cut at its place.
  pub record Inserted (old new : Chain (Resting T)) (p : ℕ × ℕ) (r : Resting T) (front back : Orders T) : Type 0 where
    pub before : old.entries ≡ front ++ back
    pub after : new.entries ≡ front ++ record { index = p.0; generation = p.1; item = r } ∷ back
    pub capacity : new.capacity ≡ old.capacity
    pub generation : new.generation ≡ old.generation
    pub maximum : new.maximum ≡ old.maximum
    pub of_generation : p.1 ≡ old.generation
    pub unused : times p.0 old.entries ≡ 0

  pub inserted-cut : (old new : Chain (Resting T)) (place : OrderEntry T → Orders T) (r : Resting T) (p : ℕ × ℕ) (front back : Orders T) → IsInsertion old new place r p.0 p.1
      → old.entries ≡ front ++ back → ((e : OrderEntry T) → place e ≡ front ++ e ∷ back) → Inserted old new p r front back
  inserted-cut old new place r p front back inserts cut placed =
      let after = after-insertion old new place r p.0 p.1 inserts in
      record {
        before = cut;
        after = ap (λ (c : Chain (Resting T)). c.entries) after.1 ∙ placed _;
        capacity = ap (λ (c : Chain (Resting T)). c.capacity) after.1;
        generation = ap (λ (c : Chain (Resting T)). c.generation) after.1;
        maximum = ap (λ (c : Chain (Resting T)). c.maximum) after.1;
        of_generation = inserts.generation;
        unused = inserts.vacant.free;
      }

  -- indexes stay distinct
  pub distinct-inserted : (old new : Chain (Resting T)) (p : ℕ × ℕ) (r : Resting T) (front back : Orders T) → Inserted old new p r front back → IsDistinct old.entries → IsDistinct new.entries
  distinct-inserted old new p r front back inserts distinct i =
      let once : times i (front ++ back) ≤ 1 = subst (λ (es : Orders T). times i es ≤ 1) inserts.before (distinct i) in
      let none : times p.0 (front ++ back) ≡ 0 = subst (λ (es : Orders T). times p.0 es ≡ 0) inserts.before inserts.unused in
      subst (λ (es : Orders T). times i es ≤ 1) (sym inserts.after) (go once none)
    where
      go : times i (front ++ back) ≤ 1 → times p.0 (front ++ back) ≡ 0 → times i (front ++ record { index = p.0; generation = p.1; item = r } ∷ back) ≤ 1
      go once none = elim (eqb_tells p.0 i) [
        | inl h ↦
            let zero : times i (front ++ back) ≡ 0 = subst (λ (j : ℕ). times j (front ++ back) ≡ 0) h.1 none in
            let here : times i (record { index = p.0; generation = p.1; item = r } ∷ back) ≡ 1 + times i back = rw h.0 refl in
            omega (arith, zero, here, times-append i front back, times-append i front (record { index = p.0; generation = p.1; item = r } ∷ back))
        | inr h ↦
            let here : times i (record { index = p.0; generation = p.1; item = r } ∷ back) ≡ 0 + times i back = rw h.0 refl in
            omega (arith, once, here, times-append i front back, times-append i front (record { index = p.0; generation = p.1; item = r } ∷ back))
      ]
