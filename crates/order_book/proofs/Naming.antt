-- The orders of a queue and the entries of its arena: what a pointer names, and what a removal leaves.
use Rattle.std.proofs.Common.{◌≡◌, ◌≢◌, ℕ, ◌+◌, ◌<◌, ◌≤◌, List, [], ◌∷◌, ◌++◌, map, Option, Some, None, IsSome, refl, sym, ap, subst, ◌∙◌, arith, rules, inl, inr}
use Rattle.std.proofs.{lemmas.Bool.Decides.eqb_tells, lemmas.Grind.common_steps, lemmas.List.length-map}
use Rattle.std.specs.{List.AllByRecursion, Option.option_map, Ordering.nat_cmp}
use Rattle.sorted_arena.specs.Chain.{Entry, IsDistinct as AreDistinct, times, entry_at, item_of, first_pointer, without as without_index}
use Rattle.sorted_arena.proofs.ChainLemmas.{entry_at-absent}
use Rattle.sorted_arena.proofs.CallerLemmas.{first-named, distinct-rest, removed-sound, without_entry-some, words}
use Rattle.sorted_arena.specs.Sorted.{Sorted, get, next_of, IsSound as IsSoundArena, Updates as UpdatesArena, without_entry}
use Rattle.sorted_arena.specs.PlainPointer.{greatest_generation}
use Rattle.order_book.specs.Queue.{most_entries, Updates, with_left, first_of, order_of, without, IsDistinct, IsSound}
use Rattle.order_book.specs.QueueLayout.{order_in, queue_of, IsLawful, AreLawful}
use Rattle.order_book.specs.{declared.order.Lot.Lot, declared.order.Order.Order, declared.side.Side.Side}
use Rattle.order_book.proofs.{Ranks.Entries, Ranks.recursion-map, Ranks.in_order-sorted}

module _ {T : Type 0} where
  -- none of the entries behind the first has its index
  absent-rest : (e : Entry (ℕ × Lot T)) (es : Entries T) (i : ℕ) → e.index ≡ i → AreDistinct (e ∷ es) → entry_at es i ≡ None
  absent-rest e es i here distinct = entry_at-absent es i (grind (arith, common_steps, distinct i))

  -- the first entry's pointer finds an item
  pub first-lost : (es : Entries T) (p : ℕ × ℕ) → Some p ≡ first_pointer es → None ≡ item_of es p → ⊥
  first-lost [] p named lost = absurd (cc)
  first-lost (e ∷ es) p named lost = let none = lost ∙ first-named (e ∷ es) p named in cc

  -- indexes stay distinct if an entry leaves
  distinct-removed : (a new : Sorted ℕ (Lot T)) (p : ℕ × ℕ) → new ≡ without_entry greatest_generation a p → IsSoundArena nat_cmp most_entries a → AreDistinct new.entries
  distinct-removed a new p after sound = rw after ((removed-sound nat_cmp most_entries greatest_generation a p sound).distinct)

  module _ (side : Side) where
    -- the order of an item under a pointer
    abbrev pub order_under : ℕ × ℕ → ℕ × Lot T → Order T
    order_under p item = order_in side (record { index = p.0; generation = p.1; item = item })

    -- a pointer names the order of the entry that it finds
    pub order_of-found : (es : Entries T) → AreDistinct es → (p : ℕ × ℕ) → order_of (map (order_in side) es) p ≡ option_map (order_under p) (item_of es p)
    order_of-found [] distinct p = refl
    order_of-found (e ∷ es) distinct p = elim (eqb_tells e.index p.0) [
      | inl h ↦ elim (eqb_tells e.generation p.1) [
        | inl k ↦ rw (h.0, k.0, h.1, k.1) refl
        | inr k ↦ rw (h.0, k.0, order_of-found es (distinct-rest e es distinct) p, absent-rest e es p.0 h.1 distinct) refl
      ]
      | inr h ↦ rw (h.0, order_of-found es (distinct-rest e es distinct) p) refl
    ]

    -- if a pointer names an order with a tag, it finds an item with that tag
    pub item-tagged : (es : Entries T) → AreDistinct es → (p : ℕ × ℕ) (tag : T) → option_map (λ (x : Order T). x.tag) (order_of (map (order_in side) es) p) ≡ Some tag
        → (item : ℕ × Lot T) × (item_of es p ≡ Some item) × (tag ≡ item.1.tag)
    item-tagged es distinct p tag named = go (item_of es p) refl
      where
        tags : Option (Order T) → Option T
        tags o = option_map (λ (x : Order T). x.tag) o

        go : (o : Option (ℕ × Lot T)) → item_of es p ≡ o → (item : ℕ × Lot T) × (item_of es p ≡ Some item) × (tag ≡ item.1.tag)
        go None none = absurd (let lost : Some tag ≡ None = sym named ∙ ap tags (order_of-found es distinct p ∙ ap (option_map (order_under p)) none) in cc)
        go (Some item) found = (item, found, (let some : Some tag ≡ Some item.1.tag = sym named ∙ ap tags (order_of-found es distinct p ∙ ap (option_map (order_under p)) found) in cc))

    -- without the order of a pointer, if it names one, the entries are those without its index
    without-found : (es : Entries T) → AreDistinct es → (p : ℕ × ℕ) → IsSome (item_of es p) → without (map (order_in side) es) p ≡ map (order_in side) (without_index p.0 es)
    without-found [] distinct p there = refl
    without-found (e ∷ es) distinct p there = elim (eqb_tells e.index p.0) [
      | inl h ↦ elim (eqb_tells e.generation p.1) [
        | inl k ↦ rw (h.0, k.0) refl
        | inr k ↦ absurd (let none : item_of (e ∷ es) p ≡ None = rw (h.0, k.0) refl in cc)
      ]
      | inr h ↦ rw (h.0, without-found es (distinct-rest e es distinct) p (let same : item_of (e ∷ es) p ≡ item_of es p = rw h.0 refl in subst (λ (o : Option (ℕ × Lot T)). IsSome o) same there)) refl
    ]

    pub queue-without : (a : Sorted ℕ (Lot T)) (p : ℕ × ℕ) → AreDistinct a.entries → IsSome (item_of a.entries p)
        → queue_of side (without_entry greatest_generation a p) ≡ with_left (queue_of side a) p
    queue-without a p distinct there = rw (without_entry-some greatest_generation a p there, without-found a.entries distinct p there) refl

    -- the first entry is the order that trades first
    pub first-none : (es : Entries T) → None ≡ first_pointer es → first_of (map (order_in side) es) ≡ None
    first-none [] none = refl
    first-none (e ∷ es) none = absurd (cc)

    pub first-some : (es : Entries T) (p : ℕ × ℕ) (item : ℕ × Lot T) → Some p ≡ first_pointer es → Some item ≡ item_of es p
        → first_of (map (order_in side) es) ≡ Some (order_under p item)
    first-some [] p item named found = absurd (cc)
    first-some (e ∷ es) p item named found =
        let here : p ≡ (e.index, e.generation) = cc in
        let some : Some item ≡ Some e.item = found ∙ first-named (e ∷ es) p named in
        let same : item ≡ e.item = cc in
        rw (here, same) refl

    -- pointers are distinct if indexes are
    distinct-found : (es : Entries T) → AreDistinct es → IsDistinct (map (order_in side) es)
    distinct-found [] distinct = tt
    distinct-found (e ∷ es) distinct =
        (order_of-found es (distinct-rest e es distinct) (e.index, e.generation) ∙ rw (absent-rest e es e.index refl distinct) refl, distinct-found es (distinct-rest e es distinct))

    of_side-found : (es : Entries T) → AllByRecursion (λ x. x.id.side ≡ side) (map (order_in side) es)
    of_side-found [] = tt
    of_side-found (e ∷ es) = (refl, of_side-found es)

    -- what holds of an arena holds of its queue
    pub sound-found : (a : Sorted ℕ (Lot T)) → IsSoundArena nat_cmp most_entries a → AreLawful a.entries → IsSound (queue_of side a)
    sound-found a sound lawful = record {
      of_side = of_side-found a.entries;
      in_order = in_order-sorted side a.entries sound.sorted;
      distinct = distinct-found a.entries sound.distinct;
      some_left = recursion-map (order_in side) (λ (e : Entry (ℕ × Lot T)). IsLawful e.item) (λ x. 0 < x.quantity) (λ e lawful. lawful.some) a.entries lawful;
      summable = record {
        few = omega (arith, length-map a.entries (order_in side), sound.within, sound.limited);
        bounded = recursion-map (order_in side) (λ (e : Entry (ℕ × Lot T)). IsLawful e.item) (λ x. x.quantity ≤ 18446744073709551615) (λ e lawful. lawful.quantity) a.entries lawful;
      };
      within = omega (arith, length-map a.entries (order_in side), sound.within);
      limited = sound.limited;
    }

    -- what pointers name after a change of the arena, they name in the queue
    pub updates-found : (old new : Sorted ℕ (Lot T)) (p : ℕ × ℕ) (now : Option (ℕ × Lot T)) → AreDistinct old.entries → AreDistinct new.entries
        → UpdatesArena old new p now → Updates (queue_of side old) (queue_of side new) p (option_map (order_under p) now)
    updates-found old new p now before after updates = record {
      changed = order_of-found new.entries after p ∙ ap (option_map (order_under p)) updates.changed;
      others = λ q apart. order_of-found new.entries after q ∙ ap (option_map (order_under q)) (updates.others q apart) ∙ sym (order_of-found old.entries before q);
    }

    -- an order leaves
    pub updates-removed : (a new : Sorted ℕ (Lot T)) (p : ℕ × ℕ) → IsSoundArena nat_cmp most_entries a → new ≡ without_entry greatest_generation a p → Updates (queue_of side a) (queue_of side new) p None
    updates-removed a new p sound after =
        updates-found a new p None sound.distinct (distinct-removed a new p after sound) (record { changed = rw after (gone sound.distinct); others = λ q apart. rw after (kept sound.distinct q apart) })
      where
        gone : AreDistinct a.entries → get (without_entry greatest_generation a p) p ≡ None
        gone distinct = search (rules, words)

        kept : AreDistinct a.entries → (q : ℕ × ℕ) → q ≢ p → get (without_entry greatest_generation a p) q ≡ get a q
        kept distinct q apart = search (rules, words)

  -- the order behind the one that a pointer names, and the first one, by their pointers
  module _ (side : Side) where
    pub first-order : (es : Entries T) → first_pointer es ≡ option_map (λ (x : Order T). x.id.pointer) (first_of (map (order_in side) es))
    first-order [] = refl
    first-order (e ∷ es) = refl

    there-named : (es : Entries T) (front : List (Order T)) (x : Order T) (back : List (Order T)) → map (order_in side) es ≡ front ++ x ∷ back → 1 ≤ times x.id.pointer.0 es
    there-named [] [] x back cut = absurd (cc)
    there-named [] (y ∷ front) x back cut = absurd (cc)
    there-named (e ∷ es) [] x back cut =
        let here : order_in side e ≡ x = cc in
        subst (λ (y : Order T). 1 ≤ times y.id.pointer.0 (e ∷ es)) here (grind (arith, common_steps))
    there-named (e ∷ es) (y ∷ front) x back cut =
        let rest : map (order_in side) es ≡ front ++ x ∷ back = cc in
        omega (arith, there-named es front x back rest, more e es x.id.pointer.0)
      where
        more : (e : Entry (ℕ × Lot T)) (es : Entries T) (i : ℕ) → times i es ≤ times i (e ∷ es)
        more e es i = grind (arith, common_steps)

    pub next-order : (es : Entries T) → AreDistinct es → (front : List (Order T)) (x : Order T) (back : List (Order T)) → map (order_in side) es ≡ front ++ x ∷ back
        → next_of es x.id.pointer ≡ option_map (λ (y : Order T). y.id.pointer) (first_of back)
    next-order [] distinct [] x back cut = absurd (cc)
    next-order [] distinct (y ∷ front) x back cut = absurd (cc)
    next-order (e ∷ es) distinct [] x back cut =
        let here : order_in side e ≡ x = cc in
        let rest : map (order_in side) es ≡ back = cc in
        subst (λ (y : Order T). next_of (e ∷ es) y.id.pointer ≡ option_map (λ (y : Order T). y.id.pointer) (first_of back)) here
        (own e es ∙ first-order es ∙ ap (λ (ys : List (Order T)). option_map (λ (y : Order T). y.id.pointer) (first_of ys)) rest)
      where
        own : (e : Entry (ℕ × Lot T)) (es : Entries T) → next_of (e ∷ es) (e.index, e.generation) ≡ first_pointer es
        own e es = elim (eqb_tells e.index e.index) [
          | inl h ↦ elim (eqb_tells e.generation e.generation) [
            | inl k ↦ rw (h.0, k.0) refl
            | inr k ↦ absurd (k.1 refl)
          ]
          | inr h ↦ absurd (h.1 refl)
        ]
    next-order (e ∷ es) distinct (y ∷ front) x back cut =
        let rest : map (order_in side) es ≡ front ++ x ∷ back = cc in
        elim (eqb_tells e.index x.id.pointer.0) [
          | inl h ↦ absurd (let twice : times x.id.pointer.0 (e ∷ es) ≡ 1 + times x.id.pointer.0 es = rw h.0 refl in
              omega (arith, twice, there-named es front x back rest, distinct x.id.pointer.0))
          | inr h ↦ let skip : next_of (e ∷ es) x.id.pointer ≡ next_of es x.id.pointer = rw h.0 refl in
              skip ∙ next-order es (distinct-rest e es distinct) front x back rest
        ]

    -- a pointer that names an order finds a row
    pub row-there : (es : Entries T) → AreDistinct es → (p : ℕ × ℕ) → IsSome (order_of (map (order_in side) es) p) → IsSome (item_of es p)
    row-there es distinct p named = go (item_of es p) (subst (λ (o : Option (Order T)). IsSome o) (order_of-found side es distinct p) named)
      where
        go : (o : Option (ℕ × Lot T)) → IsSome (option_map (order_under side p) o) → IsSome o
        go None there = absurd (cc)
        go (Some item) there = refl

    -- no orders are those of no rows
    pub no-orders : {X : Type 0} (f : X → Entry (ℕ × Lot T)) (es : List X) → map (order_in side) (map f es) ≡ [] → es ≡ []
    no-orders f [] none = refl
    no-orders f (e ∷ es) none = absurd (cc)
