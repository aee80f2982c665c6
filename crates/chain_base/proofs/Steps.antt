-- What each call does to the chain in the arena.
use Rattle.std.proofs.Common.{◌≡◌, ℕ, ◌+◌, ◌-◌, ◌<◌, List, [], ◌∷◌, ◌++◌, length, Option, Some, None, is_some, cond, refl, sym, ap, subst, ◌∙◌, arith, if◌then◌else◌, slice_get, length-set, replicate}
use Rattle.std.proofs.{lemmas.List.length-replicate, lemmas.Grind.common_steps}
use Rattle.arena_base.specs.Arena.{Arena, slot, with_entry_at, arena_capacity, with_capacity as arena_with_capacity, removed as arena_removed, renewed as arena_renewed, cleared as arena_cleared, resized, IsInsertion as IsArenaInsertion}
use Rattle.chain_base.specs.Chain.{Entry, Chain, first_or, last_or, inserted_at, with_capacity, vacant_indexes, removed, renewed, cleared, with_item}
use Rattle.chain_base.specs.{Layout.chain_of, Layout.rewritten, Layout.IsLaidOut, Insert.IsInsertion, Insert.PutsBetween, Link.Link}
use Rattle.chain_base.proofs.LaidOut.{IsChainIn, laid-links, IsLaidOut-walked, Alike, alike-bridged, bridged, end_beside, link_amid, closed, entries_met-laid_out, slot-laid_out, joined, IsLaidOut-inserted, IsLaidOut-removed, IsLaidOut-changed_at}
use Rattle.chain_base.proofs.Lists.{entry_at-some, linked-occurs, last_or-append, times-unlinked, Stands-occurs, Stands, last_or-there, with_item_among-changed_at, with_generation-changed_at}
use Rattle.chain_base.proofs.Vacancy.{HoldIndexes, held-links, vacant-held, get_or-vacant, get_or-resized, length-resized}

-- the free list begins with the next index
next-first : (is : List ℕ) (i : ℕ) → slice_get is 0 ≡ Some i → (rest : List ℕ) × (is ≡ i ∷ rest)
next-first [] i next = absurd (cc)
next-first (k ∷ rest) i next = let same : k ≡ i = cc in (rest, ap (λ n. n ∷ rest) same)

module _ {T : Type 0} where
  -- the chain c is in an arena, between these ends
  pub record Lies (a : Arena (Link T)) (first last : Option ℕ) (c : Chain T) : Type 0 where
    pub laid : IsChainIn a first last
    pub chain : chain_of a first ≡ c

  module _ (a : Arena (Link T)) (first last : Option ℕ) (c : Chain T) (laid : IsLaidOut a.slots first last c.entries)
      (capacity : arena_capacity a ≡ c.capacity) where
    pub lies : a.vacant ≡ c.vacant → a.generation ≡ c.generation → a.maximum ≡ c.maximum → Lies a first last c
    lies vacant generation maximum =
        record { laid = IsLaidOut-walked a first last c.entries laid; chain = rw (entries_met-laid_out a first last c.entries laid, capacity, vacant, generation, maximum) refl }

  -- an arena with other slots and entries at the same indexes
  module _ (a b : Arena (Link T)) (first last : Option ℕ) (es : List (Entry T)) (same : Alike b a) where
    pub lies-alike : IsLaidOut b.slots first last es
        → Lies b first last (record { entries = es; capacity = arena_capacity a; vacant = a.vacant; generation = a.generation; maximum = a.maximum })
    lies-alike laid = lies b first last _ laid (ap (λ n. n - 1) same.long) (ap (λ (a : Arena (Link T)). a.vacant) same.kept)
        (ap (λ (a : Arena (Link T)). a.generation) same.kept) (ap (λ (a : Arena (Link T)). a.maximum) same.kept)

  -- an index occurs in a list in an arena exactly if its slot holds a link
  pub held-laid : (slots : List (Option (ℕ × Link T))) (first last : Option ℕ) (es : List (Entry T)) → IsLaidOut slots first last es → HoldIndexes slots es
  held-laid slots first last es laid = held-links slots es laid.distinct laid.links

  -- the first of a list that goes on, or another first if nothing is before it
  pub first_or-end : (xs zs : List (Entry T)) (d : Option ℕ) → (if is_some (last_or None xs) then first_or None (xs ++ zs) else d) ≡ first_or d xs
  first_or-end xs zs d = grind (arith, common_steps, last_or-there)

  -- the last of a list that goes before, or another last if nothing is after it
  pub last_or-end : (zs ys : List (Entry T)) (d : Option ℕ) → (if is_some (first_or None ys) then last_or None (zs ++ ys) else d) ≡ last_or d ys
  last_or-end zs ys d = grind (arith, common_steps, last_or-append)

  -- what an insertion between two neighbours makes of a chain
  pub record Inserts (a b : Arena (Link T)) (first first2 last2 : Option ℕ) (place : Entry T → List (Entry T)) (item : T) (j g : ℕ) : Type 0 where
    pub laid : IsChainIn b first2 last2
    pub insertion : IsInsertion (chain_of a first) (chain_of b first2) place item j g

  module _ (a a1 : Arena (Link T)) (first last : Option ℕ) (front back : List (Entry T)) (place : Entry T → List (Entry T)) (puts : (new : Entry T) → place new ≡ front ++ new ∷ back)
      (item : T) (j : ℕ) (rest : List ℕ) (laid : IsLaidOut a.slots first last (front ++ back))
      (vacant : slot a j ≡ None) (within : j < length a.slots) (after : a1 ≡ with_entry_at a (j ∷ rest) (link_amid front item back)) where
    Joins-between : Lies (joined a1 j front back) (end_beside (last_or None front) first (Some j)) (end_beside (first_or None back) last (Some j))
        (inserted_at (chain_of a first) place item (j ∷ rest))
    Joins-between =
        let filled : Arena (Link T) = with_entry_at a (j ∷ rest) (link_amid front item back) in
        let first2 : end_beside (last_or None front) first (Some j) ≡ first_or (Some j) front = rw laid.first_is (first_or-end front back (Some j)) in
        let last2 : end_beside (first_or None back) last (Some j) ≡ last_or (Some j) back = rw laid.last_is (last_or-end front back (Some j)) in
        let done = lies-alike filled (joined filled j front back) _ _ _ (alike-bridged filled (last_or None front) (Some j) (first_or None back) (Some j)) (IsLaidOut-inserted a first last front back j rest item laid vacant within) in
        rw (after, first2, last2, puts (record { index = j; generation = a.generation; item = item })) (rw (length-set a.slots j (Some (a.generation, link_amid front item back))) at done)

  module _ (a a1 : Arena (Link T)) (first last : Option ℕ) (place : Entry T → List (Entry T)) (prev next : Option ℕ) (item : T) (j g : ℕ)
      (laid : IsChainIn a first last) (at : PutsBetween (chain_of a first).entries place prev next)
      (ins : IsArenaInsertion a a1 (record { item = item; prev = prev; next = next }) j g) where
    pub Inserts-joined : Inserts a (bridged a1 prev (Some j) next (Some j)) first (end_beside prev first (Some j)) (end_beside next last (Some j)) place item j g
    Inserts-joined =
        let head = next-first a.vacant j ins.next in
        let laid2 = subst (λ (es : List (Entry T)). IsLaidOut a.slots first last es) at.split laid in
        let ins2 = rw (at.prev_is, at.next_is) at ins in
        let after : a1 ≡ with_entry_at a (j ∷ head.0) (link_amid at.front item at.back) = rw head.1 at ins2.after in
        let b : Arena (Link T) = joined a1 j at.front at.back in
        let joins = Joins-between a a1 first last at.front at.back place at.puts item j head.0 laid2 ins.vacant.free (omega (arith, ins.vacant.within, ins.vacant.above)) after in
        let same = alike-bridged a1 (last_or None at.front) (Some j) (first_or None at.back) (Some j) in
        let fresh = vacant-held a.slots _ (held-laid a.slots first last _ laid) in
        rw (at.prev_is, at.next_is) (record {
          laid = joins.laid;
          insertion = record {
            next = ins.next;
            vacant = record { above = ins.vacant.above; within = ins.vacant.within; free = times-unlinked None None _ j (sym (laid.links j) ∙ ins.vacant.free) };
            least = λ new k above below. entry_at-some _ k ∙ ap is_some (sym (laid.links k)) ∙ ins.least (new ∙ sym fresh) k above below;
            generation = ins.generation;
            after = joins.chain ∙ sym (ap (inserted_at (chain_of a first) place item) head.1);
            fresh = λ new. ap (λ (a : Arena (Link T)). a.vacant) same.kept ∙ ins.fresh (new ∙ sym fresh)
                ∙ vacant-held a1.slots _ (λ k. held-laid b.slots _ _ _ joins.laid k ∙ ap (λ b. cond b 1 0) (same.held k)) ∙ ap (λ n. vacant_indexes (chain_of b (end_beside (last_or None at.front) first (Some j))).entries (n - 1)) (sym same.long);
          };
        })

  -- if all slots beyond n are vacant, a capacity of n keeps the list
  module _ (a : Arena (Link T)) (first last : Option ℕ) (es : List (Entry T)) (n : ℕ) (rest : (k : ℕ) → n < k → slot a k ≡ None) where
    pub IsLaidOut-resized : IsLaidOut a.slots first last es → IsLaidOut (resized (n + 1) a.slots) first last es
    IsLaidOut-resized laid =
        laid-links _ _ _ _ (λ i. get_or-resized (n + 1) a.slots i (λ k far. rest k (omega arith)) ∙ laid.links i) laid.distinct laid.first_is laid.last_is

  -- the chain without an entry between these two neighbours, which are linked to each other
  abbrev pub Unlinks : Option ℕ → Arena (Link T) → Option ℕ → Option ℕ → ℕ → Option ℕ → Option ℕ → Type 0
  Unlinks greatest a first last i prev next =
      Lies (bridged (arena_removed greatest a i) prev next next prev) (end_beside prev first next) (end_beside next last prev) (removed greatest (chain_of a first) i)

  module _ (a : Arena (Link T)) (first last : Option ℕ) (laid : IsChainIn a first last) where
    -- so the chain with that capacity is there
    pub Lies-resized : (n : ℕ) → ((k : ℕ) → n < k → slot a k ≡ None) → Lies (arena_with_capacity a n) first last (with_capacity (chain_of a first) n)
    Lies-resized n rest =
        let laid2 = IsLaidOut-resized a first last (chain_of a first).entries n rest laid in
        let size : length (resized (n + 1) a.slots) - 1 ≡ n = omega (arith, length-resized (n + 1) a.slots) in
        lies (arena_with_capacity a n) first last (with_capacity (chain_of a first) n) laid2 size
        (vacant-held (resized (n + 1) a.slots) _ (held-laid _ first last _ laid2) ∙ ap (vacant_indexes (chain_of a first).entries) size) refl refl

    -- an entry gets another generation
    pub Renews-at : (greatest : Option ℕ) (i : ℕ) → Lies (arena_renewed greatest a i) first last (renewed greatest (chain_of a first) i)
    Renews-at greatest i =
        grind (arith, common_steps, IsLaidOut-changed_at a first last, lies (arena_renewed greatest a i) first last (renewed greatest (chain_of a first) i), with_generation-changed_at)

    -- an item is written
    pub Writes-at : (i : ℕ) (item : T) → Lies (rewritten a i item) first last (with_item (chain_of a first) i item)
    Writes-at i item =
        grind (arith, common_steps, lies (rewritten a i item) first last (with_item (chain_of a first) i item), with_item_among-changed_at, IsLaidOut-changed_at a first last)

    -- the entry between two stretches is removed
    Removes-at : (greatest : Option ℕ) (i : ℕ) (s : Stands (chain_of a first).entries i) → Unlinks greatest a first last i (last_or None s.front) (first_or None s.back)
    Removes-at greatest i s =
        let laid2 = subst (λ (es : List (Entry T)). IsLaidOut a.slots first last es) s.split laid in
        let emptied : Arena (Link T) = arena_removed greatest a i in
        let left = last_or None s.front in
        let right = first_or None s.back in
        let first2 : end_beside left first right ≡ first_or right s.front = rw laid2.first_is (first_or-end s.front (s.entry ∷ s.back) right) in
        let last2 : end_beside right last left ≡ last_or left s.back = rw laid2.last_is (rw (last_or-append None s.front (s.entry ∷ s.back)) (last_or-end (s.entry ∷ []) s.back left)) in
        let laid3 = rw s.here at (IsLaidOut-removed greatest a first last s.front s.entry s.back laid2) in
        let done = lies-alike emptied (closed emptied s.front s.back) _ _ _ (alike-bridged emptied left right right left) laid3 in
        rw (first2, last2, s.left) (rw (length-set a.slots i None) at done)

    pub Removes-joined : (greatest : Option ℕ) (i : ℕ) (e : ℕ × Link T) → slot a i ≡ Some e → Unlinks greatest a first last i e.1.prev e.1.next
    Removes-joined greatest i e held =
        let s = Stands-occurs (chain_of a first).entries i (linked-occurs _ i e (sym (laid.links i) ∙ held)) in
        let laid2 = subst (λ (es : List (Entry T)). IsLaidOut a.slots first last es) s.split laid in
        let found = ap (slot a) (sym s.here) ∙ slot-laid_out a first last s.front s.entry s.back laid2 in
        let same : (s.entry.generation, link_amid s.front s.entry.item s.back) ≡ e = cc in
        subst (λ (x : ℕ × Link T). Unlinks greatest a first last i x.1.prev x.1.next) same (Removes-at greatest i s)

  -- a chain is cleared
  pub IsLaidOut-cleared : (n : ℕ) → IsLaidOut {T = T} (replicate n None) None None []
  IsLaidOut-cleared n = laid-links _ None None [] (get_or-vacant n) (λ i. omega arith) refl refl

  pub Lies-cleared : (greatest : Option ℕ) (a : Arena (Link T)) → Lies (arena_cleared greatest a) None None (cleared greatest (chain_of a None))
  Lies-cleared greatest a =
      let size : length (replicate {A = Option (ℕ × Link T)} (length a.slots) None) - 1 ≡ arena_capacity a = ap (λ n. n - 1) (length-replicate (length a.slots) None) in
      let none = IsLaidOut-cleared (length a.slots) in
      lies (arena_cleared greatest a) None None (cleared greatest (chain_of a None)) none size (vacant-held {T = T} _ [] (held-laid _ None None [] none) ∙ ap (vacant_indexes {T = T} []) size) refl refl
