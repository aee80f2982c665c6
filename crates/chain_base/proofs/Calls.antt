-- The proof obligations of a chain arena's calls: from what the arena's calls ensure to the step on the list.
use Rattle.std.proofs.Common.{◌≡◌, ℕ, ◌<◌, ◌≤◌, List, Option, Some, None, IsSome, refl, sym, ap, subst, ◌∙◌, arith, max, OnSome, IfNone, Result, Ok, Err, OnOk, OnErr, ◌⊎◌, inl, inr, option_and_then}
use Rattle.std.proofs.lemmas.Grind.{common_steps}
use Rattle.arena_base.specs.Arena.{Arena, slot, new_arena, with_capacity as arena_with_capacity, removed as arena_removed, renewed as arena_renewed, greatest_occupied, IsSound as IsSoundArena, IsInsertion as IsArenaInsertion}
use Rattle.arena_base.specs.Pointer.{named_of}
use Rattle.chain_base.specs.Chain.{Entry, Chain, times, new_chain, with_capacity, greatest_index, renewed, removed}
use Rattle.chain_base.specs.{declared.chain.compress.Side.Side, Naming.neighbour_on, Layout.chain_of, Insert.PutsBetween, Link.Link}
use Rattle.chain_base.proofs.Steps.{Lies, held-laid, Inserts, Inserts-joined, Removes-joined, Renews-at, Lies-resized, IsLaidOut-cleared}
use Rattle.chain_base.proofs.LaidOut.{IsChainIn, bridged, end_beside, slot-written, slot-within}
use Rattle.chain_base.proofs.{Vacancy.HoldIndexes, Vacancy.held-is, Vacancy.past-greatest, Vacancy.greatest-links, Renumbering.beside-other}
use Rattle.chain_base.proofs.{Lists.times-append, Lists.times-last, Lists.times-first, Lists.other_index, Sound.occupied-above}

-- an index other than 0 can be named in a link
pub named_of-above : (o : Option ℕ) → ((k : ℕ) → o ≡ Some k → 0 < k) → named_of o ≡ o
named_of-above o above = grind (arith, common_steps)

module _ {T : Type 0} where
  -- an occupied index is occupied after an insertion
  held-inserted : (a a1 : Arena (Link T)) (link : Link T) (j g : ℕ) → IsArenaInsertion a a1 link j g → (k : ℕ) → IsSome (slot a k) → IsSome (slot a1 k)
  held-inserted a a1 link j g ins k held = grind (arith, common_steps)

  module _ (a : Arena (Link T)) (first last : Option ℕ) (laid : IsChainIn a first last) where
    abbrev c : Chain T
    c = chain_of a first

    held : HoldIndexes a.slots c.entries
    held = held-laid a.slots first last _ laid

    -- an insertion into the arena, for an entry between these two neighbours
    module _ (a1 : Arena (Link T)) (link : Link T) (j g : ℕ) (ins : IsArenaInsertion a a1 link j g)
        (place : Entry T → List (Entry T)) (prev next : Option ℕ) (at : PutsBetween c.entries place prev next) where
      -- the neighbours of the place occur in the list
      beside-occurs : (k : ℕ) → (prev ≡ Some k) ⊎ (next ≡ Some k) → 1 ≤ times k c.entries
      beside-occurs k is = grind (arith, common_steps, times-last at.front k, times-first at.back k, at.split, times-append k at.front at.back)

      -- they are occupied after it too
      pub beside-inserted : (k : ℕ) → (prev ≡ Some k) ⊎ (next ≡ Some k) → IsSome (slot a1 k)
      beside-inserted k is = held-inserted a a1 link j g ins k (held-is a.slots _ k held (beside-occurs k is))

      module _ (most : ℕ) (greatest : Option ℕ) (sound : IsSoundArena most greatest a1) where
        -- the indexes of the list aren't 0 if the arena after an insertion is sound
        named-occurs : (o : Option ℕ) → ((k : ℕ) → o ≡ Some k → 1 ≤ times k c.entries) → named_of o ≡ o
        named-occurs o there = named_of-above o (λ k is. occupied-above most greatest a1 sound k (held-inserted a a1 link j g ins k (held-is a.slots _ k held (there k is))))

        -- the chain after it, given what the writes of links ensure
        module _ (item : T) (item_is : link.item ≡ item) (prev_is : link.prev ≡ named_of prev)
            (next_is : link.next ≡ named_of next) (b : Arena (Link T)) (first2 last2 : Option ℕ)
            (joined : b ≡ bridged a1 prev (named_of (Some j)) next (named_of (Some j)))
            (first_is : first2 ≡ end_beside prev first (Some j)) where
          pub Inserts-linked : last2 ≡ end_beside next last (Some j) → Inserts a b first first2 last2 place item j g
          Inserts-linked last_is =
              let named_prev = named-occurs prev (λ k is. beside-occurs k (inl is)) in
              let named_next = named-occurs next (λ k is. beside-occurs k (inr is)) in
              let named_new : named_of (Some j) ≡ Some j
              = named_of-above (Some j) (λ k is. let same : j ≡ k = cc in omega (arith, ins.vacant.above)) in
              let whole : link ≡ record { item = item; prev = prev; next = next } = rw (← item_is, ← named_prev, ← named_next, ← prev_is, ← next_is) refl in
              let ins2 = subst (λ (l : Link T). IsArenaInsertion a a1 l j g) whole ins in
              rw (joined, first_is, last_is, named_new) (Inserts-joined a a1 first last place prev next item j g laid at ins2)

    module _ (greatest : Option ℕ) (i : ℕ) (e : ℕ × Link T) (at : slot a i ≡ Some e) where
      -- the writes of links after a removal find their entries
      pub beside-held : (side : Side) (k : ℕ) → neighbour_on side e.1 ≡ Some k → IsSome (slot (arena_removed greatest a i) k)
      beside-held side k is =
          let other = beside-other side c.entries laid.distinct i k (ap (option_and_then (λ e. neighbour_on side e.1)) (sym (laid.links i) ∙ at) ∙ is) in
          rw (slot-written a i k None (slot-within a i e at), other_index i k other.0) (held-is a.slots _ k held other.1)

      -- a removal, given what the arena's removal and the writes of links ensure
      module _ (prev next : Option ℕ) (prev_is : prev ≡ e.1.prev) (next_is : next ≡ e.1.next)
          (named_prev : named_of e.1.prev ≡ e.1.prev) (named_next : named_of e.1.next ≡ e.1.next) (a1 b : Arena (Link T))
          (first2 last2 : Option ℕ) (without : a1 ≡ arena_removed greatest a i)
          (joined : b ≡ bridged a1 prev (named_of next) next (named_of prev)) (first_is : first2 ≡ end_beside prev first next) where
        pub Removes-linked : last2 ≡ end_beside next last prev → Lies b first2 last2 (removed greatest c i)
        Removes-linked last_is = grind (arith, common_steps, Removes-joined)

    -- a call that renews an entry or changes nothing
    module _ {X : Type 0} (greatest : Option ℕ) (b : Arena (Link T)) (i : ℕ) where
      pub renewed-or_kept : (o : Option X) → OnSome o (b ≡ arena_renewed greatest a i) → IfNone o (b ≡ a)
          → IsChainIn b first last × OnSome o (chain_of b first ≡ renewed greatest c i)
      renewed-or_kept None renews keeps = (rw keeps laid, tt)
      renewed-or_kept (Some x) renews keeps = let done = Renews-at a first last laid greatest i in (rw renews done.laid, rw renews done.chain)

    -- a call that sets the capacity to n or to what is needed, or changes nothing
    module _ (b : Arena (Link T)) (n : ℕ) where
      abbrev needed : ℕ
      needed = max n (greatest_occupied a.slots)

      resized : Lies (arena_with_capacity a needed) first last (with_capacity c needed)
      resized = Lies-resized a first last laid needed (λ k far. past-greatest a.slots k (omega arith))

      pub resized-laid : {X E : Type 0} (r : Result X E) → OnOk r (b ≡ arena_with_capacity a needed) → OnErr r (b ≡ a) → IsChainIn b first last
      resized-laid (Err e) ok err = rw err laid
      resized-laid (Ok x) ok err = rw ok resized.laid

      pub resized-chain : {X E : Type 0} (r : Result X E) → OnOk r (b ≡ arena_with_capacity a needed)
          → OnOk r (chain_of b first ≡ with_capacity c (max n (greatest_index c.entries)))
      resized-chain (Err e) ok = tt
      resized-chain (Ok x) ok = rw ok (resized.chain ∙ ap (λ m. with_capacity c (max n m)) (greatest-links a.slots _ held))

  pub Lies-made : (greatest : Option ℕ) (a : Arena (Link T)) (n : ℕ) → a ≡ arena_with_capacity (new_arena greatest) n → Lies a None None (with_capacity (new_chain greatest) n)
  Lies-made greatest a n made = rw made (Lies-resized (new_arena greatest) None None (IsLaidOut-cleared {T = T} 1) n (λ k far. grind (arith, common_steps)))
