-- Two entries of a chain swap their indexes: a swap in the arena, and new links to them.
use Rattle.std.proofs.Common.{◌≡◌, ℕ, true, List, map, Option, Some, None, IsSome, is_some, refl, sym, ap, ◌∙◌, subst, arith, if◌then◌else◌, length-set, option_map, option_and_then}
use Rattle.std.proofs.lemmas.Grind.{common_steps}
use Rattle.arena_base.specs.{Arena.Arena, Arena.slot, Arena.swapped, Pointer.named_of}
use Rattle.chain_base.specs.Layout.{chain_of, names, linked_next, linked_prev, relinked, IsLaidOut}
use Rattle.chain_base.specs.{declared.chain.compress.Side.TheVariants.Before, declared.chain.compress.Side.TheVariants.After, Link.Link}
use Rattle.chain_base.specs.Chain.{Entry, Chain, entry_at, link_at, IsOccupied, IsSound}
use Rattle.chain_base.specs.{Exchange.exchanged_index, Exchange.in_exchange, Exchange.exchanged, Exchange.IsEven, declared.chain.compress.Side.Side}
use Rattle.chain_base.proofs.Renumbering.{opposite, beside, beside-occurs, facing, facing-back, followed, IsLaidOut-renumbered}
use Rattle.chain_base.proofs.LaidOut.{IsChainIn, slot-relinked, Alike, alike-next, alike-prev}
use Rattle.chain_base.proofs.{Vacancy.HoldIndexes, Vacancy.held-is, Vacancy.held-occurs, Vacancy.held-link, Naming.neighbour-above}
use Rattle.chain_base.proofs.{Lists.entry_at-link, Lists.entry_at-absent, Lists.entry_at-some, Steps.Lies, Steps.lies-alike, Steps.held-laid}

module _ (i j : ℕ) where
  abbrev pub other : ℕ → ℕ
  other k = exchanged_index i j k

  pub other-twice : (k : ℕ) → other (other k) ≡ k
  other-twice k = grind (arith, common_steps)

  pub other-injective : (x y : ℕ) → other x ≡ other y → x ≡ y
  other-injective x y same = sym (other-twice x) ∙ (ap other same ∙ other-twice y)

  -- a fact about i, j and k holds of the index that k becomes
  pub other-holds : (Q : ℕ → Type 0) → Q i → Q j → (k : ℕ) → Q k → Q (other k)
  other-holds Q of_i of_j k of_k = grind (arith, common_steps)

-- the neighbour of an entry after two writes: w if the second one names its index, else v if the first does
abbrev written_twice : Option ℕ → Option ℕ → Option ℕ → Option ℕ → ℕ → Option ℕ → Option ℕ
written_twice first v second w k o = if names second k then w else (if names first k then v else o)

module _ {T : Type 0} where
  -- a link after two pairs of writes
  module _ (a b c d v w : Option ℕ) (k : ℕ) where
    relinked-twice : (e : ℕ × Link T) → relinked c w d w k (relinked a v b v k (Some e))
        ≡ Some (e.0, record (e.1) { prev = written_twice b v d w k e.1.prev; next = written_twice a v c w k e.1.next })
    relinked-twice e = grind (arith, common_steps)

  -- swapped entries of one generation are at each other's index
  slot-swapped : (a : Arena (Link T)) (i j x : ℕ) (e f : ℕ × Link T) → slot a i ≡ Some e → slot a j ≡ Some f → e.0 ≡ f.0 → slot (swapped a i j) (other i j x) ≡ slot a x
  slot-swapped a i j x e f held_i held_j same = grind (arith, common_steps)

  held-swapped : (a : Arena (Link T)) (i j k : ℕ) (e f : ℕ × Link T) → slot a i ≡ Some e → slot a j ≡ Some f → is_some (slot (swapped a i j) k) ≡ is_some (slot a k)
  held-swapped a i j k e f held_i held_j = grind (arith, common_steps)

  -- the chain c is in an arena, both indexes have entries, and all entries have one generation
  pub record CanExchange (a : Arena (Link T)) (first last : Option ℕ) (c : Chain T) (i j : ℕ) : Type 0 where
    pub laid : IsLaidOut a.slots first last c.entries
    pub seen : chain_of a first ≡ c
    pub at_i : IsOccupied c i
    pub at_j : IsOccupied c j
    pub even : IsEven c

  module _ (a : Arena (Link T)) (first last : Option ℕ) (c : Chain T) (i j : ℕ) (seen : chain_of a first ≡ c)
      (laid : IsChainIn a first last) where
    pub can_exchange : IsOccupied c i → IsOccupied c j → IsEven c → CanExchange a first last c i j
    can_exchange at_i at_j even = grind (arith, common_steps)

  module _ {a0 : Arena (Link T)} {first last : Option ℕ} {c : Chain T} {i j : ℕ} (can : CanExchange a0 first last c i j) where
    abbrev es : List (Entry T)
    es = c.entries

    held : HoldIndexes a0.slots es
    held = held-laid a0.slots first last es can.laid

    slot-some : (k : ℕ) → IsOccupied c k → is_some (slot a0 k) ≡ true
    slot-some k occupied = ap is_some (can.laid.links k) ∙ sym (entry_at-some es k) ∙ occupied

    slot-of : (k : ℕ) → IsOccupied c k → (e : ℕ × Link T) × (slot a0 k ≡ Some e) × (e.0 ≡ c.generation)
    slot-of k occupied =
        let e = held-link es k (held-occurs a0.slots es k held (slot-some k occupied)) in
        (e.0, can.laid.links k ∙ e.1, can.even k (e.0.0, e.0.1.item) (entry_at-link None None es k ∙ ap (option_map (λ e. (e.0, e.1.item))) e.1))

    moved : (x : ℕ) → slot (swapped a0 i j) (other i j x) ≡ slot a0 x
    moved x = let e = slot-of i can.at_i in let f = slot-of j can.at_j in slot-swapped a0 i j x e.0 f.0 e.1 f.1 (e.2 ∙ sym f.2)

    pub alike-swap : (b0 : Arena (Link T)) → b0 ≡ swapped a0 i j → Alike b0 a0
    alike-swap b0 made =
        let e = slot-of i can.at_i in
        let f = slot-of j can.at_j in
        rw made (record { held = λ k. held-swapped a0 i j k e.0 f.0 e.1 f.1; long = length-set _ j _ ∙ length-set a0.slots i _; kept = refl })

    -- a swapped link names an entry, in an arena with entries at the same indexes
    module _ {I : Type 0} (number : I → ℕ) (side : Side) (k : ℕ) (a : Arena (Link T)) (same : Alike a a0) (r : Option I) (p : Option ℕ) where
      pub target : option_map number r ≡ option_map (other i j) p → p ≡ beside side es k → (x : I) → r ≡ Some x → IsSome (slot a (number x))
      target is at y names =
          let x = number y in
          let to : beside side es k ≡ Some (other i j x) = grind (arith, common_steps, p, other-twice i j) in
          let there = held-is a0.slots es _ held (beside-occurs (opposite side) es _ k (facing side es can.laid.distinct k _ to)) in
          let held_too = other-holds i j (λ n. is_some (slot a0 n) ≡ true) (slot-some i can.at_i) (slot-some j can.at_j) _ there in
          same.held x ∙ subst (λ n. is_some (slot a0 n) ≡ true) (other-twice i j x) held_too

    -- the new name of a neighbour
    abbrev to : Side → ℕ → Option ℕ
    to side k = option_map (other i j) (beside side es k)

    -- what the writes make of a neighbour's name
    module _ (named_i named_j : Option ℕ) (x : ℕ) (o : Option ℕ) (from_i : named_i ≡ Some x → o ≡ Some i)
        (from_j : named_j ≡ Some x → o ≡ Some j) (to_i : o ≡ Some i → named_i ≡ Some x) (to_j : o ≡ Some j → named_j ≡ Some x) where
      renamed : written_twice (option_map (other i j) named_i) (Some j) (option_map (other i j) named_j) (Some i) (other i j x) o ≡ option_map (other i j) o
      renamed = grind (arith, common_steps)

    renamed-on : (side : Side) (x : ℕ) → written_twice (to side i) (Some j) (to side j) (Some i) (other i j x) (beside (opposite side) es x) ≡ to (opposite side) x
    renamed-on side x =
        let d = can.laid.distinct in
        renamed (beside side es i) (beside side es j) x (beside (opposite side) es x) (facing side es d i x) (facing side es d j x) (facing-back side es d x i) (facing-back side es d x j)

    abbrev linked : Arena (Link T) → Arena (Link T)
    linked b0 =
        linked_prev (linked_next (linked_prev (linked_next b0 (to Before i) (Some j)) (to After i) (Some j)) (to Before j) (Some i)) (to After j) (Some i)

    alike-linked : Alike (linked (swapped a0 i j)) a0
    alike-linked =
        let two = alike-prev _ a0 _ (to After i) (Some j) refl (alike-next _ a0 _ (to Before i) (Some j) refl (alike-swap (swapped a0 i j) refl)) in
        alike-prev _ a0 _ (to After j) (Some i) refl (alike-next _ a0 _ (to Before j) (Some i) refl two)

    linked-slot : (x : ℕ) (e : ℕ × Link T) → link_at es x ≡ Some e → slot (linked (swapped a0 i j)) (other i j x) ≡ Some (followed (other i j) (λ x p. p) x e)
    linked-slot x e is =
        let prev : beside Before es x ≡ e.1.prev = ap (option_and_then (λ e. e.1.prev)) is in
        let next : beside After es x ≡ e.1.next = ap (option_and_then (λ e. e.1.next)) is in
        let at = other i j x in
        slot-relinked _ (to Before j) (Some i) (to After j) (Some i) at
        ∙ ap (relinked (to Before j) (Some i) (to After j) (Some i) at) (slot-relinked (swapped a0 i j) (to Before i) (Some j) (to After i) (Some j) at
        ∙ ap (relinked (to Before i) (Some j) (to After i) (Some j) at) (moved x ∙ can.laid.links x ∙ is))
        ∙ relinked-twice (to Before i) (to After i) (to Before j) (to After j) (Some j) (Some i) at e ∙ rw (← prev, ← next, renamed-on Before x, renamed-on After x) refl

    pub Lies-exchanged : Lies (linked (swapped a0 i j)) (option_map (other i j) first) (option_map (other i j) last) (exchanged c i j)
    Lies-exchanged =
        let same = alike-linked in
        let laid2 = IsLaidOut-renumbered (other i j) (λ x p. p) es can.laid.distinct (λ x y there_x there_y. other-injective i j x y) (linked (swapped a0 i j)).slots _ _
        (λ x there. let e = held-link es x there in rw e.1 (linked-slot x e.0 e.1))
        (λ k some. (
          other i j k,
          other-twice i j k,
          held-occurs a0.slots es _ held
              (other-holds i j (λ n. is_some (slot a0 n) ≡ true) (slot-some i can.at_i) (slot-some j can.at_j) k (sym (same.held k) ∙ some)),
        ))
        (ap (option_map (other i j)) can.laid.first_is) (ap (option_map (other i j)) can.laid.last_is) in
        subst (λ (d : Chain T). Lies (linked (swapped a0 i j)) (option_map (other i j) first) (option_map (other i j) last) (record d { entries = map (in_exchange i j) es }))
        can.seen (lies-alike a0 (linked (swapped a0 i j)) _ _ _ same laid2)

    -- the arenas between the writes, as the calls return them
    module _ (v w o1 o2 o3 o4 p1 p2 p3 p4 end1 end2 : Option ℕ) (to_j : v ≡ Some j) (to_i : w ≡ Some i)
        (is1 : o1 ≡ option_map (other i j) p1) (at1 : p1 ≡ beside Before es i) (is2 : o2 ≡ option_map (other i j) p2)
        (at2 : p2 ≡ beside After es i) (is3 : o3 ≡ option_map (other i j) p3) (at3 : p3 ≡ beside Before es j)
        (is4 : o4 ≡ option_map (other i j) p4) (at4 : p4 ≡ beside After es j) (is_first : end1 ≡ option_map (other i j) first)
        (is_last : end2 ≡ option_map (other i j) last) (b0 b1 b2 b3 b4 : Arena (Link T)) (made0 : b0 ≡ swapped a0 i j)
        (made1 : b1 ≡ linked_next b0 o1 v) (made2 : b2 ≡ linked_prev b1 o2 v) where
      pub Lies-written : b3 ≡ linked_next b2 o3 w → b4 ≡ linked_prev b3 o4 w → Lies b4 end1 end2 (exchanged c i j)
      Lies-written made3 made4 =
          rw (made4, made3, made2, made1, made0, is1, is2, is3, is4, at1, at2, at3, at4, to_j, to_i, is_first, is_last) Lies-exchanged

  -- an occupied index can be named in a link
  pub occupied-named : (most : ℕ) (greatest : Option ℕ) (c : Chain T) (i : ℕ) → IsSound most greatest c → is_some (entry_at c.entries i) ≡ true → named_of (Some i) ≡ Some i
  occupied-named most greatest c i sound occupied = grind (arith, common_steps, i, entry_at-absent, neighbour-above)
