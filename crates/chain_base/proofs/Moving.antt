-- An entry moves to another place in the list: its neighbours are linked to each other, and it is linked to its new ones.
use Rattle.std.proofs.Common.{◌≡◌, ◌≢◌, ℕ, ◌+◌, ◌≤◌, ◌==◌, List, [], ◌∷◌, ◌++◌, Option, Some, None, IsSome, is_some, sym, ap, ◌∙◌, subst, arith, if◌then◌else◌, option_map, ◌⊎◌, inl, inr, refl}
use Rattle.std.proofs.{lemmas.Bool.Decides.eqb_tells, lemmas.Grind.common_steps}
use Rattle.arena_base.specs.{Arena.Arena, Arena.slot, Pointer.named_of}
use Rattle.chain_base.specs.Chain.{Entry, Chain, IsDistinct, times, entry_at, first_or, last_or, link_at, without, IsSound}
use Rattle.chain_base.specs.{Layout.chain_of, Layout.relinked, Layout.linked_next, Layout.linked_prev, Layout.IsLaidOut, Insert.PutsBetween, Move.with_entry_moved, Move.list_with, Move.HoldsLinks, Link.Link}
use Rattle.chain_base.proofs.LaidOut.{IsChainIn, Alike, alike-next, alike-prev, alike-bridged, bridged, end_beside, link_amid, laid-links, relinked-apart, slot-relinked, slots-inserted, slots-removed}
use Rattle.chain_base.proofs.Lists.{Stands-occurs, entry_at-absent, entry_at-link, entry_at-some, linked-occurs, times-append, times-here, times-first, times-last, link_between-append, link_between-absent, same_index, other_index, last_or-append, first_or-append}
use Rattle.chain_base.proofs.{Steps.Lies, Steps.lies-alike, Steps.held-laid, Steps.first_or-end, Steps.last_or-end, Vacancy.held-is, Exchanging.occupied-named}

module _ {T : Type 0} where
  -- the link of an entry between two stretches
  link_at-amid : (xs : List (Entry T)) (e : Entry T) (ys : List (Entry T)) → times e.index (xs ++ e ∷ ys) ≤ 1 → link_at (xs ++ e ∷ ys) e.index ≡ Some (e.generation, link_amid xs e.item ys)
  link_at-amid xs e ys once = grind (arith, common_steps, times-append, times-here, link_between-append, link_between-absent, same_index)

  -- both writes of a seam keep the occupied indexes
  pub alike-over : (b a : Arena (Link T)) (left next right prev : Option ℕ) → Alike b a → Alike (bridged b left next right prev) a
  alike-over b a left next right prev same = alike-prev (linked_next b left next) a _ right prev refl (alike-next b a _ left next refl same)

  -- the ends of two stretches occur in the list of both
  pub ends-occur : (xs ys : List (Entry T)) (k : ℕ) → (last_or None xs ≡ Some k) ⊎ (first_or None ys ≡ Some k) → 1 ≤ times k (xs ++ ys)
  ends-occur xs ys k is = grind (arith, common_steps, times-last xs k, times-first ys k, times-append k xs ys)

  -- an entry between two stretches, if the indexes are distinct
  module _ (xs : List (Entry T)) (e : Entry T) (ys : List (Entry T)) (distinct : IsDistinct (xs ++ e ∷ ys)) where
    -- after its neighbours are linked to each other
    module _ (k : ℕ) (o : Option (ℕ × Link T)) (was : o ≡ link_at (xs ++ e ∷ ys) k) where
      abbrev closed_over : Option (ℕ × Link T) → Option (ℕ × Link T)
      closed_over p = relinked (last_or None xs) (first_or None ys) (first_or None ys) (last_or None xs) k p

      pub slots-closed : e.index ≢ k → closed_over o ≡ link_at (xs ++ ys) k
      slots-closed other = rw (other_index e.index k other) at (slots-removed xs e ys k o (distinct k) was)

      slot-kept : e.index ≡ k → closed_over o ≡ Some (e.generation, link_amid xs e.item ys)
      slot-kept same =
          let parts : times k xs + times k ys ≡ 0 = omega (arith, times-append k xs (e ∷ ys), times-here k e ys same, distinct k) in
          relinked-apart xs ys (first_or None ys) (last_or None xs) k o (omega (arith, parts)) (omega (arith, parts))
          ∙ was ∙ ap (link_at (xs ++ e ∷ ys)) (sym same) ∙ link_at-amid xs e ys (distinct e.index)

      -- and after it is linked between two others
      module _ (xs2 ys2 : List (Entry T)) (split : xs ++ ys ≡ xs2 ++ ys2) where
        abbrev lifted : Option (ℕ × Link T)
        lifted = relinked (Some e.index) (first_or None ys2) (Some e.index) (last_or None xs2) k (closed_over o)

        lifted-is : lifted ≡ (if e.index == k then Some (e.generation, link_amid xs2 e.item ys2) else closed_over (if e.index == k then None else o))
        lifted-is =
            elim (eqb_tells e.index k) [
              | inl h ↦ rw (h.0, slot-kept h.1) refl
              | inr h ↦ rw h.0 refl
            ]

        pub slots-with_entry_moved : relinked (last_or None xs2) (Some e.index) (first_or None ys2) (Some e.index) k lifted ≡ link_at (xs2 ++ e ∷ ys2) k
        slots-with_entry_moved =
            let sum : (j : ℕ) → times j xs + times j ys ≡ times j xs2 + times j ys2 = λ j. sym (times-append j xs ys) ∙ ap (times j) split ∙ times-append j xs2 ys2 in
            let absent : times e.index xs2 + times e.index ys2 ≡ 0
            = omega (arith, sum e.index, times-append e.index xs (e ∷ ys), times-here e.index e ys refl, distinct e.index) in
            ap (relinked (last_or None xs2) (Some e.index) (first_or None ys2) (Some e.index) k) lifted-is
            ∙ slots-inserted xs2 ys2 e k (closed_over (if e.index == k then None else o)) (omega (arith, absent)) (omega (arith, absent))
            (omega (arith, sum k, times-append k xs (e ∷ ys), distinct k))
            (slots-removed xs e ys k o (distinct k) was ∙ ap (λ es. link_at es k) split)

    times-put : (xs2 ys2 : List (Entry T)) → xs ++ ys ≡ xs2 ++ ys2 → (k : ℕ) → times k (xs2 ++ e ∷ ys2) ≡ times k (xs ++ e ∷ ys)
    times-put xs2 ys2 split k =
        omega (arith, sym (times-append k xs ys) ∙ ap (times k) split ∙ times-append k xs2 ys2, times-append k xs (e ∷ ys), times-append k xs2 (e ∷ ys2))

    -- the arena after the neighbours are linked to each other, and after the entry is linked between two others
    module _ (a : Arena (Link T)) (first last : Option ℕ) (laid : IsLaidOut a.slots first last (xs ++ e ∷ ys)) where
      abbrev pub closed : Arena (Link T)
      closed = bridged a (last_or None xs) (first_or None ys) (first_or None ys) (last_or None xs)

      pub closed-holds : HoldsLinks closed (xs ++ ys)
      closed-holds k there =
          slot-relinked a (last_or None xs) (first_or None ys) (first_or None ys) (last_or None xs) k
          ∙ slots-closed k (slot a k) (laid.links k) (λ same. absurd (omega (arith, times-append k xs ys, times-append k xs (e ∷ ys), times-here k e ys same, distinct k, there)))

      module _ (xs2 ys2 : List (Entry T)) (split : xs ++ ys ≡ xs2 ++ ys2) where
        abbrev pub freed : Arena (Link T)
        freed = bridged closed (Some e.index) (first_or None ys2) (Some e.index) (last_or None xs2)

        abbrev pub put : Arena (Link T)
        put = bridged freed (last_or None xs2) (Some e.index) (first_or None ys2) (Some e.index)

        put-laid : IsLaidOut put.slots (first_or (Some e.index) xs2) (last_or (Some e.index) ys2) (xs2 ++ e ∷ ys2)
        put-laid = laid-links _ _ _ _
            (λ k. slot-relinked freed (last_or None xs2) (Some e.index) (first_or None ys2) (Some e.index) k
            ∙ ap (relinked (last_or None xs2) (Some e.index) (first_or None ys2) (Some e.index) k)
            (slot-relinked closed (Some e.index) (first_or None ys2) (Some e.index) (last_or None xs2) k
            ∙ ap (relinked (Some e.index) (first_or None ys2) (Some e.index) (last_or None xs2) k)
            (slot-relinked a (last_or None xs) (first_or None ys) (first_or None ys) (last_or None xs) k))
            ∙ slots-with_entry_moved k (slot a k) (laid.links k) xs2 ys2 split)
            (λ k. omega (arith, times-put xs2 ys2 split k, distinct k))
            (sym (first_or-append None xs2 (e ∷ ys2))) (sym (last_or-append None xs2 (e ∷ ys2)))

        alike-put : Alike put a
        alike-put =
            alike-over freed a (last_or None xs2) (Some e.index) (first_or None ys2) (Some e.index)
            (alike-over closed a (Some e.index) (first_or None ys2) (Some e.index) (last_or None xs2) (alike-bridged a (last_or None xs) (first_or None ys) (first_or None ys) (last_or None xs)))

        abbrev pub first_closed : Option ℕ
        first_closed = end_beside (last_or None xs) first (first_or None ys)

        abbrev pub last_closed : Option ℕ
        last_closed = end_beside (first_or None ys) last (last_or None xs)

        pub Lies-put : Lies put (end_beside (last_or None xs2) first_closed (Some e.index)) (end_beside (first_or None ys2) last_closed (Some e.index))
            (record (chain_of a first) { entries = xs2 ++ e ∷ ys2 })
        Lies-put =
            let first1 : first_closed ≡ first_or None (xs ++ ys) = rw laid.first_is (first_or-end xs (e ∷ ys) (first_or None ys) ∙ sym (first_or-append None xs ys)) in
            let last1 : last_closed ≡ last_or None (xs ++ ys)
            = rw laid.last_is (rw (last_or-append None xs (e ∷ ys)) (last_or-end (e ∷ []) ys (last_or None xs) ∙ sym (last_or-append None xs ys))) in
            let first2 : end_beside (last_or None xs2) first_closed (Some e.index) ≡ first_or (Some e.index) xs2 = rw (first1, split) (first_or-end xs2 ys2 (Some e.index)) in
            let last2 : end_beside (first_or None ys2) last_closed (Some e.index) ≡ last_or (Some e.index) ys2 = rw (last1, split) (last_or-end xs2 ys2 (Some e.index)) in
            rw (first2, last2) (lies-alike a put _ _ _ alike-put put-laid)

  -- the chain c is in an arena, and the entry at index i, which holds e, is between two stretches of its list
  pub record Stood (a : Arena (Link T)) (first last : Option ℕ) (c : Chain T) (i : ℕ) (e : ℕ × Link T) : Type 0 where
    pub laid : IsLaidOut a.slots first last c.entries
    pub seen : chain_of a first ≡ c
    pub held : slot a i ≡ Some e
    pub front : List (Entry T)
    pub entry : Entry T
    pub back : List (Entry T)
    pub split : c.entries ≡ front ++ entry ∷ back
    pub rest : without i c.entries ≡ front ++ back
    pub index : i ≡ entry.index
    pub was : e ≡ (entry.generation, link_amid front entry.item back)

  module _ (a : Arena (Link T)) (first last : Option ℕ) (c : Chain T) (i : ℕ) (e : ℕ × Link T) (seen : chain_of a first ≡ c) (laid : IsChainIn a first last) where
    pub stood : slot a i ≡ Some e → Stood a first last c i e
    stood held =
        let laid1 : IsLaidOut a.slots first last c.entries = subst (λ (d : Chain T). IsLaidOut a.slots first last d.entries) seen laid in
        let s = Stands-occurs c.entries i (linked-occurs _ i e (sym (laid1.links i) ∙ held)) in
        let laid2 = subst (λ (es : List (Entry T)). IsLaidOut a.slots first last es) s.split laid1 in
        let found = ap (slot a) (sym s.here) ∙ laid2.links s.entry.index ∙ link_at-amid s.front s.entry s.back (laid2.distinct s.entry.index) in
        let same : (s.entry.generation, link_amid s.front s.entry.item s.back) ≡ e = cc in
        record { laid = laid1; seen = seen; held = held; front = s.front; entry = s.entry; back = s.back; split = s.split; rest = s.left; index = sym s.here; was = sym same }

  module _ {a : Arena (Link T)} {first last : Option ℕ} {c : Chain T} {i : ℕ} {e : ℕ × Link T} (st : Stood a first last c i e) where
    laid_split : IsLaidOut a.slots first last (st.front ++ st.entry ∷ st.back)
    laid_split = subst (λ (es : List (Entry T)). IsLaidOut a.slots first last es) st.split st.laid

    -- an index of the list is occupied in each arena with entries at the same indexes
    occurs-held : (b : Arena (Link T)) → Alike b a → (k : ℕ) → 1 ≤ times k c.entries → IsSome (slot b k)
    occurs-held b same k there = same.held k ∙ held-is a.slots _ k (held-laid a.slots first last _ st.laid) there

    rest-occurs : (k : ℕ) → 1 ≤ times k (without i c.entries) → 1 ≤ times k c.entries
    rest-occurs k there = rw st.split (omega (arith, times-append k st.front st.back, times-append k st.front (st.entry ∷ st.back), ap (times k) st.rest, there))

    pub held-beside : (k : ℕ) → (e.1.prev ≡ Some k) ⊎ (e.1.next ≡ Some k) → IsSome (slot a k)
    held-beside k is =
        let there = ends-occur st.front st.back k (rw st.was at is) in
        occurs-held a (record { held = λ k. refl; long = refl; kept = refl }) k (rest-occurs k (rw st.rest there))

    pub held-itself : (b : Arena (Link T)) → Alike b a → IsSome (slot b i)
    held-itself b same = same.held i ∙ ap is_some st.held

    module _ (place : Entry T → List (Entry T)) (left right : Option ℕ) (at : PutsBetween (without i c.entries) place left right) where
      pub held-place : (b : Arena (Link T)) → Alike b a → (k : ℕ) → (left ≡ Some k) ⊎ (right ≡ Some k) → IsSome (slot b k)
      held-place b same k is =
          let there = ends-occur at.front at.back k (rw (at.prev_is, at.next_is) at is) in
          occurs-held b same k (rest-occurs k (rw at.split there))

    -- given what the writes of links ensure, first the neighbours are linked to each other
    module _ (most : ℕ) (greatest : Option ℕ) (sound : IsSound most greatest c) (prev next : Option ℕ) (prev_is : prev ≡ e.1.prev) (next_is : next ≡ e.1.next)
        (named_prev : named_of e.1.prev ≡ e.1.prev) (named_next : named_of e.1.next ≡ e.1.next)
        (b1 : Arena (Link T)) (made1 : b1 ≡ bridged a prev (named_of next) next (named_of prev)) where
      abbrev closed_arena : Arena (Link T)
      closed_arena = bridged a (last_or None st.front) (first_or None st.back) (first_or None st.back) (last_or None st.front)

      closed-is : b1 ≡ closed_arena
      closed-is =
          let prev2 : prev ≡ last_or None st.front = prev_is ∙ ap (λ (x : ℕ × Link T). x.1.prev) st.was in
          let next2 : next ≡ first_or None st.back = next_is ∙ ap (λ (x : ℕ × Link T). x.1.next) st.was in
          let named_prev2 : named_of prev ≡ prev = rw prev_is named_prev in
          let named_next2 : named_of next ≡ next = rw next_is named_next in
          rw (made1, named_prev2, named_next2, prev2, next2) refl

      pub closed-alike : Alike b1 a
      closed-alike = rw closed-is (alike-bridged a (last_or None st.front) (first_or None st.back) (first_or None st.back) (last_or None st.front))

      pub closed-holding : HoldsLinks b1 (without i c.entries)
      closed-holding = rw (closed-is, st.rest) (closed-holds st.front st.entry st.back laid_split.distinct a first last laid_split)

      module _ (place : List (Entry T) → Entry T → List (Entry T)) (left right : Option ℕ) (at : PutsBetween (without i c.entries) (place (without i c.entries)) left right) where
        with_entry_moved-is : with_entry_moved c i place ≡ record c { entries = at.front ++ st.entry ∷ at.back }
        with_entry_moved-is =
            let found : entry_at c.entries i ≡ Some (e.0, e.1.item)
            = entry_at-link None None c.entries i ∙ ap (option_map (λ (x : ℕ × Link T). (x.0, x.1.item))) (sym (st.laid.links i) ∙ st.held) in
            let whole : record { index = i; generation = e.0; item = e.1.item } ≡ st.entry = rw (st.index, st.was) refl in
            ap (λ es. record c { entries = es }) (ap (λ o. list_with place i o (without i c.entries)) found ∙ ap (place (without i c.entries)) whole ∙ at.puts st.entry)

        named-occurs : (o : Option ℕ) → ((k : ℕ) → o ≡ Some k → 1 ≤ times k c.entries) → named_of o ≡ o
        named-occurs None there = refl
        named-occurs (Some k) there =
            occupied-named most greatest c k sound
            (entry_at-some c.entries k ∙ ap is_some (sym (st.laid.links k)) ∙ occurs-held a (record { held = λ j. refl; long = refl; kept = refl }) k (there k refl))

        place-occurs : (k : ℕ) → (left ≡ Some k) ⊎ (right ≡ Some k) → 1 ≤ times k c.entries
        place-occurs k is = rest-occurs k (rw at.split (ends-occur at.front at.back k (rw (at.prev_is, at.next_is) at is)))

        -- then the entry is linked between its new neighbours
        module _ (first1 last1 : Option ℕ) (first1_is : first1 ≡ end_beside prev first next) (last1_is : last1 ≡ end_beside next last prev)
            (b2 b3 b4 : Arena (Link T)) (made2 : b2 ≡ linked_next b1 (Some i) (named_of right)) (made3 : b3 ≡ linked_prev b2 (Some i) (named_of left))
            (made4 : b4 ≡ bridged b3 left (named_of (Some i)) right (named_of (Some i))) (first2 last2 : Option ℕ)
            (first2_is : first2 ≡ end_beside left first1 (Some i)) where
          pub Moves-linked : last2 ≡ end_beside right last1 (Some i) → Lies b4 first2 last2 (with_entry_moved c i place)
          Moves-linked last2_is =
              let split : st.front ++ st.back ≡ at.front ++ at.back = sym st.rest ∙ at.split in
              let done = Lies-put st.front st.entry st.back laid_split.distinct a first last laid_split at.front at.back split in
              let named_left : named_of left ≡ left = named-occurs left (λ k is. place-occurs k (inl is)) in
              let named_right : named_of right ≡ right = named-occurs right (λ k is. place-occurs k (inr is)) in
              let here : named_of (Some i) ≡ Some i
              = named-occurs (Some i) (λ k is. let same : i ≡ k = cc in rw (← same) (linked-occurs c.entries i e (sym (st.laid.links i) ∙ st.held))) in
              let prev2 : prev ≡ last_or None st.front = prev_is ∙ ap (λ (x : ℕ × Link T). x.1.prev) st.was in
              let next2 : next ≡ first_or None st.back = next_is ∙ ap (λ (x : ℕ × Link T). x.1.next) st.was in
              let j = st.entry.index in
              let before = last_or None at.front in
              let behind = first_or None at.back in
              let two : b2 ≡ linked_next closed_arena (Some j) behind
              = made2 ∙ ap (λ (b : Arena (Link T)). linked_next b (Some i) (named_of right)) closed-is
              ∙ ap (λ (o : Option ℕ). linked_next closed_arena (Some i) o) (named_right ∙ at.next_is) ∙ ap (λ (n : ℕ). linked_next closed_arena (Some n) behind) st.index in
              let three : b3 ≡ bridged closed_arena (Some j) behind (Some j) before
              = made3 ∙ ap (λ (b : Arena (Link T)). linked_prev b (Some i) (named_of left)) two
              ∙ ap (λ (o : Option ℕ). linked_prev (linked_next closed_arena (Some j) behind) (Some i) o) (named_left ∙ at.prev_is)
              ∙ ap (λ (n : ℕ). linked_prev (linked_next closed_arena (Some j) behind) (Some n) before) st.index in
              let free : Arena (Link T) = bridged closed_arena (Some j) behind (Some j) before in
              let arena : b4 ≡ bridged free before (Some j) behind (Some j)
              = made4 ∙ ap (λ (b : Arena (Link T)). bridged b left (named_of (Some i)) right (named_of (Some i))) three
              ∙ ap (λ (o : Option ℕ). bridged free left o right o) (here ∙ ap Some st.index)
              ∙ ap (λ (o : Option ℕ). bridged free o (Some j) right (Some j)) at.prev_is
              ∙ ap (λ (o : Option ℕ). bridged free before (Some j) o (Some j)) at.next_is in
              let first_at : first2 ≡ end_beside before (end_beside (last_or None st.front) first (first_or None st.back)) (Some j)
              = first2_is ∙ ap (λ (o : Option ℕ). end_beside left o (Some i)) first1_is ∙ rw (prev2, next2, at.prev_is, st.index) refl in
              let last_at : last2 ≡ end_beside behind (end_beside (first_or None st.back) last (last_or None st.front)) (Some j)
              = last2_is ∙ ap (λ (o : Option ℕ). end_beside right o (Some i)) last1_is ∙ rw (prev2, next2, at.next_is, st.index) refl in
              let chain : with_entry_moved c i place ≡ record (chain_of a first) { entries = at.front ++ st.entry ∷ at.back }
              = with_entry_moved-is ∙ ap (λ (d : Chain T). record d { entries = at.front ++ st.entry ∷ at.back }) (sym st.seen) in
              rw (arena, first_at, last_at, chain) done

  -- an entry of a list, if the slots hold the list's links
  module _ (a : Arena (Link T)) (es : List (Entry T)) (holds : HoldsLinks a es) (k : ℕ) (there : IsSome (entry_at es k)) where
    listed-held : slot a k ≡ link_at es k
    listed-held = holds k (grind (arith, common_steps, entry_at-absent es k))

    pub held-listed : IsSome (slot a k)
    held-listed = ap is_some listed-held ∙ sym (entry_at-some es k) ∙ there

    pub linked-listed : (e : ℕ × Link T) → slot a k ≡ Some e → option_map (λ x. x.1) (link_at es k) ≡ Some e.1
    linked-listed e held = ap (option_map (λ (x : ℕ × Link T). x.1)) (sym listed-held ∙ held)
