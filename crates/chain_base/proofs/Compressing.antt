-- A compression of a chain: the entries get the compressed indexes of their neighbours, the arena is compressed, and the other neighbours
-- are linked back.
use Rattle.std.proofs.Common.{◌≡◌, ℕ, zero, suc, ◌+◌, ◌-◌, ◌<◌, ◌≤◌, true, List, [], ◌∷◌, length, map, take, slice_get, slice_index_or, Option, Some, None, is_some, count_by, cond, get_or, refl, sym, ap, ◌∙◌, arith, inl, inr, add-one, option_map, option_and_then}
use Rattle.std.proofs.lemmas.Option.{slice_get-map, slice_get_within, get_or_from_slice_get}
use Rattle.std.proofs.{lemmas.List.Sums.sum_by-cons, lemmas.List.Sums.count_by-le-length, lemmas.Bool.Decides.eqb_tells, lemmas.Grind.common_steps, lemmas.Bool.false≢true, lemmas.List.length-map}
use Rattle.arena_base.specs.{Arena.Arena, Arena.slot, Arena.arena_capacity, Arena.IsFresh, Walk.entries_rising as slots_rising}
use Rattle.chain_base.specs.Compression.{lesser, compressed_index, rising_among, moved, compressed, IsCompression}
use Rattle.chain_base.specs.Naming.{named_neighbour, bare, compressed_index_in, IsPaired, NamesCompressedIndexes, CompressesItems}
use Rattle.chain_base.specs.Chain.{Entry, Chain, IsDistinct, times, entry_at, last_or, link_at, vacant_indexes}
use Rattle.chain_base.specs.{declared.chain.compress.Side.TheVariants.Before, declared.chain.compress.Side.TheVariants.After, Link.Link}
use Rattle.chain_base.specs.Layout.{chain_of, with_next, with_prev, IsLaidOut}
use Rattle.chain_base.proofs.Ranking.{lesser-all, lesser-most, place-found, place-injective, place-slots, counted-held, length-entries, entry-placed, compressed-at, compressed-first, compressed-place, compressed-length, with_era, among-arena}
use Rattle.chain_base.proofs.Renumbering.{beside, followed, times-source, link_at-renumbered, distinct-renumbered, end-renumbered, times-changed}
use Rattle.chain_base.proofs.Vacancy.{HoldIndexes, held-within, held-link, times-link, vacant-held, held-some}
use Rattle.chain_base.proofs.{Lists.option_map-itself, Lists.link_between-absent, Lists.entry_at-link, Sound.first-vacant}
use Rattle.chain_base.proofs.{Naming.paired, Naming.learnt, Naming.end-learnt, LaidOut.laid-links, LaidOut.entries_met-laid_out, Steps.Lies, Steps.lies, Steps.held-laid}

module _ {T : Type 0} where
  -- links with the neighbours of those that were shown
  abbrev HaveEnds : List (Link T) → List (ℕ × ℕ × Link T) → Type 0
  HaveEnds ls rs = (map (λ l. l.prev) ls ≡ map (λ r. r.2.prev) rs) × (map (λ l. l.next) ls ≡ map (λ r. r.2.next) rs)

  module _ (r : ℕ × ℕ × Link T) where
    link-at : (ls : List (Link T)) (rs : List (ℕ × ℕ × Link T)) → HaveEnds ls rs → (k : ℕ) → slice_get rs k ≡ Some r
        → (l : Link T) × (slice_get ls k ≡ Some l) × (l.prev ≡ r.2.prev) × (l.next ≡ r.2.next)
    link-at ls [] ends k is = absurd cc
    link-at [] (s ∷ rs) ends k is = absurd (let prev = ends.0 in cc)
    link-at (l ∷ ls) (s ∷ rs) ends zero is = let prev = ends.0 in let next = ends.1 in (l, refl, (cc), (cc))
    link-at (l ∷ ls) (s ∷ rs) ends (suc k) is = let prev = ends.0 in let next = ends.1 in link-at ls rs ((cc), (cc)) k is

  link-is : (l : Link T) (item : T) (prev next : Option ℕ) → item ≡ l.item → l.prev ≡ prev → l.next ≡ next → l ≡ record { item = item; prev = prev; next = next }
  link-is l item prev next i p n = rw (i, ← p, ← n) refl

  fewer : (slots : List (Option (ℕ × Link T))) → 0 < length slots → get_or slots 0 None ≡ None → count_by is_some slots < length slots
  fewer slots some none = grind (arith, common_steps, sum_by-cons, count_by-le-length)

  -- links with any previous neighbours, whose next neighbours have their compressed indexes
  record KeepsNext (o : Option (ℕ × Link T)) (p : Option ℕ) : Type 0 where
    next : option_and_then (λ e. e.1.next) (option_map (with_prev p) o) ≡ option_and_then (λ e. e.1.next) o
    held : is_some (option_map (with_prev p) o) ≡ is_some o
    again : option_map (with_prev p) (option_map (with_prev p) o) ≡ option_map (with_prev p) o
    back : option_map (with_prev (option_map (λ i. i) (option_and_then (λ e. e.1.prev) o))) (option_map (with_prev p) o) ≡ o

  next-kept : (o : Option (ℕ × Link T)) (p : Option ℕ) → KeepsNext o p
  next-kept o p = grind (arith, common_steps, option_map-itself)

  unlinked : (o : Option (ℕ × Link T)) → option_and_then (λ e. e.1.next) o ≡ None → option_map (with_next None) o ≡ o
  unlinked o none = grind (arith, common_steps)

  abbrev to_place : (ℕ → ℕ) → ℕ × Link T → ℕ × Link T
  to_place place e = (e.0, record e.1 { next = option_map place e.1.next })

  linked : (place : ℕ → ℕ) (o : Option (ℕ × Link T)) → option_map (with_next (option_map place (option_and_then (λ e. e.1.next) o))) o ≡ option_map (to_place place) o
  linked place o = grind (arith, common_steps)

  placed-entry : (place : ℕ → ℕ) (o : Option (ℕ × Link T)) → option_map {U = ℕ × T} (λ e. (e.0, e.1.item)) (option_map (to_place place) o) ≡ option_map (λ e. (e.0, e.1.item)) o
  placed-entry place o = grind (arith, common_steps)

  module _ (a0 : Arena (Link T)) (first last : Option ℕ) (es : List (Entry T)) (laid : IsLaidOut a0.slots first last es) where
    abbrev place : ℕ → ℕ
    place i = compressed_index es i

    held0 : HoldIndexes a0.slots es
    held0 = held-laid a0.slots first last es laid

    place-first : (i : ℕ) → 1 ≤ times i es → compressed_index_in a0 i ≡ place i
    place-first i occurs = ap (λ n. n + 1) (place-slots a0.slots es held0 i)

    names0 : (i : ℕ) → named_neighbour Before a0 i ≡ beside Before es i
    names0 i = ap (option_and_then (λ e. e.1.prev)) (laid.links i)

    pub paired-before : IsPaired Before a0
    paired-before = paired Before a0 es laid.distinct held0 names0

    module _ (a1 : Arena (Link T)) (end1 : Option ℕ) (n1 : NamesCompressedIndexes Before a0 a1 end1) where
      -- an entry's link names the compressed index of the next one
      after1 : (k : ℕ) → slot a1 k ≡ option_map (to_place place) (link_at es k)
      after1 k =
          learnt Before a0 es laid.distinct held0 names0 a1 end1 n1 place place-first k (λ none. rw (laid.links k) (unlinked (link_at es k) none))
          ∙ rw (laid.links k) (linked place (link_at es k))

      held1 : HoldIndexes a1.slots es
      held1 k = held0 k ∙ ap (λ b. cond b 1 0) (sym (n1.held k))

      module _ {P M : Type 0} (numbers : P → ℕ × ℕ) (step : M → P → T → P → T → M → Type 0) (g : ℕ) (m : M) (a2 : Arena (Link T)) (c : CompressesItems numbers step g m a1 a2) (begins : take 1 a0.slots ≡ None ∷ []) where
        abbrev ranked : List (ℕ × ℕ × Link T)
        ranked = slots_rising a1 0

        abbrev items : List T
        items = map (λ l. l.item) c.links

        abbrev alter : ℕ → ℕ × T → ℕ × T
        alter x p = (g, slice_index_or items (lesser es x) p.1)

        abbrev now : List (Entry T)
        now = map (moved es g items) es

        vacant1 : (get_or a1.slots 0 None ≡ None) × (0 < length a1.slots)
        vacant1 = let v = first-vacant a0.slots begins in (after1 0 ∙ ap (option_map (to_place place)) (sym (laid.links 0) ∙ v.0), omega (arith, n1.within, v.1))

        many : length c.links ≡ length es
        many = sym (length-map c.links (λ l. l.prev)) ∙ ap length c.before ∙ length-map ranked (λ e. e.2.prev) ∙ length-entries 0 a1.slots ∙ counted-held a1.slots es held1

        fits : length c.links < length a1.slots
        fits = omega (arith, many, counted-held a1.slots es held1, fewer a1.slots vacant1.1 vacant1.0)

        at2 : (k : ℕ) → slot a2 (suc k) ≡ option_map (with_era g) (slice_get c.links k)
        at2 k = ap (λ ss. get_or ss (suc k) None) c.after.slots ∙ compressed-at (length a1.slots) g c.links k fits

        -- an entry's link moved to its compressed index
        module _ (x : ℕ) where
          after2 : (e : ℕ × Link T) → link_at es x ≡ Some e
              → slot a2 (place x) ≡ Some (g, record { item = slice_index_or items (lesser es x) e.1.item; prev = e.1.prev; next = option_map place e.1.next })
          after2 e is =
              let ranks = rw (place-slots a1.slots es held1 x) at (entry-placed 0 a1.slots x (to_place place e) (rw is at (after1 x))) in
              let l = link-at _ c.links ranked (c.before, c.behind) (lesser es x) ranks in
              let item : slice_index_or items (lesser es x) e.1.item ≡ l.0.item =
              get_or_from_slice_get items (lesser es x) l.0.item e.1.item (slice_get-map (λ (l : Link T). l.item) c.links (lesser es x) ∙ ap (option_map (λ l. l.item)) l.1) in
              ap (slot a2) (add-one (lesser es x)) ∙ (at2 (lesser es x) ∙ ap (option_map (with_era g)) l.1
              ∙ ap (λ (l : Link T). Some (g, l)) (link-is l.0 (slice_index_or items (lesser es x) e.1.item) e.1.prev (option_map place e.1.next) item l.2 l.3))

        -- each entry of the compressed arena comes from the list
        source2 : (k : ℕ) → is_some (slot a2 k) ≡ true → (x : ℕ) × (place x ≡ k) × (1 ≤ times x es)
        source2 zero held = absurd (false≢true (sym (ap (λ ss. is_some (get_or ss 0 None)) c.after.slots ∙ ap is_some (compressed-first (length a1.slots) (map (λ l. Some (with_era g l)) c.links))) ∙ held))
        source2 (suc k) held =
            let l = held-some (slice_get c.links k) (grind (arith, common_steps, at2 k, held)) in
            let all = lesser-all es (length a1.slots) (λ i there. held-within a1.slots es i held1 there) in
            let x = place-found es laid.distinct (length a1.slots) k (omega (arith, many, all, slice_get_within c.links k l.0 l.1)) in
            (x.0, let level = x.2 in omega (arith, level), x.3)

        distinct2 : IsDistinct now
        distinct2 = distinct-renumbered place alter es laid.distinct (place-injective es)

        -- the arena holds the links of the new list, except that previous neighbours have their old names
        abbrev HoldsNow : ℕ → Type 0
        HoldsNow k = (p : Option ℕ) × (slot a2 k ≡ option_map (with_prev p) (link_at now k)) × (beside Before now k ≡ None → p ≡ None)

        met2 : (k : ℕ) → HoldsNow k
        met2 k = elim (eqb_tells (times k now) 0) [
          | inl h ↦ (None, vacant (slot a2 k) refl h.1 ∙ sym (ap (option_map (with_prev None)) (link_between-absent None None now k h.1)), λ none. refl)
          | inr h ↦ let x = times-source place alter es k (omega (arith, h.1)) in let e = held-link es x.0 x.2 in at x.0 x.1 e.0 e.1 (link_at-renumbered place alter es laid.distinct (place-injective es) x.0 x.2)
        ]
          where
            vacant : (o : Option (ℕ × Link T)) → slot a2 k ≡ o → times k now ≡ 0 → slot a2 k ≡ None
            vacant None is absent = is
            vacant (Some e) is absent =
                let x = source2 k (ap is_some is) in
                absurd (let there = x.2 in let gone = rw (← x.1) at absent in omega (arith, there, gone, times-changed place alter es laid.distinct (place-injective es) x.0 x.2))

            unmapped : (o : Option ℕ) → option_map place o ≡ None → o ≡ None
            unmapped o none = grind (arith, common_steps)

            at : (x : ℕ) → place x ≡ k → (e : ℕ × Link T) → link_at es x ≡ Some e → link_at now (place x) ≡ option_map (followed place alter x) (link_at es x) → HoldsNow k
            at x is e link now_is = rw (← is, now_is, link) (e.1.prev, after2 x e link, λ none. unmapped e.1.prev none)

        held2 : HoldIndexes a2.slots now
        held2 k = let m = met2 k in times-link now distinct2 k ∙ ap (λ b. cond b 1 0) (sym (ap is_some m.1 ∙ (next-kept (link_at now k) m.0).held))

        names2 : (k : ℕ) → named_neighbour After a2 k ≡ beside After now k
        names2 k = let m = met2 k in ap (option_and_then (λ e. e.1.next)) m.1 ∙ (next-kept (link_at now k) m.0).next

        pub paired-after : IsPaired After a2
        paired-after = paired After a2 now distinct2 held2 names2

        -- compressed indexes are indexes now
        place-second : (i : ℕ) → 1 ≤ times i now → compressed_index_in a2 i ≡ i
        place-second i occurs =
            let x = times-source place alter es i occurs in
            rw (← x.1) (ap (λ ss. count_by is_some (take (place x.0) ss) + 1) c.after.slots
            ∙ ap (λ n. n + 1) (compressed-place (length a1.slots) g c.links (lesser es x.0) fits (omega (arith, many, lesser-most es x.0))))

        module _ (a3 : Arena (Link T)) (end2 : Option ℕ) (n2 : NamesCompressedIndexes After a2 a3 end2) where
          links3 : (k : ℕ) → slot a3 k ≡ link_at now k
          links3 k =
              let m = met2 k in
              learnt After a2 now distinct2 held2 names2 a3 end2 n2 (λ i. i) place-second k (λ none. rw (m.1, m.2 none) (next-kept (link_at now k) None).again)
              ∙ rw m.1 (next-kept (link_at now k) m.0).back

          laid-compressed : IsLaidOut a3.slots end1 end2 now
          laid-compressed = laid-links a3.slots end1 end2 now links3 distinct2
              (end-learnt Before a0 es laid.distinct held0 names0 a1 end1 n1 place place-first ∙ sym (end-renumbered place alter Before es))
              (end-learnt After a2 now distinct2 held2 names2 a3 end2 n2 (λ i. i) place-second ∙ option_map-itself (last_or None now))

          -- the entries by rising index, as in the list
          rising : map (bare numbers step g) ranked ≡ rising_among es 1 (arena_capacity a0)
          rising = among-arena (λ (l : Link T). l.item) (entry_at es) (rising_among es) (λ i. refl) (λ i n. refl) a1.slots
              (entry_at-link None None es 0 ∙ ap (option_map (λ e. (e.0, e.1.item))) (sym (laid.links 0) ∙ (first-vacant a0.slots begins).0))
              (λ i. ap (option_map (λ e. (e.0, e.1.item))) (after1 i) ∙ placed-entry place (link_at es i) ∙ sym (entry_at-link None None es i))
              ∙ ap (λ n. rising_among es 1 (n - 1)) n1.within

          pub Lies-compressed : IsFresh a2 → Lies a3 end1 end2 (compressed (chain_of a0 first) g items)
          Lies-compressed fresh =
              let long : length a2.slots ≡ length a0.slots = ap length c.after.slots ∙ compressed-length (length a1.slots) g c.links fits ∙ n1.within in
              rw (entries_met-laid_out a0 first last es laid) (lies a3 end1 end2
              (record { entries = now; capacity = arena_capacity a0; vacant = vacant_indexes now (arena_capacity a0); generation = g; maximum = a0.maximum })
              laid-compressed (ap (λ n. n - 1) (n2.within ∙ long))
              (ap (λ (a : Arena (Link T)). a.vacant) n2.kept ∙ fresh ∙ vacant-held a2.slots now held2 ∙ ap (λ n. vacant_indexes now (n - 1)) long)
              (ap (λ (a : Arena (Link T)). a.generation) n2.kept ∙ c.after.generation)
              (ap (λ (a : Arena (Link T)). a.maximum) n2.kept ∙ c.after.maximum ∙ ap (λ (a : Arena (Link T)). a.maximum) n1.kept))

          pub chain-compressed : IsFresh a2 → IsCompression numbers step g m (chain_of a0 first) (chain_of a3 end1)
          chain-compressed fresh = record { items = items; last = c.last; calls = rw (entries_met-laid_out a0 first last es laid, ← rising) c.calls; after = (Lies-compressed fresh).chain }

-- a compression of a chain that is seen in another way
module _ {P T M : Type 0} (numbers : P → ℕ × ℕ) (step : M → P → T → P → T → M → Type 0) (m : M) (seen old new : Chain T) where
  pub compression-of : (g h : ℕ) → seen ≡ old → g ≡ h → IsCompression numbers step g m seen new → IsCompression numbers step h m old new
  compression-of g h is same c = grind (arith, common_steps)
