-- Each step of a chain keeps its list laid out in the arena.
use Rattle.std.proofs.Common.{◌≡◌, ℕ, ◌+◌, ◌<◌, ◌≤◌, ◌==◌, List, ◌∷◌, ◌++◌, length, Option, Some, None, is_some, sym, ap, ◌∙◌, arith, if◌then◌else◌, get_or, true, option_map}
use Rattle.std.proofs.{lemmas.List.Sums.count_by-le-length, lemmas.Grind.common_steps}
use Rattle.arena_base.specs.Arena.{Arena, slot, with_slot, with_entry_at, removed as arena_removed}
use Rattle.chain_base.specs.Layout.{chain_of, entries_met, linked_next, linked_prev, relinked, IsLaidOut}
use Rattle.chain_base.specs.{Chain.Entry, Chain.IsDistinct, Chain.times, Chain.first_or, Chain.last_or, Chain.link_at, Link.Link}
use Rattle.chain_base.proofs.Lists.{names_tells, same_index, times-append, times-here, times-there, times-last, times-first, first_or-append, last_or-append, link_between-append, link_between-absent, times-unlinked, seam-relinked, IsRow-links, entries_met-row, changed_at, changed_link, link_between-changed_at, same-changed_at}
use Rattle.chain_base.proofs.{Ranking.counted-held, Vacancy.held-links}

-- the new end of the list after an entry comes or goes: the old one if another entry is on that side, else the other one
abbrev pub end_beside : Option ℕ → Option ℕ → Option ℕ → Option ℕ
end_beside beside old new = if is_some beside then old else new

module _ {T : Type 0} where
  -- the arena holds the entries on the way from this first index, up to this last one
  abbrev pub IsChainIn : Arena (Link T) → Option ℕ → Option ℕ → Type 0
  IsChainIn a first last = IsLaidOut a.slots first last (chain_of a first).entries

  -- slots that hold exactly a list's links, between these ends
  module _ (slots : List (Option (ℕ × Link T))) (first last : Option ℕ) (es : List (Entry T))
      (links : (i : ℕ) → get_or slots i None ≡ link_at es i) where
    pub laid-links : IsDistinct es → first ≡ first_or None es → last ≡ last_or None es → IsLaidOut slots first last es
    laid-links distinct first_is last_is =
        record { links = links; distinct = distinct; first_is = first_is; last_is = last_is; counted = counted-held slots es (held-links slots es distinct links) }

  -- slots that hold the links of a list's indexes, and nothing else
  module _ (slots : List (Option (ℕ × Link T))) (first last : Option ℕ) (es : List (Entry T))
      (links : (i : ℕ) → 1 ≤ times i es → get_or slots i None ≡ link_at es i)
      (back : (i : ℕ) → is_some (get_or slots i None) ≡ true → 1 ≤ times i es) where
    pub laid-held : IsDistinct es → first ≡ first_or None es → last ≡ last_or None es → IsLaidOut slots first last es
    laid-held = laid-links slots first last es (λ i. grind (arith, common_steps, links i, back i, link_between-absent None None es i))

  -- what the slots hold after one is filled or emptied
  pub slot-written : (a : Arena (Link T)) (j k : ℕ) (o : Option (ℕ × Link T)) → j < length a.slots → slot (with_slot a j o) k ≡ (if j == k then o else slot a k)
  slot-written a j k o within = grind (arith, common_steps)

  -- a map of the entry in a slot
  pub slot-mapped : (a : Arena (Link T)) (i k : ℕ) (f : ℕ × Link T → ℕ × Link T) → slot (with_slot a i (option_map f (slot a i))) k ≡ (if i == k then option_map f (slot a k) else slot a k)
  slot-mapped a i k f = grind (arith, common_steps)

  -- what the slots hold after both writes of a seam
  pub slot-relinked : (a : Arena (Link T)) (left next right prev : Option ℕ) (k : ℕ) → slot (linked_prev (linked_next a left next) right prev) k ≡ relinked left next right prev k (slot a k)
  slot-relinked a left next right prev k = grind (arith, common_steps)

  -- the way from the first index leads to exactly these entries
  pub entries_met-laid_out : (a : Arena (Link T)) (first last : Option ℕ) (es : List (Entry T)) → IsLaidOut a.slots first last es → entries_met (slot a) (length a.slots) first ≡ es
  entries_met-laid_out a first last es laid =
      grind (arith, common_steps, IsRow-links (slot a) None es laid.distinct, count_by-le-length is_some a.slots, entries_met-row (slot a) None es (length a.slots))

  pub IsLaidOut-walked : (a : Arena (Link T)) (first last : Option ℕ) (es : List (Entry T)) → IsLaidOut a.slots first last es → IsChainIn a first last
  IsLaidOut-walked a first last es laid = rw (entries_met-laid_out a first last es laid) laid

  -- two arenas have entries at the same indexes, and differ in their slots alone
  pub record Alike (a b : Arena (Link T)) : Type 0 where
    pub held : (k : ℕ) → is_some (slot a k) ≡ is_some (slot b k)
    pub long : length a.slots ≡ length b.slots
    pub kept : a ≡ record b { slots = a.slots }

  pub alike-next : (a b d : Arena (Link T)) (at v : Option ℕ) → d ≡ linked_next a at v → Alike a b → Alike d b
  alike-next a b d at v made same = grind (arith, common_steps)

  pub alike-prev : (a b d : Arena (Link T)) (at v : Option ℕ) → d ≡ linked_prev a at v → Alike a b → Alike d b
  alike-prev a b d at v made same = grind (arith, common_steps)

  -- the arena after `left`, if any, is linked on to `next`, and `right` back to `prev`
  abbrev pub bridged : Arena (Link T) → Option ℕ → Option ℕ → Option ℕ → Option ℕ → Arena (Link T)
  bridged a left next right prev = linked_prev (linked_next a left next) right prev

  pub alike-bridged : (a : Arena (Link T)) (left next right prev : Option ℕ) → Alike (bridged a left next right prev) a
  alike-bridged a left next right prev = grind (arith, common_steps, alike-prev, alike-next)

  -- the two writes of a seam change nothing at an index on neither side
  pub relinked-apart : (xs ys : List (Entry T)) (next prev : Option ℕ) (i : ℕ) (o : Option (ℕ × Link T)) → times i xs ≡ 0 → times i ys ≡ 0 → relinked (last_or None xs) next (first_or None ys) prev i o ≡ o
  relinked-apart xs ys next prev i o apart_left apart_right = grind (arith, common_steps, names_tells (last_or None xs) i, names_tells (first_or None ys) i, times-last xs i, times-first ys i)

  -- the link of an item between two stretches
  abbrev pub link_amid : List (Entry T) → T → List (Entry T) → Link T
  link_amid xs item ys = record { item = item; prev = last_or None xs; next = first_or None ys }

  -- the arena of a chain after an insertion between two stretches
  abbrev pub joined : Arena (Link T) → ℕ → List (Entry T) → List (Entry T) → Arena (Link T)
  joined a j xs ys = bridged a (last_or None xs) (Some j) (first_or None ys) (Some j)

  -- and after a removal
  abbrev pub closed : Arena (Link T) → List (Entry T) → List (Entry T) → Arena (Link T)
  closed a xs ys = bridged a (last_or None xs) (first_or None ys) (first_or None ys) (last_or None xs)

  -- what the slots hold after an insertion between two stretches
  module _ (xs ys : List (Entry T)) (e : Entry T) (k : ℕ) (o : Option (ℕ × Link T)) (left : times e.index xs ≡ 0) (right : times e.index ys ≡ 0)
      (once : times k xs + times k ys ≤ 1) (was : o ≡ link_at (xs ++ ys) k) where
    pub slots-inserted : relinked (last_or None xs) (Some e.index) (first_or None ys) (Some e.index) k (if e.index == k then Some (e.generation, link_amid xs e.item ys) else o)
        ≡ link_at (xs ++ e ∷ ys) k
    slots-inserted = grind (arith, common_steps, link_between-append, left, link_between-absent, relinked-apart, seam-relinked)

  -- a new entry between two stretches of the list
  module _ (a : Arena (Link T)) (first last : Option ℕ) (xs ys : List (Entry T)) (j : ℕ) (rest : List ℕ) (item : T)
      (laid : IsLaidOut a.slots first last (xs ++ ys)) (vacant : slot a j ≡ None) (within : j < length a.slots) where
    abbrev new_entry : Entry T
    new_entry = record { index = j; generation = a.generation; item = item }

    pub IsLaidOut-inserted : IsLaidOut (joined (with_entry_at a (j ∷ rest) (link_amid xs item ys)) j xs ys).slots (first_or (Some j) xs) (last_or (Some j) ys) (xs ++ new_entry ∷ ys)
    IsLaidOut-inserted =
        let absent : times j (xs ++ ys) ≡ 0 = times-unlinked None None (xs ++ ys) j (sym (laid.links j) ∙ vacant) in
        let parts : times j xs + times j ys ≡ 0 = sym (times-append j xs ys) ∙ absent in
        laid-links _ _ _ _
        (λ k. slot-relinked (with_entry_at a (j ∷ rest) (link_amid xs item ys)) (last_or None xs) (Some j) (first_or None ys) (Some j) k
        ∙ ap (relinked (last_or None xs) (Some j) (first_or None ys) (Some j) k) (slot-written a j k (Some (a.generation, link_amid xs item ys)) within)
        ∙ slots-inserted xs ys new_entry k (slot a k) (omega arith) (omega arith) (omega (arith, times-append k xs ys, laid.distinct k)) (laid.links k))
        (λ k. grind (arith, common_steps, times-append k xs ys, times-append k xs (new_entry ∷ ys), parts, laid.distinct k))
        (sym (first_or-append None xs (new_entry ∷ ys))) (sym (last_or-append None xs (new_entry ∷ ys)))

  -- what the slots hold after the entry between two stretches is removed
  module _ (xs : List (Entry T)) (e : Entry T) (ys : List (Entry T)) (k : ℕ) (o : Option (ℕ × Link T)) (once : times k (xs ++ e ∷ ys) ≤ 1) where
    pub slots-removed : o ≡ link_at (xs ++ e ∷ ys) k
        → relinked (last_or None xs) (first_or None ys) (first_or None ys) (last_or None xs) k (if e.index == k then None else o) ≡ link_at (xs ++ ys) k
    slots-removed was = grind (arith, common_steps, link_between-append, times-append, times-here, link_between-absent, relinked-apart, times-there, seam-relinked)

  -- an entry is in its slot
  module _ (a : Arena (Link T)) (first last : Option ℕ) (xs : List (Entry T)) (e : Entry T) (ys : List (Entry T)) where
    pub slot-laid_out : IsLaidOut a.slots first last (xs ++ e ∷ ys) → slot a e.index ≡ Some (e.generation, link_amid xs e.item ys)
    slot-laid_out laid = grind (arith, common_steps, times-append, times-here, link_between-append, link_between-absent, same_index)

  -- a slot with an entry is within the arena
  pub slot-within : (a : Arena (Link T)) (i : ℕ) (e : ℕ × Link T) → slot a i ≡ Some e → i < length a.slots
  slot-within a i e held = grind (arith, common_steps)

  -- the entry between two stretches of the list is removed
  module _ (greatest : Option ℕ) (a : Arena (Link T)) (first last : Option ℕ) (xs : List (Entry T)) (e : Entry T) (ys : List (Entry T))
      (laid : IsLaidOut a.slots first last (xs ++ e ∷ ys)) where
    pub IsLaidOut-removed : IsLaidOut (closed (arena_removed greatest a e.index) xs ys).slots (first_or (first_or None ys) xs) (last_or (last_or None xs) ys) (xs ++ ys)
    IsLaidOut-removed = laid-links _ _ _ _
        (λ k. slot-relinked (arena_removed greatest a e.index) (last_or None xs) (first_or None ys) (first_or None ys) (last_or None xs) k
        ∙ ap (relinked (last_or None xs) (first_or None ys) (first_or None ys) (last_or None xs) k) (slot-written a e.index k None (slot-within a e.index _ (slot-laid_out a first last xs e ys laid)))
        ∙ slots-removed xs e ys k (slot a k) (laid.distinct k) (laid.links k))
        (λ k. omega (arith, times-append k xs ys, times-append k xs (e ∷ ys), laid.distinct k))
        (sym (first_or-append None xs ys)) (sym (last_or-append None xs ys))

  module _ (a : Arena (Link T)) (first last : Option ℕ) (es : List (Entry T)) (i : ℕ) where
    -- an entry changes, except for its neighbours
    pub IsLaidOut-changed_at : (f : ℕ × T → ℕ × T) → IsLaidOut a.slots first last es
        → IsLaidOut (with_slot a i (option_map (changed_link f) (slot a i))).slots first last (changed_at f es i)
    IsLaidOut-changed_at f laid =
        grind (arith, common_steps, same-changed_at f es i, laid-links, slot-mapped a i, λ (k : ℕ). link_between-changed_at f None i k None es)
