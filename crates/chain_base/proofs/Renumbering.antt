-- The links of a list, in which neighbours name each other, and the links of a list whose entries get other indexes.
use Rattle.std.proofs.Common.{◌≡◌, ◌≢◌, ℕ, ◌+◌, ◌≤◌, List, [], ◌∷◌, ◌++◌, map, Option, Some, None, is_some, get_or, refl, sym, ap, ◌∙◌, subst, arith, true, append_assoc, option_map, option_and_then, ◌↔◌}
use Rattle.std.proofs.{lemmas.Option.none-some, lemmas.Option.same_Some, lemmas.Grind.common_steps}
use Rattle.chain_base.specs.Chain.{Entry, IsDistinct, times, entry_at, first_or, last_or, link_between, link_at}
use Rattle.chain_base.specs.{declared.chain.compress.Side.TheVariants.Before, declared.chain.compress.Side.TheVariants.After, Link.Link}
use Rattle.chain_base.specs.{declared.chain.compress.Side.Side, Naming.neighbour_on, Layout.IsLaidOut}
use Rattle.chain_base.proofs.Lists.{same_index, times-append, times-here, times-first, times-last, last_or-append, link_between-append, link_between-absent, Stands-occurs, last_or-there}
use Rattle.chain_base.proofs.LaidOut.{laid-held}

-- the other side
abbrev pub opposite : Side → Side
opposite Before = After
opposite After = Before

module _ {T : Type 0} where
  -- the link of an entry at its place
  module _ (es xs : List (Entry T)) (e : Entry T) (ys : List (Entry T)) (split : es ≡ xs ++ e ∷ ys) (distinct : IsDistinct es) (i : ℕ)
      (here : e.index ≡ i) where
    pub link_at-split : link_at es i ≡ Some (e.generation, record { item = e.item; prev = last_or None xs; next = first_or None ys })
    link_at-split = grind (arith, common_steps, split, distinct, times-append, times-here, here, link_between-append, link_between-absent, same_index)

  -- the neighbour on a side that the link of an entry names, if the list follows `before`
  abbrev beside_in : Side → Option ℕ → List (Entry T) → ℕ → Option ℕ
  beside_in side before es i = option_and_then (λ e. neighbour_on side e.1) (link_between before None es i)

  abbrev pub beside : Side → List (Entry T) → ℕ → Option ℕ
  beside side es i = beside_in side None es i

  -- the entry at the end of a list on a side
  abbrev pub end_on : Side → List (Entry T) → Option ℕ
  end_on Before es = first_or None es
  end_on After es = last_or None es

  -- the last entry of a list
  last_or-some : (xs : List (Entry T)) (x : ℕ) → last_or None xs ≡ Some x → (front : List (Entry T)) × (f : Entry T) × (xs ≡ front ++ f ∷ []) × (f.index ≡ x)
  last_or-some [] x is = absurd (none-some x is)
  last_or-some (e ∷ []) x is = ([], e, refl, same_Some e.index x is)
  last_or-some (e ∷ f ∷ es) x is = let more = last_or-some (f ∷ es) x is in (e ∷ more.0, more.1, ap (λ xs. e ∷ xs) more.2, more.3)

  pub beside-occurs : (side : Side) (es : List (Entry T)) (i k : ℕ) → beside side es i ≡ Some k → 1 ≤ times i es
  beside-occurs side es i k is = grind (arith, common_steps, i, link_between-absent)

  -- neighbours name each other
  pub facing : (side : Side) (es : List (Entry T)) → IsDistinct es → (i x : ℕ) → beside side es i ≡ Some x → beside (opposite side) es x ≡ Some i
  facing Before es distinct i x is =
      let s = Stands-occurs es i (beside-occurs Before es i x is) in
      let last : last_or None s.front ≡ Some x = sym (ap (option_and_then (λ e. e.1.prev)) (link_at-split es s.front s.entry s.back s.split distinct i s.here)) ∙ is in
      let f = last_or-some s.front x last in
      let split : es ≡ f.0 ++ f.1 ∷ (s.entry ∷ s.back) = s.split ∙ (ap (λ xs. xs ++ s.entry ∷ s.back) f.2 ∙ append_assoc f.0 (f.1 ∷ []) (s.entry ∷ s.back)) in
      ap (option_and_then (λ e. e.1.next)) (link_at-split es f.0 f.1 (s.entry ∷ s.back) split distinct x f.3) ∙ ap Some s.here
  facing After es distinct i x is =
      let s = Stands-occurs es i (beside-occurs After es i x is) in
      let first : first_or None s.back ≡ Some x = sym (ap (option_and_then (λ e. e.1.next)) (link_at-split es s.front s.entry s.back s.split distinct i s.here)) ∙ is in
      behind s.front s.entry s.back s.split s.here first
    where
      behind : (front : List (Entry T)) (e : Entry T) (back : List (Entry T)) → es ≡ front ++ e ∷ back → e.index ≡ i → first_or None back ≡ Some x → beside Before es x ≡ Some i
      behind front e [] split here first = absurd (none-some x first)
      behind front e (f ∷ back) split here first =
          ap (option_and_then (λ e. e.1.prev)) (link_at-split es (front ++ e ∷ []) f back (split ∙ sym (append_assoc front (e ∷ []) (f ∷ back))) distinct x (same_Some f.index x first))
          ∙ (last_or-append None front (e ∷ []) ∙ ap Some here)

  pub facing-back : (side : Side) (es : List (Entry T)) → IsDistinct es → (x i : ℕ) → beside (opposite side) es x ≡ Some i → beside side es i ≡ Some x
  facing-back Before es distinct x i is = facing After es distinct x i is
  facing-back After es distinct x i is = facing Before es distinct x i is

  -- a neighbour is another entry
  module _ (side : Side) (front : List (Entry T)) (e : Entry T) (back : List (Entry T)) (k : ℕ)
      (is : neighbour_on side (record { item = e.item; prev = last_or None front; next = first_or None back }) ≡ Some k) where
    side-occurs : 1 ≤ times k front + times k back
    side-occurs = grind (arith, common_steps, times-last, times-first)

  pub beside-other : (side : Side) (es : List (Entry T)) → IsDistinct es → (i k : ℕ) → beside side es i ≡ Some k → (i ≢ k) × (1 ≤ times k es)
  beside-other side es distinct i k is =
      let s = Stands-occurs es i (beside-occurs side es i k is) in
      let named = sym (ap (option_and_then (λ e. neighbour_on side e.1)) (link_at-split es s.front s.entry s.back s.split distinct i s.here)) ∙ is in
      let there = side-occurs side s.front s.entry s.back k named in
      let count = ap (times k) s.split ∙ times-append k s.front (s.entry ∷ s.back) in
      (λ same. omega (arith, there, count, distinct k, times-here k s.entry s.back (s.here ∙ same)), omega (arith, there, count))

  -- an entry without a neighbour on a side is at that end
  before-some : (b : ℕ) (es : List (Entry T)) (i : ℕ) → 1 ≤ times i es → beside_in Before (Some b) es i ≡ None → ⊥
  before-some b [] i occurs none = absurd (omega arith)
  before-some b (e ∷ es) i occurs none = grind (arith, common_steps, before-some e.index es i)

  after-end : (before : Option ℕ) (es : List (Entry T)) (i : ℕ) → times i es ≡ 1 → (beside_in After before es i ≡ None) ↔ (last_or None es ≡ Some i)
  after-end before (e ∷ f ∷ es) i once = grind (arith, common_steps, after-end (Some e.index) (f ∷ es) i, times-last (f ∷ es) i)
  after-end before es i once = grind (arith, common_steps)

  pub end-is : (side : Side) (es : List (Entry T)) (i : ℕ) → times i es ≡ 1 → (beside side es i ≡ None) ↔ (end_on side es ≡ Some i)
  end-is side es i once = grind (arith, common_steps, before-some, after-end None es i)

  pub end-occurs : (side : Side) (es : List (Entry T)) (i : ℕ) → end_on side es ≡ Some i → 1 ≤ times i es
  end-occurs side es i is = grind (arith, common_steps, times-first, times-last)

  pub end-none : (side : Side) (es : List (Entry T)) (i : ℕ) → end_on side es ≡ None → times i es ≡ 0
  end-none side [] i none = refl
  end-none Before (e ∷ es) i none = absurd cc
  end-none After (e ∷ es) i none = absurd (let some = last_or-there e.index es in cc)

  -- Each entry gets another index, generation and item.
  module _ (renumber : ℕ → ℕ) (alter : ℕ → ℕ × T → ℕ × T) where
    abbrev pub altered : Entry T → Entry T
    altered e = let p = alter e.index (e.generation, e.item) in record { index = renumber e.index; generation = p.0; item = p.1 }

    -- the link of an entry afterwards
    abbrev pub followed : ℕ → ℕ × Link T → ℕ × Link T
    followed x e = let p = alter x (e.0, e.1.item) in (p.0, record { item = p.1; prev = option_map renumber e.1.prev; next = option_map renumber e.1.next })

    first_or-renumbered : (xs : List (Entry T)) → first_or None (map altered xs) ≡ option_map renumber (first_or None xs)
    first_or-renumbered xs = grind (arith, common_steps)

    last_or-renumbered : (b : Option ℕ) (xs : List (Entry T)) → last_or (option_map renumber b) (map altered xs) ≡ option_map renumber (last_or b xs)
    last_or-renumbered b [] = refl
    last_or-renumbered b (e ∷ es) = last_or-renumbered (Some e.index) es

    pub end-renumbered : (side : Side) (xs : List (Entry T)) → end_on side (map altered xs) ≡ option_map renumber (end_on side xs)
    end-renumbered Before xs = first_or-renumbered xs
    end-renumbered After xs = last_or-renumbered None xs

    -- no other index of the list gets the same new index
    abbrev pub IsAlone : List (Entry T) → ℕ → Type 0
    IsAlone es x = (y : ℕ) → 1 ≤ times y es → renumber y ≡ renumber x → y ≡ x

    -- then it occurs as often, and has the same neighbours
    pub times-renumbered : (es : List (Entry T)) (x : ℕ) → IsAlone es x → times (renumber x) (map altered es) ≡ times x es
    times-renumbered [] x apart = refl
    times-renumbered (e ∷ es) x apart = grind (arith, common_steps, times-renumbered es x)

    pub entry_at-renumbered : (es : List (Entry T)) (x : ℕ) → IsAlone es x → entry_at (map altered es) (renumber x) ≡ option_map (alter x) (entry_at es x)
    entry_at-renumbered [] x apart = refl
    entry_at-renumbered (e ∷ es) x apart = grind (arith, common_steps, entry_at-renumbered es x)

    link-kept : (b : Option ℕ) (es : List (Entry T)) (x : ℕ) → IsAlone es x
        → link_between (option_map renumber b) None (map altered es) (renumber x) ≡ option_map (followed x) (link_between b None es x)
    link-kept b [] x apart = refl
    link-kept b (e ∷ es) x apart = grind (arith, common_steps, first_or-renumbered es, link-kept (Some e.index) es x)

    -- an index of the new list comes from one of the old list
    pub times-source : (es : List (Entry T)) (k : ℕ) → 1 ≤ times k (map altered es) → (x : ℕ) × (renumber x ≡ k) × (1 ≤ times x es)
    times-source [] k occurs = absurd (omega arith)
    times-source (e ∷ es) k occurs = grind (arith, common_steps, times-source es k)

    module _ (es : List (Entry T)) (distinct : IsDistinct es) (apart : (x y : ℕ) → 1 ≤ times x es → 1 ≤ times y es → renumber x ≡ renumber y → x ≡ y) where
      pub times-changed : (x : ℕ) → 1 ≤ times x es → times (renumber x) (map altered es) ≡ times x es
      times-changed x occurs = times-renumbered es x (λ y there same. apart y x there occurs same)

      pub distinct-renumbered : IsDistinct (map altered es)
      distinct-renumbered k = grind (arith, common_steps, times-source, distinct, times-changed)

      pub link_at-renumbered : (x : ℕ) → 1 ≤ times x es → link_at (map altered es) (renumber x) ≡ option_map (followed x) (link_at es x)
      link_at-renumbered x occurs = link-kept None es x (λ y there same. apart y x there occurs same)

      -- Slots that hold each changed entry with its neighbours renumbered, and nothing else, hold the changed list.
      module _ (slots : List (Option (ℕ × Link T))) (first last : Option ℕ)
          (held : (x : ℕ) → 1 ≤ times x es → get_or slots (renumber x) None ≡ option_map (followed x) (link_at es x))
          (back : (k : ℕ) → is_some (get_or slots k None) ≡ true → (x : ℕ) × (renumber x ≡ k) × (1 ≤ times x es))
          (first_is : first ≡ option_map renumber (first_or None es)) where
        pub IsLaidOut-renumbered : last ≡ option_map renumber (last_or None es) → IsLaidOut slots first last (map altered es)
        IsLaidOut-renumbered last_is = laid-held slots first last (map altered es)
            (λ k there. let s = times-source es k there in subst (λ i. get_or slots i None ≡ link_at (map altered es) i) s.1 (held s.0 s.2 ∙ sym (link_at-renumbered s.0 s.2)))
            (λ k some. let s = back k some in subst (λ i. 1 ≤ times i (map altered es)) s.1 (omega (arith, times-changed s.0 s.2, s.2)))
            distinct-renumbered (first_is ∙ sym (end-renumbered Before es)) (last_is ∙ sym (end-renumbered After es))
