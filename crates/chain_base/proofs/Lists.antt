-- Lists of entries: the place of an index, and how an insertion or a removal there changes the links.
use Rattle.std.proofs.Common.{◌≡◌, ◌≢◌, ℕ, zero, suc, ◌+◌, ◌≤◌, ◌==◌, true, false, List, [], ◌∷◌, ◌++◌, length, Option, Some, None, is_some, refl, ap, arith, if◌then◌else◌, inl, inr, ◌⊎◌}
use Rattle.std.proofs.{lemmas.Bool.Decides.nat_tests, lemmas.Bool.Decides.eqb_tells, lemmas.Grind.common_steps}
use Rattle.std.specs.Option.{option_or, option_map}
use Rattle.chain_base.specs.Chain.{Entry, times, entry_at, first_or, last_or, link_at, link_between, insert_after, insert_before, without, with_item_among, with_generation}
use Rattle.chain_base.specs.{Layout.entries_met, Layout.names, Layout.with_next, Layout.with_prev, Layout.relinked, Link.Link}

pub option_or-none : {A : Type 0} (o : Option A) → option_or o None ≡ o
option_or-none o = grind (arith, common_steps)

pub option_map-itself : {A : Type 0} (o : Option A) → option_map (λ x. x) o ≡ o
option_map-itself o = grind (arith, common_steps)

pub names_tells : (o : Option ℕ) (i : ℕ) → ((names o i ≡ true) × (o ≡ Some i)) ⊎ ((names o i ≡ false) × (o ≢ Some i))
names_tells o i = grind (arith, common_steps)

-- lists of the same indexes
pub record SameIndexes {T U : Type 0} (es : List (Entry T)) (fs : List (Entry U)) : Type 0 where
  pub first : (d : Option ℕ) → first_or d es ≡ first_or d fs
  pub last : (d : Option ℕ) → last_or d es ≡ last_or d fs
  pub count : (i : ℕ) → times i es ≡ times i fs
  pub long : length es ≡ length fs

-- an index equals itself
pub same_index : (i : ℕ) → (i == i) ≡ true
same_index i = grind (arith, nat_tests)

pub other_index : (i j : ℕ) → i ≢ j → (i == j) ≡ false
other_index i j other = grind (arith, nat_tests)

module _ {T : Type 0} where
  pub times-here : (i : ℕ) (e : Entry T) (es : List (Entry T)) → e.index ≡ i → times i (e ∷ es) ≡ 1 + times i es
  times-here i e es same = grind (arith, nat_tests)

  pub times-there : (i : ℕ) (e : Entry T) (es : List (Entry T)) → e.index ≢ i → times i (e ∷ es) ≡ times i es
  times-there i e es other = grind (arith, nat_tests)

  pub times-append : (i : ℕ) (xs ys : List (Entry T)) → times i (xs ++ ys) ≡ times i xs + times i ys
  times-append i [] ys = omega arith
  times-append i (x ∷ xs) ys = omega (arith, times-append i xs ys)

  pub first_or-append : (after : Option ℕ) (xs ys : List (Entry T)) → first_or after (xs ++ ys) ≡ first_or (first_or after ys) xs
  first_or-append after xs ys = grind (arith, common_steps)

  pub last_or-append : (before : Option ℕ) (xs ys : List (Entry T)) → last_or before (xs ++ ys) ≡ last_or (last_or before xs) ys
  last_or-append before [] ys = refl
  last_or-append before (x ∷ xs) ys = last_or-append (Some x.index) xs ys

  pub last_or-there : (i : ℕ) (es : List (Entry T)) → is_some (last_or (Some i) es) ≡ true
  last_or-there i [] = refl
  last_or-there i (e ∷ es) = last_or-there e.index es

  -- two stretches of a list: the first leads on to `next`, the second back to `prev`
  abbrev pub seam : Option ℕ → List (Entry T) → Option ℕ → Option ℕ → List (Entry T) → Option ℕ → ℕ → Option (ℕ × Link T)
  seam before xs next prev ys after i = option_or (link_between before next xs i) (link_between prev after ys i)

  -- a stretch of a list in two parts
  pub link_between-append : (before after : Option ℕ) (xs ys : List (Entry T)) (i : ℕ)
      → link_between before after (xs ++ ys) i ≡ seam before xs (first_or after ys) (last_or before xs) ys after i
  link_between-append before after [] ys i = refl
  link_between-append before after (x ∷ xs) ys i = grind (arith, common_steps, link_between-append (Some x.index) after xs ys i)

  -- the last index occurs in the list
  pub times-last : (es : List (Entry T)) (i : ℕ) → last_or None es ≡ Some i → 1 ≤ times i es
  times-last (e ∷ f ∷ es) i last = omega (arith, times-last (f ∷ es) i last)
  times-last es i last = grind (arith, common_steps)

  -- the first index occurs in the list
  pub times-first : (es : List (Entry T)) (i : ℕ) → first_or None es ≡ Some i → 1 ≤ times i es
  times-first es i first = grind (arith, common_steps)

  -- an index that doesn't occur in a stretch finds nothing there
  pub link_between-absent : (before after : Option ℕ) (es : List (Entry T)) (i : ℕ) → times i es ≡ 0 → link_between before after es i ≡ None
  link_between-absent before after [] i absent = refl
  link_between-absent before after (e ∷ es) i absent = grind (arith, common_steps, link_between-absent (Some e.index) after es i)

  -- an index that finds nothing in a stretch doesn't occur there
  pub times-unlinked : (before after : Option ℕ) (es : List (Entry T)) (i : ℕ) → link_between before after es i ≡ None → times i es ≡ 0
  times-unlinked before after [] i unlinked = refl
  times-unlinked before after (e ∷ es) i unlinked = grind (arith, common_steps, times-unlinked (Some e.index) after es i)

  -- an entry is its link without the neighbours
  pub entry_at-link : (before after : Option ℕ) (es : List (Entry T)) (i : ℕ) → entry_at es i ≡ option_map (λ e. (e.0, e.1.item)) (link_between before after es i)
  entry_at-link before after [] i = refl
  entry_at-link before after (e ∷ es) i = grind (arith, common_steps, entry_at-link (Some e.index) after es i)

  pub entry_at-some : (es : List (Entry T)) (i : ℕ) → is_some (entry_at es i) ≡ is_some (link_at es i)
  entry_at-some es i = grind (arith, common_steps, entry_at-link None None es i)

  -- an index with a link occurs in the list
  pub linked-occurs : (es : List (Entry T)) (i : ℕ) (e : ℕ × Link T) → link_at es i ≡ Some e → 1 ≤ times i es
  linked-occurs es i e is = grind (arith, common_steps, i, link_between-absent)

  -- what an index holds, changed if the option names it
  abbrev pub if_named : Option ℕ → ℕ → (ℕ × Link T → ℕ × Link T) → Option (ℕ × Link T) → Option (ℕ × Link T)
  if_named named i change o = if names named i then option_map change o else o

  -- only the last index sees another far end
  module _ (after other : Option ℕ) (i : ℕ) where
    pub link_between-after : (before : Option ℕ) (es : List (Entry T)) → times i es ≤ 1
        → link_between before other es i ≡ if_named (last_or None es) i (with_next other) (link_between before after es i)
    link_between-after before [] once = refl
    link_between-after before (e ∷ []) once = grind (arith, common_steps)
    link_between-after before (e ∷ f ∷ es) once =
        grind (arith, common_steps, link_between-after (Some e.index) (f ∷ es), times-last (f ∷ es) i, names_tells (last_or None (f ∷ es)) i)

  -- only the first index sees another near end
  module _ (before after other : Option ℕ) (es : List (Entry T)) where
    pub link_between-before : (i : ℕ)
        → link_between other after es i ≡ if_named (first_or None es) i (with_prev other) (link_between before after es i)
    link_between-before i = grind (arith, common_steps)

  -- the first place of an index in a list, and what a change there makes of the list
  pub record Stands (es : List (Entry T)) (i : ℕ) : Type 0 where
    pub front : List (Entry T)
    pub entry : Entry T
    pub back : List (Entry T)
    pub split : es ≡ front ++ entry ∷ back
    pub here : entry.index ≡ i
    pub unmet : times i front ≡ 0
    pub left : without i es ≡ front ++ back
    pub after : (new : Entry T) → insert_after i new es ≡ front ++ entry ∷ new ∷ back
    pub before : (new : Entry T) → insert_before i new es ≡ front ++ new ∷ entry ∷ back

  -- an index that occurs has a place
  pub Stands-occurs : (es : List (Entry T)) (i : ℕ) → 1 ≤ times i es → Stands es i
  Stands-occurs [] i occurs = absurd (omega arith)
  Stands-occurs (e ∷ es) i occurs =
      elim (eqb_tells e.index i) [
        | inl h ↦ record {
          front = [];
          entry = e;
          back = es;
          split = refl;
          here = h.1;
          unmet = refl;
          left = rw h.0 refl;
          after = λ new. rw h.0 refl;
          before = λ new. rw h.0 refl;
        }
        | inr h ↦
            let s = Stands-occurs es i (omega (arith, times-there i e es h.1)) in
            record {
              front = e ∷ s.front;
              entry = s.entry;
              back = s.back;
              split = ap (λ xs. e ∷ xs) s.split;
              here = s.here;
              unmet = omega (arith, times-there i e s.front h.1, s.unmet);
              left = simp h.0 (ap (λ xs. e ∷ xs) s.left);
              after = λ new. simp h.0 (ap (λ xs. e ∷ xs) (s.after new));
              before = λ new. simp h.0 (ap (λ xs. e ∷ xs) (s.before new));
            }
      ]

  pub entry_at-absent : (es : List (Entry T)) (i : ℕ) → times i es ≡ 0 → entry_at es i ≡ None
  entry_at-absent [] i absent = refl
  entry_at-absent (e ∷ es) i absent = grind (arith, common_steps, entry_at-absent es i)

  -- two writes move the seam of two stretches
  module _ (xs ys : List (Entry T)) (after before next prev : Option ℕ) (i : ℕ) (once : times i xs + times i ys ≤ 1) where
    pub seam-relinked : seam None xs next prev ys None i ≡ relinked (last_or None xs) next (first_or None ys) prev i (seam None xs after before ys None i)
    seam-relinked =
        grind (
          arith,
          common_steps,
          link_between-after after next i None xs,
          link_between-before before None prev ys i,
          link_between-absent None after xs i,
          link_between-absent None next xs i,
          link_between-absent before None ys i,
          link_between-absent prev None ys i,
          times-last xs i,
          times-first ys i,
          names_tells (last_or None xs) i,
          names_tells (first_or None ys) i,
        )

  -- the slots hold these entries, linked in this order from `before` on
  abbrev pub IsRow : (ℕ → Option (ℕ × Link T)) → Option ℕ → List (Entry T) → Type 0
  IsRow at before [] = Unit {0}
  IsRow at before (e ∷ es) = (at e.index ≡ Some (e.generation, record { item = e.item; prev = before; next = first_or None es }))
      × IsRow at (Some e.index) es

  module _ (at : ℕ → Option (ℕ × Link T)) where
    pub IsRow-links : (before : Option ℕ) (es : List (Entry T)) → ((i : ℕ) → times i es ≤ 1)
        → ((i : ℕ) → 1 ≤ times i es → at i ≡ link_between before None es i) → IsRow at before es
    IsRow-links before [] once holds = tt
    IsRow-links before (e ∷ es) once holds = grind (arith, common_steps, IsRow-links (Some e.index) es, other_index, same_index, times-here)

  pub entries_met-row : (at : ℕ → Option (ℕ × Link T)) (before : Option ℕ) (es : List (Entry T)) (n : ℕ) → length es ≤ n → IsRow at before es → entries_met at n (first_or None es) ≡ es
  entries_met-row at before [] zero fits row = refl
  entries_met-row at before [] (suc n) fits row = refl
  entries_met-row at before (e ∷ es) zero fits row = absurd (omega arith)
  entries_met-row at before (e ∷ es) (suc n) fits row = rw row.0 (ap (λ xs. e ∷ xs) (entries_met-row at (Some e.index) es n (omega arith) row.1))

  -- the list with another generation and another item at this index, by a map of both
  abbrev pub changed_at : (ℕ × T → ℕ × T) → List (Entry T) → ℕ → List (Entry T)
  changed_at f [] i = []
  changed_at f (e ∷ es) i = let p = f (e.generation, e.item) in
      if e.index == i then record e { generation = p.0; item = p.1 } ∷ es else e ∷ changed_at f es i

  pub with_item_among-changed_at : (es : List (Entry T)) (i : ℕ) (item : T) → with_item_among es i item ≡ changed_at (λ p. (p.0, item)) es i
  with_item_among-changed_at [] i item = refl
  with_item_among-changed_at (e ∷ es) i item = grind (arith, common_steps, with_item_among-changed_at es i item)

  pub with_generation-changed_at : (es : List (Entry T)) (i g : ℕ) → with_generation es i g ≡ changed_at (λ p. (g, p.1)) es i
  with_generation-changed_at [] i g = refl
  with_generation-changed_at (e ∷ es) i g = grind (arith, common_steps, with_generation-changed_at es i g)

  module _ (f : ℕ × T → ℕ × T) where
    -- no index changes
    pub same-changed_at : (es : List (Entry T)) (i : ℕ) → SameIndexes (changed_at f es i) es
    same-changed_at [] i = grind (arith, common_steps)
    same-changed_at (e ∷ es) i = grind (arith, common_steps, same-changed_at es i)

    -- every other index finds the same
    pub entry_at-changed_at_other : (es : List (Entry T)) (i j : ℕ) → j ≢ i → entry_at (changed_at f es i) j ≡ entry_at es j
    entry_at-changed_at_other [] i j other = refl
    entry_at-changed_at_other (e ∷ es) i j other = grind (arith, common_steps, entry_at-changed_at_other es i j other)

    -- and the index itself finds the changed entry
    pub entry_at-changed_at : (es : List (Entry T)) (i : ℕ) → entry_at (changed_at f es i) i ≡ option_map f (entry_at es i)
    entry_at-changed_at [] i = refl
    entry_at-changed_at (e ∷ es) i = grind (arith, common_steps, entry_at-changed_at es i)

    -- the change of an entry, as a change of its link
    abbrev pub changed_link : ℕ × Link T → ℕ × Link T
    changed_link e = let p = f (e.0, e.1.item) in (p.0, record e.1 { item = p.1 })

    -- it changes no neighbour
    module _ (after : Option ℕ) (i k : ℕ) where
      pub link_between-changed_at : (before : Option ℕ) (es : List (Entry T)) → link_between before after (changed_at f es i) k
          ≡ if_named (Some i) k changed_link (link_between before after es k)
      link_between-changed_at before [] = grind (arith, common_steps)
      link_between-changed_at before (e ∷ es) = grind (arith, common_steps, (same-changed_at es i).first after, link_between-changed_at (Some e.index) es)
