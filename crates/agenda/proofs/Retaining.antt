-- The jobs that a test keeps: what is left while they are asked for in order.
use Rattle.std.proofs.Common.{◌≡◌, ℕ, ◌+◌, ◌≤◌, ◌<◌, Bool, true, false, if◌then◌else◌, cond, length, append_assoc, List, [], ◌∷◌, ◌++◌, Option, Some, None, is_some, refl, sym, ap, subst, ◌∙◌, arith, inl, inr, Bor}
use Rattle.std.proofs.lemmas.{Grind.common_steps}
use Rattle.std.specs.{List.Retain.IsFiltered, List.items_where_true, Option.option_map, Iterator.YieldsFirstBy}
use Rattle.listing.specs.{Walk.entries_left, Chain.first_pointer, Chain.times, Chain.without, Chain.IsDistinct, Listing.behind_first}
use Rattle.listing.proofs.OrdLemmas.{from_index-here, not_before, entry_at-here}
use Rattle.agenda.specs.Agenda.{Agenda, Entry, count, pointer_of, with_left, with_rest, without_entry, item_of, get, shown_job}
use Rattle.agenda.specs.Asking.{IsCutAt, AsksFor}
use Rattle.agenda.proofs.{Parts.IsPartOf, Removing.RemovesMany, Removing.removes-none, Removing.removes-more, Removing.removes-rest}

-- a test of one more element in front
module _ {X F : Type 0} (R : F → X → Bool → F → Type 0) where
  filtered-more : (f g : F) (x : X) (b : Bool) (xs ys : List X) → R f x b g → IsFiltered R g xs ys → IsFiltered R f (x ∷ xs) (cond b (x ∷ ys) ys)
  filtered-more f g x true xs ys asked rest = (true ∷ rest.0, rest.1, omega (arith, rest.2), (g, asked, rest.3), ap (λ zs. x ∷ zs) rest.4)
  filtered-more f g x false xs ys asked rest = (false ∷ rest.0, rest.1, omega (arith, rest.2), (g, asked, rest.3), rest.4)

  filtered-none : (f : F) → IsFiltered R f [] []
  filtered-none f = ([], f, refl, refl, refl)

  where-part : (bs : List Bool) (xs : List X) → length bs ≡ length xs → IsPartOf (items_where_true bs xs) xs
  where-part [] [] same = refl
  where-part [] (x ∷ xs) same = absurd (omega (arith, same))
  where-part (b ∷ bs) [] same = absurd (omega (arith, same))
  where-part (true ∷ bs) (x ∷ xs) same = inr (items_where_true bs xs, refl, where-part bs xs (omega (arith, same)))
  where-part (false ∷ bs) (x ∷ xs) same = inl (where-part bs xs (omega (arith, same)))

  pub filtered-part : (f : F) (xs ys : List X) → IsFiltered R f xs ys → IsPartOf ys xs
  filtered-part f xs ys filtered = rw (filtered.4) (where-part filtered.0 xs filtered.2)

-- the ticket of the second of these jobs, by two steps of an iterator
pub second-read : {J : Type 0} (es rest last : List (Entry (ℕ × J))) (first second : Option ((ℕ × ℕ) × ℕ × Bor J)) → YieldsFirstBy shown_job (λ (left : List (Entry (ℕ × J))). left) es first rest
    → YieldsFirstBy shown_job (λ (left : List (Entry (ℕ × J))). left) rest second last → option_map (λ x. x.0) second ≡ first_pointer (behind_first es)
second-read {J} es rest last None second one two = rw (one.0) (none second (rw (one.1) at two))
  where
    none : (second : Option ((ℕ × ℕ) × ℕ × Bor J)) → YieldsFirstBy shown_job (λ (left : List (Entry (ℕ × J))). left) [] second last → option_map (λ x. x.0) second ≡ None
    none None two = refl
    none (Some y) two = absurd (cc)
second-read es rest last (Some x) None one two = rw (one, two.0) refl
second-read es rest last (Some x) (Some y) one two = rw (one, two) refl

-- how many jobs there are from a ticket on
abbrev pub left-from : {J : Type 0} → List (Entry (ℕ × J)) → Option (ℕ × ℕ) → ℕ
left-from es next = length (entries_left es (option_map (λ p. p.0) next))

-- a list of entries that begins where a pointer names one
left-first : {J : Type 0} (es : List (Entry (ℕ × J))) → IsDistinct es → (front back : List (Entry (ℕ × J))) → es ≡ front ++ back → entries_left es (option_map (λ p. p.0) (first_pointer back)) ≡ back
left-first es distinct front [] cut = refl
left-first es distinct front (e ∷ back) cut = from_index-here es distinct front e back cut

-- the job at a cut, by the ticket that names it
module _ {J : Type 0} (greatest : Option ℕ) (old : Agenda J) (distinct : IsDistinct old.entries) (t : ℕ × ℕ) (at : IsCutAt old.entries t) where
  pub cut-left : entries_left old.entries (Some t.0) ≡ at.entry ∷ at.back
  cut-left = ap (λ (q : ℕ × ℕ). entries_left old.entries (Some q.0)) (sym at.named) ∙ from_index-here old.entries distinct at.front at.entry at.back at.cut

  pub cut-found : get old t ≡ Some at.entry.item
  cut-found = ap (item_of old.entries) (sym at.named) ∙ rw (entry_at-here old.entries distinct at.front at.entry at.back at.cut) (grind (arith, common_steps))

  pub cut-without : is_some (get old t) ≡ true → without_entry greatest old t ≡ with_left greatest old (at.front ++ at.back)
  unfolding without_entry
  cut-without there = rw there (ap (with_left greatest old) (ap (λ (q : ℕ × ℕ). without q.0 old.entries) (sym at.named) ∙ ap (without at.entry.index) at.cut ∙ go at.front (not_before old.entries distinct at.front at.entry at.back at.cut)))
    where
      go : (front : List (Entry (ℕ × J))) → times at.entry.index front ≡ 0 → without at.entry.index (front ++ at.entry ∷ at.back) ≡ front ++ at.back
      go [] none = grind (arith, common_steps)
      go (f ∷ front) none = grind (arith, common_steps, go front)

module _ {J F : Type 0} (R : F → Entry (ℕ × J) → Bool → F → Type 0) (greatest : Option ℕ) (old : Agenda J) (f0 : F) where
  -- These jobs are kept, and these are still to be asked for, from the one on that `next` names.
  pub record Retains (now : Agenda J) (next : Option (ℕ × ℕ)) (f : F) : Type 0 where
    pub kept : List (Entry (ℕ × J))
    pub rest : List (Entry (ℕ × J))
    pub gone : ℕ
    pub cut : now.entries ≡ kept ++ rest
    pub next_is : next ≡ first_pointer rest
    pub removes : RemovesMany greatest old now gone
    pub follows : (ys : List (Entry (ℕ × J))) → IsFiltered R f rest ys → IsFiltered R f0 old.entries (kept ++ ys)

  pub retains-none : (next : Option (ℕ × ℕ)) → next ≡ first_pointer old.entries → Retains old next f0
  retains-none next is = record { kept = []; rest = old.entries; gone = 0; cut = refl; next_is = is; removes = removes-none greatest old; follows = λ ys filtered. filtered }

  module _ (now : Agenda J) (next : Option (ℕ × ℕ)) (f : F) (distinct : IsDistinct now.entries) (r : Retains now next f) where
    left-rest : left-from now.entries next ≡ length r.rest
    left-rest = ap (λ (o : Option (ℕ × ℕ)). left-from now.entries o) r.next_is ∙ ap length (left-first now.entries distinct r.kept r.rest r.cut)

    module _ (t : ℕ × ℕ) (is : next ≡ Some t) where
      -- there is a next job
      pub record Meets : Type 0 where
        pub entry : Entry (ℕ × J)
        pub later : List (Entry (ℕ × J))
        pub rest_is : r.rest ≡ entry ∷ later
        pub named : pointer_of entry ≡ t

      pub meets : Meets
      meets = go r.rest refl
        where
          go : (rest : List (Entry (ℕ × J))) → r.rest ≡ rest → Meets
          go [] nil = absurd (let both : Some t ≡ None = sym is ∙ r.next_is ∙ ap first_pointer nil in cc)
          go (e ∷ es) cons =
              let both : Some t ≡ Some (pointer_of e) = sym is ∙ r.next_is ∙ ap first_pointer cons in
              record { entry = e; later = es; rest_is = cons; named = cc }

      pub cut-meets : IsCutAt now.entries t
      cut-meets = record {
        front = r.kept;
        entry = meets.entry;
        back = meets.later;
        cut = r.cut ∙ ap (λ (xs : List (Entry (ℕ × J))). r.kept ++ xs) meets.rest_is;
        named = meets.named;
      }

      -- the next job was asked for
      pub record Stepped (new : Agenda J) (after : Option (ℕ × ℕ)) (g : F) : Type 0 where
        pub retains : Retains new after g
        pub shorter : length retains.rest < length r.rest

      pub retains-more : (new : Agenda J) (after : Option (ℕ × ℕ)) (g : F) → ((at : IsCutAt now.entries t) → AsksFor R greatest now t at f g new after) → Stepped new after g
      unfolding cut-meets
      retains-more new after g asks = go (asks cut-meets).answer (asks cut-meets).asked (asks cut-meets).left
        where
          fewer : length meets.later < length r.rest
          fewer = omega (arith, ap length meets.rest_is)

          go : (answer : Bool) → R f meets.entry answer g → new ≡ (if answer then now else with_left greatest now (r.kept ++ meets.later)) → Stepped new after g
          go true asked left = record {
            retains = record {
              kept = r.kept ++ meets.entry ∷ [];
              rest = meets.later;
              gone = r.gone;
              cut = ap (λ (a : Agenda J). a.entries) left ∙ cut-meets.cut ∙ sym (append_assoc r.kept (meets.entry ∷ []) meets.later);
              next_is = (asks cut-meets).next_is;
              removes = subst (λ (a : Agenda J). RemovesMany greatest old a r.gone) (sym left) r.removes;
              follows = λ ys filtered. subst (λ (zs : List (Entry (ℕ × J))). IsFiltered R f0 old.entries zs) (sym (append_assoc r.kept (meets.entry ∷ []) ys))
                  (r.follows (meets.entry ∷ ys) (subst (λ (zs : List (Entry (ℕ × J))). IsFiltered R f zs (meets.entry ∷ ys)) (sym meets.rest_is) (filtered-more R f g meets.entry true meets.later ys asked filtered)));
            };
            shorter = fewer;
          }
          go false asked left = record {
            retains = record {
              kept = r.kept;
              rest = meets.later;
              gone = r.gone + 1;
              cut = ap (λ (a : Agenda J). a.entries) left;
              next_is = (asks cut-meets).next_is;
              removes = removes-more greatest old now new r.gone r.kept meets.later meets.entry r.removes cut-meets.cut left;
              follows = λ ys filtered. r.follows ys (subst (λ (zs : List (Entry (ℕ × J))). IsFiltered R f zs ys) (sym meets.rest_is) (filtered-more R f g meets.entry false meets.later ys asked filtered));
            };
            shorter = fewer;
          }

    -- all were asked for
    module _ (is : next ≡ None) where
      nothing-left : r.rest ≡ []
      nothing-left = go r.rest refl
        where
          go : (rest : List (Entry (ℕ × J))) → r.rest ≡ rest → rest ≡ []
          go [] nil = refl
          go (e ∷ es) cons = absurd (let both : None ≡ Some (pointer_of e) = sym is ∙ r.next_is ∙ ap first_pointer cons in cc)

      all-kept : now.entries ≡ r.kept ++ []
      all-kept = r.cut ∙ ap (λ (xs : List (Entry (ℕ × J))). r.kept ++ xs) nothing-left

      pub retains-filtered : IsFiltered R f0 old.entries now.entries
      retains-filtered = subst (λ (zs : List (Entry (ℕ × J))). IsFiltered R f0 old.entries zs) (sym all-kept)
          (r.follows [] (subst (λ (zs : List (Entry (ℕ × J))). IsFiltered R f zs []) (sym nothing-left) (filtered-none R f)))

      pub retains-after : now ≡ with_rest greatest old now.entries
      retains-after = removes-rest greatest old now r.gone now.entries r.removes refl

      pub retains-count : count now ≤ count old
      retains-count = omega (arith, r.removes.fewer)

-- fewer jobs are left after a step
pub left-fewer : {J F : Type 0} (R : F → Entry (ℕ × J) → Bool → F → Type 0) (greatest : Option ℕ) (old : Agenda J) (f0 : F) (now : Agenda J) (next : Option (ℕ × ℕ)) (f : F) (distinct : IsDistinct now.entries)
    (r : Retains R greatest old f0 now next f) (t : ℕ × ℕ) (is : next ≡ Some t) (new : Agenda J) (after : Option (ℕ × ℕ)) (g : F) → IsDistinct new.entries → Stepped R greatest old f0 now next f distinct r t is new after g
    → left-from new.entries after < left-from now.entries next
left-fewer R greatest old f0 now next f distinct r t is new after g distinct_new s =
    omega (arith, s.shorter, left-rest R greatest old f0 now next f distinct r, left-rest R greatest old f0 new after g distinct_new s.retains)
