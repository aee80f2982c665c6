-- The entries of a part of a list that are taken out one after another: what is left at each step, and at the end.
use Rattle.std.proofs.Common.{◌≡◌, ℕ, Bool, true, false, ◌+◌, ◌<◌, ◌++◌, length, length-append, append_assoc, List, [], ◌∷◌, Option, Some, refl, sym, ap, subst, ◌∙◌, arith}
use Rattle.std.proofs.lemmas.List.{append-nil}
use Rattle.std.specs.{Borrow.Bor, Fn.Called, Option.option_map}
use denote.Param.Members.{Mut}
use Rattle.listing.specs.{Chain.Entry, Chain.IsDistinct, Chain.without as without_index, Gap.first_of}
use Rattle.sorted_arena.specs.Sorted.{Sorted, count, pointer_of, get, next_of, with_left, with_rest, without_entry}
use Rattle.sorted_arena.specs.{Answer.AnswersForEntry, Taking.IsCutAt, Taking.TakesOut, Taking.AsksFor}
use Rattle.sorted_arena.proofs.{Cutting.some-same, Cutting.next-here, Cutting.found-here, Cutting.without-here, Outside.IsPart}
use Rattle.sorted_arena.proofs.Removing.{RemovesMany, removes-none, removes-more, removes-rest}

module _ {K V : Type 0} (greatest : Option ℕ) (old : Sorted K V) (middle others : List (Entry (K × V))) where
  -- These entries were taken, and these are still to be taken, from the one on that `next` names.
  pub record Takes (now : Sorted K V) (next : Option (ℕ × ℕ)) (taken rest : List (Entry (K × V))) : Type 0 where
    pub front : List (Entry (K × V))
    pub back : List (Entry (K × V))
    pub part : middle ≡ taken ++ rest
    pub cut : now.entries ≡ front ++ (rest ++ back)
    pub others_are : others ≡ front ++ back
    pub next_is : (e : Entry (K × V)) (es : List (Entry (K × V))) → rest ≡ e ∷ es → next ≡ Some (pointer_of e)
    pub removes : RemovesMany greatest old now (length taken)

  -- the same after so many steps, with a fact on what was taken
  pub record Taking (now : Sorted K V) (next : Option (ℕ × ℕ)) (i : ℕ) (P : List (Entry (K × V)) → Type 0) : Type 0 where
    pub taken : List (Entry (K × V))
    pub rest : List (Entry (K × V))
    pub takes : Takes now next taken rest
    pub counted : length taken ≡ i
    pub holds : P taken

  pub taking-none : (P : List (Entry (K × V)) → Type 0) (first : Option (ℕ × ℕ)) → IsPart old.entries middle others → first ≡ option_map pointer_of (first_of middle) → P []
      → Taking old first 0 P
  taking-none P first part begins holds = record {
    taken = [];
    rest = middle;
    takes = record {
      front = part.front;
      back = part.back;
      part = refl;
      cut = part.cut;
      others_are = part.others_are;
      next_is = λ e es is. begins ∙ ap (λ (xs : List (Entry (K × V))). option_map pointer_of (first_of xs)) is;
      removes = removes-none greatest old;
    };
    counted = refl;
    holds = holds;
  }

  module _ (now : Sorted K V) (next : Option (ℕ × ℕ)) (i : ℕ) (P : List (Entry (K × V)) → Type 0) (t : Taking now next i P) where
    module _ (less : i < length middle) where
      -- there is a next entry
      pub record Goes : Type 0 where
        pub entry : Entry (K × V)
        pub later : List (Entry (K × V))
        pub is : t.rest ≡ entry ∷ later

      goes : Goes
      goes = go t.rest refl
        where
          go : (rest : List (Entry (K × V))) → t.rest ≡ rest → Goes
          go [] is = absurd (omega (arith, ap length t.takes.part, length-append t.taken t.rest, t.counted, ap length is))
          go (e ∷ es) is = record { entry = e; later = es; is = is }

      pub cut-next : IsCutAt now.entries next
      cut-next = record {
        front = t.takes.front;
        entry = goes.entry;
        back = goes.later ++ t.takes.back;
        cut = t.takes.cut ∙ ap (λ (xs : List (Entry (K × V))). t.takes.front ++ (xs ++ t.takes.back)) goes.is;
        named = t.takes.next_is goes.entry goes.later goes.is;
      }

      pub taking-more : (item : K × V) (new : Sorted K V) (after : Option (ℕ × ℕ)) (Q : List (Entry (K × V)) → Type 0) → ((at : IsCutAt now.entries next) → TakesOut greatest now next at item new after)
          → ((taken later : List (Entry (K × V))) (e : Entry (K × V)) → middle ≡ taken ++ e ∷ later → next ≡ Some (pointer_of e) → item ≡ e.item → P taken → Q (taken ++ e ∷ [])) → Taking new after (i + 1) Q
      unfolding cut-next
      taking-more item new after Q takes follows =
          let out = takes cut-next in record {
            taken = t.taken ++ goes.entry ∷ [];
            rest = goes.later;
            takes = record {
              front = t.takes.front;
              back = t.takes.back;
              part = t.takes.part ∙ ap (λ (xs : List (Entry (K × V))). t.taken ++ xs) goes.is ∙ sym (append_assoc t.taken (goes.entry ∷ []) goes.later);
              cut = ap (λ (a : Sorted K V). a.entries) out.left;
              others_are = t.takes.others_are;
              next_is = λ e es is. out.next_is ∙ ap (λ (xs : List (Entry (K × V))). option_map pointer_of (first_of (xs ++ t.takes.back))) is;
              removes = ap-removes (removes-more greatest old now new (length t.taken) t.takes.front (goes.later ++ t.takes.back) goes.entry t.takes.removes cut-next.cut out.left);
            };
            counted = omega (arith, t.counted, length-append t.taken (goes.entry ∷ []));
            holds = follows t.taken goes.later goes.entry (t.takes.part ∙ ap (λ (xs : List (Entry (K × V))). t.taken ++ xs) goes.is) cut-next.named out.item_is t.holds;
          }
        where
          ap-removes : RemovesMany greatest old new (length t.taken + 1) → RemovesMany greatest old new (length (t.taken ++ goes.entry ∷ []))
          ap-removes removes = let many : length t.taken + 1 ≡ length (t.taken ++ goes.entry ∷ []) = omega (arith, length-append t.taken (goes.entry ∷ [])) in rw (← many) removes

    -- all was taken
    module _ (all : i ≡ length middle) where
      none-left : t.rest ≡ []
      none-left = go t.rest refl
        where
          go : (rest : List (Entry (K × V))) → t.rest ≡ rest → rest ≡ []
          go [] is = refl
          go (e ∷ es) is = absurd (omega (arith, ap length t.takes.part, length-append t.taken t.rest, t.counted, ap length is))

      all-taken : t.taken ≡ middle
      all-taken = sym (t.takes.part ∙ ap (λ (xs : List (Entry (K × V))). t.taken ++ xs) none-left ∙ append-nil t.taken)

      pub taking-done : (now ≡ with_rest greatest old others) × (count now + i ≡ count old) × P middle
      taking-done = (
        removes-rest greatest old now (length t.taken) others t.takes.removes
            (t.takes.cut ∙ ap (λ (xs : List (Entry (K × V))). t.takes.front ++ (xs ++ t.takes.back)) none-left ∙ sym t.takes.others_are),
        omega (arith, t.counted, t.takes.removes.fewer),
        subst (λ (xs : List (Entry (K × V))). P xs) all-taken t.holds,
      )

-- the entry at a cut, by the pointer that names it
module _ {K V : Type 0} (greatest : Option ℕ) (old : Sorted K V) (distinct : IsDistinct old.entries) (next : Option (ℕ × ℕ)) (p : ℕ × ℕ) (is : next ≡ Some p) (at : IsCutAt old.entries next) where
  named : p ≡ pointer_of at.entry
  named = let both : Some p ≡ Some (pointer_of at.entry) = sym is ∙ at.named in cc

  pub cut-found : get old p ≡ Some at.entry.item
  cut-found = ap (get old) named ∙ found-here old.entries distinct at.front at.entry at.back at.cut

  pub cut-next_of : (after : Option (ℕ × ℕ)) → after ≡ next_of old.entries p → after ≡ option_map pointer_of (first_of at.back)
  cut-next_of after after_is = after_is ∙ ap (next_of old.entries) named ∙ next-here old.entries distinct at.front at.entry at.back at.cut

  -- it is removed
  pub takes-out : (new : Sorted K V) (item : K × V) → Some item ≡ get old p → new ≡ without_entry greatest old p → (after : Option (ℕ × ℕ)) → after ≡ next_of old.entries p
      → TakesOut greatest old next at item new after
  unfolding without_entry
  takes-out new item item_is gone after after_is = record {
    item_is = let both : Some item ≡ Some at.entry.item = item_is ∙ cut-found in cc;
    left = gone ∙ rw (← item_is) (ap (with_left greatest old) (ap (λ (q : ℕ × ℕ). without_index q.0 old.entries) named ∙ without-here old.entries distinct at.front at.entry at.back at.cut));
    next_is = cut-next_of after after_is;
  }

  -- it was asked for, and stays or goes
  module _ {F : Type 0} (R : F → Entry (K × V) → Bool → F → Type 0) (f g : F) where
    pub asks-kept : R f at.entry true g → (after : Option (ℕ × ℕ)) → after ≡ next_of old.entries p → AsksFor R greatest old next at f g old after
    asks-kept told after after_is = record { answer = true; told = told; left = refl; next_is = cut-next_of after after_is }

    pub asks-gone : R f at.entry false g → (new : Sorted K V) (item : K × V) (after : Option (ℕ × ℕ)) → TakesOut greatest old next at item new after → AsksFor R greatest old next at f g new after
    asks-gone told new item after out = record { answer = false; told = told; left = out.left; next_is = out.next_is }

-- what the test answers for the pointer of an entry and references to its key and its value, it answers for the entry
pub answered : {F P K V : Type 0} (numbers : P → ℕ × ℕ) (m : Mut F (P × (Bor K × (Bor V × Unit {0}))) Bool) (f f' : F) (answer : Bool) (p : P) (e : Entry (K × V)) (o : Option (Bor K × Bor V)) (x : Bor K × Bor V)
    → Some (numbers p) ≡ Some (pointer_of e) → o ≡ Some x → option_map (λ y. (y.0.now, y.1.now)) o ≡ Some e.item → Called m f (p, (x.0, (x.1, tt))) answer f' → AnswersForEntry numbers m f e answer f'
answered {K = K} {V = V} numbers m f f' answer p e o x named is shown called =
    let same : (x.0.now, x.1.now) ≡ e.item = some-same (sym (ap (option_map (λ (y : Bor K × Bor V). (y.0.now, y.1.now))) is) ∙ shown) in
    record {
      pointer = p;
      key = x.0;
      value = x.1;
      shows_pointer = some-same named;
      shows_key = ap (λ (y : K × V). y.0) same;
      shows_value = ap (λ (y : K × V). y.1) same;
      called = called;
    }
