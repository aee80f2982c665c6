-- Stretches of a list: what a step of an iterator from either end gives, and where it stands then.
use Rattle.std.proofs.Common.{◌≡◌, ◌≤◌, ℕ, length, length-append, List, [], ◌∷◌, ◌++◌, append_assoc, Option, Some, None, Bool, true, false, is_some, ◌==◌, refl, sym, ap, subst, ◌∙◌, arith}
use Rattle.std.proofs.lemmas.{Grind.common_steps, List.append-nil}
use Rattle.std.specs.Option.{option_map}
use Rattle.listing.specs.{Chain.Entry, Chain.times, Chain.IsDistinct, Chain.entry_at, Chain.item_of, Chain.from_index, Chain.link_at, Chain.first_pointer, Chain.last_pointer, Link.Link}
use Rattle.listing.proofs.ChainLemmas.{times-append, entry_at-link}
use Rattle.listing.specs.Gap.{last_of}
use Rattle.listing.proofs.OrdLemmas.{last_of-append, ends, no_last, link-read, not_before, entry_at-here, from_index-here}
use Rattle.sorted_arena.specs.Stretch.{before_index, stretch, first_index, IsStretch}
use Rattle.sorted_arena.proofs.Cutting.{some-same}

module _ {T : Type 0} where
  -- the entries before one whose index none of them has
  before-cut : (middle : List (Entry T)) (e : Entry T) (back : List (Entry T)) → times e.index middle ≡ 0 → before_index e.index (middle ++ e ∷ back) ≡ middle
  before-cut [] e back none = grind (arith, common_steps)
  before-cut (f ∷ middle) e back none = grind (arith, common_steps, before-cut middle e back)

  -- between two cuts of a list stands what a stretch has
  pub between-cuts : (es : List (Entry T)) → IsDistinct es → (front middle back : List (Entry T)) → es ≡ front ++ (middle ++ back)
      → stretch es (first_index (middle ++ back)) (first_index back) ≡ middle
  between-cuts es distinct front [] [] cut = refl
  between-cuts es distinct front [] (f ∷ back) cut = ap (before_index f.index) (from_index-here es distinct front f back cut) ∙ before-cut [] f back refl
  between-cuts es distinct front (e ∷ middle) [] cut = from_index-here es distinct front e (middle ++ []) cut ∙ append-nil (e ∷ middle)
  between-cuts es distinct front (e ∷ middle) (f ∷ back) cut =
      let before : times f.index (front ++ (e ∷ middle)) ≡ 0 = not_before es distinct (front ++ (e ∷ middle)) f back (cut ∙ sym (append_assoc front (e ∷ middle) (f ∷ back))) in
      let none : times f.index (e ∷ middle) ≡ 0 = omega (arith, before, times-append f.index front (e ∷ middle)) in
      ap (before_index f.index) (from_index-here es distinct front e (middle ++ (f ∷ back)) cut) ∙ before-cut (e ∷ middle) f back none

  pub stretch-middle : (es : List (Entry T)) (first end : Option ℕ) (s : IsStretch es first end) → stretch es first end ≡ s.middle
  stretch-middle es first end s =
      subst (λ (f : Option ℕ). stretch es f end ≡ s.middle) s.begins
      (subst (λ (x : Option ℕ). stretch es (first_index (s.middle ++ s.back)) x ≡ s.middle) s.ends (between-cuts es s.distinct s.front s.middle s.back s.cut))

  pub shorter-stretch : (es : List (Entry T)) (first end : Option ℕ) → IsStretch es first end → length (stretch es first end) ≤ length es
  shorter-stretch es first end s =
      omega (arith, ap length (stretch-middle es first end s), ap length s.cut, length-append s.front (s.middle ++ s.back), length-append s.middle s.back)

  -- a stretch that ends where it begins has nothing
  pub stretch-same : (es : List (Entry T)) (first end : Option ℕ) → first ≡ end → stretch es first end ≡ []
  stretch-same es None end same = refl
  stretch-same es (Some i) end same = subst (λ (x : Option ℕ). stretch es (Some i) x ≡ []) same (nothing es)
    where
      nothing : (xs : List (Entry T)) → before_index i (from_index xs i) ≡ []
      nothing [] = refl
      nothing (x ∷ xs) = grind (arith, common_steps, nothing xs)

  -- After a step from the front or from the back a stretch has this entry less.
  pub record StepsFirst (es : List (Entry T)) (first end : Option ℕ) (e : Entry T) (next : Option ℕ) : Type 0 where
    pub stands : IsStretch es next end
    pub step : stretch es first end ≡ e ∷ stretch es next end

  pub record StepsLast (es : List (Entry T)) (first end : Option ℕ) (e : Entry T) (last : Option ℕ) : Type 0 where
    pub stands : IsStretch es first last
    pub step : stretch es first end ≡ stretch es first last ++ e ∷ []

  module _ (es : List (Entry T)) (first end : Option ℕ) (s : IsStretch es first end) (apart : first ≡ end → ⊥) where
    -- there is a first entry, and a last one
    abbrev Begins : List (Entry T) → Type 0
    Begins middle = (e : Entry T) × (rest : List (Entry T)) × (middle ≡ e ∷ rest)

    abbrev Ends : List (Entry T) → Type 0
    Ends middle = (rest : List (Entry T)) × (e : Entry T) × (middle ≡ rest ++ e ∷ [])

    some_first : Begins s.middle
    some_first = go s.middle s.begins
      where
        go : (middle : List (Entry T)) → first_index (middle ++ s.back) ≡ first → Begins middle
        go [] begins = absurd (apart (sym begins ∙ s.ends))
        go (e ∷ rest) begins = (e, rest, refl)

    some_end : Ends s.middle
    some_end = go (last_of None s.middle) refl
      where
        go : (o : Option (Entry T)) → last_of None s.middle ≡ o → Ends s.middle
        go None none = absurd (let both : some_first.0 ∷ some_first.1 ≡ [] = sym some_first.2 ∙ no_last s.middle none in cc)
        go (Some e) last = let cut = ends s.middle e last in (cut.0, e, cut.1)

    behind_first : es ≡ s.front ++ some_first.0 ∷ (some_first.1 ++ s.back)
    behind_first = s.cut ∙ ap (λ (m : List (Entry T)). s.front ++ (m ++ s.back)) some_first.2

    before_last : es ≡ (s.front ++ some_end.0) ++ some_end.1 ∷ s.back
    before_last =
        s.cut ∙ ap (λ (m : List (Entry T)). s.front ++ (m ++ s.back)) some_end.2 ∙ ap (λ (m : List (Entry T)). s.front ++ m) (append_assoc some_end.0 (some_end.1 ∷ []) s.back)
        ∙ sym (append_assoc s.front some_end.0 (some_end.1 ∷ s.back))

    first_is : first ≡ Some some_first.0.index
    first_is = sym s.begins ∙ ap (λ (m : List (Entry T)). first_index (m ++ s.back)) some_first.2

    last_is : last_of None (s.front ++ s.middle) ≡ Some some_end.1
    last_is =
        ap (λ (m : List (Entry T)). last_of None (s.front ++ m)) some_end.2 ∙ ap (last_of None) (sym (append_assoc s.front some_end.0 (some_end.1 ∷ [])))
        ∙ last_of-append None (s.front ++ some_end.0) some_end.1 []

    module _ (i g : ℕ) (item : T) where
      abbrev entry : Entry T
      entry = record { index = i; generation = g; item = item }

      is_entry : (e : Entry T) → e.index ≡ i → e.generation ≡ g → e.item ≡ item → e ≡ entry
      is_entry e at of has =
          ap (λ (j : ℕ). record { index = j; generation = e.generation; item = e.item }) at
          ∙ ap (λ (h : ℕ). record { index = i; generation = h; item = e.item }) of
          ∙ ap (λ (x : T). record { index = i; generation = g; item = x }) has

    -- from the front
    module _ (i : ℕ) (at : first ≡ Some i) where
      at_first : some_first.0.index ≡ i
      at_first = let both : Some some_first.0.index ≡ Some i = sym first_is ∙ at in cc

      pub first-linked : None ≡ link_at es i → ⊥
      first-linked missing =
          let there = entry_at-here es s.distinct s.front some_first.0 (some_first.1 ++ s.back) behind_first in
          let none : entry_at es i ≡ None = entry_at-link None None es i ∙ ap (option_map (λ (e : ℕ × Link T). (e.0, e.1.item))) (sym missing) in
          absurd (let both : Some (some_first.0.generation, some_first.0.item) ≡ None = sym there ∙ ap (entry_at es) at_first ∙ none in cc)

      pub steps-first : (g : ℕ) (item : T) (l : Link T) → Some (g, l) ≡ link_at es i → l.item ≡ item → StepsFirst es first end (entry i g item) l.next
      steps-first g item l there holds =
          let linked = link-read es s.distinct s.front some_first.0 (some_first.1 ++ s.back) behind_first g l (ap (link_at es) at_first ∙ sym there) in
          let stands : IsStretch es l.next end = record {
            distinct = s.distinct;
            front = s.front ++ some_first.0 ∷ [];
            middle = some_first.1;
            back = s.back;
            cut = behind_first ∙ sym (append_assoc s.front (some_first.0 ∷ []) (some_first.1 ++ s.back));
            begins = linked.next;
            ends = s.ends;
          } in
          let is = is_entry i g item some_first.0 at_first linked.generation (linked.item ∙ holds) in
          record {
            stands = stands;
            step = stretch-middle es first end s ∙ some_first.2 ∙ ap (λ (x : Entry T). x ∷ some_first.1) is
                ∙ ap (λ (m : List (Entry T)). entry i g item ∷ m) (sym (stretch-middle es l.next end stands));
          }

    -- from the back, by the index of the last entry before the end
    module _ (o : Option ℕ) (before : (front back : List (Entry T)) → es ≡ front ++ back → first_index back ≡ end → option_map (λ e. e.index) (last_of None front) ≡ o) where
      end_is : Some some_end.1.index ≡ o
      end_is = sym (ap (option_map (λ (e : Entry T). e.index)) last_is) ∙ before (s.front ++ s.middle) s.back (s.cut ∙ sym (append_assoc s.front s.middle s.back)) s.ends

      pub last-named : o ≡ None → ⊥
      last-named none = absurd (let both : Some some_end.1.index ≡ None = end_is ∙ none in cc)

      module _ (i : ℕ) (at : o ≡ Some i) where
        at_last : some_end.1.index ≡ i
        at_last = let both : Some some_end.1.index ≡ Some i = end_is ∙ at in cc

        there_last : entry_at es i ≡ Some (some_end.1.generation, some_end.1.item)
        there_last = ap (entry_at es) (sym at_last) ∙ entry_at-here es s.distinct (s.front ++ some_end.0) some_end.1 s.back before_last

        pub last-occupied : None ≡ entry_at es i → ⊥
        last-occupied missing = absurd (let both : Some (some_end.1.generation, some_end.1.item) ≡ None = sym there_last ∙ sym missing in cc)

        pub steps-last : (g : ℕ) (item x : T) → Some (g, x) ≡ entry_at es i → x ≡ item → StepsLast es first end (entry i g item) (Some i)
        steps-last g item x there holds =
            let read : (some_end.1.generation, some_end.1.item) ≡ (g, x) = some-same (sym there_last ∙ sym there) in
            let of = ap (λ (e : ℕ × T). e.0) read in
            let has = ap (λ (e : ℕ × T). e.1) read in
            let stands : IsStretch es first (Some i) = record {
              distinct = s.distinct;
              front = s.front;
              middle = some_end.0;
              back = some_end.1 ∷ s.back;
              cut = before_last ∙ append_assoc s.front some_end.0 (some_end.1 ∷ s.back);
              begins = ap first_index (sym (append_assoc some_end.0 (some_end.1 ∷ []) s.back)) ∙ sym (ap (λ (m : List (Entry T)). first_index (m ++ s.back)) some_end.2) ∙ s.begins;
              ends = ap (λ (j : ℕ). Some j) at_last;
            } in
            let is = is_entry i g item some_end.1 at_last of (has ∙ holds) in
            record {
              stands = stands;
              step = stretch-middle es first end s ∙ some_end.2 ∙ ap (λ (x : Entry T). some_end.0 ++ x ∷ []) is
                  ∙ ap (λ (m : List (Entry T)). m ++ entry i g item ∷ []) (sym (stretch-middle es first (Some i) stands));
            }

  -- the index of the last entry before a cut
  module _ (es : List (Entry T)) (distinct : IsDistinct es) (front back : List (Entry T)) (cut : es ≡ front ++ back) where
    pub before-linked : (i g : ℕ) (l : Link T) → first_index back ≡ Some i → Some (g, l) ≡ link_at es i → option_map (λ e. e.index) (last_of None front) ≡ l.prev
    before-linked i g l ends there = go back cut ends
      where
        go : (back : List (Entry T)) → es ≡ front ++ back → first_index back ≡ Some i → option_map (λ e. e.index) (last_of None front) ≡ l.prev
        go [] cut ends = absurd (cc)
        go (f ∷ back) cut ends = let at : f.index ≡ i = cc in (link-read es distinct front f back cut g l (ap (link_at es) at ∙ sym there)).prev

    pub before-unlinked : {X : Type 0} (i : ℕ) → first_index back ≡ Some i → None ≡ link_at es i → X
    before-unlinked i ends missing = absurd (go back cut ends)
      where
        go : (back : List (Entry T)) → es ≡ front ++ back → first_index back ≡ Some i → ⊥
        go [] cut ends = absurd (cc)
        go (f ∷ back) cut ends =
            let at : f.index ≡ i = cc in
            let none : entry_at es i ≡ None = entry_at-link None None es i ∙ ap (option_map (λ (e : ℕ × Link T). (e.0, e.1.item))) (sym missing) in
            absurd (let both : Some (f.generation, f.item) ≡ None = sym (entry_at-here es distinct front f back cut) ∙ ap (entry_at es) at ∙ none in cc)

    pub before-end : (o : Option (ℕ × ℕ)) → first_index back ≡ None → o ≡ last_pointer es → option_map (λ e. e.index) (last_of None front) ≡ option_map (λ p. p.0) o
    before-end o ends last = ap (λ (xs : List (Entry T)). option_map (λ e. e.index) (last_of None xs)) (sym whole) ∙ of_last es ∙ ap (option_map (λ (p : ℕ × ℕ). p.0)) (sym last)
      where
        empty : (back : List (Entry T)) → first_index back ≡ None → back ≡ []
        empty [] none = refl
        empty (f ∷ back) none = absurd (cc)

        whole : es ≡ front
        whole = cut ∙ ap (λ (xs : List (Entry T)). front ++ xs) (empty back ends) ∙ append-nil front

        of_last : (xs : List (Entry T)) → option_map (λ e. e.index) (last_of None xs) ≡ option_map (λ p. p.0) (last_pointer xs)
        of_last [] = refl
        of_last (x ∷ []) = refl
        of_last (x ∷ y ∷ xs) = of_last (y ∷ xs)

  -- all of a list
  first_whole : (xs : List (Entry T)) → first_index (xs ++ []) ≡ option_map (λ p. p.0) (first_pointer xs)
  first_whole [] = refl
  first_whole (x ∷ xs) = refl

  module _ (es : List (Entry T)) (distinct : IsDistinct es) where
    pub whole-stretch : IsStretch es (option_map (λ p. p.0) (first_pointer es)) None
    whole-stretch = record { distinct = distinct; front = []; middle = es; back = []; cut = sym (append-nil es); begins = first_whole es; ends = refl }

    pub whole-stretched : stretch es (option_map (λ p. p.0) (first_pointer es)) None ≡ es
    whole-stretched = subst (λ (f : Option ℕ). stretch es f None ≡ es) (first_whole es) (between-cuts es distinct [] es [] (sym (append-nil es)))

-- from an entry that a pointer names on to the end
module _ {T : Type 0} where
  pub record FromThere (es : List (Entry T)) (i : ℕ) : Type 0 where
    pub front : List (Entry T)
    pub cut : es ≡ front ++ from_index es i
    pub begins : first_index (from_index es i) ≡ Some i

  pub from-there : (es : List (Entry T)) (i g : ℕ) → is_some (item_of es (i, g)) ≡ true → FromThere es i
  from-there [] i g there = absurd (cc)
  from-there (e ∷ es) i g there = go (e.index == i) refl (from-there es i g)
    where
      go : (b : Bool) → (e.index == i) ≡ b → (is_some (item_of es (i, g)) ≡ true → FromThere es i) → FromThere (e ∷ es) i
      go true is rest = record { front = []; cut = rw is refl; begins = grind (arith, common_steps) }
      go false is rest =
          let later : is_some (item_of es (i, g)) ≡ true = grind (arith, common_steps) in let from = rest later in
          record { front = e ∷ from.front; cut = rw is (ap (λ (zs : List (Entry T)). e ∷ zs) from.cut); begins = rw is from.begins }

  pub tail-stretch : (es : List (Entry T)) (p : ℕ × ℕ) → IsDistinct es → is_some (item_of es p) ≡ true → IsStretch es (Some p.0) None
  tail-stretch es p distinct there =
      let from = from-there es p.0 p.1 there in record {
        distinct = distinct;
        front = from.front;
        middle = from_index es p.0;
        back = [];
        cut = from.cut ∙ ap (λ (zs : List (Entry T)). from.front ++ zs) (sym (append-nil (from_index es p.0)));
        begins = ap first_index (append-nil (from_index es p.0)) ∙ from.begins;
        ends = refl;
      }
