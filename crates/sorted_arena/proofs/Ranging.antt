-- The entries whose keys are in a range stand between two cuts of a sorted list.
use Rattle.std.proofs.{iter.runs.Sources.from_front, iter.runs.Sources.from_back, lemmas.Grind.common_steps, lemmas.List.Sums.length-filter}
use Rattle.std.specs.{Iterator.YieldsFirstBy, Iterator.YieldsLastBy, declared.cmp.Ordering.Ordering, declared.cmp.Ordering.TheVariants.Greater}
use Rattle.sorted_arena.specs.{Range.GivesInOrder, Range.GivesInReverse, Layout.item_key}
use Rattle.std.proofs.Common.{◌≡◌, ◌≢◌, length, arith, Less, Equal, Greater, ℕ, ◌&&◌, not, true, false, Bool, filter, count_by, List, [], ◌∷◌, ◌++◌, Option, Some, None, IfSome, refl, sym, ap, ◌∙◌, if◌then◌else◌}
use Rattle.std.proofs.lemmas.List.Elements.{recursion_from_All}
use Rattle.std.specs.{List.AllByRecursion, Option.option_map, Option.option_and_then, Ordering.is_eq, Ordering.is_le, Ordering.is_lt, Cmp.IsTotalOrder}
use Rattle.std.specs.declared.ops.Bound.{Bound, TheVariants.Included, TheVariants.Excluded, TheVariants.Unbounded}
use Rattle.std.specs.BTreeMap.Range.{is_from_start, is_past_end}
use Rattle.listing.specs.{Chain.Entry, Chain.IsDistinct, Chain.item_of, Gap.first_of}
use Rattle.listing.proofs.OrdLemmas.{in_order-one, in_order-more, all_greater, all_less, recursion-map}
use Rattle.sorted_arena.specs.{Range.entries_between, Stretch.stretch, Stretch.IsStretch, Stretch.is_forward}
use Rattle.sorted_arena.specs.Sorted.{key_of, pointer_of, first_where, AreSorted}
use Rattle.sorted_arena.proofs.{Cutting.some-same, Cutting.index-pointer, Cutting.found-here, Cutting.lt_is, Cutting.not_le, Stretching.stretch-middle}

-- what runs of an iterator give
module _ {A X : Type 0} (shows : A → X) where
  pub gives_in_order : GivesInOrder shows
  gives_in_order = from_front (YieldsFirstBy shows (λ left. left)) shows (λ left. left) (λ s t h. ap length h.0) (λ s x t h. h)

  pub gives_in_reverse : GivesInReverse shows
  gives_in_reverse = from_back (YieldsLastBy shows (λ left. left)) shows (λ left. left) (λ s t h. ap length h.0) (λ s x t h. h)

-- between a key and itself are the entries with an equal key
pub count-equal : {K V : Type 0} (cmp : K → K → Ordering) (k : K) (es : List (Entry (K × V)))
    → length (entries_between cmp (Included k) (Included k) es) ≡ count_by (λ e. is_eq (cmp k (key_of e))) es
count-equal {K = K} {V = V} cmp k es = length-filter _ es ∙ same es
  where
    test : (o : Ordering) → (is_le o && not (is_lt o)) ≡ is_eq o
    test Less = refl
    test Equal = refl
    test Greater = refl

    same : (es : List (Entry (K × V))) → count_by (λ e. is_le (cmp k (key_of e)) && not (is_lt (cmp k (key_of e)))) es ≡ count_by (λ e. is_eq (cmp k (key_of e))) es
    same [] = refl
    same (e ∷ es) = grind (arith, common_steps, test (cmp k (key_of e)), same es)

module _ {K V : Type 0} where
  pub first_where-never : (es : List (Entry (K × V))) → first_where (λ e. false) es ≡ None
  first_where-never [] = refl
  first_where-never (e ∷ es) = first_where-never es

  module _ (test : Entry (K × V) → Bool) where
    -- the first entry that passes a test
    abbrev pub first_passing : List (Entry (K × V)) → Option (Entry (K × V))
    first_passing [] = None
    first_passing (e ∷ es) = if test e then Some e else first_passing es

    -- if an entry passes, all later ones do
    abbrev pub Stays : List (Entry (K × V)) → Type 0
    Stays [] = Unit {0}
    Stays (e ∷ es) = (test e ≡ true → AllByRecursion (λ f. test f ≡ true) es) × Stays es

    first_where-passing : (es : List (Entry (K × V))) → first_where test es ≡ option_map pointer_of (first_passing es)
    first_where-passing [] = refl
    first_where-passing (e ∷ es) = go (test e) refl (first_where-passing es)
      where
        go : (b : Bool) → test e ≡ b → first_where test es ≡ option_map pointer_of (first_passing es) → first_where test (e ∷ es) ≡ option_map pointer_of (first_passing (e ∷ es))
        go true is rest = rw is refl
        go false is rest = rw is rest

    passing-holds : (P : Entry (K × V) → Type 0) (es : List (Entry (K × V))) (f : Entry (K × V)) → AllByRecursion P es → first_passing es ≡ Some f → P f
    passing-holds P [] f all is = absurd (cc)
    passing-holds P (e ∷ es) f all is = go (test e) refl (λ h. passing-holds P es f all.1 h)
      where
        go : (b : Bool) → test e ≡ b → (first_passing es ≡ Some f → P f) → P f
        go true at rest = let same : e ≡ f = some-same (rw at at is) in rw (← same) all.0
        go false at rest = rest (rw at at is)

    passing-cut : (es : List (Entry (K × V))) (f : Entry (K × V)) → first_passing es ≡ Some f → (front : List (Entry (K × V))) × (back : List (Entry (K × V))) × (es ≡ front ++ f ∷ back)
    passing-cut [] f is = absurd (cc)
    passing-cut (e ∷ es) f is = go (test e) refl (λ h. passing-cut es f h)
      where
        go : (b : Bool) → test e ≡ b → (first_passing es ≡ Some f → (front : List (Entry (K × V))) × (back : List (Entry (K × V))) × (es ≡ front ++ f ∷ back))
            → (front : List (Entry (K × V))) × (back : List (Entry (K × V))) × (e ∷ es ≡ front ++ f ∷ back)
        go true at rest = let same : e ≡ f = some-same (rw at at is) in ([], es, ap (λ x. x ∷ es) same)
        go false at rest = let cut = rest (rw at at is) in (e ∷ cut.0, cut.1, ap (λ xs. e ∷ xs) cut.2)

  -- two tests: whether an entry is not before a start, and whether it is past an end
  module _ (s t : Entry (K × V) → Bool) where
    abbrev pub inside : List (Entry (K × V)) → List (Entry (K × V))
    inside es = filter (λ e. s e && not (t e)) es

    pub inside-in : (e : Entry (K × V)) (es : List (Entry (K × V))) → s e ≡ true → t e ≡ false → inside (e ∷ es) ≡ e ∷ inside es
    inside-in e es begun passed = rw (begun, passed) refl

    inside-before : (e : Entry (K × V)) (es : List (Entry (K × V))) → s e ≡ false → inside (e ∷ es) ≡ inside es
    inside-before e es begun = rw begun refl

    pub inside-past : (e : Entry (K × V)) (es : List (Entry (K × V))) → t e ≡ true → inside (e ∷ es) ≡ inside es
    inside-past e es passed = go (s e) refl
      where
        go : (b : Bool) → s e ≡ b → inside (e ∷ es) ≡ inside es
        go true begun = rw (begun, passed) refl
        go false begun = rw begun refl

    pub none-inside : (es : List (Entry (K × V))) → AllByRecursion (λ e. t e ≡ true) es → inside es ≡ []
    none-inside [] all = refl
    none-inside (e ∷ es) all = inside-past e es all.0 ∙ none-inside es all.1

    -- a list that is cut where the first test begins to hold, and where the second does
    pub record Split (es : List (Entry (K × V))) : Type 0 where
      pub front : List (Entry (K × V))
      pub middle : List (Entry (K × V))
      pub back : List (Entry (K × V))
      pub cut : es ≡ front ++ (middle ++ back)
      pub first : first_where s es ≡ option_map pointer_of (first_of (middle ++ back))
      pub past : first_where t es ≡ option_map pointer_of (first_of back)
      pub is : inside es ≡ middle

    record Part (es : List (Entry (K × V))) : Type 0 where
      pub middle : List (Entry (K × V))
      pub back : List (Entry (K × V))
      pub cut : es ≡ middle ++ back
      pub past : first_where t es ≡ option_map pointer_of (first_of back)
      pub is : inside es ≡ middle

    part : (es : List (Entry (K × V))) → AllByRecursion (λ e. s e ≡ true) es → Stays t es → Part es
    part [] all stays = record { middle = []; back = []; cut = refl; past = refl; is = refl }
    part (e ∷ es) all stays = go (t e) refl (part es all.1 stays.1)
      where
        go : (b : Bool) → t e ≡ b → Part es → Part (e ∷ es)
        go true passed rest = record { middle = []; back = e ∷ es; cut = refl; past = rw passed refl; is = inside-past e es passed ∙ none-inside es (stays.0 passed) }
        go false passed rest =
            record { middle = e ∷ rest.middle; back = rest.back; cut = ap (λ xs. e ∷ xs) rest.cut; past = rw passed rest.past; is = inside-in e es all.0 passed ∙ ap (λ xs. e ∷ xs) rest.is }

    pub split : (es : List (Entry (K × V))) → Stays s es → Stays t es → IfSome (first_passing t es) (λ f. s f ≡ true) → Split es
    split [] ss ts forward = record { front = []; middle = []; back = []; cut = refl; first = refl; past = refl; is = refl }
    split (e ∷ es) ss ts forward = go (s e) (t e) refl refl (λ h. split es ss.1 ts.1 h)
      where
        go : (b c : Bool) → s e ≡ b → t e ≡ c → (IfSome (first_passing t es) (λ f. s f ≡ true) → Split es) → Split (e ∷ es)
        go true c begun passed rest =
            let p = part (e ∷ es) (begun, ss.0 begun) ts in
            let here : first_where s (e ∷ es) ≡ Some (pointer_of e) = rw begun refl in
            record {
              front = [];
              middle = p.middle;
              back = p.back;
              cut = p.cut;
              first = here ∙ ap (λ (xs : List (Entry (K × V))). option_map pointer_of (first_of xs)) p.cut;
              past = p.past;
              is = p.is;
            }
        go false true begun passed rest = absurd (let both : s e ≡ true = rw passed at forward in cc)
        go false false begun passed rest =
            let r = rest (rw passed at forward) in
            record {
              front = e ∷ r.front;
              middle = r.middle;
              back = r.back;
              cut = ap (λ xs. e ∷ xs) r.cut;
              first = rw begun r.first;
              past = rw passed r.past;
              is = inside-before e es begun ∙ r.is;
            }

    -- where the first entry past the end is before the start, nothing is inside
    backwards : (es : List (Entry (K × V))) → Stays s es → Stays t es → (f : Entry (K × V)) → first_passing t es ≡ Some f → s f ≡ false → inside es ≡ []
    backwards [] ss ts f first before = absurd (cc)
    backwards (e ∷ es) ss ts f first before = go (s e) (t e) refl refl (λ h. backwards es ss.1 ts.1 f h before)
      where
        go : (b c : Bool) → s e ≡ b → t e ≡ c → (first_passing t es ≡ Some f → inside es ≡ []) → inside (e ∷ es) ≡ []
        go b true begun passed rest = inside-past e es passed ∙ none-inside es (ts.0 passed)
        go true false begun passed rest =
            absurd (let both : s f ≡ true = passing-holds t (λ x. s x ≡ true) es f (ss.0 begun) (rw passed at first) in cc)
        go false false begun passed rest = inside-before e es begun ∙ rest (rw passed at first)

  module _ (cmp : K → K → Ordering) (total : IsTotalOrder cmp) where
    module _ (a : K) (e f : Entry (K × V)) (most : cmp (key_of e) (key_of f) ≢ Greater) where
      lt-stays : is_lt (cmp a (key_of e)) ≡ true → is_lt (cmp a (key_of f)) ≡ true
      lt-stays less =
          let both = all_less item_key cmp total a (e ∷ f ∷ []) (in_order-more item_key cmp e f [] most (in_order-one item_key cmp f)) (lt_is (cmp a (key_of e)) less) in
          ap is_lt both.1.0

      le-stays : is_le (cmp a (key_of e)) ≡ true → is_le (cmp a (key_of f)) ≡ true
      le-stays less = go (is_le (cmp a (key_of f))) refl
        where
          go : (b : Bool) → is_le (cmp a (key_of f)) ≡ b → is_le (cmp a (key_of f)) ≡ true
          go true is = is
          go false is =
              let both = all_greater item_key cmp total a (e ∷ f ∷ []) [] (in_order-more item_key cmp e f [] most (in_order-one item_key cmp f)) (not_le (cmp a (key_of f)) is) in
              absurd (let other : is_le (cmp a (key_of e)) ≡ false = ap is_le both.0 in cc)

    stays : (test : K → Bool) → ((e f : Entry (K × V)) → cmp (key_of e) (key_of f) ≢ Greater → test (key_of e) ≡ true → test (key_of f) ≡ true)
        → (es : List (Entry (K × V))) → AreSorted cmp es → Stays (λ e. test (key_of e)) es
    stays test carries [] sorted = tt
    stays test carries (e ∷ es) sorted = (
      (λ holds. recursion-map (λ f. cmp (key_of e) (key_of f) ≢ Greater) (λ f. test (key_of f) ≡ true) (λ f most. carries e f most holds) es (recursion_from_All _ es sorted.0)),
      stays test carries es sorted.1,
    )

    pub from-stays : (from : Bound K) (es : List (Entry (K × V))) → AreSorted cmp es → Stays (λ e. is_from_start cmp from (key_of e)) es
    from-stays (Included a) es sorted = stays (λ k. is_le (cmp a k)) (le-stays a) es sorted
    from-stays (Excluded a) es sorted = stays (λ k. is_lt (cmp a k)) (lt-stays a) es sorted
    from-stays Unbounded es sorted = stays (λ k. true) (λ e f most holds. refl) es sorted

    pub past-stays : (until : Bound K) (es : List (Entry (K × V))) → AreSorted cmp es → Stays (λ e. is_past_end cmp until (key_of e)) es
    past-stays (Included b) es sorted = stays (λ k. is_lt (cmp b k)) (lt-stays b) es sorted
    past-stays (Excluded b) es sorted = stays (λ k. is_le (cmp b k)) (le-stays b) es sorted
    past-stays Unbounded es sorted = stays (λ k. false) (λ e f most holds. holds) es sorted

    module _ (es : List (Entry (K × V))) (distinct : IsDistinct es) (sorted : AreSorted cmp es) (from until : Bound K) where
      abbrev begun : Entry (K × V) → Bool
      begun e = is_from_start cmp from (key_of e)

      abbrev passed : Entry (K × V) → Bool
      passed e = is_past_end cmp until (key_of e)

      abbrev index_of : Option (ℕ × ℕ) → Option ℕ
      index_of o = option_map (λ p. p.0) o

      -- an iterator between these two pointers gives the entries in the range
      pub record Ranges (first end : Option (ℕ × ℕ)) : Type 0 where
        pub stands : IsStretch es (index_of first) (index_of end)
        pub gives : stretch es (index_of first) (index_of end) ≡ entries_between cmp from until es

      ranges-split : (first end : Option (ℕ × ℕ)) → first ≡ first_where begun es → end ≡ first_where passed es → Split begun passed es → Ranges first end
      ranges-split first end first_is end_is cut =
          let stands : IsStretch es (index_of first) (index_of end) = record {
            distinct = distinct;
            front = cut.front;
            middle = cut.middle;
            back = cut.back;
            cut = cut.cut;
            begins = index-pointer (first_of (cut.middle ++ cut.back)) ∙ sym (ap index_of (first_is ∙ cut.first));
            ends = index-pointer (first_of cut.back) ∙ sym (ap index_of (end_is ∙ cut.past));
          } in
          record { stands = stands; gives = stretch-middle es (index_of first) (index_of end) stands ∙ sym cut.is }

      ranges-none : (end : Option (ℕ × ℕ)) (f : Entry (K × V)) → end ≡ Some (pointer_of f) → (front back : List (Entry (K × V))) → es ≡ front ++ f ∷ back
          → entries_between cmp from until es ≡ [] → Ranges end end
      ranges-none end f end_is front back cut none =
          let at = ap index_of (sym end_is) in
          let stands : IsStretch es (index_of end) (index_of end) = record { distinct = distinct; front = front; middle = []; back = f ∷ back; cut = cut; begins = at; ends = at } in
          record { stands = stands; gives = stretch-middle es (index_of end) (index_of end) stands ∙ sym none }

      -- whether the first entry past the end, if any, is not before the start
      abbrev ahead : Option (ℕ × ℕ) → Bool
      ahead end = is_forward cmp from (option_and_then (item_of es) end)

      -- the pointers that an iterator over a range begins and ends with
      pub record Bounds {P : Type 0} (numbers : P → ℕ × ℕ) (first end : Option P) : Type 0 where
        pub past : option_map numbers end ≡ first_where passed es
        pub forward : ahead (option_map numbers end) ≡ true → option_map numbers first ≡ first_where begun es
        pub backward : ahead (option_map numbers end) ≡ false → first ≡ end

      pub ranges : {P : Type 0} (numbers : P → ℕ × ℕ) (first end : Option P) → Bounds numbers first end → Ranges (option_map numbers first) (option_map numbers end)
      ranges numbers first end bounds = go (first_passing passed es) refl
        where
          ss : Stays begun es
          ss = from-stays from es sorted

          ts : Stays passed es
          ts = past-stays until es sorted

          go : (o : Option (Entry (K × V))) → first_passing passed es ≡ o → Ranges (option_map numbers first) (option_map numbers end)
          go None none =
              let at : option_map numbers end ≡ None = bounds.past ∙ first_where-passing passed es ∙ ap (option_map pointer_of) none in
              let some_ahead : ahead (option_map numbers end) ≡ true = rw at refl in
              ranges-split (option_map numbers first) (option_map numbers end) (bounds.forward some_ahead) bounds.past (split begun passed es ss ts (rw none tt))
          go (Some f) some = by (begun f) refl
            where
              cut : (front : List (Entry (K × V))) × (back : List (Entry (K × V))) × (es ≡ front ++ f ∷ back)
              cut = passing-cut passed es f some

              at : option_map numbers end ≡ Some (pointer_of f)
              at = bounds.past ∙ first_where-passing passed es ∙ ap (option_map pointer_of) some

              shown : ahead (option_map numbers end) ≡ begun f
              shown = ap ahead at ∙ ap (is_forward cmp from) (found-here es distinct cut.0 f cut.1 cut.2)

              by : (b : Bool) → begun f ≡ b → Ranges (option_map numbers first) (option_map numbers end)
              by true is = ranges-split (option_map numbers first) (option_map numbers end) (bounds.forward (shown ∙ is)) bounds.past (split begun passed es ss ts (rw some is))
              by false is =
                  let same : option_map numbers first ≡ option_map numbers end = ap (option_map numbers) (bounds.backward (shown ∙ is)) in
                  rw same (ranges-none (option_map numbers end) f at cut.0 cut.1 cut.2 (backwards begun passed es ss ts f some is))
