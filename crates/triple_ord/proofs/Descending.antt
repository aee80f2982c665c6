-- A descent from the root, by a closure or by a key: how it begins, continues and ends, and how few entries it visits.
use Rattle.std.proofs.{Common.Contains, Math.Pow.pow_mono}
use Rattle.ord_tree.specs.Laws.{HeightLaw, RankSquareLaw, TightRankLaw, RebuiltHeightLaw}
use Rattle.triple_ord.proofs.Words.{length-append, ◌≡◌, ◌≢◌, ℕ, false, ◌+◌, ◌-◌, ◌≤◌, List, [], ◌∷◌, ◌++◌, Option, Some, None, IsSome, IfSome, MatchOption, refl, sym, ap, subst, ◌∙◌, arith, inl, inr, max, map, length, append_assoc, Shape}
use Rattle.triple_ord.proofs.Words.{missing, node, root_of, walk, height, Tree, Gap, first_of, last_of, order_to, pointer, StopsAt, is_eq, ordering_then, Ordering, Less, Equal, Greater, Entry, times, IsDistinct, entry_at, times-append}
use Rattle.triple_ord.proofs.Words.{All-contains, before, after, present, met_next, found_where_ended, IsCompared, HasDescendedByKey, zero, suc, ◌^◌, ◌<◌, length-map, IsSound, size_of, rank_of, fib, IsSoundTree, size_of-walk, height-le-size, common_steps}
use Rattle.triple_ord.proofs.Words.{FoldsTo-push, append-nil, length_push, map_push, All-nil, All-cons, All-head, All-tail, All-push, FindsSimilar, IsPart, Shown, entries_of, but_last, IsSearch, where_equal, similar_of, FindsWith}
use Rattle.triple_ord.proofs.Words.{HasEndedByKey, FindsSimilarWith, IsNodeAt, side_of, IsDescending, HasDescended, get_or, cases_eq, get_or_default, Contains-append_left, Contains-append_right, Contains-push, IfSome_then, All, FoldsTo, option_map}
use Rattle.triple_ord.proofs.{Inserting.last_of-append, Inserting.no_first, Inserting.no_last, Inserting.entry_at-here, Words.limit_of-below, Words.IsWithinBounds, Words.VisitsLaw}

-- the sides of a part are parts
IsPart-whole : (s : Shape) → IsPart s s
IsPart-whole missing = refl
IsPart-whole (node l i k r) = inl refl

IsPart-sides : (s l r : Shape) (i k : ℕ) → IsPart (node l i k r) s → IsPart l s × IsPart r s
IsPart-sides missing l r i k part = absurd (cc)
IsPart-sides (node l' i' k' r') l r i k part = elim part [
  | inl same ↦ subst (λ s. IsPart l s × IsPart r s) same (inr (inl (IsPart-whole l)), inr (inr (IsPart-whole r)))
  | inr rest ↦ elim rest [
    | inl p ↦ let sides = IsPart-sides l' l r i k p in (inr (inl sides.0), inr (inl sides.1))
    | inr p ↦ let sides = IsPart-sides r' l r i k p in (inr (inr sides.0), inr (inr sides.1))
  ]
]

-- what holds for each element holds for each but the last
but_last-push : {X : Type 0} (xs : List X) (x : X) → but_last (xs ++ x ∷ []) ≡ xs
but_last-push (y ∷ (z ∷ zs)) x = ap (λ l. y ∷ l) (but_last-push (z ∷ zs) x)
but_last-push xs x = refl

All-but_last : {X : Type 0} (P : X → Type 0) (xs : List X) → All P xs → All P (but_last xs)
All-but_last P (x ∷ (y ∷ ys)) all = All-cons P x (but_last (y ∷ ys)) (All-head P x (y ∷ ys) all) (All-but_last P (y ∷ ys) (All-tail P x (y ∷ ys) all))
All-but_last P xs all = All-nil P

IfSome-from_match : {X : Type 0} (o : Option X) (P : Type 0) (Q : X → Type 0) → MatchOption o P Q → IfSome o Q
IfSome-from_match o P Q is = grind (arith, common_steps)

module _ {T : Type 0} where
  -- entries with these indexes, cut where the indexes are cut
  pub record IsCutAt (es : List (Entry T)) (low : List ℕ) (i : ℕ) (high : List ℕ) : Type 0 where
    pub front : List (Entry T)
    pub entry : Entry T
    pub back : List (Entry T)
    pub cut : es ≡ front ++ entry ∷ back
    pub low_is : map (λ e. e.index) front ≡ low
    pub here : entry.index ≡ i
    pub high_is : map (λ e. e.index) back ≡ high

  cut_at : (es : List (Entry T)) (low : List ℕ) (i : ℕ) (high : List ℕ) → map (λ e. e.index) es ≡ low ++ i ∷ high → IsCutAt es low i high
  cut_at [] low i high same = absurd (omega (arith, ap length same, length-append low (i ∷ high)))
  cut_at (e ∷ es) [] i high same = record { front = []; entry = e; back = es; cut = refl; low_is = refl; here = cc; high_is = cc }
  cut_at (e ∷ es) (j ∷ low) i high same =
      let rest = cut_at es low i high (cc) in
      record {
        front = e ∷ rest.front;
        entry = rest.entry;
        back = rest.back;
        cut = ap (λ xs. e ∷ xs) rest.cut;
        low_is = let h : e.index ≡ j = cc in rw (h, rest.low_is) refl;
        here = rest.here;
        high_is = rest.high_is;
      }

  -- at the index of a part's root: its sides, and its entries cut at the root's entry
  pub record IsFacing (i : ℕ) (part : Shape) (middle : List (Entry T)) : Type 0 where
    pub lesser : Shape
    pub rank : ℕ
    pub greater : Shape
    pub node_is : part ≡ node lesser i rank greater
    pub cut : IsCutAt middle (walk lesser) i (walk greater)

  facing : (i : ℕ) (part : Shape) (middle : List (Entry T)) → Some i ≡ root_of part → map (λ e. e.index) middle ≡ walk part → IsFacing i part middle
  facing i missing middle led left = absurd (cc)
  facing i (node l j k r) middle led left =
      let here : j ≡ i = cc in
      record { lesser = l; rank = k; greater = r; node_is = rw here refl; cut = cut_at middle (walk l) i (walk r) (rw here at left) }

  module _ (t : Tree T) (listed : map (λ e. e.index) t.list.entries ≡ walk t.shape) (distinct : IsDistinct t.list.entries) where
    pub IsDescending-begin : (d : IsDescending t.list.entries t.shape [] (root_of t.shape)) × (first_of d.back ≡ None)
    IsDescending-begin = (
      record {
        part = t.shape;
        within = IsPart-whole t.shape;
        led = refl;
        front = [];
        middle = t.list.entries;
        back = [];
        cut = sym (append-nil t.list.entries);
        left = listed;
        greater_before = tt;
        less_after = tt;
        last_beside = (refl, refl);
        few = omega arith;
        new = λ j. omega (arith, distinct j);
        inside = All-nil (λ (s : Shown T). Contains t.list.entries s.0);
        no_equal = All-nil (λ (s : Shown T). s.1 ≢ Equal);
      },
      refl,
    )

-- a descent that has come to a link, and the entry there
module _ {T : Type 0} (t : Tree T) (distinct : IsDistinct t.list.entries) (shown : List (Shown T)) (i : ℕ) (d : IsDescending t.list.entries t.shape shown (Some i)) where
  pub face : IsFacing i d.part d.middle
  face = facing i d.part d.middle d.led d.left

  abbrev pub step-entry : Entry T
  step-entry = face.cut.entry

  whole : t.list.entries ≡ (d.front ++ face.cut.front) ++ step-entry ∷ (face.cut.back ++ d.back)
  whole = d.cut ∙ ap (λ xs. d.front ++ (xs ++ d.back)) face.cut.cut ∙ simp append_assoc

  step-found : entry_at t.list.entries i ≡ Some (step-entry.generation, step-entry.item)
  step-found = ap (entry_at t.list.entries) (sym face.cut.here) ∙ entry_at-here t.list.entries distinct (d.front ++ face.cut.front) step-entry (face.cut.back ++ d.back) whole

  pub step-occupied : IsSome (entry_at t.list.entries i)
  step-occupied = rw step-found refl

  tall : height d.part ≡ max (height face.lesser) (height face.greater) + 1
  tall = ap height face.node_is

  pub step-few : length shown + 1 ≤ height t.shape
  step-few = omega (arith, d.few, tall)

  -- the entry is shown and answered
  module _ (o : Ordering) where
    abbrev more : List (Shown T)
    more = shown ++ (step-entry, o) ∷ []

    inside_more : All (λ s. Contains t.list.entries s.0) more
    inside_more =
        let here = Contains-append_right (d.front ++ face.cut.front) (step-entry ∷ (face.cut.back ++ d.back)) step-entry (0, omega arith, refl) in
        All-push (λ (s : Shown T). Contains t.list.entries s.0) shown (step-entry, o) d.inside (subst (λ (es : List (Entry T)). Contains es step-entry) (sym whole) here)

    new_more : (j : ℕ) → times j (entries_of more) + (times j face.cut.front + times j face.cut.back) ≤ 1
    new_more j =
        let all = ap (times j) (map_push (λ s. s.0) shown (step-entry, o)) ∙ times-append j (entries_of shown) (step-entry ∷ []) in
        omega (arith, d.new j, ap (times j) face.cut.cut ∙ times-append j face.cut.front (step-entry ∷ face.cut.back), all)

  -- the descent has met an entry that was answered `Equal`
  pub step-met : IsSearch t.list.entries (more Equal)
  step-met =
      record {
        within = inside_more Equal;
        different = λ j. omega (arith, new_more Equal j);
        equal_last = rw (but_last-push shown (step-entry, Equal)) d.no_equal;
        ends = inl (step-entry, last_of-append None shown (step-entry, Equal) []);
      }

  module _ (generation : ℕ) (item : T) (lesser greater : Option ℕ) (there : IsNodeAt t i generation item lesser greater) where
    step-named : ◌≡◌ {A = ℕ × T} (step-entry.generation, step-entry.item) (generation, item)
    step-named = let h = step-found in let s = there.entry in cc

    pub step-pointer : pointer step-entry ≡ (i, generation)
    step-pointer = let e : step-entry.generation ≡ generation = ap (λ e. e.0) step-named in let h = face.cut.here in cc

    pub step-item : step-entry.item ≡ item
    step-item = ap (λ e. e.1) step-named

    part_here : IsPart (node face.lesser i face.rank face.greater) t.shape
    part_here = rw face.node_is at d.within

    -- the descent goes to a side; the entry is after what is left on the lesser side, and before it on the greater one
    step-lesser : (e : IsDescending t.list.entries t.shape (more Less) lesser) × (first_of e.back ≡ Some step-entry)
    step-lesser = (
      record {
        part = face.lesser;
        within = (IsPart-sides t.shape face.lesser face.greater i face.rank part_here).0;
        led = there.lesser_root face.lesser face.greater face.rank part_here;
        front = d.front;
        middle = face.cut.front;
        back = step-entry ∷ (face.cut.back ++ d.back);
        cut = whole ∙ simp append_assoc;
        left = face.cut.low_is;
        greater_before = IfSome_then (last_of None d.front) d.greater_before (λ e. Contains-append_left shown ((step-entry, Less) ∷ []) (e, Greater));
        less_after = Contains-push shown (step-entry, Less);
        last_beside = rw last_of-append (inr refl);
        few = omega (arith, d.few, tall, length_push shown (step-entry, Less));
        new = λ j. omega (arith, new_more Less j);
        inside = inside_more Less;
        no_equal = All-push (λ (s : Shown T). s.1 ≢ Equal) shown (step-entry, Less) d.no_equal (λ e. cc);
      },
      refl,
    )

    step-greater : (e : IsDescending t.list.entries t.shape (more Greater) greater) × (first_of e.back ≡ first_of d.back)
    step-greater =
        let before = last_of-append None (d.front ++ face.cut.front) step-entry [] in (
          record {
            part = face.greater;
            within = (IsPart-sides t.shape face.lesser face.greater i face.rank part_here).1;
            led = there.greater_root face.lesser face.greater face.rank part_here;
            front = (d.front ++ face.cut.front) ++ step-entry ∷ [];
            middle = face.cut.back;
            back = d.back;
            cut = whole ∙ simp append_assoc;
            left = face.cut.high_is;
            greater_before = rw before (Contains-push shown (step-entry, Greater));
            less_after = IfSome_then (first_of d.back) d.less_after (λ e. Contains-append_left shown ((step-entry, Greater) ∷ []) (e, Less));
            last_beside = rw (last_of-append None shown (step-entry, Greater) [], before) (inl refl);
            few = omega (arith, d.few, tall, length_push shown (step-entry, Greater));
            new = λ j. omega (arith, new_more Greater j);
            inside = inside_more Greater;
            no_equal = All-push (λ (s : Shown T). s.1 ≢ Equal) shown (step-entry, Greater) d.no_equal (λ e. cc);
          },
          refl,
        )

    -- after `Equal` it goes on as after `Less`
    pub step-side : (o : Ordering) → (e : IsDescending t.list.entries t.shape (more (ordering_then o Less)) (side_of o lesser greater))
        × (first_of e.back ≡ side_of o (Some step-entry) (first_of d.back))
    step-side Greater = step-greater
    step-side o = step-lesser

-- a descent that has come to an empty side stops at a gap
module _ {T : Type 0} (es : List (Entry T)) (shape : Shape) (shown : List (Shown T)) (d : IsDescending es shape shown None) where
  none_left : (part : Shape) (middle : List (Entry T)) → None ≡ root_of part → map (λ e. e.index) middle ≡ walk part → middle ≡ []
  none_left missing [] led left = refl
  none_left part middle led left = absurd (cc)

  pub cut_there : es ≡ d.front ++ d.back
  cut_there = d.cut ∙ ap (λ xs. d.front ++ (xs ++ d.back)) (none_left d.part d.middle d.led d.left)

  descent-search : IsSearch es shown
  descent-search = record {
    within = d.inside;
    different = λ j. omega (arith, d.new j);
    equal_last = All-but_last (λ (s : Shown T). s.1 ≢ Equal) shown d.no_equal;
    ends =
        let gap : Gap es = record { front = d.front; back = d.back; cut = cut_there } in
        inr (gap, record { greater_before = d.greater_before; less_after = d.less_after; last_beside = IfSome-from_match (last_of None shown) _ _ d.last_beside });
  }

  -- nothing was shown only in an empty list
  pub descent-empty : (last : Option (Shown T)) → last_of None shown ≡ last → MatchOption (similar_of last) (es ≡ []) (λ a. Unit {0})
  descent-empty None is = let none = rw is at d.last_beside in rw (cut_there, no_last d.front none.0, no_first d.back none.1) refl
  descent-empty (Some s) is = tt

-- an answer other than `Equal` is the direction that it leads to
turned : (o : Ordering) → is_eq o ≡ false → ordering_then o Less ≡ o
turned o other = grind (arith, common_steps)

-- One step of a descent in a tree: the entry at the link is shown to the closure.
module _ {T F : Type 0} (asks : F → Shown T → F → Type 0) (t : Tree T) (distinct : IsDistinct t.list.entries) (f : F) (before : ℕ) where
  pub descent-begins : map (λ e. e.index) t.list.entries ≡ walk t.shape → HasDescended asks t.list.entries t.shape before f f (root_of t.shape) before None
  descent-begins listed = record { shown = []; calls = refl; descending = (IsDescending-begin t listed distinct).0; count = omega arith; last_is = refl }

  module _ (g : F) (visits : ℕ) (last : Option ((ℕ × ℕ) × Ordering)) where
    pub descent-ends : HasDescended asks t.list.entries t.shape before f g None visits last
        → FindsSimilarWith asks t.list.entries f g last (visits - before)
    descent-ends d = (
      last_of None d.shown,
      record { shown = d.shown; calls = d.calls; search = descent-search t.list.entries t.shape d.shown d.descending; last_is = refl; count = omega (arith, d.count) },
      d.last_is,
      rw d.last_is (descent-empty t.list.entries t.shape d.shown d.descending (last_of None d.shown) refl),
    )

  module _ (g : F) (i visits : ℕ) (last : Option ((ℕ × ℕ) × Ordering)) (d : HasDescended asks t.list.entries t.shape before f g (Some i) visits last)
      (generation : ℕ) (item : T) (lesser greater : Option ℕ) (there : IsNodeAt t i generation item lesser greater) where
    abbrev entry : Entry T
    entry = step-entry t distinct d.shown i d.descending

    module _ (o : Ordering) (h : F) (asked : (e : Entry T) → pointer e ≡ (i, generation) → e.item ≡ item → asks g (e, o) h) where
      calls_more : FoldsTo asks f (d.shown ++ (entry, o) ∷ []) h
      calls_more = FoldsTo-push asks f d.shown g (entry, o) h d.calls
          (asked entry (step-pointer t distinct d.shown i d.descending generation item lesser greater there) (step-item t distinct d.shown i d.descending generation item lesser greater there))

      last_more : Some ((i, generation), o) ≡ similar_of (last_of None (d.shown ++ (entry, o) ∷ []))
      last_more = rw (last_of-append None d.shown (entry, o) [], step-pointer t distinct d.shown i d.descending generation item lesser greater there) refl

      pub step-equal : o ≡ Equal → FindsSimilarWith asks t.list.entries f h (Some ((i, generation), o)) (visits + 1 - before)
      step-equal is = (
        last_of None (d.shown ++ (entry, o) ∷ []),
        record {
          shown = d.shown ++ (entry, o) ∷ [];
          calls = calls_more;
          search = rw is (step-met t distinct d.shown i d.descending);
          last_is = refl;
          count = omega (arith, d.count, length_push d.shown (entry, o));
        },
        last_more,
        tt,
      )

      pub step-on : is_eq o ≡ false → HasDescended asks t.list.entries t.shape before f h (side_of o lesser greater) (visits + 1) (Some ((i, generation), o))
      step-on other = record {
        shown = d.shown ++ (entry, o) ∷ [];
        calls = calls_more;
        descending = rw (turned o other) at (step-side t distinct d.shown i d.descending generation item lesser greater there o).0;
        count = omega (arith, d.count, length_push d.shown (entry, o));
        last_is = last_more;
      }

-- what came with `Equal`, mapped
where_equal-map : {X Y : Type 0} (f : X → Y) (found : Option (X × Ordering))
    → where_equal (option_map (λ a. (f a.0, a.1)) found) ≡ option_map f (where_equal found)
where_equal-map f found = grind (arith, common_steps)

-- a search for a similar entry gives a search for an equal one
module _ {P T F : Type 0} (numbers : P → ℕ × ℕ) (asks : F → Shown T → F → Type 0) (es : List (Entry T)) (f g : F) (c : ℕ) where
  pub finds_with-similar : (o : Option (P × Ordering)) → FindsSimilarWith asks es f g (option_map (λ a. (numbers a.0, a.1)) o) c
      → FindsWith asks es f g (option_map numbers (where_equal o)) c
  finds_with-similar o search = (search.0, search.1, sym (where_equal-map numbers o) ∙ ap where_equal search.2 ∙ where_equal-map pointer search.0)

-- the order of a key to an entry, from the direction taken there
greater_of : (o : Ordering) → Greater ≡ ordering_then o Less → o ≡ Greater
greater_of o turn = grind (arith, common_steps)

-- an answer other than `Equal` meets no equal entry
pub unmet : {X : Type 0} (x : X) (o : Ordering) → is_eq o ≡ false → met_next None x o ≡ None
unmet x o test = grind (arith, common_steps)

pub met_next-map : {X Y : Type 0} (f : X → Y) (met : Option X) (x : X) (o : Ordering) → option_map f (met_next met x o) ≡ met_next (option_map f met) (f x) o
met_next-map f met x o = grind (arith, common_steps)

found_where_ended-map : {X Y : Type 0} (f : X → Y) (met : Option X) (last : Option (X × Ordering))
    → option_map (λ a. (f a.0, a.1)) (found_where_ended met last) ≡ found_where_ended (option_map f met) (option_map (λ a. (f a.0, a.1)) last)
found_where_ended-map f None last = refl
found_where_ended-map f (Some x) last = refl

-- what a search answers where it ends, by the numbers of its pointers
pub found_where_ended-by : {X Y : Type 0} (f : X → Y) (met : Option X) (last found : Option (X × Ordering)) → found ≡ found_where_ended met last
    → option_map (λ a. (f a.0, a.1)) found ≡ found_where_ended (option_map f met) (option_map (λ a. (f a.0, a.1)) last)
found_where_ended-by f met last found is = ap (option_map (λ a. (f a.0, a.1))) is ∙ found_where_ended-map f met last

-- two entries got different answers
module _ {T : Type 0} (shown : List (Shown T)) where
  pub neighbours_shown : (low high : Option (Entry T)) → IfSome low (λ e. Contains shown (e, Greater)) → IfSome high (λ e. Contains shown (e, Less))
      → present low + present high ≤ length shown
  neighbours_shown (Some a) (Some b) l h = elim (cases_eq l.0 h.0) [
    | inl same ↦
        let clash = sym l.2 ∙ (get_or_default shown l.0 (a, Greater) (b, Less) l.1) ∙ ap (λ k. get_or shown k (b, Less)) same ∙ h.2 in
        absurd (let both : Greater ≡ Less = ap (λ s. s.1) clash in cc)
    | inr other ↦ omega (arith, l.1, h.1)
  ]
  neighbours_shown low high l h = grind (arith, common_steps)

module _ {T K : Type 0} (key : T → K) (cmp : K → K → Ordering) (t : Tree T) (distinct : IsDistinct t.list.entries) (k : K) (start : ℕ) where
  abbrev Turned : Shown T → Type 0
  Turned s = s.1 ≡ ordering_then (order_to key cmp k s.0) Less

  -- the entry of a gap with the order of k to its key
  abbrev answer_at : Option (Entry T) → Option ((ℕ × ℕ) × Ordering)
  answer_at o = option_map (λ e. (pointer e, order_to key cmp k e)) o

  pub by_key-begins : map (λ e. e.index) t.list.entries ≡ walk t.shape → HasDescendedByKey key cmp t.list.entries t.shape k start (root_of t.shape) start None None
  by_key-begins listed =
      let begin = IsDescending-begin t listed distinct in
      record { shown = []; turned = All-nil Turned; descending = begin.0; count = omega arith; last_is = refl; met_is = rw begin.1 refl }

  -- the key is compared with that of the entry at the link
  module _ (i visits : ℕ) (last : Option ((ℕ × ℕ) × Ordering)) (met : Option (ℕ × ℕ)) (d : HasDescendedByKey key cmp t.list.entries t.shape k start (Some i) visits last met)
      (p : ℕ × ℕ) (o : Ordering) (next : Option ℕ) (seen : IsCompared key cmp t i k p o next) where
    abbrev compared : Entry T
    compared = step-entry t distinct d.shown i d.descending

    entry_order : order_to key cmp k compared ≡ o
    entry_order = ap (λ x. cmp k (key x)) (step-item t distinct d.shown i d.descending p.1 seen.item seen.lesser seen.greater seen.there) ∙ sym seen.order_is

    entry_is : answer_at (Some compared) ≡ Some (p, o)
    entry_is = rw (entry_order, step-pointer t distinct d.shown i d.descending p.1 seen.item seen.lesser seen.greater seen.there, ← seen.here) refl

    met_step : (o : Ordering) → answer_at (Some compared) ≡ Some (p, o)
        → met_next met p o ≡ where_equal (answer_at (side_of o (Some compared) (first_of d.descending.back)))
    met_step Greater is = d.met_is
    met_step o is = ap where_equal (sym is)

    pub by_key-step : HasDescendedByKey key cmp t.list.entries t.shape k start next (visits + 1) (Some (p, o)) (met_next met p o)
    by_key-step =
        let step = step-side t distinct d.shown i d.descending p.1 seen.item seen.lesser seen.greater seen.there o in
        rw seen.next_is (record {
          shown = d.shown ++ (compared, ordering_then o Less) ∷ [];
          turned = All-push Turned d.shown (compared, ordering_then o Less) d.turned (rw entry_order refl);
          descending = step.0;
          count = omega (arith, d.count, length_push d.shown (compared, ordering_then o Less));
          last_is = rw last_of-append (sym entry_is);
          met_is = rw step.1 (met_step o entry_is);
        })

  -- the descent has come to its end
  module _ (visits : ℕ) (last : Option ((ℕ × ℕ) × Ordering)) (met : Option (ℕ × ℕ)) (d : HasDescendedByKey key cmp t.list.entries t.shape k start None visits last met) where
    abbrev end : Gap t.list.entries
    end = record { front = d.descending.front; back = d.descending.back; cut = cut_there t.list.entries t.shape d.shown d.descending }

    lesser : IfSome (before end) (λ e. order_to key cmp k e ≡ Greater)
    lesser = IfSome_then (before end) d.descending.greater_before (λ e shown. greater_of _ (All-contains Turned d.shown (e, Greater) d.turned shown))

    -- the entry after the gap is equal, so it is the first of its group
    pub by_key-equal : (p : ℕ × ℕ) → met ≡ Some p → FindsSimilar key cmp t.list.entries k (Some (p, Equal)) (visits - start)
    by_key-equal p is = go (after end) refl d.descending.less_after d.met_is
      where
        told : (q : ℕ × ℕ) (o : Ordering) → Some p ≡ where_equal (Some (q, o)) → (p ≡ q) × (o ≡ Equal)
        told q o same = grind (arith, common_steps)

        go : (o : Option (Entry T)) → after end ≡ o → IfSome o (λ e. Contains d.shown (e, Less)) → met ≡ where_equal (answer_at o)
            → FindsSimilar key cmp t.list.entries k (Some (p, Equal)) (visits - start)
        go None none shown met_is = absurd (cc)
        go (Some e) some shown met_is =
            let both = told (pointer e) (order_to key cmp k e) (sym is ∙ met_is) in
            (e, rw (both.0, both.1) refl, inl (record { gap = end; here = some; lesser_before = lesser; equal = both.1 }, omega (arith, shown.1, d.count)))

    -- the entry after the gap, if any, isn't equal, so the gap fits
    pub by_key-other : met ≡ None → FindsSimilar key cmp t.list.entries k last (visits - start)
    by_key-other is = go (last_of None d.shown) refl
      where
        unequal : (q : ℕ × ℕ) (o : Ordering) → None ≡ where_equal (Some (q, o)) → is_eq o ≡ false
        unequal q o same = grind (arith, common_steps)

        greater : (o : Option (Entry T)) → IfSome o (λ e. Contains d.shown (e, Less)) → met ≡ where_equal (answer_at o)
            → IfSome o (λ e. order_to key cmp k e ≡ Less)
        greater None shown met_is = tt
        greater (Some e) shown met_is =
            let other = turned _ (unequal (pointer e) (order_to key cmp k e) (sym is ∙ met_is)) in
            sym (All-contains Turned d.shown (e, Less) d.turned shown ∙ other)

        stops : StopsAt key cmp end k (visits - start)
        stops = record {
          fits = record { lesser_before = lesser; greater_after = greater (after end) d.descending.less_after d.met_is };
          seen = omega (arith, neighbours_shown d.shown (before end) (after end) d.descending.greater_before d.descending.less_after, d.count);
        }

        go : (o : Option (Shown T)) → last_of None d.shown ≡ o → FindsSimilar key cmp t.list.entries k last (visits - start)
        go None none = rw (d.last_is, none) (descent-empty t.list.entries t.shape d.shown d.descending None none)
        go (Some s) some = rw (d.last_is, some) (s.0, refl, inr (end, stops, rw some at d.descending.last_beside))

  pub by_key-ended : (visits : ℕ) (last : Option ((ℕ × ℕ) × Ordering)) (met : Option (ℕ × ℕ))
      → HasDescendedByKey key cmp t.list.entries t.shape k start None visits last met
      → HasEndedByKey key cmp t k start (found_where_ended met last) visits
  by_key-ended visits last None d = record {
    similar = by_key-other visits last None d refl;
    few = omega (arith, d.descending.few, d.count);
  }
  by_key-ended visits last (Some p) d = record {
    similar = by_key-equal visits last (Some p) d p refl;
    few = omega (arith, d.descending.few, d.count);
  }

fib-step : (n : ℕ) → fib n ≤ fib (suc n)
fib-step (suc (suc n)) = omega arith
fib-step n = omega arith

fib-mono : (m n : ℕ) → m ≤ n → fib m ≤ fib n
fib-mono m zero least = let same : m ≡ 0 = omega arith in rw same (omega arith)
fib-mono m (suc n) least = grind (arith, common_steps, fib-mono m n, fib-step n)

-- a search that visits at most as many entries as the longest path down has is within the bounds, by the laws of balance
pub visits-bounded : HeightLaw → RankSquareLaw → TightRankLaw → RebuiltHeightLaw → VisitsLaw
visits-bounded height_law square_law tight_law rebuilt_law s c ranked few =
    record {
      ranked = λ some.
          let law = square_law s ranked some in
          let power : 2 ^ (c + 1) ≤ 2 ^ (rank_of s + 1) = pow_mono (omega (arith, few, height_law s ranked)) in
          omega (arith, law, power);
      tight = λ tight.
          let less : fib (c + 2) ≤ fib (rank_of s + 2) = fib-mono (c + 2) (rank_of s + 2) (omega (arith, few, height_law s ranked)) in
          omega (arith, tight_law s ranked tight, less);
      rebuilt = λ rebuilt digits has. omega (arith, few, rebuilt_law s digits rebuilt has);
      empty = λ none. omega (arith, few, none, height-le-size s);
    }

module _ {T : Type 0} (t : Tree T) (sound : IsSoundTree t) where
  pub size-listed : size_of t.shape ≡ length t.list.entries
  size-listed = size_of-walk t.shape ∙ ap length sound.listed ∙ length-map t.list.entries (λ e. e.index)

  -- the longest path down is shorter than a word can count
  pub height-fits : (most : ℕ) (greatest : Option ℕ) → IsSound most greatest t.list → most + 1 < 2 ^ 64 → height t.shape < 2 ^ 64
  height-fits most greatest list fits = omega (arith, height-le-size t.shape, size-listed, list.counted, list.within_limit, limit_of-below most t.list.maximum)

  -- the law for the tree's list
  pub within_bounds : VisitsLaw → (c : ℕ) → c ≤ height t.shape → IsWithinBounds (length t.list.entries) t.shape c
  within_bounds law c few = rw (← size-listed) (law t.shape c sound.ranked few)
