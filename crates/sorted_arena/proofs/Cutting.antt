-- Lists of entries that are cut at a place: what the words of a sorted arena say there.
use Rattle.std.proofs.Common.{◌≡◌, ◌≢◌, ℕ, true, false, Bool, List, [], ◌∷◌, ◌++◌, map, length, append_assoc, Option, Some, None, IsSome, IfSome, IfNone, IsSomeAnd, is_some, refl, sym, ap, subst, ◌∙◌, arith, inl, inr}
use Rattle.std.proofs.lemmas.{Grind.common_steps, List.append-nil, List.Elements.All-from_recursion, List.Elements.recursion_from_All, Bool.Decides.eqb_tells}
use Rattle.std.specs.{List.AllByRecursion, List.All, Option.option_map, Ordering.is_eq, Ordering.is_le, Ordering.is_lt, Ordering.is_gt, Ordering.ordering_reverse, Ordering.ordering_then, Cmp.IsTotalOrder}
use Rattle.std.specs.declared.cmp.Ordering.{Ordering, TheVariants.Less, TheVariants.Equal, TheVariants.Greater}
use Rattle.listing.specs.Chain.{Entry, times, entry_at, item_of, IsDistinct, link_at, first_pointer, last_pointer, without, with_item_among, pointed}
use Rattle.listing.specs.Link.{Link}
use Rattle.listing.specs.{Gap.Gap, Gap.before, Gap.after, Gap.first_of, Gap.last_of, Search.order_to, Search.FindsKey, Search.FindsSimilar, Order.IsInOrder, PastEquals.order_past_equals}
use Rattle.listing.proofs.OrdLemmas.{IsInOrder-rest, IsInOrder-back, all_greater, all_less, recursion-map}
use Rattle.listing.proofs.OrdLemmas.{ends, stands, not_before, entry_at-here, link-read, no_last}
use Rattle.listing.proofs.ChainLemmas.{entry_at-link}
use Rattle.listing.proofs.CallerLemmas.{distinct-rest, sorted-in_order}
use Rattle.sorted_arena.specs.{Find.FindsFirst, Layout.item_key, Layout.pointer_among}
use Rattle.sorted_arena.specs.Sorted.{Sorted, IsSound, key_of, first_item, pointer_of, first_where, next_of, prev_from, prev_of, last_item, before_last, AreSorted}
use Rattle.sorted_arena.proofs.Elements.{all-at}

-- what a test tells of an option
pub absent : {X : Type 0} (b : Bool) (o : Option X) → b ≡ is_some o → b ≡ false → o ≡ None
absent b None tells is = refl
absent b (Some x) tells is = absurd (cc)

pub there : {X : Type 0} (b : Bool) (o : Option X) → b ≡ is_some o → b ≡ true → is_some o ≡ true
there b o tells is = sym tells ∙ is

pub some-same : {X : Type 0} {x y : X} → Some x ≡ Some y → x ≡ y
some-same is = cc

pub not_le : (o : Ordering) → is_le o ≡ false → o ≡ Greater
not_le Greater is = refl
not_le Less is = absurd (cc)
not_le Equal is = absurd (cc)

pub gt_is : (o : Ordering) → is_gt o ≡ true → o ≡ Greater
gt_is Greater is = refl
gt_is Less is = absurd (cc)
gt_is Equal is = absurd (cc)

pub not_less : (o : Ordering) → o ≢ Less → is_lt o ≡ false
not_less Less most = absurd (most refl)
not_less Equal most = refl
not_less Greater most = refl

passed-greater : (o : Ordering) → ordering_then o Greater ≡ Greater → o ≢ Less
passed-greater Less is = absurd (cc)
passed-greater Equal is = λ less. cc
passed-greater Greater is = λ less. cc

passed-less : (o : Ordering) → ordering_then o Greater ≡ Less → is_lt o ≡ true
passed-less Less is = refl
passed-less Equal is = absurd (cc)
passed-less Greater is = absurd (cc)

passed-unequal : (o : Ordering) → ordering_then o Greater ≡ Equal → ⊥
passed-unequal Less is = cc
passed-unequal Equal is = cc
passed-unequal Greater is = cc

pub lt_is : (o : Ordering) → is_lt o ≡ true → o ≡ Less
lt_is Less is = refl
lt_is Equal is = absurd (cc)
lt_is Greater is = absurd (cc)

pub lt_not : (o : Ordering) → is_lt o ≡ false → o ≢ Less
lt_not o is less = absurd (let both : is_lt o ≡ true = ap is_lt less in cc)

pub le_not : (o : Ordering) → is_le o ≡ true → o ≢ Greater
le_not o is greater = absurd (let both : is_le o ≡ false = ap is_le greater in cc)

pub eq_is : (o : Ordering) → is_eq o ≡ true → o ≡ Equal
eq_is Equal is = refl
eq_is Less is = absurd (cc)
eq_is Greater is = absurd (cc)

pub not_eq : (o : Ordering) → is_eq o ≡ false → o ≢ Equal
not_eq o is equal = absurd (let both : is_eq o ≡ true = ap is_eq equal in cc)

module _ {K V : Type 0} where
  pub index-pointer : (o : Option (Entry (K × V))) → option_map (λ e. e.index) o ≡ option_map (λ p. p.0) (option_map pointer_of o)
  index-pointer None = refl
  index-pointer (Some e) = refl

  -- the first entry that passes a test, behind entries that don't
  module _ (test : Entry (K × V) → Bool) where
    pub first_where-skip : (front back : List (Entry (K × V))) → AllByRecursion (λ e. test e ≡ false) front → first_where test (front ++ back) ≡ first_where test back
    first_where-skip [] back all = refl
    first_where-skip (e ∷ front) back all = rw (all.0) (first_where-skip front back all.1)

    pub first_where-none : (es : List (Entry (K × V))) → AllByRecursion (λ e. test e ≡ false) es → first_where test es ≡ None
    first_where-none [] all = refl
    first_where-none (e ∷ es) all = rw (all.0) (first_where-none es all.1)

    pub first_where-first : (back : List (Entry (K × V))) → IfSome (first_of back) (λ e. test e ≡ true) → first_where test back ≡ option_map pointer_of (first_of back)
    first_where-first [] first = refl
    first_where-first (e ∷ back) first = rw first refl

    -- where none is found none passes
    pub none-where : (es : List (Entry (K × V))) → first_where test es ≡ None → AllByRecursion (λ e. test e ≡ false) es
    none-where [] none = tt
    none-where (e ∷ es) none = go (test e) refl (λ rest. none-where es rest)
      where
        go : (b : Bool) → test e ≡ b → (first_where test es ≡ None → AllByRecursion (λ e. test e ≡ false) es) → (test e ≡ false) × AllByRecursion (λ e. test e ≡ false) es
        go true is others = absurd (let found : first_where test (e ∷ es) ≡ Some (pointer_of e) = rw is refl in cc)
        go false is others = (is, others (let same : first_where test (e ∷ es) ≡ first_where test es = rw is refl in sym same ∙ none))

    -- a list is cut at the entry of a pointer, which passes the test
    pub record CutWhere (es : List (Entry (K × V))) (p : ℕ × ℕ) : Type 0 where
      pub front : List (Entry (K × V))
      pub entry : Entry (K × V)
      pub back : List (Entry (K × V))
      pub cut : es ≡ front ++ entry ∷ back
      pub named : p ≡ pointer_of entry
      pub passes : test entry ≡ true

    pub cut-where : (es : List (Entry (K × V))) (p : ℕ × ℕ) → first_where test es ≡ Some p → CutWhere es p
    cut-where [] p found = absurd (cc)
    cut-where (e ∷ es) p found = go (test e) refl (λ rest. cut-where es p rest)
      where
        go : (b : Bool) → test e ≡ b → (first_where test es ≡ Some p → CutWhere es p) → CutWhere (e ∷ es) p
        go true is others = record { front = []; entry = e; back = es; cut = refl; named = some-same (sym found ∙ rw is refl); passes = is }
        go false is others =
            let rest = others (let same : first_where test (e ∷ es) ≡ first_where test es = rw is refl in sym same ∙ found) in
            record { front = e ∷ rest.front; entry = rest.entry; back = rest.back; cut = ap (λ ys. e ∷ ys) rest.cut; named = rest.named; passes = rest.passes }

  -- neighbours
  next-behind : (front : List (Entry (K × V))) (e : Entry (K × V)) (back : List (Entry (K × V))) → times e.index front ≡ 0
      → next_of (front ++ e ∷ back) (pointer_of e) ≡ option_map pointer_of (first_of back)
  next-behind [] e [] none = grind (arith, common_steps)
  next-behind [] e (f ∷ back) none = grind (arith, common_steps)
  next-behind (f ∷ front) e back none = grind (arith, common_steps, next-behind front e back)

  prev-behind : (o : Option (Entry (K × V))) (front : List (Entry (K × V))) (e : Entry (K × V)) (back : List (Entry (K × V))) → times e.index front ≡ 0
      → prev_from (option_map pointer_of o) (front ++ e ∷ back) (pointer_of e) ≡ option_map pointer_of (last_of o front)
  prev-behind o [] e back none = grind (arith, common_steps)
  prev-behind o (f ∷ front) e back none = grind (arith, common_steps, prev-behind (Some f) front e back)

  next-nowhere : (es : List (Entry (K × V))) (p : ℕ × ℕ) → times p.0 es ≡ 0 → next_of es p ≡ None
  next-nowhere [] p none = refl
  next-nowhere (e ∷ es) p none = grind (arith, common_steps, next-nowhere es p)

  prev-nowhere : (o : Option (ℕ × ℕ)) (es : List (Entry (K × V))) (p : ℕ × ℕ) → times p.0 es ≡ 0 → prev_from o es p ≡ None
  prev-nowhere o [] p none = refl
  prev-nowhere o (e ∷ es) p none = grind (arith, common_steps, prev-nowhere (Some (pointer_of e)) es p)

  pub next-absent : (es : List (Entry (K × V))) (p : ℕ × ℕ) → IsDistinct es → item_of es p ≡ None → next_of es p ≡ None
  next-absent [] p distinct none = refl
  next-absent (e ∷ es) p distinct none = elim (eqb_tells e.index p.0) [
    | inl h ↦ elim (eqb_tells e.generation p.1) [
      | inl k ↦ absurd (let some : item_of (e ∷ es) p ≡ Some e.item = rw (h.0, k.0) refl in cc)
      | inr k ↦ rw (h.0, k.0) (next-nowhere es p (grind (arith, common_steps, distinct p.0, h.1)))
    ]
    | inr h ↦ rw (h.0) (next-absent es p (distinct-rest e es distinct) (rw (h.0) at none))
  ]

  pub prev-absent : (o : Option (ℕ × ℕ)) (es : List (Entry (K × V))) (p : ℕ × ℕ) → IsDistinct es → item_of es p ≡ None → prev_from o es p ≡ None
  prev-absent o [] p distinct none = refl
  prev-absent o (e ∷ es) p distinct none = elim (eqb_tells e.index p.0) [
    | inl h ↦ elim (eqb_tells e.generation p.1) [
      | inl k ↦ absurd (let some : item_of (e ∷ es) p ≡ Some e.item = rw (h.0, k.0) refl in cc)
      | inr k ↦ rw (h.0, k.0) (prev-nowhere (Some (pointer_of e)) es p (grind (arith, common_steps, distinct p.0, h.1)))
    ]
    | inr h ↦ rw (h.0) (prev-absent (Some (pointer_of e)) es p (distinct-rest e es distinct) (rw (h.0) at none))
  ]

  -- ends of lists
  last_pointer-end : (front : List (Entry (K × V))) (e : Entry (K × V)) → last_pointer (front ++ e ∷ []) ≡ Some (pointer_of e)
  last_pointer-end [] e = refl
  last_pointer-end (x ∷ []) e = refl
  last_pointer-end (x ∷ y ∷ front) e = last_pointer-end (y ∷ front) e

  last_item-end : (front : List (Entry (K × V))) (e : Entry (K × V)) → last_item (front ++ e ∷ []) ≡ Some e.item
  last_item-end [] e = refl
  last_item-end (x ∷ []) e = refl
  last_item-end (x ∷ y ∷ front) e = last_item-end (y ∷ front) e

  before_last-end : (front : List (Entry (K × V))) (e : Entry (K × V)) → before_last (front ++ e ∷ []) ≡ front
  before_last-end [] e = refl
  before_last-end (x ∷ []) e = refl
  before_last-end (x ∷ y ∷ front) e = ap (λ ys. x ∷ ys) (before_last-end (y ∷ front) e)

  without-behind : (front : List (Entry (K × V))) (e : Entry (K × V)) (back : List (Entry (K × V))) → times e.index front ≡ 0 → without e.index (front ++ e ∷ back) ≡ front ++ back
  without-behind [] e back none = grind (arith, common_steps)
  without-behind (f ∷ front) e back none = grind (arith, common_steps, without-behind front e back)

  pub first-named : (es : List (Entry (K × V))) (p : ℕ × ℕ) → Some p ≡ first_pointer es → item_of es p ≡ first_item es
  first-named [] p first = absurd (cc)
  first-named (e ∷ es) p first =
      let there : item_of (e ∷ es) (pointer_of e) ≡ Some e.item = grind (arith, common_steps) in
      ap (item_of (e ∷ es)) (some-same first) ∙ there

  pub last-none : (es : List (Entry (K × V))) → last_pointer es ≡ None → length es ≡ 0
  last-none [] none = refl
  last-none (e ∷ []) none = absurd (cc)
  last-none (e ∷ f ∷ es) none = absurd (let rest = last-none (f ∷ es) none in omega arith)

  pub last-absent : {P : Type 0} (numbers : P → ℕ × ℕ) (o : Option P) (es : List (Entry (K × V))) → option_map numbers o ≡ last_pointer es → IfNone o (length es ≡ 0)
  last-absent numbers None es is = last-none es (sym is)
  last-absent numbers (Some p) es is = tt

  -- a list is cut at the entry of a pointer
  pub record CutAt (es : List (Entry (K × V))) (p : ℕ × ℕ) : Type 0 where
    pub front : List (Entry (K × V))
    pub entry : Entry (K × V)
    pub back : List (Entry (K × V))
    pub cut : es ≡ front ++ entry ∷ back
    pub named : pointer_of entry ≡ p

  -- an entry of a list in which each index stands once
  module _ (es : List (Entry (K × V))) (distinct : IsDistinct es) where
    module _ (front : List (Entry (K × V))) (e : Entry (K × V)) (back : List (Entry (K × V))) (cut : es ≡ front ++ e ∷ back) where
      pub next-here : next_of es (pointer_of e) ≡ option_map pointer_of (first_of back)
      next-here = ap (λ xs. next_of xs (pointer_of e)) cut ∙ next-behind front e back (not_before es distinct front e back cut)

      pub prev-here : prev_of es (pointer_of e) ≡ option_map pointer_of (last_of None front)
      prev-here = ap (λ xs. prev_of xs (pointer_of e)) cut ∙ prev-behind None front e back (not_before es distinct front e back cut)

      pub among-here : pointer_among es (Some e.index) ≡ Some (pointer_of e)
      among-here = ap (pointed e.index) (entry_at-here es distinct front e back cut)

      pub found-here : item_of es (pointer_of e) ≡ Some e.item
      found-here = rw (entry_at-here es distinct front e back cut) (grind (arith, common_steps))

      pub without-here : without e.index es ≡ front ++ back
      without-here = ap (without e.index) cut ∙ without-behind front e back (not_before es distinct front e back cut)

    -- the pointers of the neighbours
    among-first : (front : List (Entry (K × V))) (e : Entry (K × V)) (back : List (Entry (K × V))) → es ≡ front ++ e ∷ back
        → pointer_among es (option_map (λ x. x.index) (first_of back)) ≡ option_map pointer_of (first_of back)
    among-first front e [] cut = refl
    among-first front e (f ∷ back) cut = among-here (front ++ e ∷ []) f back (cut ∙ simp append_assoc)

    among-last : (front back : List (Entry (K × V))) → es ≡ front ++ back → (o : Option (Entry (K × V))) → last_of None front ≡ o
        → pointer_among es (option_map (λ x. x.index) o) ≡ option_map pointer_of o
    among-last front back cut None is = refl
    among-last front back cut (Some x) is =
        let low = ends front x is in
        among-here low.0 x back (cut ∙ ap (λ ys. ys ++ back) low.1 ∙ simp append_assoc)

    -- the entry of a pointer that names one, by its link
    module _ (p : ℕ × ℕ) (there : is_some (item_of es p) ≡ true) where
      occupied : IsSome (entry_at es p.0)
      occupied = go (entry_at es p.0) refl
        where
          go : (o : Option (ℕ × (K × V))) → entry_at es p.0 ≡ o → IsSome o
          go None is = absurd (let none : item_of es p ≡ None = rw is refl in cc)
          go (Some x) is = refl

      named : (front : List (Entry (K × V))) (e : Entry (K × V)) (back : List (Entry (K × V))) → es ≡ front ++ e ∷ back → e.index ≡ p.0 → pointer_of e ≡ p
      named front e back cut here = elim (eqb_tells e.generation p.1) [
        | inl k ↦ ap (λ i. (i, e.generation)) here ∙ ap (λ g. (p.0, g)) k.1
        | inr k ↦ absurd (let none : item_of es p ≡ None = rw (← here, entry_at-here es distinct front e back cut, k.0) refl in cc)
      ]

      module _ (g : ℕ) (l : Link (K × V)) (link : Some (g, l) ≡ link_at es p.0) where
        pub next-linked : pointer_among es l.next ≡ next_of es p
        next-linked =
            let s = stands es p.0 occupied in
            let linked = link-read es distinct s.front s.entry s.back s.cut g l (ap (link_at es) s.here ∙ sym link) in
            ap (pointer_among es) (sym linked.next) ∙ among-first s.front s.entry s.back s.cut
            ∙ sym (ap (next_of es) (sym (named s.front s.entry s.back s.cut s.here)) ∙ next-here s.front s.entry s.back s.cut)

        pub prev-linked : pointer_among es l.prev ≡ prev_of es p
        prev-linked =
            let s = stands es p.0 occupied in
            let linked = link-read es distinct s.front s.entry s.back s.cut g l (ap (link_at es) s.here ∙ sym link) in
            ap (pointer_among es) (sym linked.prev) ∙ among-last s.front (s.entry ∷ s.back) s.cut (last_of None s.front) refl
            ∙ sym (ap (prev_of es) (sym (named s.front s.entry s.back s.cut s.here)) ∙ prev-here s.front s.entry s.back s.cut)

      -- the list is cut there
      pub cut-at : CutAt es p
      cut-at = let s = stands es p.0 occupied in record { front = s.front; entry = s.entry; back = s.back; cut = s.cut; named = named s.front s.entry s.back s.cut s.here }

      pub unlinked : None ≡ link_at es p.0 → ⊥
      unlinked missing =
          let none : entry_at es p.0 ≡ None = entry_at-link None None es p.0 ∙ ap (option_map (λ (e : ℕ × Link (K × V)). (e.0, e.1.item))) (sym missing) in
          absurd (let lost : IsSome {T = ℕ × (K × V)} None = subst (λ (o : Option (ℕ × (K × V))). IsSome o) none occupied in cc)

    -- the last entry
    pub last-named : (p : ℕ × ℕ) → last_pointer es ≡ Some p → (item_of es p ≡ last_item es) × (without p.0 es ≡ before_last es)
    last-named p last = go (last_of None es) refl
      where
        go : (o : Option (Entry (K × V))) → last_of None es ≡ o → (item_of es p ≡ last_item es) × (without p.0 es ≡ before_last es)
        go None is = absurd (let none : last_pointer es ≡ None = ap last_pointer (no_last es is) in cc)
        go (Some e) is =
            let cut = ends es e is in
            let here : p ≡ pointer_of e = some-same (sym last ∙ ap last_pointer cut.1 ∙ last_pointer-end cut.0 e) in (
              ap (item_of es) here ∙ found-here cut.0 e [] cut.1 ∙ sym (ap last_item cut.1 ∙ last_item-end cut.0 e),
              ap (λ (q : ℕ × ℕ). without q.0 es) here ∙ ap (without e.index) cut.1 ∙ without-behind cut.0 e [] (not_before es distinct cut.0 e [] cut.1) ∙ append-nil cut.0
                  ∙ sym (ap before_last cut.1 ∙ before_last-end cut.0 e),
            )

-- what a search by key promises, by the pointer that it finds
module _ {K V P : Type 0} (cmp : K → K → Ordering) (most : ℕ) (numbers : P → ℕ × ℕ) (a : Sorted K V) (sound : IsSound cmp most a) (k : K) (test : Ordering → Bool)
    (Passes Fails : Ordering → Type 0) (passes : (o : Ordering) → test o ≡ true → Passes o) (fails : (o : Ordering) → test o ≡ false → Fails o) where
  abbrev tested : Entry (K × V) → Bool
  tested e = test (cmp k (key_of e))

  pub finds-first : (r : Option P) → option_map numbers r ≡ first_where tested a.entries → FindsFirst cmp most numbers a k test Passes Fails r
  finds-first None is = record {
    value = is;
    finds = tt;
    none = All-from_recursion _ a.entries (recursion-map _ (λ e. Fails (cmp k (key_of e))) (λ e. fails (cmp k (key_of e))) a.entries (none-where tested a.entries (sym is)));
    sound = sound;
  }
  finds-first (Some p) is =
      let cut = cut-where tested a.entries (numbers p) (sym is) in
      let found : item_of a.entries (numbers p) ≡ Some cut.entry.item = ap (item_of a.entries) cut.named ∙ found-here a.entries sound.distinct cut.front cut.entry cut.back cut.cut in
      record { value = is; finds = rw found (passes (cmp k (key_of cut.entry)) cut.passes); none = tt; sound = sound }

-- a key isn't greater than itself
not_greater-itself : {K : Type 0} (cmp : K → K → Ordering) → IsTotalOrder cmp → (k : K) → cmp k k ≢ Greater
not_greater-itself cmp total k is = let other : Greater ≡ Less = sym is ∙ total.antisymm k k ∙ ap ordering_reverse is in cc

-- lists in the order of their keys
module _ {K V : Type 0} (cmp : K → K → Ordering) where
  -- lists of the same items are in order together
  recursion-items : (P : K × V → Type 0) (es fs : List (Entry (K × V))) → map (λ e. e.item) es ≡ map (λ e. e.item) fs → AllByRecursion (λ e. P e.item) fs → AllByRecursion (λ e. P e.item) es
  recursion-items P [] fs same all = tt
  recursion-items P (e ∷ es) [] same all = absurd (cc)
  recursion-items P (e ∷ es) (f ∷ fs) same all =
      let head : e.item ≡ f.item = cc in
      let tail : map (λ (x : Entry (K × V)). x.item) es ≡ map (λ (x : Entry (K × V)). x.item) fs = cc in
      (rw head all.0, recursion-items P es fs tail all.1)

  pub sorted-items : (es fs : List (Entry (K × V))) → map (λ e. e.item) es ≡ map (λ e. e.item) fs → AreSorted cmp fs → AreSorted cmp es
  sorted-items [] fs same sorted = tt
  sorted-items (e ∷ es) [] same sorted = absurd (cc)
  sorted-items (e ∷ es) (f ∷ fs) same sorted =
      let head : e.item ≡ f.item = cc in
      let tail : map (λ (x : Entry (K × V)). x.item) es ≡ map (λ (x : Entry (K × V)). x.item) fs = cc in
      let all : AllByRecursion (λ x. cmp (key_of e) (key_of x) ≢ Greater) es =
      rw head (recursion-items (λ x. cmp f.item.0 x.0 ≢ Greater) es fs tail (recursion_from_All (λ x. cmp (key_of f) (key_of x) ≢ Greater) fs sorted.0)) in
      (All-from_recursion _ es all, sorted-items es fs tail sorted.1)

  -- another value at an index
  module _ (i : ℕ) (k : K) (v w : V) (g : ℕ) where
    recursion-written : (P : K → Type 0) (es : List (Entry (K × V))) → entry_at es i ≡ Some (g, (k, v)) → AllByRecursion (λ e. P (key_of e)) es
        → AllByRecursion (λ e. P (key_of e)) (with_item_among es i (k, w))
    recursion-written P [] here all = tt
    recursion-written P (e ∷ es) here all = elim (eqb_tells e.index i) [
      | inl h ↦
          let same : e.item ≡ (k, v) = ap (λ (x : ℕ × (K × V)). x.1) (some-same (rw (h.0) at here)) in
          rw (h.0) (subst (λ (x : K × V). P x.0) same all.0, all.1)
      | inr h ↦ rw (h.0) (all.0, recursion-written P es (rw (h.0) at here) all.1)
    ]

    pub sorted-written : (es : List (Entry (K × V))) → entry_at es i ≡ Some (g, (k, v)) → AreSorted cmp es → AreSorted cmp (with_item_among es i (k, w))
    sorted-written [] here sorted = tt
    sorted-written (e ∷ es) here sorted = elim (eqb_tells e.index i) [
      | inl h ↦
          let same : e.item ≡ (k, v) = ap (λ (x : ℕ × (K × V)). x.1) (some-same (rw (h.0) at here)) in
          rw (h.0) (subst (λ (x : K × V). All (λ f. cmp x.0 (key_of f) ≢ Greater) es) same sorted.0, sorted.1)
      | inr h ↦ rw (h.0) (
        All-from_recursion _ (with_item_among es i (k, w)) (recursion-written (λ l. cmp (key_of e) l ≢ Greater) es (rw (h.0) at here) (recursion_from_All _ es sorted.0)),
        sorted-written es (rw (h.0) at here) sorted.1,
      )
    ]

  pub written-found : (es : List (Entry (K × V))) (p : ℕ × ℕ) (x : K × V) (w : V) → Some x ≡ item_of es p → AreSorted cmp es → AreSorted cmp (with_item_among es p.0 (x.0, w))
  written-found es p x w is sorted = go (entry_at es p.0) refl
    where
      go : (o : Option (ℕ × (K × V))) → entry_at es p.0 ≡ o → AreSorted cmp (with_item_among es p.0 (x.0, w))
      go None none = absurd (let lost : item_of es p ≡ None = rw none refl in cc)
      go (Some e) at = elim (eqb_tells e.0 p.1) [
        | inl h ↦
            let same : e.1 ≡ x = some-same (sym (is ∙ rw (at, h.0) refl)) in
            sorted-written p.0 x.0 x.1 w e.0 es (at ∙ ap (λ y. Some (e.0, y)) same) sorted
        | inr h ↦ absurd (let lost : item_of es p ≡ None = rw (at, h.0) refl in cc)
      ]

  module _ (total : IsTotalOrder cmp) where
    behind : (k : K) (f : Entry (K × V)) (es : List (Entry (K × V))) → cmp k (key_of f) ≢ Greater → IsInOrder item_key cmp (f ∷ es)
        → AllByRecursion (λ x. cmp k (key_of x) ≢ Greater) (f ∷ es)
    behind k f [] most order = (most, tt)
    behind k f (g ∷ es) most order =
        (most, behind k g es (λ more. most ((all_greater item_key cmp total k (f ∷ g ∷ []) es order more).0)) (IsInOrder-rest item_key cmp f (g ∷ es) order))

    pub in_order-sorted : (es : List (Entry (K × V))) → IsInOrder item_key cmp es → AreSorted cmp es
    in_order-sorted [] order = tt
    in_order-sorted (e ∷ []) order = (All-from_recursion _ [] tt, tt)
    in_order-sorted (e ∷ f ∷ es) order =
        let rest = IsInOrder-rest item_key cmp e (f ∷ es) order in
        (All-from_recursion _ (f ∷ es) (behind (key_of e) f es (order [] es e f refl) rest), in_order-sorted (f ∷ es) rest)

    -- where the first key is greater, all are
    pub later-left : (u k : K) (v : V) (es : List (Entry (K × V))) (p : ℕ × ℕ) → AreSorted cmp es → Some p ≡ first_pointer es → Some (k, v) ≡ item_of es p → is_gt (cmp k u) ≡ true
        → All (λ e. cmp (key_of e) u ≡ Greater) es
    later-left u k v [] p sorted first here more = absurd (cc)
    later-left u k v (e ∷ es) p sorted first here more =
        let named : p ≡ pointer_of e = some-same first in
        let there : item_of (e ∷ es) (pointer_of e) ≡ Some e.item = grind (arith, common_steps) in
        let same : (k, v) ≡ e.item = some-same (here ∙ ap (item_of (e ∷ es)) named ∙ there) in
        let greater : cmp (key_of e) u ≡ Greater = subst (λ (x : K × V). cmp x.0 u ≡ Greater) same (gt_is (cmp k u) more) in
        let less : cmp u (key_of e) ≡ Less = total.antisymm u (key_of e) ∙ ap ordering_reverse greater in
        All-from_recursion _ (e ∷ es) (recursion-map (λ x. cmp u (key_of x) ≡ Less) (λ x. cmp (key_of x) u ≡ Greater)
        (λ x is. total.antisymm (key_of x) u ∙ ap ordering_reverse is) (e ∷ es) (all_less item_key cmp total u (e ∷ es) (sorted-in_order cmp (e ∷ es) sorted) less))

    -- the first key is the least
    pub first-least : {P : Type 0} (numbers : P → ℕ × ℕ) (o : Option P) (es : List (Entry (K × V))) → AreSorted cmp es → option_map numbers o ≡ first_pointer es
        → IfSome o (λ p. IsSomeAnd (item_of es (numbers p)) (λ x. All (λ e. cmp x.0 (key_of e) ≢ Greater) es))
    first-least numbers None es sorted is = tt
    first-least numbers (Some p) [] sorted is = absurd (cc)
    first-least numbers (Some p) (e ∷ es) sorted is =
        let there : item_of (e ∷ es) (pointer_of e) ≡ Some e.item = grind (arith, common_steps) in
        let found : item_of (e ∷ es) (numbers p) ≡ Some e.item = ap (item_of (e ∷ es)) (some-same is) ∙ there in
        rw found (All-from_recursion _ (e ∷ es) (not_greater-itself cmp total (key_of e), recursion_from_All (λ x. cmp (key_of e) (key_of x) ≢ Greater) es sorted.0))

    below-last : (e : Entry (K × V)) (front : List (Entry (K × V))) → AreSorted cmp (front ++ e ∷ []) → AllByRecursion (λ x. cmp (key_of x) (key_of e) ≢ Greater) (front ++ e ∷ [])
    below-last e [] sorted = (not_greater-itself cmp total (key_of e), tt)
    below-last e (x ∷ front) sorted =
        (all-at (λ f. cmp (key_of x) (key_of f) ≢ Greater) front e [] (recursion_from_All _ (front ++ e ∷ []) sorted.0), below-last e front sorted.1)

    -- the last key is the greatest
    pub last-greatest : {P : Type 0} (numbers : P → ℕ × ℕ) (o : Option P) (es : List (Entry (K × V))) → IsDistinct es → AreSorted cmp es → option_map numbers o ≡ last_pointer es
        → IfSome o (λ p. IsSomeAnd (item_of es (numbers p)) (λ x. All (λ e. cmp (key_of e) x.0 ≢ Greater) es))
    last-greatest numbers None es distinct sorted is = tt
    last-greatest numbers (Some p) es distinct sorted is = go (last_of None es) refl
      where
        go : (o : Option (Entry (K × V))) → last_of None es ≡ o → IsSomeAnd (item_of es (numbers p)) (λ x. All (λ e. cmp (key_of e) x.0 ≢ Greater) es)
        go None none = absurd (let nil : last_pointer es ≡ None = ap last_pointer (no_last es none) in cc)
        go (Some e) last =
            let cut = ends es e last in
            let here : numbers p ≡ pointer_of e = some-same (is ∙ ap last_pointer cut.1 ∙ last_pointer-end cut.0 e) in
            let found : item_of es (numbers p) ≡ Some e.item = ap (item_of es) here ∙ found-here es distinct cut.0 e [] cut.1 in
            rw found (subst (λ (xs : List (Entry (K × V))). All (λ x. cmp (key_of x) (key_of e) ≢ Greater) xs) (sym cut.1)
            (All-from_recursion _ (cut.0 ++ e ∷ []) (below-last e cut.0 (subst (λ (xs : List (Entry (K × V))). AreSorted cmp xs) cut.1 sorted))))

    module _ (k : K) where
      -- where a key isn't less than that of the last of a front, it is less than none of it
      pub all_at_most : (front back : List (Entry (K × V))) → IsInOrder item_key cmp (front ++ back) → IfSome (last_of None front) (λ e. order_to item_key cmp k e ≢ Less)
          → AllByRecursion (λ e. cmp k (key_of e) ≢ Less) front
      all_at_most [] back order last = tt
      all_at_most (e ∷ []) back order last = (last, tt)
      all_at_most (e ∷ (f ∷ front)) back order last =
          let rest = all_at_most (f ∷ front) back (IsInOrder-rest item_key cmp e (f ∷ front ++ back) order) last in
          (λ less. rest.0 ((all_less item_key cmp total k (e ∷ f ∷ (front ++ back)) order less).1.0), rest)

      -- searches in a list in order
      module _ (es : List (Entry (K × V))) (order : IsInOrder item_key cmp es) where
        module _ (gap : Gap es) where
          ordered : IsInOrder item_key cmp (gap.front ++ gap.back)
          ordered = rw (gap.cut) at order

          pub lesser : IfSome (before gap) (λ e. order_to item_key cmp k e ≡ Greater) → AllByRecursion (λ e. cmp k (key_of e) ≡ Greater) gap.front
          lesser last = all_greater item_key cmp total k gap.front gap.back ordered last

          pub greater : IfSome (after gap) (λ e. order_to item_key cmp k e ≡ Less) → AllByRecursion (λ e. cmp k (key_of e) ≡ Less) gap.back
          greater first = all_less item_key cmp total k gap.back (IsInOrder-back item_key cmp gap.front gap.back ordered) first

        abbrev is_equal : Entry (K × V) → Bool
        is_equal e = is_eq (cmp k (key_of e))

        abbrev is_at_least : Entry (K × V) → Bool
        is_at_least e = is_le (cmp k (key_of e))

        -- the first equal entry
        pub found-equal : (found : Option (ℕ × ℕ)) (c : ℕ) → FindsKey item_key cmp es k found c → found ≡ first_where is_equal es
        found-equal None c h =
            let gap = h.0 in
            let low = recursion-map (λ e. cmp k (key_of e) ≡ Greater) (λ e. is_equal e ≡ false) (λ e is. ap is_eq is) gap.front (lesser gap h.1.fits.lesser_before) in
            let high = recursion-map (λ e. cmp k (key_of e) ≡ Less) (λ e. is_equal e ≡ false) (λ e is. ap is_eq is) gap.back (greater gap h.1.fits.greater_after) in
            sym (ap (first_where is_equal) gap.cut ∙ first_where-skip is_equal gap.front gap.back low ∙ first_where-none is_equal gap.back high)
        found-equal (Some p) c h =
            let met = h.2 in
            let low = recursion-map (λ e. cmp k (key_of e) ≡ Greater) (λ e. is_equal e ≡ false) (λ e is. ap is_eq is) met.gap.front (lesser met.gap met.lesser_before) in
            let first : IfSome (after met.gap) (λ e. is_equal e ≡ true) = rw (met.here) (ap is_eq met.equal) in
            sym (ap (first_where is_equal) met.gap.cut ∙ first_where-skip is_equal met.gap.front met.gap.back low ∙ first_where-first is_equal met.gap.back first
            ∙ ap (option_map pointer_of) met.here ∙ ap (λ q. Some q) (sym h.1))

        -- the first entry at or behind a place at which all before it are less
        bound-at : (gap : Gap es) → IfSome (before gap) (λ e. order_to item_key cmp k e ≡ Greater) → IfSome (after gap) (λ e. is_at_least e ≡ true)
            → first_where is_at_least es ≡ option_map pointer_of (after gap)
        bound-at gap last first =
            let low = recursion-map (λ e. cmp k (key_of e) ≡ Greater) (λ e. is_at_least e ≡ false) (λ e is. ap is_le is) gap.front (lesser gap last) in
            ap (first_where is_at_least) gap.cut ∙ first_where-skip is_at_least gap.front gap.back low ∙ first_where-first is_at_least gap.back first

        abbrev is_greater : Entry (K × V) → Bool
        is_greater e = is_lt (cmp k (key_of e))

        -- the first entry behind a place at which no key before it is greater
        behind-at : (gap : Gap es) → IfSome (before gap) (λ e. order_to item_key cmp k e ≢ Less) → IfSome (after gap) (λ e. is_greater e ≡ true)
            → first_where is_greater es ≡ option_map pointer_of (after gap)
        behind-at gap last first =
            let low = recursion-map (λ e. cmp k (key_of e) ≢ Less) (λ e. is_greater e ≡ false) (λ e. not_less (cmp k (key_of e))) gap.front
            (all_at_most gap.front gap.back (ordered gap) last) in
            ap (first_where is_greater) gap.cut ∙ first_where-skip is_greater gap.front gap.back low ∙ first_where-first is_greater gap.back first

        at_most_all : (o : Option (Entry (K × V))) → IfSome o (λ e. order_to item_key (order_past_equals cmp) k e ≡ Greater) → IfSome o (λ e. order_to item_key cmp k e ≢ Less)
        at_most_all None more = tt
        at_most_all (Some e) more = passed-greater (cmp k (key_of e)) more

        greater_all : (o : Option (Entry (K × V))) → IfSome o (λ e. order_to item_key (order_past_equals cmp) k e ≡ Less) → IfSome o (λ e. is_greater e ≡ true)
        greater_all None less = tt
        greater_all (Some e) less = passed-less (cmp k (key_of e)) less

        module _ (p : ℕ × ℕ) (o : Ordering) (c : ℕ) (h : FindsSimilar item_key (order_past_equals cmp) es k (Some (p, o)) c) where
          named_behind : p ≡ pointer_of h.0
          named_behind = ap (λ (a : (ℕ × ℕ) × Ordering). a.0) h.1

          lies_behind : ordering_then (cmp k (key_of h.0)) Greater ≡ o
          lies_behind = sym (ap (λ (a : (ℕ × ℕ) × Ordering). a.1) h.1)

          pub behind-met : o ≡ Less → Some p ≡ first_where is_greater es
          behind-met less = elim h.2 [
            | inl met ↦ absurd (passed-unequal (cmp k (key_of h.0)) met.0.equal)
            | inr beside ↦ elim beside.2 [
              | inl low ↦ absurd (let both = sym (rw low at beside.1.fits.lesser_before) ∙ lies_behind ∙ less in cc)
              | inr high ↦ ap (λ q. Some q) named_behind
                  ∙ sym (behind-at beside.0 (at_most_all (before beside.0) beside.1.fits.lesser_before) (greater_all (after beside.0) beside.1.fits.greater_after) ∙ ap (option_map pointer_of) high)
            ]
          ]

          pub behind-next : IsDistinct es → o ≢ Less → next_of es p ≡ first_where is_greater es
          behind-next distinct more = elim h.2 [
            | inl met ↦ absurd (passed-unequal (cmp k (key_of h.0)) met.0.equal)
            | inr beside ↦ elim beside.2 [
              | inl low ↦
                  let front = ends beside.0.front h.0 low in
                  let cut : es ≡ front.0 ++ h.0 ∷ beside.0.back = beside.0.cut ∙ ap (λ ys. ys ++ beside.0.back) front.1 ∙ simp append_assoc in
                  ap (next_of es) named_behind ∙ next-here es distinct front.0 h.0 beside.0.back cut
                  ∙ sym (behind-at beside.0 (at_most_all (before beside.0) beside.1.fits.lesser_before) (greater_all (after beside.0) beside.1.fits.greater_after))
              | inr high ↦ absurd (more (sym lies_behind ∙ rw high at beside.1.fits.greater_after))
            ]
          ]

        module _ (p : ℕ × ℕ) (o : Ordering) (c : ℕ) (h : FindsSimilar item_key cmp es k (Some (p, o)) c) where
          names : p ≡ pointer_of h.0
          names = ap (λ (a : (ℕ × ℕ) × Ordering). a.0) h.1

          lies : cmp k (key_of h.0) ≡ o
          lies = sym (ap (λ (a : (ℕ × ℕ) × Ordering). a.1) h.1)

          -- the entry that was met is the one, or the one behind it is
          pub bound-met : o ≢ Greater → Some p ≡ first_where is_at_least es
          bound-met most = elim h.2 [
            | inl met ↦
                let first : IfSome (after met.0.gap) (λ e. is_at_least e ≡ true) = rw (met.0.here) (ap is_le met.0.equal) in
                ap (λ q. Some q) names ∙ sym (bound-at met.0.gap met.0.lesser_before first ∙ ap (option_map pointer_of) met.0.here)
            | inr beside ↦ elim beside.2 [
              | inl low ↦ absurd (most (sym lies ∙ (rw low at beside.1.fits.lesser_before)))
              | inr high ↦
                  let first : IfSome (after beside.0) (λ e. is_at_least e ≡ true) = rw high (ap is_le (rw high at beside.1.fits.greater_after)) in
                  ap (λ q. Some q) names ∙ sym (bound-at beside.0 beside.1.fits.lesser_before first ∙ ap (option_map pointer_of) high)
            ]
          ]

          pub bound-behind : IsDistinct es → o ≡ Greater → next_of es p ≡ first_where is_at_least es
          bound-behind distinct more = elim h.2 [
            | inl met ↦ absurd (let both = sym met.0.equal ∙ lies ∙ more in cc)
            | inr beside ↦ elim beside.2 [
              | inl low ↦
                  let front = ends beside.0.front h.0 low in
                  let cut : es ≡ front.0 ++ h.0 ∷ beside.0.back = beside.0.cut ∙ ap (λ ys. ys ++ beside.0.back) front.1 ∙ simp append_assoc in
                  ap (next_of es) names ∙ next-here es distinct front.0 h.0 beside.0.back cut
                  ∙ sym (bound-at beside.0 beside.1.fits.lesser_before (if_some (after beside.0) beside.1.fits.greater_after))
              | inr high ↦ absurd (let less = sym (rw high at beside.1.fits.greater_after) ∙ lies ∙ more in cc)
            ]
          ]
            where
              if_some : (o : Option (Entry (K × V))) → IfSome o (λ e. order_to item_key cmp k e ≡ Less) → IfSome o (λ e. is_at_least e ≡ true)
              if_some None less = tt
              if_some (Some e) less = ap is_le less
