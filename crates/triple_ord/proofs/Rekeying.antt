-- An entry that gets another item and moves to a gap of its list.
use Rattle.triple_ord.proofs.Words.{◌≡◌, ◌≢◌, ℕ, ◌+◌, ◌≤◌, List, [], ◌∷◌, ◌++◌, Option, Some, None, IfSome, IsSome, refl, sym, ap, subst, ◌∙◌, arith, common_steps, eqb_tells, inl, inr, ◌⊎◌, append_assoc, option_map}
use Rattle.triple_ord.proofs.Words.{Entry, Chain, times, IsDistinct, entry_at, times-append, with_item_among, entry_at-with_item_among, entry_at-with_item_among_other, entry_at-without_other}
use Rattle.triple_ord.proofs.Words.{Link, link_at, entry_at-link, insert_before, insert_after}
use Rattle.triple_ord.proofs.Words.{Gap, first_of, last_of, after, Ordering, Less, Equal, Greater, Side, Lesser, OnGreater, Tree, with_item, put_on, cases_eq, item_of, item_if, Updates}
use Rattle.triple_ord.proofs.CallerLemmas.{item_if-found}
use Rattle.triple_ord.specs.{Rekey.RekeysCounted, Arena.FindSame, Around.EndsAround, Around.FindsAround, Prepared.order_on, Prepared.beside_by}
use Rattle.ord_tree.specs.{Move.IsRearranged, Tree.CanPutAt, Chain.without, ChainMove.with_entry_moved, ChainMove.list_with, ChainMove.without_entry}
use Rattle.triple_ord.proofs.Inserting.{begins, ends, with_item-here, puts-before, puts-after, entry_at-before, entry_at-after}
use Rattle.triple_ord.proofs.Inserting.{StandsAt, stands, IsLinked, link-read, nowhere_else, entry_at-here, insert_before-here, insert_after-here}
use Rattle.triple_ord.proofs.Stepping.{read_index}
use Rattle.triple_ord.proofs.Without.{without-absent, without-append, without-last, without-first, first-kept, last-kept, without-written, times-without}

-- a side, by the order that names it
side-greater : (side : Side) → order_on side ≡ Greater → side ≡ OnGreater
side-greater side is = grind (arith, common_steps)

side-lesser : (side : Side) → order_on side ≡ Less → side ≡ Lesser
side-lesser side is = grind (arith, common_steps)

module _ {T K : Type 0} (key : T → K) (cmp : K → K → Ordering) (es : List (Entry T)) (k : K) (c : ℕ) where
  -- a search that ends on a side of an entry, named by an order or as a side
  pub around-sided : {P : Type 0} (numbers : P → ℕ × ℕ) (i : ℕ) (found : Option (P × Ordering)) → FindsAround key cmp es i k (option_map (λ (a : P × Ordering). (numbers a.0, a.1)) found) c
      → FindsAround key cmp es i k (option_map (λ (a : P × Side). (numbers a.0, order_on a.1)) (beside_by found)) c
  around-sided numbers i None found = found
  around-sided numbers i (Some (p, Less)) found = found
  around-sided numbers i (Some (p, Equal)) found = absurd (elim found.2.beside [
    | inl low ↦ absurd (let more = low.1 in cc)
    | inr high ↦ absurd (let less = high.1 in cc)
  ])
  around-sided numbers i (Some (p, Greater)) found = found

  module _ (distinct : IsDistinct es) (p : ℕ × ℕ) (was : T) (there : entry_at es p.0 ≡ Some (p.1, was)) (item : T) (e : Entry T) (o : Ordering) (m : EndsAround key cmp es p.0 k c e o) where
    abbrev i : ℕ
    i = p.0

    abbrev entry : Entry T
    entry = record { index = p.0; generation = p.1; item = item }

    abbrev pub put_there : List (Entry T)
    put_there = without i m.gap.front ++ entry ∷ without i m.gap.back

    pub parted : (j : ℕ) → times j m.gap.front + times j m.gap.back ≤ 1
    parted j = omega (arith, distinct j, ap (times j) m.gap.cut, times-append j m.gap.front m.gap.back)

    pub found_here : entry_at es e.index ≡ Some (e.generation, e.item)
    found_here = elim m.beside [
      | inl low ↦ entry_at-before es e distinct m.gap low.0
      | inr high ↦ entry_at-after es e distinct m.gap high.0
    ]

    abbrev pub gap_left : Gap (without i es)
    gap_left = record {
      front = without i m.gap.front;
      back = without i m.gap.back;
      cut = ap (without i) m.gap.cut ∙ without-append i m.gap.front m.gap.back (omega (arith, parted i, times-append i m.gap.front m.gap.back));
    }

    -- beside another entry
    put-left : (side : Side) → o ≡ order_on side → e.index ≢ i → put_on side e.index (without i es) entry ≡ put_there
    put-left side on other =
        let distinct2 : IsDistinct (without i es) = λ j. omega (arith, distinct j, times-without i j es) in
        elim m.beside [
          | inl low ↦ rw (side-greater side (sym on ∙ low.1)) (puts-after (without i es) e distinct2 gap_left (last-kept i m.gap.front e other low.0) entry)
          | inr high ↦ rw (side-lesser side (sym on ∙ high.1)) (puts-before (without i es) e distinct2 gap_left (first-kept i m.gap.back e other high.0) entry)
        ]

    pub listed-moved : (side : Side) → o ≡ order_on side → e.index ≢ i → list_with (put_on side e.index) i (entry_at (with_item_among es i item) i) (without i (with_item_among es i item)) ≡ put_there
    listed-moved side on other =
        ap (λ (x : Option (ℕ × T)). list_with (put_on side e.index) i x (without i (with_item_among es i item)))
        (entry_at-with_item_among es i item ∙ ap (option_map (λ (x : ℕ × T). (x.0, item))) there)
        ∙ ap (λ (es : List (Entry T)). put_on side e.index es entry) (without-written i es item) ∙ put-left side on other

    -- or at its old position
    pub listed-left : e.index ≡ i → with_item_among es i item ≡ put_there
    listed-left same =
        let has : (e.generation, e.item) ≡ (p.1, was) = let at = sym found_here ∙ ap (entry_at es) same ∙ there in cc in
        let is : record e { item = item } ≡ entry = ap (λ (x : ℕ × ℕ). record { index = x.0; generation = x.1; item = item }) (ap (λ n. (n, e.generation)) same ∙ ap (λ (x : ℕ × T). (i, x.0)) has) in
        elim m.beside [
          | inl low ↦
              let front = ends m.gap.front e low.0 in
              let cut : es ≡ front.0 ++ e ∷ m.gap.back = m.gap.cut ∙ ap (λ xs. xs ++ m.gap.back) front.1 ∙ simp append_assoc in
              let counts : times i front.0 + times i (e ∷ m.gap.back) ≤ 1 = omega (arith, sym (times-append i front.0 (e ∷ m.gap.back)) ∙ ap (times i) (sym cut), distinct i) in
              let none : times i front.0 + times i m.gap.back ≡ 0 = omega (arith, counts, times-own i e m.gap.back same) in
              ap (λ n. with_item_among es n item) (sym same) ∙ with_item-here es distinct front.0 e m.gap.back cut item
              ∙ ap (λ (x : Entry T). front.0 ++ x ∷ m.gap.back) is
              ∙ ap (λ xs. xs ++ entry ∷ m.gap.back) (sym (ap (without i) front.1 ∙ without-last i front.0 e same (omega (arith, none))))
              ∙ ap (λ ys. without i m.gap.front ++ entry ∷ ys) (sym (without-absent i m.gap.back (omega (arith, none))))
          | inr high ↦
              let back = begins m.gap.back e high.0 in
              let cut : es ≡ m.gap.front ++ e ∷ back.0 = m.gap.cut ∙ ap (λ ys. m.gap.front ++ ys) back.1 in
              let counts : times i m.gap.front + times i (e ∷ back.0) ≤ 1 = omega (arith, sym (times-append i m.gap.front (e ∷ back.0)) ∙ ap (times i) (sym cut), distinct i) in
              let none : times i m.gap.front ≡ 0 = omega (arith, counts, times-own i e back.0 same) in
              ap (λ n. with_item_among es n item) (sym same) ∙ with_item-here es distinct m.gap.front e back.0 cut item
              ∙ ap (λ (x : Entry T). m.gap.front ++ x ∷ back.0) is
              ∙ ap (λ xs. xs ++ entry ∷ back.0) (sym (without-absent i m.gap.front none))
              ∙ ap (λ ys. without i m.gap.front ++ entry ∷ ys) (sym (ap (without i) back.1 ∙ without-first i e back.0 same))
        ]
      where
        times-own : (i : ℕ) (e : Entry T) (es : List (Entry T)) → e.index ≡ i → times i (e ∷ es) ≡ 1 + times i es
        times-own i e es same = grind (arith, common_steps)

module _ {T K : Type 0} (key : T → K) (cmp : K → K → Ordering) (old new : Tree T) (distinct : IsDistinct old.list.entries) (p : ℕ × ℕ) (item : T)
    (named : IsSome (item_of old p)) (q : ℕ × ℕ) (o : Ordering) (c : ℕ) (found : FindsAround key cmp old.list.entries p.0 (key item) (Some (q, o)) c) where
  has : (was : T) × (entry_at old.list.entries p.0 ≡ Some (p.1, was))
  has = item_if-found p.1 (entry_at old.list.entries p.0) named

  abbrev e : Entry T
  e = found.0

  abbrev ended : EndsAround key cmp old.list.entries p.0 (key item) c e o
  ended = found.2

  index_is : e.index ≡ q.0
  index_is = sym (ap (λ (x : ℕ × ℕ). x.0) found.1)

  abbrev there : List (Entry T)
  there = put_there key cmp old.list.entries (key item) c distinct p has.0 has.1 item e o ended

  rekeyed : new.list ≡ record old.list { entries = there } → ((new.shape ≡ old.shape) ⊎ IsRearranged old.shape new.shape) → RekeysCounted key cmp old p item c new
  rekeyed is shape =
      let entries : new.list.entries ≡ there = ap (λ (c : Chain T). c.entries) is in
      record {
        rekeys = record {
          gap = gap_left key cmp old.list.entries (key item) c distinct p has.0 has.1 item e o ended;
          place = record { at_most_before = ended.at_most_before; greater_after = ended.greater_after };
          entries = entries;
          kept = is ∙ ap (λ es. record old.list { entries = es }) (sym entries);
          shape = shape;
        };
        seen = ended.seen;
      }

  -- it stays in its place
  pub rekeyed_left : p.0 ≡ q.0 → new ≡ with_item old p.0 item → RekeysCounted key cmp old p item c new
  rekeyed_left same after =
      rekeyed
      (ap (λ (t : Tree T). t.list) after
      ∙ ap (λ es. record old.list { entries = es }) (listed-left key cmp old.list.entries (key item) c distinct p has.0 has.1 item e o ended (index_is ∙ sym same)))
      (inl (ap (λ (t : Tree T). t.shape) after))

  module _ (other : p.0 ≢ q.0) where
    index_other : e.index ≢ p.0
    index_other same = other (sym same ∙ index_is)

    -- it can move beside another entry
    pub occupied_there : IsSome (entry_at (without p.0 (with_item old p.0 item).list.entries) q.0)
    occupied_there =
        let back : q.0 ≢ p.0 = λ same. other (sym same) in
        rw (
          entry_at-without_other (with_item old p.0 item).list.entries p.0 q.0 back,
          entry_at-with_item_among_other old.list.entries p.0 q.0 item back,
          ← index_is,
          found_here key cmp old.list.entries (key item) c distinct p has.0 has.1 item e o ended,
        ) refl

    pub rekeyed_moved : (side : Side) → o ≡ order_on side → new.list ≡ with_entry_moved (with_item old p.0 item).list p.0 (put_on side q.0) → ((new.shape ≡ old.shape) ⊎ IsRearranged old.shape new.shape) → RekeysCounted key cmp old p item c new
    rekeyed_moved side on after shape =
        rekeyed
        (after ∙ ap (λ (n : ℕ). with_entry_moved (with_item old p.0 item).list p.0 (put_on side n)) (sym index_is)
        ∙ ap (λ es. record old.list { entries = es }) (listed-moved key cmp old.list.entries (key item) c distinct p has.0 has.1 item e o ended side on index_other))
        shape

-- an entry that is already directly on a side of another
module _ {T : Type 0} (c : Chain T) (distinct : IsDistinct c.entries) (i q g : ℕ) (l : Link T) (there : link_at c.entries q ≡ Some (g, l)) (apart : q ≢ i) where
  abbrev at : StandsAt c.entries q
  at = stands c.entries q (rw (entry_at-link None None c.entries q, there) refl)

  linked : IsLinked at.front at.entry at.back g l
  linked = link-read c.entries distinct at.front at.entry at.back at.cut g l (ap (link_at c.entries) at.here ∙ there)

  -- f is between these parts
  module _ (front back : List (Entry T)) (f : Entry T) (here : f.index ≡ i) (cut : c.entries ≡ front ++ f ∷ back) where
    alone : times i (front ++ back) ≡ 0
    alone = ap (λ n. times n (front ++ back)) (sym here) ∙ nowhere_else c.entries distinct front f back cut

    rest_is : without i c.entries ≡ front ++ back
    rest_is =
        let counted = times-append i front back in
        ap (without i) cut ∙ without-append i front (f ∷ back) (subst (λ es. times i es ≤ 1) cut (distinct i))
        ∙ ap (λ xs. xs ++ without i (f ∷ back)) (without-absent i front (omega (arith, alone, counted))) ∙ ap (λ xs. front ++ xs) (without-first i f back here)

    put_again : (side : Side) → list_with (put_on side q) i (entry_at c.entries i) (without i c.entries) ≡ put_on side q (front ++ back) f
    put_again side =
        ap (λ (x : Option (ℕ × T)). list_with (put_on side q) i x (without i c.entries)) (ap (entry_at c.entries) (sym here) ∙ entry_at-here c.entries distinct front f back cut)
        ∙ ap (λ n. put_on side q (without i c.entries) (record { index = n; generation = f.generation; item = f.item })) (sym here)
        ∙ ap (λ es. put_on side q es f) rest_is

    rest_distinct : IsDistinct (front ++ back)
    rest_distinct j = subst (λ es. times j es ≤ 1) rest_is (omega (arith, distinct j, times-without i j c.entries))

  pub stays_before : l.prev ≡ Some i → c ≡ with_entry_moved c i (put_on Lesser q)
  stays_before named =
      let n = read_index (last_of None at.front) i (linked.prev ∙ named) in
      let end = ends at.front n.0 n.1 in
      let cut : c.entries ≡ end.0 ++ n.0 ∷ (at.entry ∷ at.back) = at.cut ∙ ap (λ xs. xs ++ at.entry ∷ at.back) end.1 ∙ simp append_assoc in
      let put = insert_before-here (end.0 ++ at.entry ∷ at.back) (rest_distinct end.0 (at.entry ∷ at.back) n.0 n.2 cut) end.0 at.entry at.back refl n.0 in
      ap (λ es. record c { entries = es }) (cut ∙ sym put ∙ ap (λ k. insert_before k n.0 (end.0 ++ at.entry ∷ at.back)) at.here ∙ sym (put_again end.0 (at.entry ∷ at.back) n.0 n.2 cut Lesser))

  pub stays_after : l.next ≡ Some i → c ≡ with_entry_moved c i (put_on OnGreater q)
  stays_after named =
      let n = read_index (first_of at.back) i (linked.next ∙ named) in
      let begin = begins at.back n.0 n.1 in
      let cut : c.entries ≡ (at.front ++ at.entry ∷ []) ++ n.0 ∷ begin.0 = at.cut ∙ ap (λ xs. at.front ++ at.entry ∷ xs) begin.1 ∙ simp append_assoc in
      let whole : (at.front ++ at.entry ∷ []) ++ begin.0 ≡ at.front ++ at.entry ∷ begin.0 = simp append_assoc refl in
      let put = insert_after-here ((at.front ++ at.entry ∷ []) ++ begin.0) (rest_distinct (at.front ++ at.entry ∷ []) begin.0 n.0 n.2 cut) at.front at.entry begin.0 whole n.0 in
      ap (λ es. record c { entries = es }) (at.cut ∙ ap (λ xs. at.front ++ at.entry ∷ xs) begin.1 ∙ sym put ∙ ap (λ k. insert_after k n.0 ((at.front ++ at.entry ∷ []) ++ begin.0)) at.here
      ∙ sym (put_again (at.front ++ at.entry ∷ []) begin.0 n.0 n.2 cut OnGreater))

-- two pointers are equal or differ
cases_pair : (q p : ℕ × ℕ) → (q ≡ p) ⊎ (q ≢ p)
cases_pair q p = elim (cases_eq q.0 p.0) [
  | inl a ↦ elim (cases_eq q.1 p.1) [
    | inl b ↦ inl (ap (λ n. (n, q.1)) a ∙ ap (λ n. (p.0, n)) b)
    | inr b ↦ inr (λ same. b (ap (λ (x : ℕ × ℕ). x.1) same))
  ]
  | inr a ↦ inr (λ same. a (ap (λ (x : ℕ × ℕ). x.0) same))
]

-- an entry with its own item
module _ {T : Type 0} where
  with_own_item : (es : List (Entry T)) (i g : ℕ) (item : T) → entry_at es i ≡ Some (g, item) → with_item_among es i item ≡ es
  with_own_item [] i g item there = refl
  with_own_item (e ∷ es) i g item there = elim (eqb_tells e.index i) [
    | inl h ↦
        let both : (e.generation, e.item) ≡ (g, item) = let at = rw h.0 at there in cc in
        rw h.0 (ap (λ x. record e { item = x } ∷ es) (sym (ap (λ (x : ℕ × T). x.1) both)))
    | inr h ↦ rw h.0 (ap (λ xs. e ∷ xs) (with_own_item es i g item (rw h.0 at there)))
  ]

  -- a pointer's item is that of the entry at its index
  pub entry_of : (old : Tree T) (p : ℕ × ℕ) (item : T) → item_of old p ≡ Some item → entry_at old.list.entries p.0 ≡ Some (p.1, item)
  entry_of old p item is =
      let was = item_if-found p.1 (entry_at old.list.entries p.0) (rw is refl) in
      was.1 ∙ ap (λ x. Some (p.1, x)) (item_at p.1 was.0 (ap (item_if p.1) (sym was.1) ∙ is))
    where
      item_at : (g : ℕ) (was : T) → item_if g (Some (g, was)) ≡ Some item → was ≡ item
      item_at g was is = grind (arith, common_steps)

  pub own_item : (old : Tree T) (p : ℕ × ℕ) (item : T) → item_of old p ≡ Some item → old ≡ with_item old p.0 item
  own_item old p item is =
      ap (λ es. record old { list = record old.list { entries = es } }) (sym (with_own_item old.list.entries p.0 p.1 item (entry_of old p item is)))

  -- if a pointer finds what it found before, every pointer does
  pub same-found : (old new : Tree T) (p : ℕ × ℕ) (item : T) → item_of old p ≡ Some item → Updates old new p (Some item) → FindSame old new
  same-found old new p item is updates q = elim (cases_pair q p) [
    | inl same ↦ ap (item_of new) same ∙ updates.changed ∙ sym is ∙ ap (item_of old) (sym same)
    | inr other ↦ updates.others q other
  ]

-- from what the steps of a call ensure: the search, the write of the item and the move
module _ {P T K : Type 0} (numbers : P → ℕ × ℕ) (key : T → K) (cmp : K → K → Ordering) (old mid new : Tree T) (distinct : IsDistinct old.list.entries) (p : ℕ × ℕ) (item : T)
    (named : IsSome (item_of old p)) (c : ℕ) (written : mid ≡ with_item old p.0 item) where
  abbrev Answers : Option (P × Side) → Type 0
  Answers at = FindsAround key cmp old.list.entries p.0 (key item) (option_map (λ (a : P × Side). (numbers a.0, order_on a.1)) at) c

  pub can_stay : IsSome (entry_at mid.list.entries p.0)
  can_stay =
      let was = item_if-found p.1 (entry_at old.list.entries p.0) named in
      rw (written, entry_at-with_item_among old.list.entries p.0 item, was.1) refl

  pub can_go : (at : Option (P × Side)) → Answers at → IfSome at (λ a. (numbers a.0).0 ≢ p.0 → CanPutAt (λ q. (numbers q).0) (Some a) (without_entry mid.list p.0))
  can_go None found = tt
  can_go (Some a) found = λ other.
      let apart : p.0 ≢ (numbers a.0).0 = λ same. other (sym same) in
      rw written (occupied_there key cmp old new distinct p item named (numbers a.0) (order_on a.1) c found apart)

  pub rekeyed_by : (at : Option (P × Side)) → Answers at → IfSome at (λ a. (numbers a.0).0 ≡ p.0 → new ≡ mid)
      → IfSome at (λ a. (numbers a.0).0 ≢ p.0 → new.list ≡ with_entry_moved mid.list p.0 (put_on a.1 (numbers a.0).0))
      → IfSome at (λ a. (numbers a.0).0 ≢ p.0 → (new.shape ≡ mid.shape) ⊎ IsRearranged mid.shape new.shape) → RekeysCounted key cmp old p item c new
  rekeyed_by None found stays list shape =
      absurd (let was = (item_if-found p.1 (entry_at old.list.entries p.0) named).1 in let none = ap (λ es. entry_at es p.0) found in cc)
  rekeyed_by (Some a) found stays list shape = elim (cases_eq (numbers a.0).0 p.0) [
    | inl same ↦ rekeyed_left key cmp old new distinct p item named (numbers a.0) (order_on a.1) c found (sym same) (stays same ∙ written)
    | inr other ↦
        let apart : p.0 ≢ (numbers a.0).0 = λ same. other (sym same) in
        rekeyed_moved key cmp old new distinct p item named (numbers a.0) (order_on a.1) c found apart a.1 refl
        (list other ∙ ap (λ (t : Tree T). with_entry_moved t.list p.0 (put_on a.1 (numbers a.0).0)) written) (rw written at (shape other))
  ]
