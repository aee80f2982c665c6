-- Values that a closure writes one after another.
use Rattle.std.proofs.Common.{◌≡◌, ℕ, Bool, true, false, not, ◌+◌, ◌<◌, ◌++◌, cond, length, append_assoc, filter, List, [], ◌∷◌, Option, Some, None, is_some, Bor, refl, sym, ap, subst, ◌∙◌, arith}
use Rattle.std.proofs.lemmas.Grind.{common_steps}
use Rattle.std.specs.{List.AllByRecursion, Option.option_map, Option.option_copied_mut, Borrow.MutBor, Cmp.IsTotalOrder}
use Rattle.std.specs.declared.{cmp.Ordering.Ordering, ops.Bound.Bound}
use Rattle.std.specs.BTreeMap.Range.{range_contains}
use denote.Param.Members.{Mut}
use Rattle.listing.specs.{Chain.Entry, Chain.IsDistinct, Chain.times, Chain.with_item_among, Gap.first_of}
use Rattle.listing.proofs.OrdLemmas.{not_before, recursion-map}
use Rattle.sorted_arena.specs.{Range.entries_between, Sorted.Sorted, Sorted.key_of, Sorted.value_of, Sorted.pointer_of, Sorted.AreSorted, Taking.IsCutAt, Taking.WritesAt}
use Rattle.sorted_arena.specs.Write.{WritesIf, WritesEach}
use Rattle.sorted_arena.proofs.{Cutting.some-same, Elements.all-front, Elements.all-back, Outside.range-part}

-- what passes a test passes it
passes : {X : Type 0} (test : X → Bool) (xs : List X) → AllByRecursion (λ x. test x ≡ true) (filter test xs)
passes test [] = tt
passes test (x ∷ xs) = go (test x) refl (passes test xs)
  where
    go : (b : Bool) → test x ≡ b → AllByRecursion (λ y. test y ≡ true) (filter test xs) → AllByRecursion (λ y. test y ≡ true) (filter test (x ∷ xs))
    go true is rest = subst (λ (c : Bool). AllByRecursion (λ y. test y ≡ true) (cond c (x ∷ filter test xs) (filter test xs))) (sym is) (is, rest)
    go false is rest = subst (λ (c : Bool). AllByRecursion (λ y. test y ≡ true) (cond c (x ∷ filter test xs) (filter test xs))) (sym is) rest

not-true : (b : Bool) → not b ≡ true → b ≡ false
not-true false is = refl
not-true true is = absurd (cc)

module _ {F K V : Type 0} (g : Mut F (Bor K × (MutBor V × Unit {0})) (Unit {0} × (MutBor V × Unit {0}))) (test : Entry (K × V) → Bool) where
  -- entries that don't pass the test stay
  writes-skip : (f : F) (front es ys : List (Entry (K × V))) → AllByRecursion (λ e. test e ≡ false) front → WritesEach g test f es ys → WritesEach g test f (front ++ es) (front ++ ys)
  writes-skip f [] es ys all rest = rest
  writes-skip f (e ∷ front) es ys all rest =
      (value_of e, f, front ++ ys, subst (λ (b : Bool). WritesIf g b f e (value_of e) f) (sym all.0) (refl, refl), writes-skip f front es ys all.1 rest, refl)

  writes-none : (f : F) (es : List (Entry (K × V))) → AllByRecursion (λ e. test e ≡ false) es → WritesEach g test f es es
  writes-none f [] all = refl
  writes-none f (e ∷ es) all = (value_of e, f, es, subst (λ (b : Bool). WritesIf g b f e (value_of e) f) (sym all.0) (refl, refl), writes-none f es all.1, refl)

  module _ (old : Sorted K V) (f0 : F) (n : ℕ) where
    -- So many of n entries were written, and these are still to be written, from the one on that `next` names.
    pub record Writing (now : Sorted K V) (next : Option (ℕ × ℕ)) (i : ℕ) (f : F) : Type 0 where
      pub done : List (Entry (K × V))
      pub rest : List (Entry (K × V))
      pub back : List (Entry (K × V))
      pub cut : now.entries ≡ done ++ (rest ++ back)
      pub many : length rest + i ≡ n
      pub inside : AllByRecursion (λ e. test e ≡ true) rest
      pub outside : AllByRecursion (λ e. test e ≡ false) back
      pub next_is : (e : Entry (K × V)) (es : List (Entry (K × V))) → rest ≡ e ∷ es → next ≡ Some (pointer_of e)
      pub after : now ≡ record old { entries = now.entries }
      pub follows : (ys : List (Entry (K × V))) → WritesEach g test f (rest ++ back) ys → WritesEach g test f0 old.entries (done ++ ys)

    pub writing-none : (next : Option (ℕ × ℕ)) (front middle back : List (Entry (K × V))) → old.entries ≡ front ++ (middle ++ back) → length middle ≡ n
        → AllByRecursion (λ e. test e ≡ false) front → AllByRecursion (λ e. test e ≡ true) middle → AllByRecursion (λ e. test e ≡ false) back
        → next ≡ option_map pointer_of (first_of middle) → Writing old next 0 f0
    writing-none next front middle back cut many before inside outside first = record {
      done = front;
      rest = middle;
      back = back;
      cut = cut;
      many = omega (arith, many);
      inside = inside;
      outside = outside;
      next_is = λ e es is. first ∙ ap (λ (xs : List (Entry (K × V))). option_map pointer_of (first_of xs)) is;
      after = refl;
      follows = λ ys each. subst (λ (xs : List (Entry (K × V))). WritesEach g test f0 xs (front ++ ys)) (sym cut) (writes-skip f0 front (middle ++ back) ys before each);
    }

    module _ (now : Sorted K V) (next : Option (ℕ × ℕ)) (i : ℕ) (f : F) (w : Writing now next i f) where
      module _ (less : i < n) where
        -- there is a next entry
        pub record Goes : Type 0 where
          pub entry : Entry (K × V)
          pub later : List (Entry (K × V))
          pub is : w.rest ≡ entry ∷ later

        goes : Goes
        goes = go w.rest refl
          where
            go : (rest : List (Entry (K × V))) → w.rest ≡ rest → Goes
            go [] is = absurd (omega (arith, less, w.many, ap length is))
            go (e ∷ es) is = record { entry = e; later = es; is = is }

        pub cut-next : IsCutAt now.entries next
        cut-next = record {
          front = w.done;
          entry = goes.entry;
          back = goes.later ++ w.back;
          cut = w.cut ∙ ap (λ (xs : List (Entry (K × V))). w.done ++ (xs ++ w.back)) goes.is;
          named = w.next_is goes.entry goes.later goes.is;
        }

        pub writing-more : (new : Sorted K V) (after : Option (ℕ × ℕ)) (f' : F) → ((at : IsCutAt now.entries next) → WritesAt g now next at f f' new after) → Writing new after (i + 1) f'
        unfolding cut-next
        writing-more new after f' writes =
            let out = writes cut-next in
            let e : Entry (K × V) = record goes.entry { item = (key_of goes.entry, out.v) } in
            let inside = subst (λ (xs : List (Entry (K × V))). AllByRecursion (λ x. test x ≡ true) xs) goes.is w.inside in
            let entries = ap (λ (a : Sorted K V). a.entries) out.written in
            record {
              done = w.done ++ e ∷ [];
              rest = goes.later;
              back = w.back;
              cut = entries ∙ sym (append_assoc w.done (e ∷ []) (goes.later ++ w.back));
              many = omega (arith, w.many, ap length goes.is);
              inside = inside.1;
              outside = w.outside;
              next_is = λ x es is. out.next_is ∙ ap (λ (xs : List (Entry (K × V))). option_map pointer_of (first_of (xs ++ w.back))) is;
              after = out.written ∙ ap (λ (a : Sorted K V). record a { entries = w.done ++ e ∷ (goes.later ++ w.back) }) w.after ∙ ap (λ (xs : List (Entry (K × V))). record old { entries = xs }) (sym entries);
              follows = λ ys each.
                  subst (λ (xs : List (Entry (K × V))). WritesEach g test f0 old.entries xs) (sym (append_assoc w.done (e ∷ []) ys))
                  (w.follows (e ∷ ys)
                  (subst (λ (xs : List (Entry (K × V))). WritesEach g test f (xs ++ w.back) (e ∷ ys)) (sym goes.is)
                  (out.v, f', ys, subst (λ (b : Bool). WritesIf g b f goes.entry out.v f') (sym inside.0) out.told, each, refl)));
            }

      -- all were written
      module _ (all : i ≡ n) where
        none-left : w.rest ≡ []
        none-left = go w.rest refl
          where
            go : (rest : List (Entry (K × V))) → w.rest ≡ rest → rest ≡ []
            go [] is = refl
            go (e ∷ es) is = absurd (omega (arith, all, w.many, ap length is))

        pub writing-done : WritesEach g test f0 old.entries now.entries × (now ≡ record old { entries = now.entries })
        writing-done =
            let back = ap (λ (xs : List (Entry (K × V))). xs ++ w.back) none-left in (
              subst (λ (xs : List (Entry (K × V))). WritesEach g test f0 old.entries xs) (sym (w.cut ∙ ap (λ (xs : List (Entry (K × V))). w.done ++ xs) back))
                  (w.follows w.back (subst (λ (xs : List (Entry (K × V))). WritesEach g test f xs w.back) (sym back) (writes-none f w.back w.outside))),
              w.after,
            )

-- the entries of a range, before any was written
pub writing-range : {F K V : Type 0} (g : Mut F (Bor K × (MutBor V × Unit {0})) (Unit {0} × (MutBor V × Unit {0}))) (cmp : K → K → Ordering) → IsTotalOrder cmp → (from until : Bound K) (old : Sorted K V)
    → AreSorted cmp old.entries → (f0 : F) (n : ℕ) → n ≡ length (entries_between cmp from until old.entries) → (next : Option (ℕ × ℕ))
    → next ≡ option_map pointer_of (first_of (entries_between cmp from until old.entries)) → Writing g (λ e. range_contains cmp from until (key_of e)) old f0 n old next 0 f0
writing-range {K = K} {V = V} g cmp total from until old sorted f0 n many next first =
    let part = range-part cmp total from until old.entries sorted in
    let out = recursion-map (λ e. not (range_contains cmp from until (key_of e)) ≡ true) (λ (e : Entry (K × V)). range_contains cmp from until (key_of e) ≡ false)
    (λ e is. not-true (range_contains cmp from until (key_of e)) is) (part.front ++ part.back)
    (subst (λ (xs : List (Entry (K × V))). AllByRecursion (λ e. not (range_contains cmp from until (key_of e)) ≡ true) xs) part.others_are (passes (λ (e : Entry (K × V)). not (range_contains cmp from until (key_of e))) old.entries)) in
    writing-none g (λ e. range_contains cmp from until (key_of e)) old f0 n next part.front (entries_between cmp from until old.entries) part.back part.cut (sym many)
    (all-front _ part.front part.back out) (passes (λ (e : Entry (K × V)). range_contains cmp from until (key_of e)) old.entries) (all-back _ part.front part.back out) first

-- what a reference to an item tells of it
pub lent-some : {X : Type 0} (r : Option (MutBor X)) (x : X) → option_copied_mut r ≡ Some x → is_some r ≡ true
lent-some None x is = absurd (cc)
lent-some (Some m) x is = refl

-- the entry at a cut is written
module _ {K V : Type 0} where
  written-behind : (front : List (Entry (K × V))) (e : Entry (K × V)) (back : List (Entry (K × V))) (x : K × V) → times e.index front ≡ 0
      → with_item_among (front ++ e ∷ back) e.index x ≡ front ++ record e { item = x } ∷ back
  written-behind [] e back x none = grind (arith, common_steps)
  written-behind (f ∷ front) e back x none = grind (arith, common_steps, written-behind front e back x)

  pub written-at : (a : Sorted K V) → IsDistinct a.entries → (q : Option (ℕ × ℕ)) (p : ℕ × ℕ) → q ≡ Some p → (at : IsCutAt a.entries q) (item : K × V) → item ≡ at.entry.item → (v : V)
      → record a { entries = with_item_among a.entries p.0 (item.0, v) } ≡ record a { entries = at.front ++ record at.entry { item = (key_of at.entry, v) } ∷ at.back }
  written-at a distinct q p is at item same v =
      let named : p ≡ pointer_of at.entry = some-same (sym is ∙ at.named) in
      ap (λ (i : ℕ × ℕ). record a { entries = with_item_among a.entries i.0 (item.0, v) }) named
      ∙ ap (λ (x : K × V). record a { entries = with_item_among a.entries at.entry.index (x.0, v) }) same
      ∙ ap (λ (es : List (Entry (K × V))). record a { entries = with_item_among es at.entry.index (key_of at.entry, v) }) at.cut
      ∙ ap (λ (es : List (Entry (K × V))). record a { entries = es })
      (written-behind at.front at.entry at.back (key_of at.entry, v) (not_before a.entries distinct at.front at.entry at.back at.cut))
