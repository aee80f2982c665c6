-- The first entry with an equal key, but for the entry of a pointer.
use Rattle.std.proofs.Common.{◌≡◌, ◌≢◌, ◌≤◌, ◌==◌, ℕ, Bool, true, false, not, ◌&&◌, if◌then◌else◌, List, [], ◌∷◌, ◌++◌, append_assoc, Option, Some, None, IfSome, is_some, refl, sym, ap, subst, ◌∙◌, arith, inl, inr}
use Rattle.std.proofs.lemmas.{Grind.common_steps, Bool.Decides.eqb_tells, List.Elements.recursion_from_All}
use Rattle.std.specs.{List.AllByRecursion, Option.option_map, Ordering.is_eq, Cmp.IsTotalOrder}
use Rattle.std.specs.declared.cmp.Ordering.{Ordering, TheVariants.Less, TheVariants.Equal, TheVariants.Greater}
use Rattle.listing.specs.{Chain.Entry, Chain.IsDistinct, Chain.entry_at, Chain.item_of, Chain.times, Gap.first_of, PlainArena.item_if}
use Rattle.listing.proofs.OrdLemmas.{all_less, recursion-map}
use Rattle.listing.proofs.CallerLemmas.{sorted-in_order}
use Rattle.sorted_arena.specs.{Layout.item_key, Sorted.key_of, Sorted.pointer_of, Sorted.first_where, Sorted.is_named_by, Sorted.next_of, Sorted.AreSorted, Unique.first_other}
use Rattle.sorted_arena.proofs.Cutting.{some-same, eq_is, first_where-skip, first_where-none, first_where-first, none-where, cut-where, next-here, found-here}
use Rattle.sorted_arena.proofs.Merging.{sorted-back}

fails : (b c : Bool) → c ≡ false → (not b && c) ≡ false
fails true c is = refl
fails false c is = is

module _ {K V : Type 0} (cmp : K → K → Ordering) (k : K) (p : ℕ × ℕ) where
  abbrev pub equals : Entry (K × V) → Bool
  equals e = is_eq (cmp k (key_of e))

  abbrev pub differs : Entry (K × V) → Bool
  differs e = not (is_named_by p e) && equals e

  unnamed : (e : Entry (K × V)) → p ≢ pointer_of e → is_named_by p e ≡ false
  unnamed e apart = elim (eqb_tells e.index p.0) [
    | inl h ↦ elim (eqb_tells e.generation p.1) [
      | inl g ↦ absurd (apart (sym (ap (λ i. (i, e.generation)) h.1 ∙ ap (λ n. (p.0, n)) g.1)))
      | inr g ↦ rw (h.0, g.0) refl
    ]
    | inr h ↦ rw (h.0) refl
  ]

  pub other-none : (es : List (Entry (K × V))) → first_where equals es ≡ None → first_other cmp p k es ≡ None
  other-none es none =
      first_where-none differs es (recursion-map (λ e. equals e ≡ false) (λ e. differs e ≡ false) (λ e is. fails (is_named_by p e) (equals e) is) es (none-where equals es none))

  -- the first with an equal key is another entry than the pointer's
  pub other-first : (es : List (Entry (K × V))) (f : ℕ × ℕ) → first_where equals es ≡ Some f → p ≢ f → first_other cmp p k es ≡ Some f
  other-first [] f found apart = absurd (cc)
  other-first (e ∷ es) f found apart = go (equals e) refl (λ rest. other-first es f rest apart)
    where
      go : (b : Bool) → equals e ≡ b → (first_where equals es ≡ Some f → first_other cmp p k es ≡ Some f) → first_other cmp p k (e ∷ es) ≡ Some f
      go true is others =
          let here : pointer_of e ≡ f = some-same ((let same : first_where equals (e ∷ es) ≡ Some (pointer_of e) = rw is refl in sym same) ∙ found) in
          let other : is_named_by p e ≡ false = unnamed e (λ same. apart (same ∙ here)) in
          rw (other, is) (ap (λ q. Some q) here)
      go false is others =
          let skip : differs e ≡ false = fails (is_named_by p e) (equals e) is in
          rw skip (others ((let same : first_where equals (e ∷ es) ≡ first_where equals es = rw is refl in sym same) ∙ found))

  -- the list is cut at the pointer's entry, which is the first with an equal key
  pub record OwnFirst (es : List (Entry (K × V))) : Type 0 where
    pub front : List (Entry (K × V))
    pub entry : Entry (K × V)
    pub back : List (Entry (K × V))
    pub cut : es ≡ front ++ entry ∷ back
    pub named : p ≡ pointer_of entry
    pub equal : equals entry ≡ true
    pub before : AllByRecursion (λ e. equals e ≡ false) front

  own-first : (es : List (Entry (K × V))) → first_where equals es ≡ Some p → OwnFirst es
  own-first [] found = absurd (cc)
  own-first (e ∷ es) found = go (equals e) refl (λ rest. own-first es rest)
    where
      go : (b : Bool) → equals e ≡ b → (first_where equals es ≡ Some p → OwnFirst es) → OwnFirst (e ∷ es)
      go true is others = record {
        front = [];
        entry = e;
        back = es;
        cut = refl;
        named = some-same (sym found ∙ rw is refl);
        equal = is;
        before = tt;
      }
      go false is others =
          let rest = others ((let same : first_where equals (e ∷ es) ≡ first_where equals es = rw is refl in sym same) ∙ found) in
          record {
            front = e ∷ rest.front;
            entry = rest.entry;
            back = rest.back;
            cut = ap (λ ys. e ∷ ys) rest.cut;
            named = rest.named;
            equal = rest.equal;
            before = (is, rest.before);
          }

  -- behind the pointer's entry no entry has that pointer
  none-named : (e : Entry (K × V)) (es : List (Entry (K × V))) → p ≡ pointer_of e → times e.index es ≡ 0 → first_where differs es ≡ first_where equals es
  none-named e [] named once = refl
  none-named e (f ∷ es) named once =
      let apart : p ≢ pointer_of f = λ same. let index : e.index ≡ f.index = ap (λ (q : ℕ × ℕ). q.0) (sym named ∙ same) in grind (arith, common_steps) in
      let other : is_named_by p f ≡ false = unnamed f apart in
      let rest = none-named e es named (grind (arith, common_steps)) in
      rw (other, rest) refl

  own-name : (e : Entry (K × V)) → p ≡ pointer_of e → is_named_by p e ≡ true
  own-name e named =
      let i : (e.index == e.index) ≡ true = grind (arith, common_steps) in
      let g : (e.generation == e.generation) ≡ true = grind (arith, common_steps) in
      rw (named, i, g) refl

  -- an index that stands once stands nowhere behind its entry
  later : (i : ℕ) (front back : List (Entry (K × V))) → times i back ≤ times i (front ++ back)
  later i [] back = omega arith
  later i (f ∷ front) back = grind (arith, common_steps, later i front back)

  alone : (front : List (Entry (K × V))) (e : Entry (K × V)) (back : List (Entry (K × V))) → IsDistinct (front ++ e ∷ back) → times e.index back ≡ 0
  alone front e back distinct = grind (arith, common_steps, later e.index front (e ∷ back), distinct e.index)

  module _ (total : IsTotalOrder cmp) where
    -- behind an entry with an equal key the next one has an equal key too, or none has
    next-equal : (e : Entry (K × V)) (es : List (Entry (K × V))) → equals e ≡ true → AreSorted cmp (e ∷ es)
        → (b : Bool) → IfSome (first_of es) (λ f. equals f ≡ b) → first_where equals es ≡ (if b then option_map pointer_of (first_of es) else None)
    next-equal e [] equal sorted true first = refl
    next-equal e [] equal sorted false first = refl
    next-equal e (f ∷ es) equal sorted true first = first_where-first equals (f ∷ es) first
    next-equal e (f ∷ es) equal sorted false first =
        first_where-none equals (f ∷ es)
        (recursion-map (λ x. cmp k (key_of x) ≡ Less) (λ x. equals x ≡ false) (λ x less. ap is_eq less) (f ∷ es) (all_less item_key cmp total k (f ∷ es) (sorted-in_order cmp (f ∷ es) sorted.1) less))
      where
        same : cmp k (key_of f) ≡ cmp (key_of e) (key_of f)
        same = total.congr k (key_of e) (key_of f) (eq_is (cmp k (key_of e)) equal)

        by : (o : Ordering) → cmp k (key_of f) ≡ o → cmp k (key_of f) ≡ Less
        by Less is = is
        by Equal is = absurd (let both : is_eq (cmp k (key_of f)) ≡ true = ap is_eq is in let clash = sym first ∙ both in cc)
        by Greater is = absurd (let all : AllByRecursion (λ x. cmp (key_of e) (key_of x) ≢ Greater) (f ∷ es) = recursion_from_All _ (f ∷ es) sorted.0 in all.0 (sym same ∙ is))

        less : cmp k (key_of f) ≡ Less
        less = by (cmp k (key_of f)) refl

    -- the pointer's entry is the first with an equal key
    module _ (es : List (Entry (K × V))) (distinct : IsDistinct es) (sorted : AreSorted cmp es) (found : first_where equals es ≡ Some p) where
      pub own : OwnFirst es
      own = own-first es found

      next-is : next_of es p ≡ option_map pointer_of (first_of own.back)
      next-is = ap (next_of es) own.named ∙ next-here es distinct own.front own.entry own.back own.cut

      others : first_other cmp p k es ≡ first_where equals own.back
      others =
          ap (first_where differs) own.cut
          ∙ first_where-skip differs own.front (own.entry ∷ own.back)
          (recursion-map (λ e. equals e ≡ false) (λ e. differs e ≡ false) (λ e is. fails (is_named_by p e) (equals e) is) own.front own.before)
          ∙ skip (is_named_by p own.entry) (own-name own.entry own.named)
          ∙ none-named own.entry own.back own.named (alone own.front own.entry own.back (λ i. subst (λ (xs : List (Entry (K × V))). times i xs ≤ 1) own.cut (distinct i)))
        where
          skip : (b : Bool) → is_named_by p own.entry ≡ true → first_where differs (own.entry ∷ own.back) ≡ first_where differs own.back
          skip b is = rw is refl

      -- the next entry is the other one if its key is equal, and else there is none
      pub other-next : (b : Bool) → IfSome (first_of own.back) (λ f. equals f ≡ b) → first_other cmp p k es ≡ (if b then next_of es p else None)
      other-next b first =
          others ∙ next-equal own.entry own.back own.equal (sorted-back cmp own.front (own.entry ∷ own.back) (subst (λ (xs : List (Entry (K × V))). AreSorted cmp xs) own.cut sorted)) b first
          ∙ ap (λ (q : Option (ℕ × ℕ)). if b then q else None) (sym next-is)

      -- without a next entry there is none
      pub other-last : next_of es p ≡ None → first_other cmp p k es ≡ None
      other-last none = others ∙ go own.back (sym next-is ∙ none)
        where
          go : (back : List (Entry (K × V))) → option_map pointer_of (first_of back) ≡ None → first_where equals back ≡ None
          go [] is = refl
          go (f ∷ back) is = absurd (cc)

      -- whether the next entry's key is equal, by what its pointer finds
      pub next-found : (q : ℕ × ℕ) → next_of es p ≡ Some q → (key : K) → Some key ≡ option_map (λ x. x.0) (item_of es q) → (b : Bool) → is_eq (cmp k key) ≡ b → IfSome (first_of own.back) (λ f. equals f ≡ b)
      next-found q next key there b is = go own.back own.cut (sym next-is ∙ next)
        where
          go : (back : List (Entry (K × V))) → es ≡ own.front ++ own.entry ∷ back → option_map pointer_of (first_of back) ≡ Some q → IfSome (first_of back) (λ f. equals f ≡ b)
          go [] cut named = tt
          go (f ∷ back) cut named =
              let at : pointer_of f ≡ q = some-same named in
              let here : item_of es q ≡ Some f.item = ap (item_of es) (sym at) ∙ found-here es distinct (own.front ++ own.entry ∷ []) f back (cut ∙ sym (append_assoc own.front (own.entry ∷ []) (f ∷ back))) in
              let same : key ≡ key_of f = some-same (there ∙ ap (option_map (λ (x : K × V). x.0)) here) in
              ap (λ (x : K). is_eq (cmp k x)) (sym same) ∙ is

-- two pointers that name entries and have one index are equal
pub same-named : {T : Type 0} (es : List (Entry T)) (p f : ℕ × ℕ) → f.0 ≡ p.0 → is_some (item_of es p) ≡ true → is_some (item_of es f) ≡ true → f ≡ p
same-named {T = T} es p f index there other = go (entry_at es p.0) there (rw index at other)
  where
    go : (o : Option (ℕ × T)) → is_some (item_if p.1 o) ≡ true → is_some (item_if f.1 o) ≡ true → f ≡ p
    go None there other = absurd (cc)
    go (Some e) there other = elim (eqb_tells e.0 p.1) [
      | inl h ↦ elim (eqb_tells e.0 f.1) [
        | inl g ↦ ap (λ i. (i, f.1)) index ∙ ap (λ n. (p.0, n)) (sym g.1 ∙ h.1)
        | inr g ↦ absurd (let none = rw (g.0) at other in cc)
      ]
      | inr h ↦ absurd (let none = rw (h.0) at there in cc)
    ]

-- the pointer that a test finds names an entry
pub where-named : {K V : Type 0} (test : Entry (K × V) → Bool) (es : List (Entry (K × V))) → IsDistinct es → (f : ℕ × ℕ) → first_where test es ≡ Some f → is_some (item_of es f) ≡ true
where-named test es distinct f found =
    let cut = cut-where test es f found in
    ap (λ q. is_some (item_of es q)) cut.named ∙ ap is_some (found-here es distinct cut.front cut.entry cut.back cut.cut)
