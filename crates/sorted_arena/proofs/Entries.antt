-- Entries as removals give them, and where an entry is in its list.
use Rattle.std.proofs.Common.{◌&&◌, not, count_by, ◌≡◌, ◌≤◌, ◌-◌, ℕ, length, length-append, List, [], ◌∷◌, ◌++◌, map, take, drop, append_assoc, Option, Some, None, slice_get, is_some, Bool, true, false, if◌then◌else◌, Result, Ok, Err, IsOk, is_ok, refl, sym, ap, ◌∙◌, arith}
use Rattle.std.proofs.{lemmas.Grind.common_steps, lemmas.List.append-nil, lemmas.List.map-append, lemmas.List.Sums.length-filter}
use Rattle.std.specs.{Option.option_map, Ordering.is_le, Ordering.is_gt, declared.cmp.Ordering.Ordering}
use Rattle.std.specs.declared.cmp.Ordering.{TheVariants.Less, TheVariants.Equal, TheVariants.Greater}
use Rattle.std.specs.declared.ops.Bound.{TheVariants.Excluded, TheVariants.Unbounded}
use Rattle.listing.specs.{Chain.Entry, Chain.IsDistinct, Chain.item_of, Chain.from_index, Chain.first_pointer, Chain.last_pointer, Gap.first_of, Gap.last_of}
use Rattle.listing.proofs.OrdLemmas.{from_index-here}
use Rattle.sorted_arena.specs.{Given.given_entry, Range.entries_between}
use Rattle.sorted_arena.specs.Sorted.{key_of, pointer_of, first_item, first_item_until, last_item}
use Rattle.sorted_arena.proofs.Cutting.{cut-at, first-named, last-named}

module _ {P K V : Type 0} (numbers : P → ℕ × ℕ) where
  -- the parts of an entry
  pub given-is : (x : P × K × V) (e : Entry (K × V)) → numbers x.0 ≡ pointer_of e → (x.1, x.2) ≡ e.item → given_entry numbers x ≡ e
  given-is x e at item =
      ap (λ (q : ℕ × ℕ). record { index = q.0; generation = q.1; item = (x.1, x.2) }) at
      ∙ ap (λ (i : K × V). record { index = e.index; generation = e.generation; item = i }) item

  -- what the pointer of the first entry finds
  pub first-entry : (p : P) (es : List (Entry (K × V))) → Some (numbers p) ≡ first_pointer es → (o : Option (K × V)) → o ≡ item_of es (numbers p)
      → option_map (λ x. given_entry numbers (p, x.0, x.1)) o ≡ first_of es
  first-entry p [] first o is = absurd (cc)
  first-entry p (e ∷ es) first o is =
      let there : o ≡ Some e.item = is ∙ first-named (e ∷ es) (numbers p) first in
      let at : numbers p ≡ pointer_of e = cc in
      ap (option_map (λ x. given_entry numbers (p, x.0, x.1))) there ∙ ap (λ (q : ℕ × ℕ). Some (record { index = q.0; generation = q.1; item = e.item })) at

  last-at : (es : List (Entry (K × V))) (q : ℕ × ℕ) (item : K × V) → last_pointer es ≡ Some q → last_item es ≡ Some item
      → Some (record { index = q.0; generation = q.1; item = item }) ≡ last_of None es
  last-at [] q item pointer is = absurd (cc)
  last-at (e ∷ []) q item pointer is =
      let at : q ≡ pointer_of e = cc in
      let same : item ≡ e.item = cc in
      ap (λ (r : ℕ × ℕ). Some (record { index = r.0; generation = r.1; item = item })) at ∙ ap (λ (i : K × V). Some (record { index = e.index; generation = e.generation; item = i })) same
  last-at (e ∷ f ∷ es) q item pointer is = last-at (f ∷ es) q item pointer is

  last-missing : (es : List (Entry (K × V))) → last_item es ≡ None → None ≡ last_of None es
  last-missing [] none = refl
  last-missing (e ∷ []) none = absurd (cc)
  last-missing (e ∷ f ∷ es) none = last-missing (f ∷ es) none

  -- what the pointer of the last entry finds
  pub last-entry : (p : P) (es : List (Entry (K × V))) → IsDistinct es → Some (numbers p) ≡ last_pointer es → (o : Option (K × V)) → o ≡ item_of es (numbers p)
      → option_map (λ x. given_entry numbers (p, x.0, x.1)) o ≡ last_of None es
  last-entry p es distinct last None is = last-missing es (sym (is ∙ (last-named es distinct (numbers p) (sym last)).0))
  last-entry p es distinct last (Some x) is = last-at es (numbers p) x (sym last) (sym (is ∙ (last-named es distinct (numbers p) (sym last)).0))

  -- A vector has these entries behind those that it had.
  pub record HasBehind (given filled : List (P × K × V)) (entries : List (Entry (K × V))) : Type 0 where
    pub more : List (P × K × V)
    pub filled_is : filled ≡ given ++ more
    pub entries_are : map (given_entry numbers) more ≡ entries

  pub behind-none : (given filled : List (P × K × V)) → filled ≡ given → HasBehind given filled []
  behind-none given filled is = record { more = []; filled_is = is ∙ sym (append-nil given); entries_are = refl }

  pub behind-more : (given filled new : List (P × K × V)) (entries : List (Entry (K × V))) (x : P × K × V) (e : Entry (K × V)) → HasBehind given filled entries → new ≡ filled ++ x ∷ []
      → given_entry numbers x ≡ e → HasBehind given new (entries ++ e ∷ [])
  behind-more given filled new entries x e has is same = record {
    more = has.more ++ x ∷ [];
    filled_is = is ∙ ap (λ (xs : List (P × K × V)). xs ++ x ∷ []) has.filled_is ∙ append_assoc given has.more (x ∷ []);
    entries_are = map-append (given_entry numbers) has.more (x ∷ []) ∙ ap (λ (es : List (Entry (K × V))). es ++ given_entry numbers x ∷ []) has.entries_are ∙ ap (λ (f : Entry (K × V)). entries ++ f ∷ []) same;
  }

  take-front : (xs ys : List (P × K × V)) → take (length xs) (xs ++ ys) ≡ xs
  take-front [] ys = refl
  take-front (x ∷ xs) ys = ap (λ zs. x ∷ zs) (take-front xs ys)

  drop-front : (xs ys : List (P × K × V)) → drop (length xs) (xs ++ ys) ≡ ys
  drop-front [] ys = refl
  drop-front (x ∷ xs) ys = drop-front xs ys

  module _ (given filled : List (P × K × V)) (entries : List (Entry (K × V))) (has : HasBehind given filled entries) where
    pub behind-held : take (length given) filled ≡ given
    behind-held = ap (take (length given)) has.filled_is ∙ take-front given has.more

    pub behind-entries : map (given_entry numbers) (drop (length given) filled) ≡ entries
    behind-entries = ap (λ (xs : List (P × K × V)). map (given_entry numbers) (drop (length given) xs)) has.filled_is ∙ ap (map (given_entry numbers)) (drop-front given has.more) ∙ has.entries_are

module _ {K V : Type 0} where
  -- the first item, where its key is at most one
  pub until-item : (cmp : K → K → Ordering) (k : K) (es : List (Entry (K × V))) (x : K × V) → Some x ≡ first_item_until cmp k es → Some x ≡ first_item es
  until-item cmp k [] x is = absurd (cc)
  until-item cmp k (e ∷ es) x is = go (is_le (cmp (key_of e) k)) refl
    where
      go : (b : Bool) → is_le (cmp (key_of e) k) ≡ b → Some x ≡ Some e.item
      go true most = is ∙ rw most refl
      go false more = absurd (let none : Some x ≡ None = is ∙ rw more refl in cc)

  -- the element behind a front
  at-front : (front : List (Entry (K × V))) (e : Entry (K × V)) (back : List (Entry (K × V))) → slice_get (front ++ e ∷ back) (length front) ≡ Some e
  at-front [] e back = refl
  at-front (x ∷ front) e back = at-front front e back

  -- where the entry of a pointer is, by the entries from there on
  pub record IsPlaced (es : List (Entry (K × V))) (p : ℕ × ℕ) : Type 0 where
    pub fewer : length (from_index es p.0) ≤ length es
    pub place : option_map pointer_of (slice_get es (length es - length (from_index es p.0))) ≡ Some p

  pub placed : (es : List (Entry (K × V))) (p : ℕ × ℕ) → IsDistinct es → is_some (item_of es p) ≡ true → IsPlaced es p
  placed es p distinct there =
      let cut = cut-at es distinct p there in
      let from : from_index es p.0 ≡ cut.entry ∷ cut.back = ap (λ (q : ℕ × ℕ). from_index es q.0) (sym cut.named) ∙ from_index-here es distinct cut.front cut.entry cut.back cut.cut in
      let before : length es - length (from_index es p.0) ≡ length cut.front =
      omega (arith, ap length from, ap length cut.cut, length-append cut.front (cut.entry ∷ cut.back)) in
      record {
        fewer = omega (arith, ap length from, ap length cut.cut, length-append cut.front (cut.entry ∷ cut.back));
        place = ap (λ i. option_map pointer_of (slice_get es i)) before ∙ ap (λ (xs : List (Entry (K × V))). option_map pointer_of (slice_get xs (length cut.front))) cut.cut
            ∙ ap (option_map pointer_of) (at-front cut.front cut.entry cut.back) ∙ ap (λ (q : ℕ × ℕ). Some q) cut.named;
      }

-- before a key are the entries with a smaller one
pub count-below : {K V : Type 0} (cmp : K → K → Ordering) (k : K) (es : List (Entry (K × V)))
    → length (entries_between cmp Unbounded (Excluded k) es) ≡ count_by (λ e. is_gt (cmp k (key_of e))) es
count-below {K = K} {V = V} cmp k es = length-filter _ es ∙ same es
  where
    test : (o : Ordering) → (true && not (is_le o)) ≡ is_gt o
    test Less = refl
    test Equal = refl
    test Greater = refl

    same : (es : List (Entry (K × V))) → count_by (λ e. true && not (is_le (cmp k (key_of e)))) es ≡ count_by (λ e. is_gt (cmp k (key_of e))) es
    same [] = refl
    same (e ∷ es) = grind (arith, common_steps, test (cmp k (key_of e)), same es)

-- a vector with room takes one more
pub pushed : {X U E : Type 0} (r : Result U E) (xs new : List X) (x : X) → new ≡ (if is_ok r then xs ++ x ∷ [] else xs) → IsOk r → new ≡ xs ++ x ∷ []
pushed (Ok u) xs new x is ok = is
pushed (Err e) xs new x is ok = absurd (cc)
