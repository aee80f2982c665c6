-- The entries whose keys are outside a range, and those in it, where a sorted list is cut at its ends.
use Rattle.std.proofs.Common.{◌≡◌, ℕ, Option, true, false, Bool, not, ◌&&◌, filter, List, [], ◌∷◌, ◌++◌, refl, sym, ap, ◌∙◌}
use Rattle.std.proofs.lemmas.List.Elements.{All-from_recursion, filter_agree}
use Rattle.std.specs.{List.All, List.AllByRecursion, Ordering.is_le, Ordering.is_lt, Ordering.is_gt, Ordering.ordering_reverse, Cmp.IsTotalOrder}
use Rattle.std.specs.declared.cmp.Ordering.{Ordering, TheVariants.Less, TheVariants.Equal, TheVariants.Greater}
use Rattle.std.specs.declared.ops.Bound.{Bound, TheVariants.Included, TheVariants.Excluded, TheVariants.Unbounded}
use Rattle.std.specs.BTreeMap.Range.{is_from_start, is_past_end}
use Rattle.listing.specs.Chain.{Entry}
use Rattle.sorted_arena.specs.{Range.entries_between, Range.entries_outside, Range.is_outside, Sorted.Sorted, Sorted.key_of, Sorted.entries_until, Sorted.entries_above, Sorted.with_rest, Sorted.with_passing, Sorted.AreSorted}
use Rattle.sorted_arena.proofs.Cutting.{gt_is}
use Rattle.sorted_arena.proofs.Ranging.{Stays, inside, inside-in, inside-past, none-inside, from-stays, past-stays}

at_most : (o : Ordering) → (true && not (is_lt (ordering_reverse o))) ≡ is_le o
at_most Less = refl
at_most Equal = refl
at_most Greater = refl

above : (o : Ordering) → not (true && not (is_lt (ordering_reverse o))) ≡ is_gt o
above Less = refl
above Equal = refl
above Greater = refl

-- a list is cut before and behind a part of it, and these are the others
pub record IsPart {X : Type 0} (es middle others : List X) : Type 0 where
  pub front : List X
  pub back : List X
  pub cut : es ≡ front ++ (middle ++ back)
  pub others_are : others ≡ front ++ back

module _ {K V : Type 0} where
  module _ (s t : Entry (K × V) → Bool) where
    abbrev outside : List (Entry (K × V)) → List (Entry (K × V))
    outside es = filter (λ e. not (s e && not (t e))) es

    outside-before : (e : Entry (K × V)) (es : List (Entry (K × V))) → s e ≡ false → outside (e ∷ es) ≡ e ∷ outside es
    outside-before e es begun = rw begun refl

    outside-in : (e : Entry (K × V)) (es : List (Entry (K × V))) → s e ≡ true → t e ≡ false → outside (e ∷ es) ≡ outside es
    outside-in e es begun passed = rw (begun, passed) refl

    outside-past : (e : Entry (K × V)) (es : List (Entry (K × V))) → t e ≡ true → outside (e ∷ es) ≡ e ∷ outside es
    outside-past e es passed = go (s e) refl
      where
        go : (b : Bool) → s e ≡ b → outside (e ∷ es) ≡ e ∷ outside es
        go true begun = rw (begun, passed) refl
        go false begun = rw begun refl

    all-outside : (es : List (Entry (K × V))) → AllByRecursion (λ e. t e ≡ true) es → outside es ≡ es
    all-outside [] all = refl
    all-outside (e ∷ es) all = outside-past e es all.0 ∙ ap (λ xs. e ∷ xs) (all-outside es all.1)

    -- behind the start
    record Rest (es : List (Entry (K × V))) : Type 0 where
      pub back : List (Entry (K × V))
      pub cut : es ≡ inside s t es ++ back
      pub others_are : outside es ≡ back

    rest : (es : List (Entry (K × V))) → AllByRecursion (λ e. s e ≡ true) es → Stays t es → Rest es
    rest [] all stays = record { back = []; cut = refl; others_are = refl }
    rest (e ∷ es) all stays = go (t e) refl (rest es all.1 stays.1)
      where
        go : (b : Bool) → t e ≡ b → Rest es → Rest (e ∷ es)
        go true passed r =
            let none : inside s t (e ∷ es) ≡ [] = inside-past s t e es passed ∙ none-inside s t es (stays.0 passed) in
            record { back = e ∷ es; cut = ap (λ xs. xs ++ e ∷ es) (sym none); others_are = outside-past e es passed ∙ ap (λ xs. e ∷ xs) (all-outside es (stays.0 passed)) }
        go false passed r = record {
          back = r.back;
          cut = ap (λ xs. e ∷ xs) r.cut ∙ ap (λ xs. xs ++ r.back) (sym (inside-in s t e es all.0 passed));
          others_are = outside-in e es all.0 passed ∙ r.others_are;
        }

    parted : (es : List (Entry (K × V))) → Stays s es → Stays t es → IsPart es (inside s t es) (outside es)
    parted [] ss ts = record { front = []; back = []; cut = refl; others_are = refl }
    parted (e ∷ es) ss ts = go (s e) (t e) refl refl (parted es ss.1 ts.1)
      where
        go : (b c : Bool) → s e ≡ b → t e ≡ c → IsPart es (inside s t es) (outside es) → IsPart (e ∷ es) (inside s t (e ∷ es)) (outside (e ∷ es))
        go true c begun passed p =
            let r = rest (e ∷ es) (begun, ss.0 begun) ts in
            record { front = []; back = r.back; cut = r.cut; others_are = r.others_are }
        go false c begun passed p = record {
          front = e ∷ p.front;
          back = p.back;
          cut = ap (λ xs. e ∷ xs) p.cut ∙ ap (λ xs. e ∷ (p.front ++ (xs ++ p.back))) (sym (before begun));
          others_are = outside-before e es begun ∙ ap (λ xs. e ∷ xs) p.others_are;
        }
          where
            before : s e ≡ false → inside s t (e ∷ es) ≡ inside s t es
            before begun = rw begun refl

  -- in a sorted list
  pub range-part : (cmp : K → K → Ordering) → IsTotalOrder cmp → (from until : Bound K) (es : List (Entry (K × V))) → AreSorted cmp es
      → IsPart es (entries_between cmp from until es) (entries_outside cmp from until es)
  range-part cmp total from until es sorted =
      parted (λ e. is_from_start cmp from (key_of e)) (λ e. is_past_end cmp until (key_of e)) es (from-stays cmp total from es sorted) (past-stays cmp total until es sorted)

module _ {K V : Type 0} (cmp : K → K → Ordering) (k : K) where
  -- before a key is what isn't from it on
  pub outside-before_key : (es : List (Entry (K × V))) → entries_outside cmp (Included k) Unbounded es ≡ entries_between cmp Unbounded (Excluded k) es
  outside-before_key es = filter_agree _ _ (λ e. both (is_le (cmp k (key_of e)))) es
    where
      both : (b : Bool) → not (b && not false) ≡ (true && not b)
      both true = refl
      both false = refl

  module _ (total : IsTotalOrder cmp) where
    -- up to a key, and above it
    pub until-between : (es : List (Entry (K × V))) → entries_between cmp Unbounded (Included k) es ≡ entries_until cmp k es
    until-between es = filter_agree _ _ (λ e. ap (λ o. true && not (is_lt o)) (total.antisymm k (key_of e)) ∙ at_most (cmp (key_of e) k)) es

    pub outside-above : (greatest : Option ℕ) (a : Sorted K V)
        → with_passing greatest a (is_outside cmp Unbounded (Included k)) ≡ with_passing greatest a (λ e. is_gt (cmp (key_of e) k))
    unfolding with_passing
    outside-above greatest a = ap (with_rest greatest a) (filter_agree _ _ (λ e. ap (λ o. not (true && not (is_lt o))) (total.antisymm k (key_of e)) ∙ above (cmp (key_of e) k)) a.entries)

  -- all keys above one are greater
  pub above-greater : (es : List (Entry (K × V))) → All (λ e. cmp (key_of e) k ≡ Greater) (entries_above cmp k es)
  above-greater es = All-from_recursion _ _ (go es)
    where
      go : (es : List (Entry (K × V))) → AllByRecursion (λ e. cmp (key_of e) k ≡ Greater) (entries_above cmp k es)
      go [] = tt
      go (e ∷ es) = by (is_gt (cmp (key_of e) k)) refl (go es)
        where
          by : (b : Bool) → is_gt (cmp (key_of e) k) ≡ b → AllByRecursion (λ x. cmp (key_of x) k ≡ Greater) (entries_above cmp k es)
              → AllByRecursion (λ x. cmp (key_of x) k ≡ Greater) (entries_above cmp k (e ∷ es))
          by true is rest = rw is (gt_is (cmp (key_of e) k) is, rest)
          by false is rest = rw is rest
