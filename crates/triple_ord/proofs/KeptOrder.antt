-- An insertion by a key keeps a list in the order of its keys.
use Rattle.triple_ord.proofs.Words.{arith, ◌≡◌, ◌≢◌, ℕ, List, [], ◌∷◌, ◌++◌, Option, Some, None, IfSome, Result, Ok, Err, refl, sym, ap, Less, Equal, Greater, Entry, Chain, IsDistinct, after-insertion, with_item_among, IsInsertion, Tree}
use Rattle.triple_ord.proofs.Words.{Gap, first_of, last_of, before, after, with_between, IsFirstEqual, IsInOrder, Aim, into, over, LiesBehind, subst, ◌∙◌, inl, inr, IfSome_then, IsTotalOrder, alike_right, ordering_reverse, Ordering}
use Rattle.triple_ord.proofs.{Words.IsPlace, Words.InsertsBy, Words.GoesBy, Words.KeptOrderLaw, Words.OrdEntryKind, Words.New, Words.Replacing, Words.OrdInsertionError, Inserting.begins, Inserting.with_item-here}
use Rattle.triple_ord.proofs.OrderLaws.{IsInOrder-rest, in_order-one, in_order-more}

-- the list after an insertion of a new entry
pub record IsListed {T : Type 0} (put : Entry T → List (Entry T)) (item : T) (es : List (Entry T)) : Type 0 where
  pub entry : Entry T
  pub has : entry.item ≡ item
  pub listed : es ≡ put entry

pub listed-new : {T : Type 0} (c d : Chain T) (put : Entry T → List (Entry T)) (item : T) (i g : ℕ) → IsInsertion c d put item i g → IsListed put item d.entries
listed-new {T} c d put item i g ins =
    record { entry = record { index = i; generation = g; item = item }; has = refl; listed = ap (λ (x : Chain T). x.entries) (after-insertion c d put item i g ins).1 }

module _ {T K : Type 0} (key : T → K) (cmp : K → K → Ordering) (total : IsTotalOrder cmp) where
  -- a new entry between one that isn't greater and one that isn't smaller
  module _ (e : Entry T) where
    abbrev LiesBetween : List (Entry T) → List (Entry T) → Type 0
    LiesBetween front back = IfSome (last_of None front) (λ f. cmp (key f.item) (key e.item) ≢ Greater)
        × IfSome (first_of back) (λ f. cmp (key e.item) (key f.item) ≢ Greater)

    pub in_order-between : (front back : List (Entry T)) → IsInOrder key cmp (front ++ back) → LiesBetween front back → IsInOrder key cmp (front ++ e ∷ back)
    in_order-between [] [] order lies = in_order-one key cmp e
    in_order-between [] (f ∷ back) order lies = in_order-more key cmp e f back lies.1 order
    in_order-between (x ∷ []) back order lies =
        in_order-more key cmp x e back lies.0 (in_order-between [] back (IsInOrder-rest key cmp x back order) (tt, lies.1))
    in_order-between (x ∷ (y ∷ front)) back order lies = in_order-more key cmp x y (front ++ e ∷ back) (order [] (front ++ back) x y refl)
        (in_order-between (y ∷ front) back (IsInOrder-rest key cmp x (y ∷ front ++ back) order) lies)

  -- an entry with an equal key in place of another
  module _ (e other : Entry T) (same : cmp (key e.item) (key other.item) ≡ Equal) where
    in_order-instead : (front back : List (Entry T)) → IsInOrder key cmp (front ++ e ∷ back) → IsInOrder key cmp (front ++ other ∷ back)
    in_order-instead [] [] order = in_order-one key cmp other
    in_order-instead [] (f ∷ back) order =
        in_order-more key cmp other f back (λ more. order [] back e f refl (total.congr (key e.item) (key other.item) (key f.item) same ∙ more)) (IsInOrder-rest key cmp e (f ∷ back) order)
    in_order-instead (x ∷ []) back order =
        in_order-more key cmp x other back (λ more. order [] back x e refl (alike_right total (key e.item) (key other.item) (key x.item) same ∙ more))
        (in_order-instead [] back (IsInOrder-rest key cmp x (e ∷ back) order))
    in_order-instead (x ∷ (y ∷ front)) back order =
        in_order-more key cmp x y (front ++ other ∷ back) (order [] (front ++ e ∷ back) x y refl)
        (in_order-instead (y ∷ front) back (IsInOrder-rest key cmp x (y ∷ front ++ e ∷ back) order))

  -- what is equal to k has the same order to others as k
  module _ (k : K) (item : T) (equal : cmp k (key item) ≡ Equal) where
    behind : (l : K) → cmp k l ≢ Less → cmp l (key item) ≢ Greater
    behind l most more = most ((total.antisymm k l) ∙ ap ordering_reverse (alike_right total k (key item) l equal ∙ more))

    ahead : (l : K) → cmp k l ≡ Less → cmp (key item) l ≢ Greater
    ahead l less more = grind (arith, total.congr k (key item) l equal)

    module _ (entries : List (Entry T)) (sorted : IsInOrder key cmp entries) where
      -- the place of an insertion by k
      lies : (aim : Aim K) → GoesBy aim k → (gap : Gap entries) → IsPlace key cmp aim (into gap) → LiesBehind key cmp gap k
      lies aim (inl at) gap place =
          let fits = rw at at place in
          record { at_most_before = IfSome_then (before gap) fits.lesser_before (λ e more less. absurd (cc)); greater_after = fits.greater_after }
      lies aim (inr at) gap place = rw at at place

      first : (aim : Aim K) → GoesBy aim k → (e : Entry T) → IsPlace key cmp {entries = entries} aim (over e) → IsFirstEqual key cmp entries k e
      first aim (inl at) e place = rw at at place
      first aim (inr at) e place = absurd (rw at at place)

      kept-between : (gap : Gap entries) → LiesBehind key cmp gap k → (e : Entry T) → e.item ≡ item → IsInOrder key cmp (with_between gap e)
      kept-between gap place e has =
          in_order-between e gap.front gap.back (subst (λ es. IsInOrder key cmp es) gap.cut sorted) (
            IfSome_then (before gap) place.at_most_before (λ f most. rw has (behind (key f.item) most)),
            IfSome_then (after gap) place.greater_after (λ f less. rw has (ahead (key f.item) less)),
          )

      kept-instead : IsDistinct entries → (e : Entry T) → IsFirstEqual key cmp entries k e → IsInOrder key cmp (with_item_among entries e.index item)
      kept-instead distinct e met =
          let same : cmp (key e.item) (key item) ≡ Equal = sym (total.congr k (key e.item) (key item) met.equal) ∙ equal in
          let back = begins met.gap.back e met.here in
          let cut : entries ≡ met.gap.front ++ e ∷ back.0 = met.gap.cut ∙ ap (λ ys. met.gap.front ++ ys) back.1 in
          rw (with_item-here entries distinct met.gap.front e back.0 cut item)
          (in_order-instead e (record e { item = item }) same met.gap.front back.0 (rw cut at sorted))

pub kept_order : {P T K : Type 0} (numbers : P → ℕ × ℕ) (key : T → K) (cmp : K → K → Ordering) → IsTotalOrder cmp → KeptOrderLaw numbers key cmp
kept_order {P} {T} {K} numbers key cmp total most growth aim k old new item answer by equal distinct sorted inserts = go answer inserts
  where
    go : (answer : Result (OrdEntryKind P × Option T) OrdInsertionError) → InsertsBy key cmp most growth aim numbers old item answer new → IsInOrder key cmp new.list.entries
    go (Ok (New p, None)) ins =
        let place = lies key cmp total k item equal old.list.entries sorted aim by ins.gap ins.place in
        let list = listed-new _ _ _ _ _ _ ins.inserted in
        subst (λ es. IsInOrder key cmp es) (sym list.listed)
        (kept-between key cmp total k item equal old.list.entries sorted ins.gap place list.entry list.has)
    go (Ok (Replacing p, Some b)) ins =
        let met = first key cmp total k item equal old.list.entries sorted aim by ins.entry ins.place in
        subst (λ (t : Tree T). IsInOrder key cmp t.list.entries) (sym ins.after)
        (kept-instead key cmp total k item equal old.list.entries sorted distinct ins.entry met)
    go (Ok answer) ins = absurd ins
    go (Err refusal) ins = subst (λ (t : Tree T). IsInOrder key cmp t.list.entries) (sym ins.after) sorted
