-- A search for the place of a key among all entries of a list but one, which is still in the tree. No public clause cites this file.
use Rattle.std.specs.{Option.option_map, Ordering.is_eq, declared.cmp.Ordering.Ordering, declared.cmp.Ordering.TheVariants.Less, declared.cmp.Ordering.TheVariants.Greater}
use Rattle.std.specs.Prelude.{◌≡◌, ◌≢◌, ℕ, ◌+◌, ◌≤◌, ◌⊎◌, false, List, [], ◌∷◌, ◌++◌, Option, Some, None, IfSome}
use Rattle.ord_tree.specs.{Chain.Entry, Chain.without, Tree.Tree}
use Rattle.triple_ord.specs.{ClosureSearch.Shown, Search.order_to, Search.pointer, Gap.Gap, Gap.before, Gap.after, Gap.first_of, Gap.last_of, Gap.present, Ties.taken, Descent.IsNodeAt, Descent.side_of}
use Rattle.triple_ord.specs.declared.ties.Ties.TheVariants.{Passed}

-- the item of the last entry, if any
abbrev pub last_item : {T : Type 0} → List (Entry T) → Option T
last_item es = option_map (λ e. e.item) (last_of None es)

module _ {T K : Type 0} (key : T → K) (cmp : K → K → Ordering) where
  -- the order of k to the item before it: `Greater` if its key is at most k, or if there is no item
  abbrev pub order_behind : K → Option T → Ordering
  order_behind k None = Greater
  order_behind k (Some item) = taken Passed cmp k (key item)

  -- The answer at an entry: the order of k to its key, with an equal key counting as smaller. For the entry at index i, which is passed
  -- over, its predecessor is compared.
  pub record AnswersAround (es : List (Entry T)) (i : ℕ) (k : K) (s : Shown T) : Type 0 where
    pub other : s.0.index ≢ i → s.1 ≡ taken Passed cmp k (key s.0.item)
    pub itself : s.0.index ≡ i → (front back : List (Entry T)) → es ≡ front ++ s.0 ∷ back → s.1 ≡ order_behind k (last_item front)

  -- the entry at index j was shown, has the pointer p and got this answer, and the search goes on at this link
  pub record IsAnsweredAround (t : Tree T) (i : ℕ) (k : K) (j : ℕ) (p : ℕ × ℕ) (order : Ordering) (next : Option ℕ) : Type 0 where
    pub generation : ℕ
    pub item : T
    pub lesser : Option ℕ
    pub greater : Option ℕ
    pub pointer_is : p ≡ (j, generation)
    pub there : IsNodeAt t j generation item lesser greater
    pub answered : (e : Entry T) → pointer e ≡ (j, generation) → e.item ≡ item → AnswersAround t.list.entries i k (e, order)
    pub unequal : is_eq order ≡ false
    pub next_is : next ≡ side_of order lesser greater

  -- The search ends on this side of the entry e, at a gap, with c visits. Once the entry at index i is gone, the key before the gap is at
  -- most k and the one after it is greater. The search has seen both.
  pub record EndsAround (es : List (Entry T)) (i : ℕ) (k : K) (c : ℕ) (e : Entry T) (o : Ordering) : Type 0 where
    pub gap : Gap es
    pub at_most_before : IfSome (last_of None (without i gap.front)) (λ f. order_to key cmp k f ≢ Less)
    pub greater_after : IfSome (first_of (without i gap.back)) (λ f. order_to key cmp k f ≡ Less)
    pub seen : present (last_of None (without i gap.front)) + present (first_of (without i gap.back)) ≤ c
    pub beside : ((before gap ≡ Some e) × (o ≡ Greater)) ⊎ ((after gap ≡ Some e) × (o ≡ Less))

  -- the search returns an entry and the side of it on which the place is, or nothing only in an empty list
  abbrev pub FindsAround : List (Entry T) → ℕ → K → Option ((ℕ × ℕ) × Ordering) → ℕ → Type 0
  FindsAround es i k None c = es ≡ []
  FindsAround es i k (Some answer) c = (e : Entry T) × (answer.0 ≡ pointer e) × EndsAround es i k c e answer.1
