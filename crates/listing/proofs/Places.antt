-- Where a new entry is put, for callers whose own list is cut there.
use Rattle.std.proofs.Common.{◌≡◌, ◌≢◌, ℕ, List, [], ◌∷◌, ◌++◌, nat_lt, if◌then◌else◌, IfSome, refl, sym, ap, subst, ◌∙◌}
use Rattle.std.specs.{List.AllByRecursion, Cmp.IsTotalOrder}
use Rattle.std.specs.declared.cmp.Ordering.{Ordering, TheVariants.Less, TheVariants.Equal, TheVariants.Greater}
use Rattle.triple_ord.specs.{PlainArena.doubled_capacity, Order.IsInOrder, Gap.first_of, Chain.Entry}
use Rattle.triple_ord.proofs.CallerLemmas.{all_less, IsInOrder-rest, IsInOrder-back}
use Rattle.listing.specs.Held.{item_key}
use Rattle.listing.specs.Listing.{Listing, entry_of, key_of, count, put_behind, with_entry, AreSorted}
use Rattle.listing.proofs.Holding.{sorted-in_order}

module _ {K V : Type 0} (cmp : K → K → Ordering) where
  -- An entry is put between others: none before it has a greater key, and the next one has a greater key.
  pub record IsPut (x : Entry (K × V)) (es : List (Entry (K × V))) : Type 0 where
    pub front : List (Entry (K × V))
    pub back : List (Entry (K × V))
    pub before : es ≡ front ++ back
    pub after : put_behind cmp x es ≡ front ++ x ∷ back
    pub at_most_before : AllByRecursion (λ e. cmp (key_of x) (key_of e) ≢ Less) front
    pub next_greater : IfSome (first_of back) (λ e. cmp (key_of x) (key_of e) ≡ Less)

  pub put : (x : Entry (K × V)) (es : List (Entry (K × V))) → IsPut x es
  put x [] = record { front = []; back = []; before = refl; after = refl; at_most_before = tt; next_greater = tt }
  put x (e ∷ es) = go (cmp (key_of x) (key_of e)) refl (put x es)
    where
      behind : IsPut x es → put_behind cmp x (e ∷ es) ≡ e ∷ put_behind cmp x es → cmp (key_of x) (key_of e) ≢ Less → IsPut x (e ∷ es)
      behind rest is most =
          record {
            front = e ∷ rest.front;
            back = rest.back;
            before = ap (λ (zs : List (Entry (K × V))). e ∷ zs) rest.before;
            after = is ∙ ap (λ (zs : List (Entry (K × V))). e ∷ zs) rest.after;
            at_most_before = (most, rest.at_most_before);
            next_greater = rest.next_greater;
          }

      go : (o : Ordering) → cmp (key_of x) (key_of e) ≡ o → IsPut x es → IsPut x (e ∷ es)
      go Less is rest = record { front = []; back = e ∷ es; before = refl; after = rw is refl; at_most_before = tt; next_greater = is }
      go Equal is rest = behind rest (rw is refl) (λ less. let both = sym is ∙ less in cc)
      go Greater is rest = behind rest (rw is refl) (λ less. let both = sym is ∙ less in cc)

  -- A new entry is after every entry with a key ≤ its own, and before all others.
  pub record IsPutBetween (most : ℕ) (old : Listing (K × V)) (p : ℕ × ℕ) (item : K × V) (new : Listing (K × V)) : Type 0 where
    pub front : List (Entry (K × V))
    pub back : List (Entry (K × V))
    pub before : old.entries ≡ front ++ back
    pub after : new.entries ≡ front ++ entry_of p item ∷ back
    pub at_most_before : AllByRecursion (λ e. cmp item.0 (key_of e) ≢ Less) front
    pub greater_behind : AllByRecursion (λ e. cmp item.0 (key_of e) ≡ Less) back
    pub generation : new.generation ≡ old.generation
    pub capacity : new.capacity ≡ (if nat_lt (count old) old.capacity then old.capacity else doubled_capacity most old.capacity)

  -- by the equation of the call, and that the listing is in order afterwards
  pub inserted-between : IsTotalOrder cmp → (most : ℕ) (old : Listing (K × V)) (p : ℕ × ℕ) (item : K × V) (new : Listing (K × V)) → new ≡ with_entry cmp most old p item
      → AreSorted cmp new.entries → IsPutBetween most old p item new
  unfolding with_entry
  inserted-between total most old p item new is sorted =
      let x = entry_of p item in
      let at = put x old.entries in
      let listed : new.entries ≡ at.front ++ x ∷ at.back = ap (λ (a : Listing (K × V)). a.entries) is ∙ at.after in
      let order : IsInOrder item_key cmp (at.front ++ x ∷ at.back) = subst (λ (es : List (Entry (K × V))). IsInOrder item_key cmp es) listed (sorted-in_order cmp new.entries sorted) in
      record {
        front = at.front;
        back = at.back;
        before = at.before;
        after = listed;
        at_most_before = at.at_most_before;
        greater_behind = all_less item_key cmp total item.0 at.back (IsInOrder-rest item_key cmp x at.back (IsInOrder-back item_key cmp at.front (x ∷ at.back) order)) at.next_greater;
        generation = ap (λ (a : Listing (K × V)). a.generation) is;
        capacity = ap (λ (a : Listing (K × V)). a.capacity) is;
      }
