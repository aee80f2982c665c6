-- Where a search of the index stops, seen among leaves.
use Rattle.std.proofs.Common.{◌≡◌, ◌≢◌, ℕ, Bool, true, false, List, [], ◌∷◌, ◌++◌, Option, Some, None, IfSome, IfNone, slice_get, arith, ap, sym, subst, ◌∙◌, refl, append_assoc, inl, inr}
use Rattle.std.specs.{Option.option_map, Ordering.is_gt, Ordering.ordering_then}
use Rattle.std.specs.declared.cmp.Ordering.{Ordering, TheVariants.Less, TheVariants.Equal, TheVariants.Greater}
use Rattle.triple_ord.specs.Chain.{Entry}
use Rattle.triple_ord.specs.Gap.{Gap, before, after, first_of, last_of}
use Rattle.triple_ord.specs.PastEquals.{order_past_equals}
use Rattle.triple_ord.specs.Search.{FindsSimilar, order_to}
use Rattle.leaf_row.specs.Before.{is_passed}
use Rattle.leaf_list.specs.Leaves.{Leaf, times_numbered, AreApart}
use Rattle.leaf_list.specs.Parts.{HasLeaf, first_number, last_number, number_before, chosen, StopsBetween, StopsBeside, LeadsTo}
use Rattle.leaf_list.specs.Layout.{leaf_by, leaves_in}
use Rattle.leaf_list.proofs.Placing.{last-of, none-last, cut-of, cut-of-apart, some-entries, size-at, before-at}
use Rattle.leaf_list.proofs.Storing.{stored-append}

module _ {K I : Type 0} (number : I → ℕ) (rows : List (List (K × I))) where
  last-by : (es : List (Entry (K × I))) (o : Option (Entry (K × I))) → last_of (option_map (leaf_by number rows) o) (leaves_in number es rows) ≡ option_map (leaf_by number rows) (last_of o es)
  last-by [] o = refl
  last-by (e ∷ es) o = last-by es (Some e)

  last-numbered : (es : List (Entry (K × I))) (e : Entry (K × I)) (o : Option (Entry (K × I))) → last_of o es ≡ Some e → es ≢ [] → last_number (leaves_in number es rows) ≡ Some e.index
  last-numbered [] e o is some = absurd (some refl)
  last-numbered (f ∷ []) e o is some = let own : f ≡ e = cc in ap (λ (x : Entry (K × I)). Some x.index) own
  last-numbered (f ∷ g ∷ es) e o is some = last-numbered (g ∷ es) e (Some f) is (λ none. absurd (cc))

  last-number-of : (es : List (Entry (K × I))) (e : Entry (K × I)) → last_of None es ≡ Some e → last_number (leaves_in number es rows) ≡ Some e.index
  last-number-of [] e is = absurd (cc)
  last-number-of (f ∷ es) e is = last-numbered (f ∷ es) e None is (λ none. absurd (cc))

  first-number-of : (es : List (Entry (K × I))) (e : Entry (K × I)) → first_of es ≡ Some e → first_number (leaves_in number es rows) ≡ Some e.index
  first-number-of [] e is = absurd (cc)
  first-number-of (f ∷ es) e is = let own : f ≡ e = cc in ap (λ (x : Entry (K × I)). Some x.index) own

  module _ (cmp : K → K → Ordering) (passes : K → Bool) (k : K) (less : (x : K) → cmp k x ≡ Less → passes x ≡ false) (greater : (x : K) → cmp k x ≡ Greater → passes x ≡ true)
      (equal : (x : K) → cmp k x ≡ Equal → passes x ≡ false) (es : List (Entry (K × I))) where
    low-of : (o : Option (Entry (K × I))) → IfSome o (λ e. order_to (λ t. t.0) cmp k e ≡ Greater)
        → IfSome (option_map (leaf_by number rows) o) (λ l. IfSome (slice_get l.entries 0) (λ e. passes e.0 ≡ true))
    low-of None is = tt
    low-of (Some e) is = greater e.item.0 is

    high-less : (xs : List (Entry (K × I))) → IfSome (first_of xs) (λ e. order_to (λ t. t.0) cmp k e ≡ Less)
        → IfSome (first_of (leaves_in number xs rows)) (λ l. IfSome (slice_get l.entries 0) (λ e. passes e.0 ≡ false))
    high-less [] is = tt
    high-less (e ∷ xs) is = less e.item.0 is

    high-equal : (xs : List (Entry (K × I))) (e : Entry (K × I)) → first_of xs ≡ Some e → order_to (λ t. t.0) cmp k e ≡ Equal
        → IfSome (first_of (leaves_in number xs rows)) (λ l. IfSome (slice_get l.entries 0) (λ e. passes e.0 ≡ false))
    high-equal [] e is same = tt
    high-equal (f ∷ xs) e is same = let own : f ≡ e = cc in equal f.item.0 (ap (λ (x : Entry (K × I)). cmp k x.item.0) own ∙ same)

    stop-of : (gap : Gap es) → IfSome (before gap) (λ e. order_to (λ t. t.0) cmp k e ≡ Greater)
        → IfSome (first_of (leaves_in number gap.back rows)) (λ l. IfSome (slice_get l.entries 0) (λ e. passes e.0 ≡ false))
        → StopsBetween passes (leaves_in number es rows) (leaves_in number gap.front rows) (leaves_in number gap.back rows)
    stop-of gap low high = record {
      cut = ap (λ (xs : List (Entry (K × I))). leaves_in number xs rows) gap.cut ∙ stored-append number gap.front gap.back rows;
      low = subst (λ (o : Option (Leaf K)). IfSome o (λ l. IfSome (slice_get l.entries 0) (λ e. passes e.0 ≡ true))) (sym (last-by gap.front None)) (low-of (before gap) low);
      high = high;
    }

    of-some : (o : Option (Entry (K × I))) (e : Entry (K × I)) (P : Entry (K × I) → Type 0) → o ≡ Some e → IfSome o P → P e
    of-some None e P is h = absurd (cc)
    of-some (Some x) e P is h = let own : x ≡ e = cc in subst P own h

    pub stops-of : (p : ℕ × ℕ) (order : Ordering) (c : ℕ) → FindsSimilar (λ t. t.0) cmp es k (Some (p, order)) c → StopsBeside passes (leaves_in number es rows) p.0 (is_gt order)
    stops-of p order c finds = elim finds.2 [
      | inl first ↦
          let equal_is = first.0 in
          let told : order ≡ Equal = named.1 ∙ equal_is.equal in
          rw (told, named.0) (record {
            front = leaves_in number equal_is.gap.front rows;
            back = leaves_in number equal_is.gap.back rows;
            stop = stop-of equal_is.gap equal_is.lesser_before (high-equal equal_is.gap.back finds.0 equal_is.here equal_is.equal);
            here = first-number-of equal_is.gap.back finds.0 equal_is.here;
          })
      | inr beside ↦
          let gap = beside.0 in
          let fits = beside.1.fits in
          let stop = stop-of gap fits.lesser_before (high-less gap.back fits.greater_after) in
          elim beside.2 [
            | inl is ↦
                let told : order ≡ Greater = named.1 ∙ of-some (before gap) finds.0 (λ e. order_to (λ t. t.0) cmp k e ≡ Greater) is fits.lesser_before in
                rw (told, named.0) (record { front = leaves_in number gap.front rows; back = leaves_in number gap.back rows; stop = stop; here = last-number-of gap.front finds.0 is })
            | inr is ↦
                let told : order ≡ Less = named.1 ∙ of-some (after gap) finds.0 (λ e. order_to (λ t. t.0) cmp k e ≡ Less) is fits.greater_after in
                rw (told, named.0) (record { front = leaves_in number gap.front rows; back = leaves_in number gap.back rows; stop = stop; here = first-number-of gap.back finds.0 is })
          ]
    ]
      where
        named : (p.0 ≡ finds.0.index) × (order ≡ order_to (λ t. t.0) cmp k finds.0)
        named = (ap (λ (a : (ℕ × ℕ) × Ordering). a.0.0) finds.1, ap (λ (a : (ℕ × ℕ) × Ordering). a.1) finds.1)

    -- the same, of the answer as the call gives it
    pub stops-found : {P J : Type 0} (numbers : P → ℕ × ℕ) (index : J → ℕ) (found : Option (P × Ordering)) (result : Option (J × Bool)) (c : ℕ)
        → option_map {U = ℕ × Bool} (λ f. (index f.0, f.1)) result ≡ option_map {U = ℕ × Bool} (λ a. ((numbers a.0).0, is_gt a.1)) found
        → FindsSimilar (λ t. t.0) cmp es k (option_map (λ a. (numbers a.0, a.1)) found) c → IfSome result (λ f. StopsBeside passes (leaves_in number es rows) (index f.0) f.1)
    stops-found numbers index None None c is finds = tt
    stops-found numbers index None (Some f) c is finds = absurd (cc)
    stops-found numbers index (Some a) None c is finds = absurd (cc)
    stops-found numbers index (Some a) (Some f) c is finds =
        let pair : ◌≡◌ {A = ℕ × Bool} (index f.0, f.1) ((numbers a.0).0, is_gt a.1) = cc in
        rw (ap (λ (p : ℕ × Bool). p.0) pair, ap (λ (p : ℕ × Bool). p.1) pair) (stops-of (numbers a.0) a.1 c finds)

    pub none-found : {P J : Type 0} (numbers : P → ℕ × ℕ) (index : J → ℕ) (found : Option (P × Ordering)) (result : Option (J × Bool)) (c : ℕ)
        → option_map {U = ℕ × Bool} (λ f. (index f.0, f.1)) result ≡ option_map {U = ℕ × Bool} (λ a. ((numbers a.0).0, is_gt a.1)) found
        → FindsSimilar (λ t. t.0) cmp es k (option_map (λ a. (numbers a.0, a.1)) found) c → IfNone result (leaves_in number es rows ≡ [])
    none-found numbers index None None c is finds = ap (λ (xs : List (Entry (K × I))). leaves_in number xs rows) finds
    none-found numbers index None (Some f) c is finds = absurd (cc)
    none-found numbers index (Some a) None c is finds = absurd (cc)
    none-found numbers index (Some a) (Some f) c is finds = tt

-- what a search passes
pub less-fails : (w : Bool) (o : Ordering) → o ≡ Less → is_passed w o ≡ false
less-fails true o is = rw is refl
less-fails false o is = rw is refl

pub greater-passes : (w : Bool) (o : Ordering) → o ≡ Greater → is_passed w o ≡ true
greater-passes true o is = rw is refl
greater-passes false o is = rw is refl

pub equal-fails : (o : Ordering) → o ≡ Equal → is_passed false o ≡ false
equal-fails o is = rw is refl

pub past-less : {K : Type 0} (cmp : K → K → Ordering) (k x : K) → order_past_equals cmp k x ≡ Less → is_passed true (cmp k x) ≡ false
past-less cmp k x is = go (cmp k x) is
  where
    go : (o : Ordering) → ordering_then o Greater ≡ Less → is_passed true o ≡ false
    go Less is = refl
    go Equal is = absurd (cc)
    go Greater is = absurd (cc)

pub past-greater : {K : Type 0} (cmp : K → K → Ordering) (k x : K) → order_past_equals cmp k x ≡ Greater → is_passed true (cmp k x) ≡ true
past-greater cmp k x is = go (cmp k x) is
  where
    go : (o : Ordering) → ordering_then o Greater ≡ Greater → is_passed true o ≡ true
    go Less is = absurd (cc)
    go Equal is = refl
    go Greater is = refl

pub past-equal : {K : Type 0} (cmp : K → K → Ordering) (k x : K) → order_past_equals cmp k x ≡ Equal → is_passed true (cmp k x) ≡ false
past-equal cmp k x is = go (cmp k x) is
  where
    go : (o : Ordering) → ordering_then o Greater ≡ Equal → is_passed true o ≡ false
    go Less is = refl
    go Equal is = absurd (cc)
    go Greater is = absurd (cc)

-- from the leaf where the search ends to the one where it leads
module _ {K : Type 0} (passes : K → Bool) (ls : List (Leaf K)) (apart : AreApart ls) where
  pub stops-has : (n : ℕ) (b : Bool) → StopsBeside passes ls n b → HasLeaf ls n
  stops-has n true stops =
      let last = last-of stops.front n stops.here in
      let whole : ls ≡ last.front ++ last.leaf ∷ stops.back = stops.stop.cut ∙ ap (λ (xs : List (Leaf K)). xs ++ stops.back) last.cut ∙ append_assoc last.front (last.leaf ∷ []) stops.back in
      let c = cut-of ls last.front last.leaf stops.back n whole last.number (ap (λ (m : ℕ). times_numbered m last.front) (sym last.number) ∙ cut-of-apart ls last.front last.leaf stops.back apart whole) in
      let some = some-entries ls c.front c.leaf c.back apart c.cut in let size = size-at ls n c in omega arith
  stops-has n false stops = go stops.back refl
    where
      go : (back : List (Leaf K)) → stops.back ≡ back → HasLeaf ls n
      go [] is = absurd (let lost : None ≡ Some n = ap first_number (sym is) ∙ stops.here in cc)
      go (l ∷ back) is =
          let own : Some l.number ≡ Some n = ap first_number (sym is) ∙ stops.here in
          let same : l.number ≡ n = cc in
          let whole : ls ≡ stops.front ++ l ∷ back = stops.stop.cut ∙ ap (λ (xs : List (Leaf K)). stops.front ++ xs) is in
          let c = cut-of ls stops.front l back n whole same (ap (λ (m : ℕ). times_numbered m stops.front) (sym same) ∙ cut-of-apart ls stops.front l back apart whole) in
          let some = some-entries ls c.front c.leaf c.back apart c.cut in let size = size-at ls n c in omega arith

  before-first : (n : ℕ) (stops : StopsBeside passes ls n false) → number_before None ls n ≡ last_number stops.front
  before-first n stops = go stops.back refl
    where
      go : (back : List (Leaf K)) → stops.back ≡ back → number_before None ls n ≡ last_number stops.front
      go [] is = absurd (let lost : None ≡ Some n = ap first_number (sym is) ∙ stops.here in cc)
      go (l ∷ back) is =
          let own : Some l.number ≡ Some n = ap first_number (sym is) ∙ stops.here in
          let same : l.number ≡ n = cc in
          let whole : ls ≡ stops.front ++ l ∷ back = stops.stop.cut ∙ ap (λ (xs : List (Leaf K)). stops.front ++ xs) is in
          before-at ls n (cut-of ls stops.front l back n whole same (ap (λ (m : ℕ). times_numbered m stops.front) (sym same) ∙ cut-of-apart ls stops.front l back apart whole))

  pub leads-of : {J : Type 0} (index : J → ℕ) (leaf : J) (b : Bool) (found : Option J) → option_map index found ≡ number_before None ls (index leaf) → StopsBeside passes ls (index leaf) b
      → LeadsTo passes ls (index (chosen leaf b found).0) (chosen leaf b found).1
  leads-of index leaf true found is stops = record { front = stops.front; back = stops.back; stop = stops.stop; here = stops.here; none_before = λ wrong. absurd (cc) }
  leads-of index leaf false (Some m) is stops = record {
    front = stops.front;
    back = stops.back;
    stop = stops.stop;
    here = sym (before-first (index leaf) stops) ∙ sym is;
    none_before = λ wrong. absurd (cc);
  }
  leads-of index leaf false None is stops = record {
    front = stops.front;
    back = stops.back;
    stop = stops.stop;
    here = stops.here;
    none_before = λ _. none-last stops.front (sym (before-first (index leaf) stops) ∙ sym is);
  }
