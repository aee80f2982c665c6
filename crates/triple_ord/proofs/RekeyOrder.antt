-- Moving an entry to the place of its key leaves the keys in order if those of the others are.
use Rattle.triple_ord.proofs.Words.{◌≡◌, ◌≢◌, ℕ, List, [], ◌∷◌, refl, sym, ap, subst, ◌∙◌, inl, inr, eqb_tells, IfSome_then, IsTotalOrder, alike_right}
use Rattle.triple_ord.proofs.Words.{ordering_reverse, Ordering, Less, Equal, Greater, Entry, Tree, IsInOrder, before, after, with_item}
use Rattle.triple_ord.proofs.{Without.without-written, KeptOrder.in_order-between, OrderLaws.IsInOrder-rest, OrderLaws.in_order-one, OrderLaws.in_order-more}
use Rattle.triple_ord.specs.Rekey.{Rekeys, RekeyOrderLaw}
use Rattle.ord_tree.specs.Chain.{without}

module _ {T K : Type 0} (key : T → K) (cmp : K → K → Ordering) (total : IsTotalOrder cmp) where
  at_most_trans : (a b c : K) → cmp a b ≢ Greater → cmp b c ≢ Greater → cmp a c ≢ Greater
  at_most_trans a b c ab bc = go (cmp a b) (cmp b c) refl refl
    where
      go : (o p : Ordering) → cmp a b ≡ o → cmp b c ≡ p → cmp a c ≢ Greater
      go Less Less x y more = let less = total.trans a b c x y in cc
      go Less Equal x y more = ab (alike_right total b c a y ∙ more)
      go Less Greater x y more = bc y
      go Equal p x y more = bc (sym (total.congr a b c x) ∙ more)
      go Greater p x y more = ab x

  skip : (e f : Entry T) (es : List (Entry T)) → IsInOrder key cmp (e ∷ f ∷ es) → IsInOrder key cmp (e ∷ es)
  skip e f [] order = in_order-one key cmp e
  skip e f (g ∷ es) order =
      in_order-more key cmp e g es (at_most_trans (key e.item) (key f.item) (key g.item) (order [] (g ∷ es) e f refl) (order (e ∷ []) es f g refl))
      (IsInOrder-rest key cmp f (g ∷ es) (IsInOrder-rest key cmp e (f ∷ g ∷ es) order))

  module _ (i : ℕ) where
    pub in_order-without : (es : List (Entry T)) → IsInOrder key cmp es → IsInOrder key cmp (without i es)
    in_order-without [] order = order
    in_order-without (e ∷ []) order = elim (eqb_tells e.index i) [
      | inl h ↦ rw h.0 (IsInOrder-rest key cmp e [] order)
      | inr h ↦ rw h.0 order
    ]
    in_order-without (e ∷ (f ∷ es)) order =
        let rest = in_order-without (f ∷ es) (IsInOrder-rest key cmp e (f ∷ es) order) in
        elim (eqb_tells e.index i) [
          | inl h ↦ rw h.0 (IsInOrder-rest key cmp e (f ∷ es) order)
          | inr h ↦ elim (eqb_tells f.index i) [
            | inl g ↦ rw (h.0, g.0) (skip e f es order)
            | inr g ↦ rw (h.0, g.0) (in_order-more key cmp e f (without i es) (order [] es e f refl) (rw g.0 at rest))
          ]
        ]

  restored_order : (old new : Tree T) (p : ℕ × ℕ) (item : T) → IsInOrder key cmp (without p.0 old.list.entries) → Rekeys key cmp old p item new → IsInOrder key cmp new.list.entries
  restored_order old new p item order r =
      let k = key item in
      let below = IfSome_then (before r.gap) r.place.at_most_before (λ f most more. most (total.antisymm k (key f.item) ∙ ap ordering_reverse more)) in
      let above = IfSome_then (after r.gap) r.place.greater_after (λ f less more. let both = less in cc) in
      subst (λ es. IsInOrder key cmp es) (sym r.entries)
      (in_order-between key cmp total (record { index = p.0; generation = p.1; item = item }) r.gap.front r.gap.back (subst (λ es. IsInOrder key cmp es) r.gap.cut order) (below, above))

  pub rekeyed_order : RekeyOrderLaw key cmp
  rekeyed_order = record {
    restored = restored_order;
    kept = λ old new p item order r. restored_order old new p item (in_order-without p.0 old.list.entries order) r;
    rewritten = λ old new p written item order r.
        restored_order (with_item old p.0 written) new p item (rw (without-written p.0 old.list.entries written) (in_order-without p.0 old.list.entries order)) r;
  }
