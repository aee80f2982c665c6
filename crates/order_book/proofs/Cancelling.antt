-- Orders that leave by a test: what is left of a list by the answers, and what it does to names.
use Rattle.std.proofs.Common.{◌≡◌, ℕ, zero, suc, ◌+◌, ◌-◌, ◌<◌, ◌≤◌, ◌⊎◌, inl, inr, true, false, List, [], ◌∷◌, length, Option, Some, None, IsSome, refl, sym, ap, subst, ◌∙◌, arith, if◌then◌else◌}
use Rattle.std.specs.{Prelude.Bool, List.AllByRecursion, List.items_where_true}
use denote.Param.Members.{Mut}
use Rattle.std.proofs.{lemmas.Bool.Decides.eqb_tells, lemmas.Bool.Decides.leb_tells}
use Rattle.order_book.specs.Queue.{Queue, most_entries, IsDistinct, is_named_by, order_of, generation_after_many, greatest_generation, with_kept, Cancels}
use Rattle.order_book.specs.declared.side.Side.{Side}
use Rattle.order_book.specs.Book.{Book, named, opposite, queue}
use Rattle.order_book.specs.{Id.Id, declared.side.Side.TheVariants.Buy, declared.side.Side.TheVariants.Sell}
use Rattle.order_book.specs.{Names.GoesOn, declared.order.Order.Order}
use Rattle.order_book.proofs.Names.{after-is, some-none}

-- what is true of each element is true of those that are left
module _ {X : Type 0} where
  pub all-kept : (P : X → Type 0) (bs : List Bool) (xs : List X) → AllByRecursion P xs → AllByRecursion P (items_where_true bs xs)
  all-kept P [] xs all = tt
  all-kept P (b ∷ bs) [] all = tt
  all-kept P (true ∷ bs) (x ∷ xs) all = (all.0, all-kept P bs xs all.1)
  all-kept P (false ∷ bs) (x ∷ xs) all = all-kept P bs xs all.1

  kept-fewer : (bs : List Bool) (xs : List X) → length (items_where_true bs xs) ≤ length xs
  kept-fewer [] xs = omega arith
  kept-fewer (b ∷ bs) [] = omega arith
  kept-fewer (true ∷ bs) (x ∷ xs) = omega (arith, kept-fewer bs xs)
  kept-fewer (false ∷ bs) (x ∷ xs) = omega (arith, kept-fewer bs xs)

  -- if none has left, they are the same
  kept-all : (bs : List Bool) (xs : List X) → length xs ≤ length (items_where_true bs xs) → items_where_true bs xs ≡ xs
  kept-all [] [] all = refl
  kept-all [] (x ∷ xs) all = absurd (omega (arith, all))
  kept-all (b ∷ bs) [] all = refl
  kept-all (true ∷ bs) (x ∷ xs) all = ap (λ ys. x ∷ ys) (kept-all bs xs (omega (arith, all)))
  kept-all (false ∷ bs) (x ∷ xs) all = absurd (omega (arith, all, kept-fewer bs xs))

module _ {T : Type 0} where
  -- a pointer that names an order is its own
  pub pointer-own : (p : ℕ × ℕ) (x : Order T) → is_named_by p x ≡ true → p ≡ x.id.pointer
  pointer-own p x = elim (eqb_tells x.id.pointer.0 p.0) [
    | inl h ↦ elim (eqb_tells x.id.pointer.1 p.1) [
      | inl k ↦ λ own. sym (rw (h.1, k.1) refl)
      | inr k ↦ λ own. absurd (let wrong : false ≡ true = sym (rw (h.0, k.0) refl) ∙ own in cc)
    ]
    | inr h ↦ λ own. absurd (let wrong : false ≡ true = sym (rw h.0 refl) ∙ own in cc)
  ]

  -- what is named among those that are left, was named so
  pub named-kept : (bs : List Bool) (xs : List (Order T)) (p : ℕ × ℕ) → IsDistinct xs → IsSome (order_of (items_where_true bs xs) p) → order_of (items_where_true bs xs) p ≡ order_of xs p
  named-kept [] xs p distinct = λ there. absurd (cc)
  named-kept (b ∷ bs) [] p distinct = λ there. absurd (cc)
  named-kept (true ∷ bs) (x ∷ xs) p distinct = elim (is_named_by p x) as (λ b. IsSome (if b then Some x else order_of (items_where_true bs xs) p) → (if b then Some x else order_of (items_where_true bs xs) p) ≡ (if b then Some x else order_of xs p)) [
    | true ↦ λ there. refl
    | false ↦ λ there. named-kept bs xs p distinct.1 there
  ]
  named-kept (false ∷ bs) (x ∷ xs) p distinct = λ there. go (is_named_by p x) refl there (named-kept bs xs p distinct.1 there)
    where
      go : (b : Bool) → is_named_by p x ≡ b → IsSome (order_of (items_where_true bs xs) p) → order_of (items_where_true bs xs) p ≡ order_of xs p
          → order_of (items_where_true bs xs) p ≡ order_of (x ∷ xs) p
      go false other there same = same ∙ rw other refl
      go true own there same = absurd (some-none _ (subst (λ (o : Option (Order T)). IsSome o) (same ∙ ap (order_of xs) (pointer-own p x own)) there) distinct.0)

-- so a name of an order that has left names nothing: generations rise, unless they begin again
past-is : (n g : ℕ) → (generation_after_many greatest_generation n g ≡ g + n) ⊎ ((generation_after_many greatest_generation n g ≤ 1 + n) × (18446744073709551615 < g + n))
past-is zero g = inl (omega arith)
past-is (suc n) g = elim (after-is (generation_after_many greatest_generation n g)) [
  | inl last ↦ elim (past-is n g) [
    | inl rose ↦ inr (omega (arith, last.1), omega (arith, last.0, rose))
    | inr again ↦ inr (omega (arith, last.1), omega (arith, again.1))
  ]
  | inr next ↦ elim (past-is n g) [
    | inl rose ↦ inl (omega (arith, next, rose))
    | inr again ↦ inr (omega (arith, next, again.0), omega (arith, again.1))
  ]
]

past-rises : (n g : ℕ) → 0 < n → n ≤ most_entries → g ≤ generation_after_many greatest_generation n g → g < generation_after_many greatest_generation n g
past-rises n g some few counted = elim (past-is n g) [
  | inl rose ↦ omega (arith, some, rose)
  | inr again ↦ absurd (omega (arith, few, counted, again.0, again.1))
]

module _ {T : Type 0} where
  module _ (q : Queue T) (bs : List Bool) (distinct : IsDistinct q.orders) (few : length q.orders ≤ most_entries) where
    pub goes-kept : q.generation ≤ (with_kept q (items_where_true bs q.orders)).generation → GoesOn q (with_kept q (items_where_true bs q.orders))
    goes-kept counted = record {
      known = λ p there. inl (subst (λ (o : Option (Order T)). IsSome o) (named-kept bs q.orders p distinct there) there);
      ended = λ p was none. past-rises gone q.generation (some-left p was none) (omega arith) counted;
    }
      where
        gone : ℕ
        gone = length q.orders - length (items_where_true bs q.orders)

        some-left : (p : ℕ × ℕ) → IsSome (order_of q.orders p) → order_of (items_where_true bs q.orders) p ≡ None → 0 < gone
        some-left p was none = elim (leb_tells (length q.orders) (length (items_where_true bs q.orders))) [
          | inl all ↦ absurd (some-none _ was (ap (λ xs. order_of xs p) (sym (kept-all bs q.orders all.1)) ∙ none))
          | inr fewer ↦ omega (arith, fewer.1)
        ]

  -- a name of a side, of which some orders have left while the other side stayed as it was
  pub name-kept : (side : Side) (old new : Book T) → queue new (opposite side) ≡ queue old (opposite side)
      → ((p : ℕ × ℕ) → IsSome (order_of (queue new side).orders p) → order_of (queue new side).orders p ≡ order_of (queue old side).orders p)
      → (id : Id) → IsSome (named new id) → named new id ≡ named old id
  name-kept side old new same kept id = go side id.side same kept
    where
      go : (s t : Side) → queue new (opposite s) ≡ queue old (opposite s) → ((p : ℕ × ℕ) → IsSome (order_of (queue new s).orders p) → order_of (queue new s).orders p ≡ order_of (queue old s).orders p)
          → IsSome (order_of (queue new t).orders id.pointer) → order_of (queue new t).orders id.pointer ≡ order_of (queue old t).orders id.pointer
      go Buy Buy other kept = kept id.pointer
      go Sell Sell other kept = kept id.pointer
      go Buy Sell other kept = λ there. ap (λ (q : Queue T). order_of q.orders id.pointer) other
      go Sell Buy other kept = λ there. ap (λ (q : Queue T). order_of q.orders id.pointer) other

  -- how names go on when a closure was asked, which may have cancelled some orders
  pub goes-cancelled : {F : Type 0} (m : Mut F ((Order T) × Unit {0}) Bool) (f : F) (q new : Queue T) → IsDistinct q.orders → length q.orders ≤ most_entries → Cancels m f q new → q.generation ≤ new.generation → GoesOn q new
  goes-cancelled m f q new distinct few cancels counted =
      let left : new ≡ with_kept q (items_where_true cancels.filtered.0 q.orders) = cancels.after ∙ ap (with_kept q) cancels.filtered.4 in
      subst (λ (r : Queue T). GoesOn q r) (sym left) (goes-kept q cancels.filtered.0 distinct few (subst (λ (r : Queue T). q.generation ≤ r.generation) left counted))
