-- Orders that are asked for one after another: what is left, and how often the generation was raised.
use Rattle.std.proofs.Common.{◌≡◌, ℕ, suc, ◌+◌, ◌-◌, ◌≤◌, ◌<◌, Bool, true, false, if◌then◌else◌, length, length-append, append_assoc, List, [], ◌∷◌, ◌++◌, Option, Some, None, IsSome, OnSome, refl, sym, ap, subst, ◌∙◌, arith, inl, inr}
use Rattle.std.proofs.lemmas.{Bool.Decides.eqb_tells}
use Rattle.std.specs.{List.Retain.IsFiltered, Option.option_map, Fn.Called}
use denote.Param.Members.{Mut}
use Rattle.order_book.specs.Queue.{Queue, IsDistinct, first_of, is_named_by, order_of, without, with_left, generation_after, generation_after_many, greatest_generation, AnswersOpposite, Cancels}
use Rattle.order_book.specs.QueueLayout.{IsCutAt, AsksFor}
use Rattle.order_book.specs.declared.order.Order.{Order}
use Rattle.order_book.proofs.Cancelling.{pointer-own}

module _ {T : Type 0} where
  -- a test of one more order in front: it stays at `true`, and leaves at `false`
  module _ {F : Type 0} (R : F → Order T → Bool → F → Type 0) where
    filtered-kept : (f g : F) (x : Order T) (xs ys : List (Order T)) → R f x true g → IsFiltered R g xs ys → IsFiltered R f (x ∷ xs) (x ∷ ys)
    filtered-kept f g x xs ys told rest = (true ∷ rest.0, rest.1, omega (arith, rest.2), (g, told, rest.3), ap (λ zs. x ∷ zs) rest.4)

    filtered-gone : (f g : F) (x : Order T) (xs ys : List (Order T)) → R f x false g → IsFiltered R g xs ys → IsFiltered R f (x ∷ xs) ys
    filtered-gone f g x xs ys told rest = (false ∷ rest.0, rest.1, omega (arith, rest.2), (g, told, rest.3), rest.4)

    filtered-none : (f : F) → IsFiltered R f [] []
    filtered-none f = ([], f, refl, refl, refl)

  own-named : (x : Order T) → is_named_by x.id.pointer x ≡ true
  own-named x = elim (eqb_tells x.id.pointer.0 x.id.pointer.0) [
    | inl h ↦ elim (eqb_tells x.id.pointer.1 x.id.pointer.1) [
      | inl k ↦ rw (h.0, k.0) refl
      | inr k ↦ absurd (k.1 refl)
    ]
    | inr h ↦ absurd (h.1 refl)
  ]

  -- an order in front of another one has another pointer, if pointers are distinct
  apart-first : (y : Order T) (xs : List (Order T)) (x : Order T) → IsDistinct (y ∷ xs) → order_of xs x.id.pointer ≡ Some x → is_named_by x.id.pointer y ≡ false
  apart-first y xs x distinct found = go (is_named_by x.id.pointer y) refl
    where
      go : (b : Bool) → is_named_by x.id.pointer y ≡ b → is_named_by x.id.pointer y ≡ false
      go false other = other
      go true named = absurd (let lost : order_of xs x.id.pointer ≡ None = ap (order_of xs) (pointer-own x.id.pointer y named) ∙ distinct.0 in cc)

  -- the pointer of an order among others names it alone
  pub found-among : (front : List (Order T)) (x : Order T) (back : List (Order T)) → IsDistinct (front ++ x ∷ back) → order_of (front ++ x ∷ back) x.id.pointer ≡ Some x
  found-among [] x back distinct = rw (own-named x) refl
  found-among (y ∷ front) x back distinct =
      let rest = found-among front x back distinct.1 in
      rw (apart-first y (front ++ x ∷ back) x distinct rest) rest

  pub left-among : (front : List (Order T)) (x : Order T) (back : List (Order T)) → IsDistinct (front ++ x ∷ back) → without (front ++ x ∷ back) x.id.pointer ≡ front ++ back
  left-among [] x back distinct = rw (own-named x) refl
  left-among (y ∷ front) x back distinct =
      rw (apart-first y (front ++ x ∷ back) x distinct (found-among front x back distinct.1)) (ap (λ zs. y ∷ zs) (left-among front x back distinct.1))

-- what a result that is there promises
pub on-some : {X P : Type 0} (o : Option X) (x : X) → o ≡ Some x → OnSome o P → P
on-some None x is fact = absurd (cc)
on-some (Some y) x is fact = fact

module _ {T : Type 0} where
  module _ {F : Type 0} (g : Mut F ((Order T) × Unit {0}) Bool) (old : Queue T) (f0 : F) where
    -- These orders stay, and these are still to be asked for, from the one on that `next` names.
    pub record Retains (now : Queue T) (next : Option (ℕ × ℕ)) (f : F) (asked : ℕ) : Type 0 where
      pub kept : List (Order T)
      pub rest : List (Order T)
      pub gone : ℕ
      pub cut : now.orders ≡ kept ++ rest
      pub next_is : next ≡ option_map (λ (x : Order T). x.id.pointer) (first_of rest)
      pub to_come : asked + length rest ≡ length old.orders
      pub counted : length now.orders + gone ≡ length old.orders
      pub left : now ≡ record old { orders = now.orders; generation = generation_after_many greatest_generation gone old.generation }
      pub follows : (ys : List (Order T)) → IsFiltered (AnswersOpposite g) f rest ys → IsFiltered (AnswersOpposite g) f0 old.orders (kept ++ ys)

    pub retains-none : (next : Option (ℕ × ℕ)) → next ≡ option_map (λ (x : Order T). x.id.pointer) (first_of old.orders) → Retains old next f0 0
    retains-none next is = record {
      kept = [];
      rest = old.orders;
      gone = 0;
      cut = refl;
      next_is = is;
      to_come = omega arith;
      counted = omega arith;
      left = refl;
      follows = λ ys filtered. filtered;
    }

    module _ (now : Queue T) (next : Option (ℕ × ℕ)) (f : F) (asked : ℕ) (r : Retains now next f asked) where
      -- there is a next order, if not all were asked for
      pub record Meets : Type 0 where
        pub order : Order T
        pub later : List (Order T)
        pub rest_is : r.rest ≡ order ∷ later
        pub next_some : next ≡ Some order.id.pointer

      pub meets : asked < length old.orders → Meets
      meets more = go r.rest refl
        where
          go : (rest : List (Order T)) → r.rest ≡ rest → Meets
          go [] nil = absurd (omega (arith, more, r.to_come, ap length nil))
          go (x ∷ xs) cons = record { order = x; later = xs; rest_is = cons; next_some = r.next_is ∙ ap (λ (ys : List (Order T)). option_map (λ (y : Order T). y.id.pointer) (first_of ys)) cons }

      module _ (m : Meets) (p : ℕ × ℕ) (is : next ≡ Some p) where
        abbrev pub at_next : IsCutAt now.orders p
        at_next = record {
          front = r.kept;
          order = m.order;
          back = m.later;
          cut = r.cut ∙ ap (λ (xs : List (Order T)). r.kept ++ xs) m.rest_is;
          named = (let both : Some p ≡ Some m.order.id.pointer = sym is ∙ m.next_some in cc);
        }

        pub named-next : IsDistinct now.orders → IsSome (order_of now.orders p)
        named-next distinct =
            let found : order_of now.orders p ≡ Some m.order = ap (λ (q : ℕ × ℕ). order_of now.orders q) at_next.named
            ∙ ap (λ (xs : List (Order T)). order_of xs m.order.id.pointer) at_next.cut ∙ found-among r.kept m.order m.later (subst IsDistinct at_next.cut distinct) in
            rw found refl

        -- the next order was asked for
        pub retains-more : (new : Queue T) (after : Option (ℕ × ℕ)) (f' : F) → IsDistinct now.orders → AsksFor g f now at_next f' new after → Retains new after f' (asked + 1)
        retains-more new after f' distinct asks = go asks.answer asks.asked asks.left
          where
            shorter : (asked + 1) + length m.later ≡ length old.orders
            shorter = omega (arith, r.to_come, ap length m.rest_is)

            go : (b : Bool) → Called g f (m.order, tt) b f' → new ≡ (if b then with_left now p else now) → Retains new after f' (asked + 1)
            go false told left = record {
              kept = r.kept ++ m.order ∷ [];
              rest = m.later;
              gone = r.gone;
              cut = ap (λ (q : Queue T). q.orders) left ∙ at_next.cut ∙ sym (append_assoc r.kept (m.order ∷ []) m.later);
              next_is = asks.next_is;
              to_come = shorter;
              counted = subst (λ (q : Queue T). length q.orders + r.gone ≡ length old.orders) (sym left) r.counted;
              left = subst (λ (q : Queue T). q ≡ record old { orders = q.orders; generation = generation_after_many greatest_generation r.gone old.generation }) (sym left) r.left;
              follows = λ ys filtered. subst (λ (zs : List (Order T)). IsFiltered (AnswersOpposite g) f0 old.orders zs) (sym (append_assoc r.kept (m.order ∷ []) ys))
                  (r.follows (m.order ∷ ys) (subst (λ (zs : List (Order T)). IsFiltered (AnswersOpposite g) f zs (m.order ∷ ys)) (sym m.rest_is) (filtered-kept (AnswersOpposite g) f f' m.order m.later ys told filtered)));
            }
            go true told left =
                let gone : (with_left now p).orders ≡ r.kept ++ m.later = ap (λ (q : ℕ × ℕ). without now.orders q) at_next.named
                ∙ ap (λ (xs : List (Order T)). without xs m.order.id.pointer) at_next.cut ∙ left-among r.kept m.order m.later (subst IsDistinct at_next.cut distinct) in
                let orders : new.orders ≡ r.kept ++ m.later = ap (λ (q : Queue T). q.orders) left ∙ gone in
                record {
                  kept = r.kept;
                  rest = m.later;
                  gone = r.gone + 1;
                  cut = orders;
                  next_is = asks.next_is;
                  to_come = shorter;
                  counted = omega (arith, ap length orders, length-append r.kept m.later, ap length at_next.cut, length-append r.kept (m.order ∷ m.later), r.counted);
                  left = left ∙ raised ∙ ap (λ (xs : List (Order T)). record old { orders = xs; generation = generation_after_many greatest_generation (r.gone + 1) old.generation }) (sym (ap (λ (q : Queue T). q.orders) left));
                  follows = λ ys filtered. r.follows ys (subst (λ (zs : List (Order T)). IsFiltered (AnswersOpposite g) f zs ys) (sym m.rest_is) (filtered-gone (AnswersOpposite g) f f' m.order m.later ys told filtered));
                }
              where
                next-raised : generation_after (generation_after_many greatest_generation r.gone old.generation) ≡ generation_after_many greatest_generation (r.gone + 1) old.generation
                next-raised = let one : r.gone + 1 ≡ suc r.gone = omega arith in rw one refl

                raised : with_left now p ≡ record old { orders = (with_left now p).orders; generation = generation_after_many greatest_generation (r.gone + 1) old.generation }
                raised = ap (λ (q : Queue T). record q { orders = (with_left now p).orders; generation = generation_after q.generation }) r.left
                    ∙ ap (λ (n : ℕ). record old { orders = (with_left now p).orders; generation = n }) next-raised

      -- all were asked for
      pub retains-done : length old.orders ≤ asked → Cancels g f0 old now
      retains-done all = record {
        filtered = subst (λ (zs : List (Order T)). IsFiltered (AnswersOpposite g) f0 old.orders zs) (sym whole)
            (r.follows [] (subst (λ (zs : List (Order T)). IsFiltered (AnswersOpposite g) f zs []) (sym nothing) (filtered-none (AnswersOpposite g) f)));
        after = r.left ∙ ap (λ (n : ℕ). record old { orders = now.orders; generation = generation_after_many greatest_generation n old.generation }) (let many : r.gone ≡ length old.orders - length now.orders = omega (arith, r.counted) in many);
      }
        where
          nothing : r.rest ≡ []
          nothing = go r.rest (omega (arith, all, r.to_come))
            where
              go : (xs : List (Order T)) → length xs ≤ 0 → xs ≡ []
              go [] none = refl
              go (x ∷ xs) none = absurd (omega (arith, none))

          whole : now.orders ≡ r.kept ++ []
          whole = r.cut ∙ ap (λ (xs : List (Order T)). r.kept ++ xs) nothing
