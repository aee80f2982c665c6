-- Names that have ended stay so: how names go on from one book to the next.
use Rattle.std.proofs.Common.{◌≡◌, ℕ, ◌+◌, ◌-◌, ◌<◌, ◌≤◌, ◌⊎◌, inl, inr, List, [], ◌∷◌, ◌++◌, length, Option, Some, None, IsSome, is_some, Result, Ok, Err, IfOk, OnOk, OnErr, true, false, refl, sym, ap, subst, ◌∙◌, arith, if◌then◌else◌}
use Rattle.std.specs.Prelude.{Bool, nat_lt}
use Rattle.std.proofs.{lemmas.Bool.Decides.eqb_tells}
use Rattle.order_book.specs.Queue.{Queue, most_entries, is_named_by, order_of, without, with_rest, generation_after, behind, generation_behind, taken, with_left, Rests}
use Rattle.order_book.specs.{Id.Id, declared.order.Order.Order, declared.side.Side.TheVariants.Buy, declared.side.Side.TheVariants.Sell}
use Rattle.order_book.specs.Book.{Book, RestsOrNot, queue, named}
use Rattle.order_book.specs.Names.{GoesOn, Counts, IsStep, IsRun, HasNoLaterName, HasEnded, EndedNameLaw}

module _ {T : Type 0} where
  -- a pointer names an order also where others stand before it
  pub there-behind : (x : Order T) (xs : List (Order T)) (p : ℕ × ℕ) → IsSome (order_of xs p) → IsSome (order_of (x ∷ xs) p)
  there-behind x xs p there = elim (is_named_by p x) as (λ b. IsSome (if b then Some x else order_of xs p)) [
    | true ↦ refl
    | false ↦ there
  ]

  -- how much is left of an order doesn't touch what names it
  same-named : (x : Order T) (n : ℕ) (xs : List (Order T)) (p : ℕ × ℕ) → is_some (order_of (with_rest x n ∷ xs) p) ≡ is_some (order_of (x ∷ xs) p)
  same-named x n xs p = elim (is_named_by p x) as (λ b. is_some (if b then Some (with_rest x n) else order_of xs p) ≡ is_some (if b then Some x else order_of xs p)) [
    | true ↦ refl
    | false ↦ refl
  ]

  -- what a pointer names among fewer orders, it names among all
  there-without : (xs : List (Order T)) (p u : ℕ × ℕ) → IsSome (order_of (without xs p) u) → IsSome (order_of xs u)
  there-without [] p u = λ there. there
  there-without (x ∷ xs) p u = elim (is_named_by p x) as (λ b. IsSome (order_of (if b then xs else x ∷ without xs p) u) → IsSome (order_of (x ∷ xs) u)) [
    | true ↦ λ there. there-behind x xs u there
    | false ↦ elim (is_named_by u x) as (λ b. IsSome (if b then Some x else order_of (without xs p) u) → IsSome (if b then Some x else order_of xs u)) [
      | true ↦ λ there. refl
      | false ↦ λ there. there-without xs p u there
    ]
  ]

  there-taken : (xs : List (Order T)) (n : ℕ) (p : ℕ × ℕ) → IsSome (order_of (behind n xs) p) → IsSome (order_of xs p)
  there-taken [] n p = λ there. there
  there-taken (x ∷ xs) n p = elim (nat_lt n x.quantity) as (λ b. IsSome (order_of (if b then with_rest x (x.quantity - n) ∷ xs else behind (n - x.quantity) xs) p) → IsSome (order_of (x ∷ xs) p)) [
    | true ↦ λ there. sym (same-named x (x.quantity - n) xs p) ∙ there
    | false ↦ λ there. there-behind x xs p (there-taken xs (n - x.quantity) p there)
  ]

  -- a pointer that names an order has its generation
  of_generation : (p : ℕ × ℕ) (y : Order T) → is_named_by p y ≡ true → p.1 ≡ y.id.pointer.1
  of_generation p y = elim (eqb_tells y.id.pointer.0 p.0) [
    | inl h ↦ elim (eqb_tells y.id.pointer.1 p.1) [
      | inl k ↦ λ named. sym k.1
      | inr k ↦ λ named. absurd (let wrong : false ≡ true = sym (rw (h.0, k.0) refl) ∙ named in cc)
    ]
    | inr h ↦ λ named. absurd (let wrong : false ≡ true = sym (rw h.0 refl) ∙ named in cc)
  ]

  -- among orders with one more, a pointer names what it named, or its generation is that one's
  there-among : (xs : List (Order T)) (y : Order T) (ys : List (Order T)) (p : ℕ × ℕ) → IsSome (order_of (xs ++ y ∷ ys) p) → IsSome (order_of (xs ++ ys) p) ⊎ (p.1 ≡ y.id.pointer.1)
  there-among [] y ys p = go (is_named_by p y) refl
    where
      go : (b : Bool) → is_named_by p y ≡ b → IsSome (if b then Some y else order_of ys p) → IsSome (order_of ys p) ⊎ (p.1 ≡ y.id.pointer.1)
      go true is there = inr (of_generation p y is)
      go false is there = inl there
  there-among (x ∷ xs) y ys p = elim (is_named_by p x) as (λ b. IsSome (if b then Some x else order_of (xs ++ y ∷ ys) p) → IsSome (if b then Some x else order_of (xs ++ ys) p) ⊎ (p.1 ≡ y.id.pointer.1)) [
    | true ↦ λ there. inl refl
    | false ↦ λ there. there-among xs y ys p there
  ]

  there-between : (xs : List (Order T)) (y : Order T) (ys : List (Order T)) (p : ℕ × ℕ) → IsSome (order_of (xs ++ ys) p) → IsSome (order_of (xs ++ y ∷ ys) p)
  there-between [] y ys p = there-behind y ys p
  there-between (x ∷ xs) y ys p = elim (is_named_by p x) as (λ b. IsSome (if b then Some x else order_of (xs ++ ys) p) → IsSome (if b then Some x else order_of (xs ++ y ∷ ys) p)) [
    | true ↦ λ there. refl
    | false ↦ λ there. there-between xs y ys p there
  ]

-- where the generations don't begin again, the next one is greater
pub after-is : (g : ℕ) → ((g ≡ 18446744073709551615) × (generation_after g ≡ 2)) ⊎ (generation_after g ≡ g + 1)
after-is g = elim (eqb_tells g 18446744073709551615) [
  | inl h ↦ inl (h.1, rw h.0 refl)
  | inr h ↦ inr (rw h.0 refl)
]

after-greater : (g : ℕ) → g ≤ generation_after g → g < generation_after g
after-greater g counted = elim (after-is g) [
  | inl last ↦ absurd (omega (arith, counted, last.0, last.1))
  | inr next ↦ omega (arith, next)
]

module _ {T : Type 0} where
  -- What becomes of a side whose first units are taken, of which these orders are left and this is the generation: each order keeps its name;
  -- or the generation has risen, by as many orders as there were at most; or it has begun again.
  abbrev IsTaken : List (Order T) → ℕ → List (Order T) → ℕ → Type 0
  IsTaken xs g left now =
      ((now ≡ g) × ((p : ℕ × ℕ) → IsSome (order_of xs p) → IsSome (order_of left p)))
      ⊎ (((g < now) × (now ≤ g + length xs)) ⊎ ((now ≤ 1 + length xs) × (18446744073709551615 < g + length xs)))

  -- the first order is filled
  first-filled : (x : Order T) (xs : List (Order T)) (g : ℕ) (left : List (Order T)) (now : ℕ) → IsTaken xs (generation_after g) left now → IsTaken (x ∷ xs) g left now
  first-filled x xs g left now (inl same) = elim (after-is g) [
    | inl last ↦ inr (inr (omega (arith, same.0, last.0, last.1), omega (arith, last.0)))
    | inr next ↦ inr (inl (omega (arith, same.0, next), omega (arith, same.0, next)))
  ]
  first-filled x xs g left now (inr (inl rose)) = elim (after-is g) [
    | inl last ↦ inr (inr (omega (arith, rose.1, last.1), omega (arith, last.0)))
    | inr next ↦ inr (inl (omega (arith, rose.0, next), omega (arith, rose.1, next)))
  ]
  first-filled x xs g left now (inr (inr again)) = elim (after-is g) [
    | inl last ↦ inr (inr (omega (arith, again.0), omega (arith, last.0)))
    | inr next ↦ inr (inr (omega (arith, again.0), omega (arith, again.1, next)))
  ]

  taking : (xs : List (Order T)) (n g : ℕ) → IsTaken xs g (behind n xs) (generation_behind n xs g)
  taking [] n g = inl (refl, λ p there. there)
  taking (x ∷ xs) n g = elim (nat_lt n x.quantity) as (λ b. IsTaken (x ∷ xs) g (if b then with_rest x (x.quantity - n) ∷ xs else behind (n - x.quantity) xs) (if b then g else generation_behind (n - x.quantity) xs (generation_after g))) [
    | true ↦ inl (refl, λ p there. same-named x (x.quantity - n) xs p ∙ there)
    | false ↦ first-filled x xs g (behind (n - x.quantity) xs) (generation_behind (n - x.quantity) xs (generation_after g)) (taking xs (n - x.quantity) (generation_after g))
  ]

  -- that nothing is there, against that something is
  pub some-none : (o : Option (Order T)) → IsSome o → o ≡ None → ⊥
  some-none None some none = absurd (cc)
  some-none (Some x) some none = absurd (cc)

  -- A side goes on: nothing changes; one change after another; an order leaves; units are taken; an order comes to rest; an order gets less.
  pub goes-nowhere : (q new : Queue T) → new ≡ q → GoesOn q new
  goes-nowhere q new same = subst (λ (r : Queue T). GoesOn q r) (sym same) (record { known = λ p there. inl there; ended = λ p there none. absurd (some-none _ there none) })

  goes-then : (a b c : Queue T) → a.generation ≤ b.generation → b.generation ≤ c.generation → GoesOn a b → GoesOn b c → GoesOn a c
  goes-then a b c up on first second = record {
    known = λ p there. elim (second.known p there) [
      | inl before ↦ elim (first.known p before) [
        | inl was ↦ inl was
        | inr late ↦ inr (late.0, omega (arith, late.1, on))
      ]
      | inr late ↦ inr (omega (arith, up, late.0), late.1)
    ];
    ended = λ p there none. go p there none (order_of b.orders p) refl;
  }
    where
      go : (p : ℕ × ℕ) → IsSome (order_of a.orders p) → order_of c.orders p ≡ None → (o : Option (Order T)) → order_of b.orders p ≡ o → a.generation < c.generation
      go p there none None is = omega (arith, first.ended p there is, on)
      go p there none (Some x) is = omega (arith, up, second.ended p (ap is_some is) none)

  pub goes-left : (q : Queue T) (p : ℕ × ℕ) → q.generation ≤ generation_after q.generation → GoesOn q (with_left q p)
  goes-left q p counted = record { known = λ u there. inl (there-without q.orders p u there); ended = λ u was none. after-greater q.generation counted }

  pub goes-taken : (q : Queue T) (n : ℕ) → length q.orders ≤ most_entries → q.generation ≤ (taken n q).generation → GoesOn q (taken n q)
  goes-taken q n few counted = record {
    known = λ p there. inl (there-taken q.orders n p there);
    ended = λ p there none. elim (taking q.orders n q.generation) [
      | inl same ↦ absurd (some-none _ (same.1 p there) none)
      | inr more ↦ elim more [
        | inl rose ↦ rose.0
        | inr again ↦ absurd (omega (arith, few, counted, again.0, again.1))
      ]
    ];
  }

  goes-rested : (old new : Queue T) (price quantity : ℕ) (tag : T) (p : ℕ × ℕ) → Rests old price quantity tag p new → GoesOn old new
  goes-rested old new price quantity tag p h = record { known = known; ended = λ u there none. absurd (some-none _ (still u there) none) }
    where
      There : ℕ × ℕ → List (Order T) → Type 0
      There u xs = IsSome (order_of xs u)

      known : (u : ℕ × ℕ) → IsSome (order_of new.orders u) → IsSome (order_of old.orders u) ⊎ ((old.generation ≤ u.1) × (u.1 ≤ new.generation))
      known u there = elim (there-among h.ahead _ h.later u (subst (There u) h.after there)) [
        | inl was ↦ inl (subst (There u) (sym h.before) was)
        | inr late ↦ inr (omega (arith, late, h.of_generation), omega (arith, late, h.of_generation, h.generation))
      ]

      still : (u : ℕ × ℕ) → IsSome (order_of old.orders u) → IsSome (order_of new.orders u)
      still u there = subst (There u) (sym h.after) (there-between h.ahead _ h.later u (subst (There u) h.before there))

  -- an order comes to rest, or nothing of it does; before it another may have left
  pub goes-in : (old new : Queue T) (price rest : ℕ) (tag : T) (id : Option Id) → RestsOrNot old price rest tag id new → GoesOn old new
  goes-in old new price rest tag None rests = goes-nowhere old new rests.1
  goes-in old new price rest tag (Some id) rests = goes-rested old new price rest tag id.pointer rests.2

  generation-in : (old new : Queue T) (price rest : ℕ) (tag : T) (id : Option Id) → RestsOrNot old price rest tag id new → new.generation ≡ old.generation
  generation-in old new price rest tag None rests = ap (λ (q : Queue T). q.generation) rests.1
  generation-in old new price rest tag (Some id) rests = rests.2.generation

  pub goes-anew : (old new : Queue T) (p : ℕ × ℕ) (price rest : ℕ) (tag : T) (id : Option Id) → RestsOrNot (with_left old p) price rest tag id new
      → old.generation ≤ new.generation → GoesOn old new
  goes-anew old new p price rest tag id rests counted =
      let same = generation-in (with_left old p) new price rest tag id rests in
      goes-then old (with_left old p) new (omega (arith, counted, same)) (omega (arith, same)) (goes-left old p (omega (arith, counted, same))) (goes-in (with_left old p) new price rest tag id rests)

  pub goes-own : {E : Type 0} (r : Result (Option Id) E) (q new : Queue T) → OnErr r (new ≡ q) → (price rest : ℕ) (tag : T) → IfOk r (λ id. RestsOrNot q price rest tag id new) → GoesOn q new
  goes-own (Ok id) q new kept price rest tag rests = goes-in q new price rest tag id rests
  goes-own (Err e) q new kept price rest tag rests = goes-nowhere q new kept

  pub goes-own_anew : {E : Type 0} (r : Result (Option Id) E) (q new : Queue T) → OnErr r (new ≡ q) → (p : ℕ × ℕ) (price rest : ℕ) (tag : T)
      → IfOk r (λ id. RestsOrNot (with_left q p) price rest tag id new) → q.generation ≤ new.generation → GoesOn q new
  goes-own_anew (Ok id) q new kept p price rest tag rests counted = goes-anew q new p price rest tag id rests counted
  goes-own_anew (Err e) q new kept p price rest tag rests counted = goes-nowhere q new kept

  pub goes-other : {X E : Type 0} (r : Result X E) (q new : Queue T) → OnErr r (new ≡ q) → (n : ℕ) → length q.orders ≤ most_entries → OnOk r (new ≡ taken n q)
      → q.generation ≤ new.generation → GoesOn q new
  goes-other (Ok x) q new kept n few after counted = subst (λ (s : Queue T). GoesOn q s) (sym after) (goes-taken q n few (subst (λ (s : Queue T). q.generation ≤ s.generation) after counted))
  goes-other (Err e) q new kept n few after counted = goes-nowhere q new kept

  -- one call, by what becomes of both sides
  pub step-of : (bids asks bids_now asks_now : Queue T) (old new : Book T) → record { bids = bids; asks = asks } ≡ old → new ≡ record { bids = bids_now; asks = asks_now }
      → (bids.generation ≤ bids_now.generation → GoesOn bids bids_now) → (asks.generation ≤ asks_now.generation → GoesOn asks asks_now) → IsStep old new
  step-of bids asks bids_now asks_now old new was is buys sells =
      subst (λ (b : Book T). IsStep b new) was (subst (λ (b : Book T). IsStep (record { bids = bids; asks = asks }) b) (sym is) (record { bids = buys; asks = sells }))

  -- a book goes on
  goes-run : (between : List (Book T)) (old new : Book T) → IsRun old between new → Counts old new × IsStep old new
  goes-run [] old new run = subst (λ (b : Book T). Counts old b × IsStep old b) (sym run)
      (record { bids = omega arith; asks = omega arith }, record { bids = λ counted. goes-nowhere _ _ refl; asks = λ counted. goes-nowhere _ _ refl })
  goes-run (next ∷ rest) old new run =
      let more = goes-run rest next new run.2 in
      let first = run.1 in (
        record { bids = omega (arith, first.bids, more.0.bids); asks = omega (arith, first.asks, more.0.asks) },
        record {
          bids = λ counted. goes-then old.bids next.bids new.bids first.bids more.0.bids (run.0.bids first.bids) (more.1.bids more.0.bids);
          asks = λ counted. goes-then old.asks next.asks new.asks first.asks more.0.asks (run.0.asks first.asks) (more.1.asks more.0.asks);
        },
      )

  module _ (old new : Book T) (step : IsStep old new) (counted : Counts old new) where
    goes : (id : Id) → GoesOn (queue old id.side) (queue new id.side) × ((queue old id.side).generation ≤ (queue new id.side).generation)
    goes id = elim id.side as (λ side. GoesOn (queue old side) (queue new side) × ((queue old side).generation ≤ (queue new side).generation)) [
      | Buy ↦ (step.bids counted.bids, counted.bids)
      | Sell ↦ (step.asks counted.asks, counted.asks)
    ]

    ended-goes : (id : Id) → HasEnded old id → HasEnded new id
    ended-goes id h = record { nothing = go (named new id) refl; passed = omega (arith, (goes id).1, h.passed) }
      where
        go : (o : Option (Order T)) → named new id ≡ o → o ≡ None
        go None is = refl
        go (Some x) is = elim ((goes id).0.known id.pointer (ap is_some is)) [
          | inl was ↦ absurd (some-none _ was h.nothing)
          | inr late ↦ absurd (omega (arith, late.0, h.passed))
        ]

    no_later-goes : HasNoLaterName old → HasNoLaterName new
    no_later-goes none id there = elim ((goes id).0.known id.pointer there) [
      | inl was ↦ omega (arith, none id was, (goes id).1)
      | inr late ↦ late.1
    ]

    ends-goes : (id : Id) → HasNoLaterName old → IsSome (named old id) → named new id ≡ None → HasEnded new id
    ends-goes id none was gone = record { nothing = gone; passed = omega (arith, none id was, (goes id).0.ended id.pointer was gone) }

  pub ended_name : EndedNameLaw T
  ended_name = record {
    run = λ old new between run. let on = goes-run between old new run in record {
      ended = ended-goes old new on.1 on.0;
      no_later = no_later-goes old new on.1 on.0;
      ends = ends-goes old new on.1 on.0;
    };
    ended = λ old new id step counted. ended-goes old new step counted id;
    no_later = λ old new step counted. no_later-goes old new step counted;
    ends = λ old new id step counted. ends-goes old new step counted id;
  }
