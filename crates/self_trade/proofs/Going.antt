-- How names go on when orders are cancelled one after another, and the next ones trade.
use Rattle.std.proofs.Common.{◌≡◌, ◌≢◌, ℕ, zero, suc, ◌+◌, ◌-◌, ◌<◌, ◌≤◌, ◌⊎◌, inl, inr, Bool, true, false, nat_lt, if◌then◌else◌, List, [], ◌∷◌, length, Option, Some, None, IsSome, refl, sym, ap, subst, ◌∙◌, arith}
use Rattle.std.proofs.lemmas.Bool.Decides.{eqb_tells}
use Rattle.order_book.specs.{declared.side.Side.TheVariants.Buy, declared.side.Side.TheVariants.Sell, declared.order.Order.Order, Id.Id}
use Rattle.order_book.specs.declared.side.Side.{Side}
use Rattle.order_book.specs.declared.new_order.NewOrder.{NewOrder}
use Rattle.order_book.specs.Queue.{Queue, most_entries, greatest_generation, generation_after, generation_after_many, generation_behind, is_named_by, order_of, with_left}
use Rattle.order_book.specs.Book.{Book, opposite, queue, trades_for, Places}
use Rattle.order_book.specs.Names.{GoesOn, IsStep}
use Rattle.order_book.proofs.CallerLemmas.{goes-nowhere}
use Rattle.self_trade.specs.Prevention.{refused}
use Rattle.self_trade.proofs.Asking.{cleared_orders}
use Rattle.self_trade.proofs.Clearing.{left_all}

abbrev most : ℕ
most = 18446744073709551615

-- the generation after so many removals
abbrev pub raised : ℕ → ℕ → ℕ
raised n g = generation_after_many greatest_generation n g

-- it is so much greater, or generations have begun again, and then it is less
abbrev IsCounted : ℕ → ℕ → Type 0
IsCounted n g = (raised n g ≡ g + n) ⊎ ((g ≤ most) × (most < g + n) × (raised n g + most ≡ g + n + 1))

after-one : (g : ℕ) → ((g ≡ most) × (generation_after g ≡ 2)) ⊎ ((g ≢ most) × (generation_after g ≡ g + 1))
after-one g = elim (eqb_tells g most) [
  | inl h ↦ inl (h.1, rw h.0 refl)
  | inr h ↦ inr (h.1, rw h.0 refl)
]

counted : (n g : ℕ) → n ≤ most_entries → IsCounted n g
counted zero g few = inl (omega arith)
counted (suc n) g few = go (counted n g (omega (arith, few))) (after-one (raised n g))
  where
    go : IsCounted n g → ((raised n g ≡ most) × (generation_after (raised n g) ≡ 2)) ⊎ ((raised n g ≢ most) × (generation_after (raised n g) ≡ raised n g + 1)) → IsCounted (suc n) g
    go (inl up) (inl last) = inr (omega (arith, up, last.0), omega (arith, up, last.0), omega (arith, up, last.0, last.1))
    go (inl up) (inr next) = inl (omega (arith, up, next.1))
    go (inr again) (inl last) = absurd (omega (arith, again.0, again.2, last.0, few))
    go (inr again) (inr next) = inr (again.0, omega (arith, again.1), omega (arith, again.2, next.1))

-- if the generation rises in all, it rises with each part
pub rising : (a b c k j : ℕ) → b ≡ raised k a → c ≡ raised j b → k + j ≤ most_entries → a ≤ c → (a ≤ b) × (b ≤ c) × (0 < k → a < c)
rising a b c k j first second few up = go (counted k a (omega (arith, few))) (counted j b (omega (arith, few)))
  where
    go : IsCounted k a → IsCounted j b → (a ≤ b) × (b ≤ c) × (0 < k → a < c)
    go (inl on) (inl up_too) = (omega (arith, first, on), omega (arith, second, up_too), λ some. omega (arith, first, on, second, up_too, some))
    go (inl on) (inr again) = absurd (omega (arith, first, on, second, again.2, few, up))
    go (inr again) (inl on) = absurd (omega (arith, first, second, again.2, on, few, up))
    go (inr once) (inr twice) = absurd (omega (arith, first, second, once.2, twice.2, few, up))

-- one removal first, or last
raised-first : (n g : ℕ) → raised n (generation_after g) ≡ raised (suc n) g
raised-first zero g = refl
raised-first (suc n) g = ap generation_after (raised-first n g)

module _ {T : Type 0} where
  left-generation : (q : Queue T) (ys : List (Order T)) → (left_all q ys).generation ≡ raised (length ys) q.generation
  left-generation q [] = refl
  left-generation q (y ∷ ys) = left-generation (with_left q y.id.pointer) ys ∙ raised-first (length ys) q.generation

  -- how many orders are filled
  behind-generation : (n : ℕ) (xs : List (Order T)) (g : ℕ) → (j : ℕ) × (j ≤ length xs) × (generation_behind n xs g ≡ raised j g)
  behind-generation n [] g = (0, omega arith, refl)
  behind-generation n (x ∷ xs) g = go (nat_lt n x.quantity) (behind-generation (n - x.quantity) xs (generation_after g))
    where
      go : (b : Bool) → (j : ℕ) × (j ≤ length xs) × (generation_behind (n - x.quantity) xs (generation_after g) ≡ raised j (generation_after g))
          → (j : ℕ) × (j ≤ suc (length xs)) × ((if b then g else generation_behind (n - x.quantity) xs (generation_after g)) ≡ raised j g)
      go true rest = (0, omega arith, refl)
      go false rest = (suc rest.0, omega (arith, rest.1), rest.2 ∙ raised-first rest.0 g)

  -- who is left was there
  pub cleared-there : (bs : List Bool) (xs : List (Order T)) (p : ℕ × ℕ) → IsSome (order_of (cleared_orders true bs xs) p) → IsSome (order_of xs p)
  cleared-there [] xs p there = there
  cleared-there (b ∷ bs) [] p there = there
  cleared-there (true ∷ bs) (x ∷ xs) p there = go (is_named_by p x) there (λ h. cleared-there bs xs p h)
    where
      go : (b : Bool) → IsSome (if b then Some x else order_of (cleared_orders true bs xs) p) → (IsSome (order_of (cleared_orders true bs xs) p) → IsSome (order_of xs p))
          → IsSome (if b then Some x else order_of xs p)
      go true there rest = there
      go false there rest = rest there
  cleared-there (false ∷ bs) (x ∷ xs) p there = go (is_named_by p x) (cleared-there bs xs p there)
    where
      go : (b : Bool) → IsSome (order_of xs p) → IsSome (if b then Some x else order_of xs p)
      go true there = refl
      go false there = there

  pub cleared-count : (bs : List Bool) (xs : List (Order T)) → length (cleared_orders true bs xs) + length (refused bs xs) ≤ length xs
  cleared-count [] xs = omega arith
  cleared-count (b ∷ bs) [] = omega arith
  cleared-count (true ∷ bs) (x ∷ xs) = omega (arith, cleared-count bs xs)
  cleared-count (false ∷ bs) (x ∷ xs) = omega (arith, cleared-count bs xs)

  -- a side after orders were cancelled, and others were filled
  module _ (old mid new : Queue T) (ys : List (Order T)) (few : length mid.orders + length ys ≤ most_entries) (left : mid ≡ left_all old ys)
      (there : (p : ℕ × ℕ) → IsSome (order_of mid.orders p) → IsSome (order_of old.orders p))
      (n : ℕ) (filled : new.generation ≡ generation_behind n mid.orders mid.generation) (goes : mid.generation ≤ new.generation → GoesOn mid new) where
    numbers : old.generation ≤ new.generation → (old.generation ≤ mid.generation) × (mid.generation ≤ new.generation) × (0 < length ys → old.generation < new.generation)
    numbers up =
        let j = behind-generation n mid.orders mid.generation in
        rising old.generation mid.generation new.generation (length ys) j.0 (ap (λ (q : Queue T). q.generation) left ∙ left-generation old ys) (filled ∙ j.2) (omega (arith, j.1, few)) up

    nothing-left : (zs : List (Order T)) → length zs ≤ 0 → left_all old zs ≡ old
    nothing-left [] none = refl
    nothing-left (z ∷ zs) none = absurd (omega (arith, none))

    pub goes-cleared : old.generation ≤ new.generation → GoesOn old new
    goes-cleared up = record {
      known = λ p now. known p ((goes (numbers up).1).known p now);
      ended = λ p was gone. ended (length ys) refl p was gone;
    }
      where
        known : (p : ℕ × ℕ) → IsSome (order_of mid.orders p) ⊎ ((mid.generation ≤ p.1) × (p.1 ≤ new.generation)) → IsSome (order_of old.orders p) ⊎ ((old.generation ≤ p.1) × (p.1 ≤ new.generation))
        known p (inl before) = inl (there p before)
        known p (inr late) = inr (omega (arith, (numbers up).0, late.0), late.1)

        ended : (k : ℕ) → k ≡ length ys → (p : ℕ × ℕ) → IsSome (order_of old.orders p) → order_of new.orders p ≡ None → old.generation < new.generation
        ended zero none p was gone =
            let same : mid ≡ old = left ∙ nothing-left ys (omega (arith, none)) in
            subst (λ (q : Queue T). q.generation < new.generation) same ((goes (numbers up).1).ended p (subst (λ (q : Queue T). IsSome (order_of q.orders p)) (sym same) was) gone)
        ended (suc k) some p was gone = (numbers up).2 (omega (arith, some))

  -- a side goes on that has the orders and the generation of another one
  pub goes-like : (like old new : Queue T) → like.orders ≡ old.orders → like.generation ≡ old.generation → (like.generation ≤ new.generation → GoesOn like new) → old.generation ≤ new.generation → GoesOn old new
  goes-like like old new orders generation goes up =
      let on = goes (omega (arith, generation, up)) in
      record {
        known = λ p now. subst (λ m. IsSome (order_of old.orders p) ⊎ ((m ≤ p.1) × (p.1 ≤ new.generation))) generation
            (subst (λ xs. IsSome (order_of xs p) ⊎ ((like.generation ≤ p.1) × (p.1 ≤ new.generation))) orders (on.known p now));
        ended = λ p was gone. subst (λ m. m < new.generation) generation (on.ended p (subst (λ xs. IsSome (order_of xs p)) (sym orders) was) gone);
      }

  -- a step, side by side
  pub step-of : (old new : Book T) → IsStep old new → (side : Side) → (queue old side).generation ≤ (queue new side).generation → GoesOn (queue old side) (queue new side)
  step-of old new step Buy = step.bids
  step-of old new step Sell = step.asks

  pub step-by : (old new : Book T) (side : Side) → ((queue old side).generation ≤ (queue new side).generation → GoesOn (queue old side) (queue new side))
      → ((queue old (opposite side)).generation ≤ (queue new (opposite side)).generation → GoesOn (queue old (opposite side)) (queue new (opposite side))) → IsStep old new
  step-by old new Buy own other = record { bids = own; asks = other }
  step-by old new Sell own other = record { bids = other; asks = own }

  -- the generation of the side with which an order trades
  pub placed-generation : (b : Book T) (o : NewOrder T) (id : Option Id) (new : Book T) (side : Side) → o.side ≡ side → Places b o id new
      → (queue new (opposite side)).generation ≡ generation_behind (trades_for b o) (queue b (opposite side)).orders (queue b (opposite side)).generation
  placed-generation b o id new side is h = subst (λ s. (queue new (opposite s)).generation ≡ generation_behind (trades_for b o) (queue b (opposite s)).orders (queue b (opposite s)).generation) is
      (ap (λ (q : Queue T). q.generation) h.trades)

  -- a book that stays as it is
  pub step-stays : (old new : Book T) → new ≡ old → IsStep old new
  step-stays old new same = record {
    bids = λ up. goes-nowhere old.bids new.bids (ap (λ (b : Book T). b.bids) same);
    asks = λ up. goes-nowhere old.asks new.asks (ap (λ (b : Book T). b.asks) same);
  }
