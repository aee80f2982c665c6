-- An offer goes along the queue: how much is traded with what is left of it, and what its trades are.
use Rattle.std.proofs.Common.{◌≡◌, ℕ, ◌+◌, ◌-◌, ◌<◌, min, List, [], ◌∷◌, ◌++◌, take, length, length-append, append_assoc, true, false, Result, Ok, Err, OnErr, is_err, refl, sym, ap, ◌∙◌, arith, inl, inr, if◌then◌else◌}
use Rattle.std.proofs.{lemmas.Bool.Decides.eqb_tells, Math.Seq.take-append_seam, lemmas.List.append-nil}
use Rattle.std.specs.List.{AllByRecursion}
use Rattle.order_book.specs.Queue.{Queue, IsNoWorse, IsInOrder, meets, within, traded, trade_with, trades_of_first}
use Rattle.order_book.specs.{declared.order.Order.Order, declared.order.Trade.Trade, declared.side.Side.Side}
use Rattle.order_book.proofs.Meeting.{unmet-worse}

-- what a refusal owes
pub owed : {X E P : Type 0} (r : Result X E) → true ≡ is_err r → OnErr r P → P
owed (Ok x) refused fact = absurd (cc)
owed (Err e) refused fact = fact

module _ {T : Type 0} where
  -- orders of which none meets the limit offer nothing
  within-no_better : (side : Side) (limit p : ℕ) (xs : List (Order T)) → meets side p limit ≡ false → AllByRecursion (λ x. IsNoWorse side p x.price) xs
      → within side limit xs ≡ 0
  within-no_better side limit p [] misses worse = refl
  within-no_better side limit p (x ∷ xs) misses worse =
      let none : (if meets side x.price limit then x.quantity else 0) ≡ 0 = rw (unmet-worse side p x.price limit worse.0 misses) refl in
      omega (arith, none, within-no_better side limit p xs misses worse.1)

  pub within-missed : (side : Side) (limit : ℕ) (x : Order T) (xs : List (Order T)) → meets side x.price limit ≡ false → IsInOrder side (x ∷ xs)
      → within side limit (x ∷ xs) ≡ 0
  within-missed side limit x xs misses sorted =
      let none : (if meets side x.price limit then x.quantity else 0) ≡ 0 = rw misses refl in
      omega (arith, none, within-no_better side limit x.price xs misses sorted.0)

  pub trades-none : (xs : List (Order T)) → trades_of_first 0 xs ≡ []
  trades-none [] = refl
  trades-none (x ∷ xs) = refl

  -- What an offer still trades, of which so much is left, with the orders that are still to come.
  module _ (side : Side) (limit : ℕ) where
    abbrev pub tradable : ℕ → List (Order T) → ℕ
    tradable left xs = min left (within side limit xs)

    -- where the next order doesn't meet the limit, nothing
    pub tradable-missed : (left : ℕ) (x : Order T) (xs : List (Order T)) → meets side x.price limit ≡ false → IsInOrder side (x ∷ xs) → tradable left (x ∷ xs) ≡ 0
    tradable-missed left x xs misses sorted = omega (arith, within-missed side limit x xs misses sorted)

    module _ (left : ℕ) (x : Order T) (xs : List (Order T)) (hits : meets side x.price limit ≡ true) where
      here : within side limit (x ∷ xs) ≡ x.quantity + within side limit xs
      here = rw hits refl

      -- otherwise what it trades with the next order, and with those behind it
      pub tradable-next : tradable left (x ∷ xs) ≡ min left x.quantity + tradable (left - min left x.quantity) xs
      tradable-next = omega (arith, here)

      -- and the next trade is that
      pub trades-next : 0 < left → 0 < x.quantity → trades_of_first (tradable left (x ∷ xs)) (x ∷ xs)
          ≡ trade_with x (min left x.quantity) ∷ trades_of_first (tradable (left - min left x.quantity) xs) xs
      trades-next wanted some =
          let traded : ℕ = tradable left (x ∷ xs) in
          let more : 0 < traded = omega (arith, here, wanted, some) in
          let first : min traded x.quantity ≡ min left x.quantity = omega (arith, here) in
          let rest : traded - x.quantity ≡ tradable (left - min left x.quantity) xs = omega (arith, here) in
          trades-some traded more ∙ ap (λ n. trade_with x n ∷ trades_of_first (traded - x.quantity) xs) first
          ∙ ap (λ n. trade_with x (min left x.quantity) ∷ trades_of_first n xs) rest
        where
          trades-some : (n : ℕ) → 0 < n → trades_of_first n (x ∷ xs) ≡ trade_with x (min n x.quantity) ∷ trades_of_first (n - x.quantity) xs
          trades-some n more = elim (eqb_tells n 0) [
            | inl h ↦ absurd (omega (arith, h.1, more))
            | inr h ↦ rw h.0 refl
          ]

  -- How far an offer is: so much of it is left, these are the list's trades, of those `before` it, and these orders are still to come. What
  -- is left and the trades become what is promised by what the offer still trades with those orders.
  pub record IsOffering (q : Queue T) (limit quantity : ℕ) (before : List (Trade T)) (left : ℕ) (trades : List (Trade T)) (coming : List (Order T)) : Type 0 where
    pub left_over : left + traded q limit quantity ≡ quantity + tradable q.side limit left coming
    pub to_come : trades ++ trades_of_first (tradable q.side limit left coming) coming ≡ before ++ trades_of_first (traded q limit quantity) q.orders
    pub sorted : IsInOrder q.side coming
    pub some_left : AllByRecursion (λ x. 0 < x.quantity) coming
    pub added : List (Trade T)
    pub all : trades ≡ before ++ added

  -- an offer begins with all orders
  pub offering-start : (q : Queue T) (limit quantity : ℕ) (before : List (Trade T)) → IsInOrder q.side q.orders → AllByRecursion (λ x. 0 < x.quantity) q.orders
      → IsOffering q limit quantity before quantity before q.orders
  offering-start q limit quantity before sorted some = record {
    left_over = refl;
    to_come = refl;
    sorted = sorted;
    some_left = some;
    added = [];
    all = sym (append-nil before);
  }

  module _ (q : Queue T) (limit quantity : ℕ) (before : List (Trade T)) (left : ℕ) (trades : List (Trade T)) where
    -- when it still trades nothing, it is done
    abbrev IsDone : List (Order T) → Type 0
    IsDone coming = tradable q.side limit left coming ≡ 0

    module _ (coming : List (Order T)) (h : IsOffering q limit quantity before left trades coming) (done : IsDone coming) where
      pub offer-done : (left + traded q limit quantity ≡ quantity) × (trades ≡ before ++ trades_of_first (traded q limit quantity) q.orders)
      offer-done =
          let none : trades_of_first (tradable q.side limit left coming) coming ≡ [] = ap (λ n. trades_of_first n coming) done ∙ trades-none coming in
          (omega (arith, h.left_over, done), sym (append-nil trades) ∙ ap (λ ts. trades ++ ts) (sym none) ∙ h.to_come)

    -- which is so if no order is to come, if nothing is left, and if the next order doesn't meet the limit
    pub done-ended : (coming : List (Order T)) → coming ≡ [] → IsDone coming
    done-ended coming none = rw none (omega (arith))

    pub done-filled : (coming : List (Order T)) → left ≡ 0 → IsDone coming
    done-filled coming none = omega (arith, none)

    pub done-missed : (x : Order T) (xs : List (Order T)) → IsOffering q limit quantity before left trades (x ∷ xs) → meets q.side x.price limit ≡ false → IsDone (x ∷ xs)
    done-missed x xs h misses = tradable-missed q.side limit left x xs misses h.sorted

    -- if the next order meets the limit, it is traded next
    module _ (x : Order T) (xs : List (Order T)) (h : IsOffering q limit quantity before left trades (x ∷ xs)) (wanted : 0 < left) (hits : meets q.side x.price limit ≡ true) where
      abbrev remains : ℕ
      remains = left - min left x.quantity

      abbrev trade : Trade T
      trade = trade_with x (min left x.quantity)

      owing : trades ++ trade ∷ trades_of_first (tradable q.side limit remains xs) xs ≡ before ++ trades_of_first (traded q limit quantity) q.orders
      owing = ap (λ ts. trades ++ ts) (sym (trades-next q.side limit left x xs hits wanted h.some_left.0)) ∙ h.to_come

      pub offering-next : IsOffering q limit quantity before remains (trades ++ trade ∷ []) xs
      offering-next = record {
        left_over = omega (arith, h.left_over, tradable-next q.side limit left x xs hits);
        to_come = append_assoc trades (trade ∷ []) (trades_of_first (tradable q.side limit remains xs) xs) ∙ owing;
        sorted = h.sorted.1;
        some_left = h.some_left.1;
        added = h.added ++ trade ∷ [];
        all = ap (λ ts. ts ++ trade ∷ []) h.all ∙ append_assoc before h.added (trade ∷ []);
      }

      -- and the list needs room for more trades than it has
      pub room-wanted : length trades < length before + length (trades_of_first (traded q limit quantity) q.orders)
      room-wanted =
          let after : List (Trade T) = trades_of_first (tradable q.side limit remains xs) xs in
          omega (arith, ap length owing, length-append trades (trade ∷ after), length-append before (trades_of_first (traded q limit quantity) q.orders))

    -- what was in the list is its front
    pub front-kept : (coming : List (Order T)) → IsOffering q limit quantity before left trades coming → take (length before) trades ≡ before
    front-kept coming h = ap (take (length before)) h.all ∙ take-append_seam before h.added
