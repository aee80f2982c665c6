-- An auction goes along a side: what it still trades with the orders to come.
use Rattle.std.proofs.Common.{◌≡◌, ℕ, ◌+◌, ◌-◌, ◌<◌, min, map, List, [], ◌∷◌, ◌++◌, take, length, length-append, append_assoc, refl, sym, ap, ◌∙◌, arith, inl, inr}
use Rattle.std.proofs.{lemmas.Bool.Decides.eqb_tells, Math.Seq.take-append_seam, lemmas.List.append-nil}
use Rattle.order_book.specs.Queue.{trade_with, trades_of_first}
use Rattle.order_book.specs.Auction.{at_price}
use Rattle.order_book.specs.{declared.order.Order.Order, declared.order.Trade.Trade}
use Rattle.order_book.proofs.Trading.{trades-none}

module _ {T : Type 0} where
  module _ (price quantity : ℕ) (orders : List (Order T)) (before : List (Trade T)) where
    -- so many units at the price
    abbrev pub filled : ℕ → List (Order T) → List (Trade T)
    filled n xs = map (at_price price) (trades_of_first n xs)

    -- How far it is: so much is left, these are the list's trades, of those `before` it, and these orders are still to come.
    pub record IsFilling (left : ℕ) (trades : List (Trade T)) (coming : List (Order T)) : Type 0 where
      pub to_come : trades ++ filled left coming ≡ before ++ filled quantity orders
      pub added : List (Trade T)
      pub all : trades ≡ before ++ added

    pub filling-start : IsFilling quantity before orders
    filling-start = record { to_come = refl; added = []; all = sym (append-nil before) }

    module _ (left : ℕ) (trades : List (Trade T)) where
      -- it is done once nothing is left, or no order is to come
      pub filling-done : (coming : List (Order T)) → IsFilling left trades coming → left ≡ 0 → trades ≡ before ++ filled quantity orders
      filling-done coming h none =
          let no_more : filled left coming ≡ [] = ap (λ n. filled n coming) none ∙ ap (map (at_price price)) (trades-none coming) in
          sym (append-nil trades) ∙ ap (λ ts. trades ++ ts) (sym no_more) ∙ h.to_come

      pub filling-ended : (coming : List (Order T)) → IsFilling left trades coming → coming ≡ [] → trades ≡ before ++ filled quantity orders
      filling-ended coming h none =
          let no_more : filled left coming ≡ [] = rw none refl in
          sym (append-nil trades) ∙ ap (λ ts. trades ++ ts) (sym no_more) ∙ h.to_come

      module _ (x : Order T) (xs : List (Order T)) (h : IsFilling left trades (x ∷ xs)) (wanted : 0 < left) where
        abbrev part : ℕ
        part = min left x.quantity

        abbrev trade : Trade T
        trade = at_price price (trade_with x part)

        owing : trades ++ trade ∷ filled (left - part) xs ≡ before ++ filled quantity orders
        owing =
            let rest : left - x.quantity ≡ left - part = omega arith in
            ap (λ ts. trades ++ ts) (sym (filled-next ∙ ap (λ n. trade ∷ filled n xs) rest)) ∙ h.to_come
          where
            filled-next : filled left (x ∷ xs) ≡ trade ∷ filled (left - x.quantity) xs
            filled-next = elim (eqb_tells left 0) [
              | inl none ↦ absurd (omega (arith, none.1, wanted))
              | inr some ↦ rw some.0 refl
            ]

        -- the next order trades
        pub filling-next : IsFilling (left - part) (trades ++ trade ∷ []) xs
        filling-next = record {
          to_come = append_assoc trades (trade ∷ []) (filled (left - part) xs) ∙ owing;
          added = h.added ++ trade ∷ [];
          all = ap (λ ts. ts ++ trade ∷ []) h.all ∙ append_assoc before h.added (trade ∷ []);
        }

        -- and the list needs room for more trades than it has
        pub filling-room : length trades < length before + length (filled quantity orders)
        filling-room = omega (arith, ap length owing, length-append trades (trade ∷ filled (left - part) xs), length-append before (filled quantity orders))

      -- what was in the list is its front
      pub filling-kept : (coming : List (Order T)) → IsFilling left trades coming → take (length before) trades ≡ before
      filling-kept coming h = ap (take (length before)) h.all ∙ take-append_seam before h.added
