-- What the orders that an order meets offer it, given the answers.
use Rattle.std.proofs.Common.{◌≡◌, ℕ, suc, ◌+◌, ◌-◌, ◌<◌, ◌≤◌, ◌≢◌, ◌==◌, inl, inr, min, Bool, true, false, not, ◌&&◌, nat_lt, if◌then◌else◌, List, [], ◌∷◌, length, MatchBool, refl, sym, ap, subst, ◌∙◌, arith}
use Rattle.std.proofs.{lemmas.Bool.lt-ltb, lemmas.Bool.Decides.eqb_tells}
use Rattle.std.specs.List.{AllByRecursion, list_any}
use Rattle.std.specs.{List.Retain.ReturnsInTurn}
use denote.Param.Members.{Mut}
use Rattle.order_book.specs.{declared.side.Side.Side, declared.order.Order.Order, declared.order.Trade.Trade}
use Rattle.order_book.specs.Queue.{IsInOrder, within, total, trade_with, trades_of_first}
use Rattle.order_book.proofs.CallerLemmas.{within-missed, trades-none}
use Rattle.self_trade.specs.declared.policy.SelfTrade.{SelfTrade}
use Rattle.self_trade.specs.declared.policy.SelfTrade.TheVariants.{CancelResting, CancelIncoming, CancelBoth}
use Rattle.self_trade.specs.Prevention.{cancels_resting, cancels_incoming, IsBeyond, AreAnswers, answers_by, allowed, refused, Answers, IsTest, AllowsOnly, ArePassing, AreTested, RefusesOnly, withdrawn}

-- a policy that lets the incoming order go on cancels the resting one
pub goes-on : (policy : SelfTrade) → cancels_incoming policy ≡ false → cancels_resting policy ≡ true
goes-on CancelResting on = refl
goes-on CancelIncoming on = absurd (cc)
goes-on CancelBoth on = absurd (cc)

trades-some : {T : Type 0} (n : ℕ) → n ≢ 0 → (x : Order T) (xs : List (Order T)) → length (trades_of_first n (x ∷ xs)) ≡ suc (length (trades_of_first (n - x.quantity) xs))
trades-some n more x xs = elim (eqb_tells n 0) [
  | inl h ↦ absurd (more h.1)
  | inr h ↦ rw h.0 refl
]

pub and-false : (b : Bool) → (b && false) ≡ false
and-false true = refl
and-false false = refl

module _ {T : Type 0} where
  -- the orders without those for which the answer was `false`, if these are cancelled
  abbrev pub cleared_orders : Bool → List Bool → List (Order T) → List (Order T)
  cleared_orders cancels [] xs = xs
  cleared_orders cancels (b ∷ bs) [] = []
  cleared_orders cancels (true ∷ bs) (x ∷ xs) = x ∷ cleared_orders cancels bs xs
  cleared_orders cancels (false ∷ bs) (x ∷ xs) = if cancels then cleared_orders cancels bs xs else x ∷ cleared_orders cancels bs xs

  module _ (policy : SelfTrade) (side : Side) (limit : ℕ) where
    -- what the answers leave of an order beyond which nothing is met
    within-beyond : (left : ℕ) (x : Order T) (xs : List (Order T)) → IsInOrder side (x ∷ xs) → IsBeyond side limit left x → min left (within side limit (x ∷ xs)) ≡ 0
    within-beyond left x xs sorted (inl none) = rw none (omega arith)
    within-beyond left x xs sorted (inr misses) = omega (arith, within-missed side limit x xs misses sorted)

    -- an order that goes on to the end is offered, by what is not cancelled, what it may trade with
    pub offered-on : (left : ℕ) (xs : List (Order T)) (bs : List Bool) → cancels_incoming policy ≡ false → IsInOrder side xs → AreAnswers policy side limit left xs bs
        → min left (within side limit (cleared_orders true bs xs)) ≡ min left (total (allowed bs xs))
    offered-on left [] [] on sorted all = refl
    offered-on left [] (b ∷ bs) on sorted all = absurd (cc)
    offered-on left (x ∷ xs) [] on sorted all = omega (arith, within-beyond left x xs sorted all)
    offered-on left (x ∷ xs) (true ∷ bs) on sorted all =
        let here : within side limit (x ∷ cleared_orders true bs xs) ≡ x.quantity + within side limit (cleared_orders true bs xs) = rw all.0.1 refl in
        omega (arith, here, offered-on (left - x.quantity) xs bs on sorted.1 all.1)
    offered-on left (x ∷ xs) (false ∷ bs) on sorted all =
        offered-on left xs bs on sorted.1 (subst (λ b. MatchBool b (bs ≡ []) (AreAnswers policy side limit left xs bs)) on all.1)

    -- and without a refusal, so it is by all of them
    pub offered-all : (cancels : Bool) (left : ℕ) (xs : List (Order T)) (bs : List Bool) → list_any not bs ≡ false → IsInOrder side xs → AreAnswers policy side limit left xs bs
        → min left (within side limit (cleared_orders cancels bs xs)) ≡ min left (total (allowed bs xs))
    offered-all cancels left [] [] none sorted all = refl
    offered-all cancels left [] (b ∷ bs) none sorted all = absurd (cc)
    offered-all cancels left (x ∷ xs) [] none sorted all = omega (arith, within-beyond left x xs sorted all)
    offered-all cancels left (x ∷ xs) (true ∷ bs) none sorted all =
        let here : within side limit (x ∷ cleared_orders cancels bs xs) ≡ x.quantity + within side limit (cleared_orders cancels bs xs) = rw all.0.1 refl in
        omega (arith, here, offered-all cancels (left - x.quantity) xs bs none sorted.1 all.1)
    offered-all cancels left (x ∷ xs) (false ∷ bs) none sorted all = absurd (cc)

    -- an order that is cancelled on the way had something left, and was offered what it trades
    pub offered-stopped : (cancels : Bool) (left : ℕ) (xs : List (Order T)) (bs : List Bool) → cancels_incoming policy ≡ true → list_any not bs ≡ true → AreAnswers policy side limit left xs bs
        → (total (allowed bs xs) < left) × (total (allowed bs xs) ≤ within side limit (cleared_orders cancels bs xs))
    offered-stopped cancels left [] [] stops some all = absurd (cc)
    offered-stopped cancels left [] (b ∷ bs) stops some all = absurd (cc)
    offered-stopped cancels left (x ∷ xs) [] stops some all = absurd (cc)
    offered-stopped cancels left (x ∷ xs) (true ∷ bs) stops some all =
        let here : within side limit (x ∷ cleared_orders cancels bs xs) ≡ x.quantity + within side limit (cleared_orders cancels bs xs) = rw all.0.1 refl in
        let rest = offered-stopped cancels (left - x.quantity) xs bs stops some all.1 in
        (omega (arith, rest.0), omega (arith, here, rest.1))
    offered-stopped cancels left (x ∷ xs) (false ∷ bs) stops some all =
        let last : bs ≡ [] = subst (λ b. MatchBool b (bs ≡ []) (AreAnswers policy side limit left xs bs)) stops all.1 in
        let none : total (allowed bs xs) ≡ 0 = ap (λ cs. total (allowed cs xs)) last in
        (omega (arith, none, all.0.0), omega (arith, none))

    -- what it trades, and with which orders: with those that it may trade with, each of them
    module _ (cancels : Bool) (on : cancels_incoming policy ≡ false → cancels ≡ true) where
      pub trades-allowed : (left : ℕ) (xs : List (Order T)) (bs : List Bool) → AreAnswers policy side limit left xs bs
          → trades_of_first (min left (total (allowed bs xs))) (cleared_orders cancels bs xs) ≡ trades_of_first (min left (total (allowed bs xs))) (allowed bs xs)
      trades-allowed left xs [] all = let none : min left 0 ≡ 0 = omega arith in rw none (trades-none xs)
      trades-allowed left [] (b ∷ bs) all = absurd (cc)
      trades-allowed left (x ∷ xs) (true ∷ bs) all =
          let n = min left (x.quantity + total (allowed bs xs)) in
          let rest : n - x.quantity ≡ min (left - x.quantity) (total (allowed bs xs)) = omega arith in
          let behind : trades_of_first (n - x.quantity) (cleared_orders cancels bs xs) ≡ trades_of_first (n - x.quantity) (allowed bs xs) =
          subst (λ m. trades_of_first m (cleared_orders cancels bs xs) ≡ trades_of_first m (allowed bs xs)) (sym rest) (trades-allowed (left - x.quantity) xs bs all.1) in
          ap (λ ts. if n == 0 then [] else trade_with x (min n x.quantity) ∷ ts) behind
      trades-allowed left (x ∷ xs) (false ∷ bs) all = go (cancels_incoming policy) refl (λ h. trades-allowed left xs bs h)
        where
          n : ℕ
          n = min left (total (allowed bs xs))

          go : (c : Bool) → cancels_incoming policy ≡ c → (AreAnswers policy side limit left xs bs → trades_of_first n (cleared_orders cancels bs xs) ≡ trades_of_first n (allowed bs xs))
              → trades_of_first n (cleared_orders cancels (false ∷ bs) (x ∷ xs)) ≡ trades_of_first n (allowed bs xs)
          go true stops behind =
              let last : bs ≡ [] = subst (λ b. MatchBool b (bs ≡ []) (AreAnswers policy side limit left xs bs)) stops all.1 in
              let none : n ≡ 0 = ap (λ cs. min left (total (allowed cs xs))) last ∙ (let zero : min left 0 ≡ 0 = omega arith in zero) in
              rw none (trades-none (cleared_orders cancels (false ∷ bs) (x ∷ xs)) ∙ sym (trades-none (allowed bs xs)))
          go false goes behind =
              ap (λ b. trades_of_first n (if b then cleared_orders cancels bs xs else (x ∷ cleared_orders cancels bs xs))) (on goes)
              ∙ behind (subst (λ b. MatchBool b (bs ≡ []) (AreAnswers policy side limit left xs bs)) goes all.1)

    pub count-allowed : (left : ℕ) (xs : List (Order T)) (bs : List Bool) → AllByRecursion (λ x. 0 < x.quantity) xs → AreAnswers policy side limit left xs bs
        → length (trades_of_first (min left (total (allowed bs xs))) (allowed bs xs)) ≡ length (allowed bs xs)
    count-allowed left xs [] some all = refl
    count-allowed left [] (b ∷ bs) some all = absurd (cc)
    count-allowed left (x ∷ xs) (true ∷ bs) some all =
        let n : ℕ = min left (x.quantity + total (allowed bs xs)) in
        let more : n ≢ 0 = λ zero. omega (arith, zero, all.0.0, some.0) in
        let rest : n - x.quantity ≡ min (left - x.quantity) (total (allowed bs xs)) = omega arith in
        let behind : length (trades_of_first (n - x.quantity) (allowed bs xs)) ≡ length (allowed bs xs) =
        subst (λ m. length (trades_of_first m (allowed bs xs)) ≡ length (allowed bs xs)) (sym rest) (count-allowed (left - x.quantity) xs bs some.1 all.1) in
        trades-some n more x (allowed bs xs) ∙ ap suc behind
    count-allowed left (x ∷ xs) (false ∷ bs) some all = go (cancels_incoming policy) refl (λ h. count-allowed left xs bs some.1 h)
      where
        n : ℕ
        n = min left (total (allowed bs xs))

        go : (c : Bool) → cancels_incoming policy ≡ c → (AreAnswers policy side limit left xs bs → length (trades_of_first n (allowed bs xs)) ≡ length (allowed bs xs))
            → length (trades_of_first n (allowed bs xs)) ≡ length (allowed bs xs)
        go true stops behind =
            let last : bs ≡ [] = subst (λ b. MatchBool b (bs ≡ []) (AreAnswers policy side limit left xs bs)) stops all.1 in
            rw last refl
        go false goes behind = behind (subst (λ b. MatchBool b (bs ≡ []) (AreAnswers policy side limit left xs bs)) goes all.1)

  -- where each call answers what a test says, the answers are those that the test gives
  module _ {F : Type 0} (g : Mut F ((Order T) × Unit {0}) Bool) (allows : Order T → Bool) (policy : SelfTrade) (side : Side) (limit : ℕ) where
    pub answers-by : (f last : F) (left : ℕ) (xs : List (Order T)) (bs : List Bool) → IsTest g f allows → ReturnsInTurn (Answers g) f bs xs last → AreAnswers policy side limit left xs bs
        → bs ≡ answers_by allows policy side limit left xs
    answers-by f last left [] bs is_test asked all = all
    answers-by f last left (x ∷ xs) [] is_test asked (inl none) = rw none refl
    answers-by f last left (x ∷ xs) [] is_test asked (inr misses) = rw (misses, and-false (nat_lt 0 left)) refl
    answers-by f last left (x ∷ xs) (true ∷ bs) is_test asked all =
        let here = is_test x true asked.0 asked.1 in
        let rest = answers-by asked.0 last (left - x.quantity) xs bs (subst (λ f'. IsTest g f' allows) (sym here.1) is_test) asked.2 all.1 in
        rw (lt-ltb 0 left all.0.0, all.0.1, ← here.0) (ap (λ cs. true ∷ cs) rest)
    answers-by f last left (x ∷ xs) (false ∷ bs) is_test asked all = go (cancels_incoming policy) refl (λ h. answers-by asked.0 last left xs bs (subst (λ f'. IsTest g f' allows) (sym here.1) is_test) asked.2 h)
      where
        here : (false ≡ allows x) × (asked.0 ≡ f)
        here = is_test x false asked.0 asked.1

        go : (c : Bool) → cancels_incoming policy ≡ c → (AreAnswers policy side limit left xs bs → bs ≡ answers_by allows policy side limit left xs)
            → false ∷ bs ≡ answers_by allows policy side limit left (x ∷ xs)
        go true stops rest =
            let end : bs ≡ [] = subst (λ b. MatchBool b (bs ≡ []) (AreAnswers policy side limit left xs bs)) stops all.1 in
            rw (lt-ltb 0 left all.0.0, all.0.1, ← here.0, stops) (ap (λ cs. false ∷ cs) end)
        go false goes rest =
            rw (lt-ltb 0 left all.0.0, all.0.1, ← here.0, goes) (ap (λ cs. false ∷ cs) (rest (subst (λ b. MatchBool b (bs ≡ []) (AreAnswers policy side limit left xs bs)) goes all.1)))

  -- where each trade with an order for which a call answers `true` passes a test, the trades with those orders do
  module _ {F : Type 0} (g : Mut F ((Order T) × Unit {0}) Bool) (test : Trade T → Bool) where
    abbrev pub AllPassing : List (Order T) → Type 0
    AllPassing ys = AllByRecursion (λ (y : Order T). (n : ℕ) → test (trade_with y n) ≡ true) ys

    pub allowed-passing : (f last : F) (xs : List (Order T)) (bs : List Bool) → AllowsOnly g f test → ReturnsInTurn (Answers g) f bs xs last → AllPassing (allowed bs xs)
    allowed-passing f last xs [] only asked = tt
    allowed-passing f last [] (b ∷ bs) only asked = tt
    allowed-passing f last (x ∷ xs) (true ∷ bs) only asked =
        let rest = allowed-passing asked.0 last xs bs (subst (λ f'. AllowsOnly g f' test) (sym (only x 0 true asked.0 asked.1).1) only) asked.2 in
        ((λ n. (only x n true asked.0 asked.1).0 refl), rest)
    allowed-passing f last (x ∷ xs) (false ∷ bs) only asked =
        allowed-passing asked.0 last xs bs (subst (λ f'. AllowsOnly g f' test) (sym (only x 0 false asked.0 asked.1).1) only) asked.2

    pub trades-passing : (n : ℕ) (ys : List (Order T)) → AllPassing ys → ArePassing test (trades_of_first n ys)
    trades-passing n [] all = tt
    trades-passing n (y ∷ ys) all = go (n == 0) (trades-passing (n - y.quantity) ys all.1)
      where
        go : (b : Bool) → ArePassing test (trades_of_first (n - y.quantity) ys) → ArePassing test (if b then [] else trade_with y (min n y.quantity) ∷ trades_of_first (n - y.quantity) ys)
        go true rest = tt
        go false rest = (all.0 (min n y.quantity), rest)

  -- where each order for which a call answers `false` passes a test, those that are cancelled do
  module _ {F : Type 0} (g : Mut F ((Order T) × Unit {0}) Bool) (test : Order T → Bool) where
    refused-tested : (f last : F) (xs : List (Order T)) (bs : List Bool) → RefusesOnly g f test → ReturnsInTurn (Answers g) f bs xs last → AreTested test (refused bs xs)
    refused-tested f last xs [] only asked = tt
    refused-tested f last [] (b ∷ bs) only asked = tt
    refused-tested f last (x ∷ xs) (true ∷ bs) only asked =
        refused-tested asked.0 last xs bs (subst (λ f'. RefusesOnly g f' test) (sym (only x true asked.0 asked.1).1) only) asked.2
    refused-tested f last (x ∷ xs) (false ∷ bs) only asked =
        ((only x false asked.0 asked.1).0 refl, refused-tested asked.0 last xs bs (subst (λ f'. RefusesOnly g f' test) (sym (only x false asked.0 asked.1).1) only) asked.2)

    pub withdrawn-tested : (policy : SelfTrade) (f last : F) (xs : List (Order T)) (bs : List Bool) → RefusesOnly g f test → ReturnsInTurn (Answers g) f bs xs last → AreTested test (withdrawn policy bs xs)
    withdrawn-tested policy f last xs bs only asked = go (cancels_resting policy)
      where
        go : (c : Bool) → AreTested test (if c then refused bs xs else [])
        go true = refused-tested f last xs bs only asked
        go false = tt
