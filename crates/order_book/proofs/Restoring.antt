-- A book is made of a list of orders, each of which goes behind those of its side that came before it.
use Rattle.std.proofs.Common.{◌≡◌, ℕ, zero, suc, ◌+◌, ◌-◌, ◌≤◌, ◌<◌, ◌==◌, ◌++◌, drop, get_or, length-drop, List, [], ◌∷◌, map, filter, length, append_assoc, true, false, Bool, refl, sym, ap, subst, ◌∙◌, arith, if◌then◌else◌, Some, Result, Ok, Err, IsErrAnd}
use Rattle.std.proofs.{lemmas.List.append-nil, Math.Seq.drop-cons}
use Rattle.std.specs.List.{AllByRecursion}
use Rattle.sorted_arena.proofs.CallerLemmas.{all-back, filter-all, filter-none}
use Rattle.sorted_arena.proofs.OrdLemmas.{recursion-map as all-weaker}
use Rattle.order_book.specs.Queue.{Queue, IsNoWorse, IsWorse, IsInOrder, Rests, side_number}
use Rattle.order_book.specs.Book.{Book, IsBook, RestsOrNot, opposite, queue}
use Rattle.order_book.specs.Snapshot.{orders_of, of_side, content, AreSidesInOrder, HasOrders, HaveSameOrders}
use Rattle.order_book.specs.{declared.side.Side.TheVariants.Buy, declared.side.Side.TheVariants.Sell, declared.side.Side.Side, declared.order.Order.Order, Id.Id}

-- an error that is handed on is the one that came
pub same-error : {X E : Type 0} (r : Result X E) (e came : E) → IsErrAnd r (λ told. told ≡ came) → r ≡ Err e → came ≡ e
same-error (Ok x) e came handed is = absurd (handed)
same-error (Err told) e came handed is = sym handed ∙ (let same : told ≡ e = cc in same)

-- what is true of all items is true of the one that is left first
pub all-left : {X : Type 0} (P : X → Type 0) (xs : List X) (i : ℕ) (x : X) (rest : List X) → AllByRecursion P xs → drop i xs ≡ x ∷ rest → P x
all-left P [] zero x rest all is = absurd (cc)
all-left P [] (suc i) x rest all is = absurd (cc)
all-left P (y ∷ xs) zero x rest all is = subst P (let same : y ≡ x = cc in same) all.0
all-left P (y ∷ xs) (suc i) x rest all is = all-left P xs i x rest all.1 is

module _ {T : Type 0} where
  module _ (side : Side) where
    -- contents in the order in which their orders trade
    abbrev Ordered : List (ℕ × (ℕ × T)) → Type 0
    Ordered [] = Unit {0}
    Ordered (c ∷ cs) = AllByRecursion (λ (d : ℕ × (ℕ × T)). IsNoWorse side c.0 d.0) cs × Ordered cs

    all-contents : (p : ℕ) (xs : List (Order T)) → AllByRecursion (λ (x : Order T). IsNoWorse side p x.price) xs → AllByRecursion (λ (d : ℕ × (ℕ × T)). IsNoWorse side p d.0) (map content xs)
    all-contents p [] all = tt
    all-contents p (x ∷ xs) all = (all.0, all-contents p xs all.1)

    of-contents : (p : ℕ) (xs : List (Order T)) → AllByRecursion (λ (d : ℕ × (ℕ × T)). IsNoWorse side d.0 p) (map content xs) → AllByRecursion (λ (x : Order T). IsNoWorse side x.price p) xs
    of-contents p [] all = tt
    of-contents p (x ∷ xs) all = (all.0, of-contents p xs all.1)

    ordered-contents : (xs : List (Order T)) → IsInOrder side xs → Ordered (map content xs)
    ordered-contents [] sorted = tt
    ordered-contents (x ∷ xs) sorted = (all-contents x.price xs sorted.0, ordered-contents xs sorted.1)

    -- none before another is worse
    all-at : (p : ℕ) (cs : List (ℕ × (ℕ × T))) (d : ℕ × (ℕ × T)) (ds : List (ℕ × (ℕ × T))) → AllByRecursion (λ (e : ℕ × (ℕ × T)). IsNoWorse side p e.0) (cs ++ d ∷ ds) → IsNoWorse side p d.0
    all-at p [] d ds all = all.0
    all-at p (c ∷ cs) d ds all = all-at p cs d ds all.1

    ordered-before : (cs : List (ℕ × (ℕ × T))) (d : ℕ × (ℕ × T)) (ds : List (ℕ × (ℕ × T))) → Ordered (cs ++ d ∷ ds) → AllByRecursion (λ (c : ℕ × (ℕ × T)). IsNoWorse side c.0 d.0) cs
    ordered-before [] d ds sorted = tt
    ordered-before (c ∷ cs) d ds sorted = (all-at c.0 cs d ds sorted.0, ordered-before cs d ds sorted.1)

not-both : (side : Side) (p q : ℕ) → IsNoWorse side p q → IsWorse side p q → ⊥
not-both Buy p q no_worse worse = omega (arith, no_worse, worse)
not-both Sell p q no_worse worse = omega (arith, no_worse, worse)

module _ {T : Type 0} where
  none-later : (side : Side) (p : ℕ) (xs : List (Order T)) → AllByRecursion (λ (x : Order T). IsNoWorse side x.price p) xs → AllByRecursion (λ (x : Order T). IsWorse side x.price p) xs → xs ≡ []
  none-later side p [] no_worse worse = refl
  none-later side p (x ∷ xs) no_worse worse = absurd (not-both side x.price p no_worse.0 worse.0)

  contents-append : (xs ys : List (Order T)) → map content (xs ++ ys) ≡ map content xs ++ map content ys
  contents-append [] ys = refl
  contents-append (x ∷ xs) ys = ap (λ cs. content x ∷ cs) (contents-append xs ys)

  -- an order that is no better than all others comes to rest behind them
  rests-last : (side : Side) (q new : Queue T) (x : Order T) (p : ℕ × ℕ) → q.side ≡ side → Rests q x.price x.quantity x.tag p new → AllByRecursion (λ (y : Order T). IsNoWorse side y.price x.price) q.orders
      → map content new.orders ≡ map content q.orders ++ content x ∷ []
  rests-last side q new x p is rests no_worse =
      let later : AllByRecursion (λ (y : Order T). IsNoWorse side y.price x.price) rests.later = all-back (λ (y : Order T). IsNoWorse side y.price x.price) rests.ahead rests.later (subst (AllByRecursion (λ (y : Order T). IsNoWorse side y.price x.price)) rests.before no_worse) in
      let none : rests.later ≡ [] = none-later side x.price rests.later later (subst (λ s. AllByRecursion (λ (y : Order T). IsWorse s y.price x.price) rests.later) is rests.worse_behind) in
      let all : q.orders ≡ rests.ahead = rests.before ∙ ap (λ ys. rests.ahead ++ ys) none ∙ append-nil rests.ahead in
      ap (map content) (rests.after ∙ ap (λ ys. rests.ahead ++ _ ∷ ys) none) ∙ contents-append rests.ahead _ ∙ ap (λ ys. map content ys ++ content x ∷ []) (sym all)

  -- How far a side is: its orders and those of the side that are to come are all of the side.
  abbrev IsRestored : Side → List (Order T) → List (Order T) → Queue T → Type 0
  IsRestored side all left q = IsInOrder side (of_side side all) → map content q.orders ++ map content (of_side side left) ≡ map content (of_side side all)

  module _ (side : Side) (all : List (Order T)) (x : Order T) (rest : List (Order T)) (q new : Queue T) (h : IsRestored side all (x ∷ rest) q) where
    -- the next order is of the side
    restored-own : (p : ℕ × ℕ) → q.side ≡ side → (side_number x.id.side == side_number side) ≡ true → Rests q x.price x.quantity x.tag p new → IsRestored side all rest new
    restored-own p is own rests sorted =
        let now : map content q.orders ++ content x ∷ map content (of_side side rest) ≡ map content (of_side side all) = rw own at h sorted in
        let no_worse = of-contents side x.price q.orders (ordered-before side (map content q.orders) (content x) (map content (of_side side rest)) (subst (Ordered side) (sym now) (ordered-contents side (of_side side all) sorted))) in
        ap (λ cs. cs ++ map content (of_side side rest)) (rests-last side q new x p is rests no_worse) ∙ append_assoc (map content q.orders) (content x ∷ []) (map content (of_side side rest)) ∙ now

    -- or of the other one
    restored-other : (side_number x.id.side == side_number side) ≡ false → new ≡ q → IsRestored side all rest new
    restored-other other same sorted = ap (λ (r : Queue T). map content r.orders ++ map content (of_side side rest)) same ∙ rw other at h sorted

  -- How far a book is.
  pub record IsRestoring (all left : List (Order T)) (i : ℕ) (b : Book T) : Type 0 where
    pub bids : IsRestored Buy all left b.bids
    pub asks : IsRestored Sell all left b.asks
    pub few_bids : length b.bids.orders ≤ i
    pub few_asks : length b.asks.orders ≤ i

  pub restoring-start : (all : List (Order T)) (b : Book T) → b.bids.orders ≡ [] → b.asks.orders ≡ [] → IsRestoring all all 0 b
  restoring-start all b none_bids none_asks = record {
    bids = λ sorted. ap (λ xs. map content xs ++ map content (of_side Buy all)) none_bids;
    asks = λ sorted. ap (λ xs. map content xs ++ map content (of_side Sell all)) none_asks;
    few_bids = omega (arith, ap length none_bids);
    few_asks = omega (arith, ap length none_asks);
  }

  pub restoring-next : (all left rest : List (Order T)) (i : ℕ) (x : Order T) (b new : Book T) (id : Id) (s : Side) → s ≡ x.id.side → IsRestoring all left i b → left ≡ x ∷ rest → IsBook b
      → RestsOrNot (queue b s) x.price x.quantity x.tag (Some id) (queue new s) → queue new (opposite s) ≡ queue b (opposite s)
      → length (queue new s).orders ≡ length (queue b s).orders + 1 → IsRestoring all rest (i + 1) new
  restoring-next all left rest i x b new id s of h is lawful rests other count = go s (sym of) rests other count
    where
      go : (s : Side) → x.id.side ≡ s → RestsOrNot (queue b s) x.price x.quantity x.tag (Some id) (queue new s) → queue new (opposite s) ≡ queue b (opposite s)
          → length (queue new s).orders ≡ length (queue b s).orders + 1 → IsRestoring all rest (i + 1) new
      go Buy at rests other count = record {
        bids = restored-own Buy all x rest b.bids new.bids (subst (λ l. IsRestored Buy all l b.bids) is h.bids) id.pointer lawful.buys (rw at refl) rests.2;
        asks = restored-other Sell all x rest b.asks new.asks (subst (λ l. IsRestored Sell all l b.asks) is h.asks) (rw at refl) other;
        few_bids = omega (arith, h.few_bids, count);
        few_asks = omega (arith, h.few_asks, ap (λ (r : Queue T). length r.orders) other);
      }
      go Sell at rests other count = record {
        bids = restored-other Buy all x rest b.bids new.bids (subst (λ l. IsRestored Buy all l b.bids) is h.bids) (rw at refl) other;
        asks = restored-own Sell all x rest b.asks new.asks (subst (λ l. IsRestored Sell all l b.asks) is h.asks) id.pointer lawful.sells (rw at refl) rests.2;
        few_bids = omega (arith, h.few_bids, ap (λ (r : Queue T). length r.orders) other);
        few_asks = omega (arith, h.few_asks, count);
      }

  -- what is left of a list behind an item, and at its end
  pub left-next : (xs : List (Order T)) (i : ℕ) (x : Order T) → i < length xs → x ≡ get_or xs i x → drop i xs ≡ x ∷ drop (i + 1) xs
  left-next xs i x less is =
      let more : suc i ≡ i + 1 = omega arith in
      drop-cons xs i x less ∙ ap (λ (y : Order T). y ∷ drop (suc i) xs) (sym is) ∙ ap (λ (n : ℕ). x ∷ drop n xs) more

  pub left-none : (xs : List (Order T)) (i : ℕ) → length xs ≤ i → drop i xs ≡ []
  left-none xs i past = go (drop i xs) (length-drop i xs)
    where
      go : (ys : List (Order T)) → length ys ≡ length xs - i → ys ≡ []
      go [] none = refl
      go (y ∷ ys) some = absurd (omega (arith, some, past))

  pub restoring-few : (all left : List (Order T)) (i : ℕ) (b : Book T) (side : Side) → IsRestoring all left i b → length (queue b side).orders ≤ i
  restoring-few all left i b Buy h = h.few_bids
  restoring-few all left i b Sell h = h.few_asks

  pub restoring-end : (all left : List (Order T)) (i : ℕ) (b : Book T) → IsRestoring all left i b → left ≡ [] → AreSidesInOrder all → HasOrders b all
  restoring-end all left i b h none sorted = record {
    bids = sym (append-nil (map content b.bids.orders)) ∙ subst (λ l. IsRestored Buy all l b.bids) none h.bids sorted.bids;
    asks = sym (append-nil (map content b.asks.orders)) ∙ subst (λ l. IsRestored Sell all l b.asks) none h.asks sorted.asks;
  }

  -- of the orders of a book each side's are those of the side
  filter-append : (f : Order T → Bool) (xs ys : List (Order T)) → filter f (xs ++ ys) ≡ filter f xs ++ filter f ys
  filter-append f [] ys = refl
  filter-append f (x ∷ xs) ys = elim (f x) as (λ b. (if b then x ∷ filter f (xs ++ ys) else filter f (xs ++ ys)) ≡ (if b then x ∷ filter f xs else filter f xs) ++ filter f ys) [
    | true ↦ ap (λ zs. x ∷ zs) (filter-append f xs ys)
    | false ↦ filter-append f xs ys
  ]

  module _ (b : Book T) (lawful : IsBook b) where
    of-bids : of_side Buy (orders_of b) ≡ b.bids.orders
    of-bids = filter-append (λ (x : Order T). side_number x.id.side == 0) b.bids.orders b.asks.orders
        ∙ ap (λ ys. of_side Buy b.bids.orders ++ ys) (filter-none (λ (x : Order T). side_number x.id.side == 0) b.asks.orders (all-weaker _ _ (λ (x : Order T) is. rw (is, lawful.sells) refl) b.asks.orders lawful.asks.of_side))
        ∙ append-nil (of_side Buy b.bids.orders)
        ∙ filter-all (λ (x : Order T). side_number x.id.side == 0) b.bids.orders (all-weaker _ _ (λ (x : Order T) is. rw (is, lawful.buys) refl) b.bids.orders lawful.bids.of_side)

    of-asks : of_side Sell (orders_of b) ≡ b.asks.orders
    of-asks = filter-append (λ (x : Order T). side_number x.id.side == 1) b.bids.orders b.asks.orders
        ∙ ap (λ xs. xs ++ of_side Sell b.asks.orders) (filter-none (λ (x : Order T). side_number x.id.side == 1) b.bids.orders (all-weaker _ _ (λ (x : Order T) is. rw (is, lawful.buys) refl) b.bids.orders lawful.bids.of_side))
        ∙ filter-all (λ (x : Order T). side_number x.id.side == 1) b.asks.orders (all-weaker _ _ (λ (x : Order T) is. rw (is, lawful.sells) refl) b.asks.orders lawful.asks.of_side)

    sides-in_order : AreSidesInOrder (orders_of b)
    sides-in_order = record {
      bids = subst (IsInOrder Buy) (sym of-bids) (subst (λ s. IsInOrder s b.bids.orders) lawful.buys lawful.bids.in_order);
      asks = subst (IsInOrder Sell) (sym of-asks) (subst (λ s. IsInOrder s b.asks.orders) lawful.sells lawful.asks.in_order);
    }

    -- so a book that is made of them has the same orders
    pub restored-same : (all left : List (Order T)) (i : ℕ) (new : Book T) → IsRestoring all left i new → left ≡ [] → all ≡ orders_of b → HaveSameOrders new b
    restored-same all left i new h none is =
        let has = restoring-end all left i new h none (subst AreSidesInOrder (sym is) sides-in_order) in
        record {
          bids = has.bids ∙ ap (λ xs. map content (of_side Buy xs)) is ∙ ap (map content) of-bids;
          asks = has.asks ∙ ap (λ xs. map content (of_side Sell xs)) is ∙ ap (map content) of-asks;
        }
