-- Which orders meet a limit.
use Rattle.std.proofs.{Common.◌≡◌, Common.ℕ, Common.true, Common.false, Common.arith, lemmas.Bool.Decides.nat_tests}
use Rattle.order_book.specs.{declared.side.Side.TheVariants.Buy, declared.side.Side.TheVariants.Sell, Queue.IsNoWorse, Queue.IsWorse, Queue.meets, Book.opposite}
use Rattle.order_book.specs.declared.side.Side.{Side}

-- where an order doesn't meet a limit, one whose price is no better doesn't either
pub unmet-worse : (side : Side) (p q limit : ℕ) → IsNoWorse side p q → meets side p limit ≡ false → meets side q limit ≡ false
unmet-worse Buy p q limit no_worse unmet = grind (arith, nat_tests, no_worse, unmet)
unmet-worse Sell p q limit no_worse unmet = grind (arith, nat_tests, no_worse, unmet)

-- a better price meets what a price meets
pub met-better : (side : Side) (p q limit : ℕ) → IsNoWorse side q p → meets side p limit ≡ true → meets side q limit ≡ true
met-better Buy p q limit no_worse met = grind (arith, nat_tests, no_worse, met)
met-better Sell p q limit no_worse met = grind (arith, nat_tests, no_worse, met)

-- a price meets itself, and any that is no better; a worse one doesn't meet it
pub met-own : (side : Side) (p : ℕ) → meets side p p ≡ true
met-own Buy p = grind (arith, nat_tests)
met-own Sell p = grind (arith, nat_tests)

pub met-no_worse : (side : Side) (p q : ℕ) → IsNoWorse side p q → meets side p q ≡ true
met-no_worse Buy p q no_worse = grind (arith, nat_tests, no_worse)
met-no_worse Sell p q no_worse = grind (arith, nat_tests, no_worse)

pub met-worse : (side : Side) (p q : ℕ) → IsWorse side q p → meets side p q ≡ true
met-worse Buy p q worse = grind (arith, nat_tests, worse)
met-worse Sell p q worse = grind (arith, nat_tests, worse)

pub unmet-better : (side : Side) (p q : ℕ) → IsWorse side q p → meets side q p ≡ false
unmet-better Buy p q worse = grind (arith, nat_tests, worse)
unmet-better Sell p q worse = grind (arith, nat_tests, worse)

-- what doesn't meet a price of the other side doesn't meet a worse one of it
pub unmet-narrower : (own other : Side) (p q r : ℕ) → other ≡ opposite own → IsWorse own q p → meets other r p ≡ false → meets other r q ≡ false
unmet-narrower Buy Sell p q r is worse unmet = grind (arith, nat_tests, worse, unmet)
unmet-narrower Sell Buy p q r is worse unmet = grind (arith, nat_tests, worse, unmet)
unmet-narrower Buy Buy p q r is worse unmet = absurd (cc)
unmet-narrower Sell Sell p q r is worse unmet = absurd (cc)
