-- Room for one order more is made before the order is placed: that leaves what is placed as it is.
use Rattle.std.proofs.Common.{◌≡◌, ℕ, ◌+◌, ◌-◌, ◌<◌, ◌≤◌, max, Bool, true, false, nat_lt, if◌then◌else◌, [], length, Option, Some, None, refl, sym, ap, subst, ◌∙◌, arith}
use Rattle.std.proofs.lemmas.Bool.{lt-ltb, le-ltb, ltb-true, ltb-false}
use Rattle.order_book.specs.PlainArena.{capacity_for, doubled_capacity}
use Rattle.order_book.specs.{Id.Id}
use Rattle.order_book.specs.declared.side.Side.{Side}
use Rattle.order_book.specs.declared.new_order.{NewOrder.NewOrder}
use Rattle.order_book.specs.Queue.{Queue, most_entries, taken, traded, trades_of_first, Rests}
use Rattle.order_book.specs.Book.{Book, opposite, queue, limit_of, can_rest, rest_of, remainder, trades_for, trades_of, IsBook, Places, RestsOrNot}
use Rattle.order_book.proofs.CallerLemmas.{taken-none, trades-none}
use Rattle.self_trade.specs.Survey.{MakesRoom}
use Rattle.self_trade.proofs.Admitting.{facing-side}

-- the capacity that room for one more makes is that to which a full side grows
module _ (len c : ℕ) (within : len ≤ c) where
  abbrev roomy : ℕ
  roomy = capacity_for most_entries c (len + 1)

  abbrev grown_from : ℕ → ℕ
  grown_from k = if nat_lt len k then k else doubled_capacity most_entries k

  has-room : len < c → roomy ≡ c
  has-room less = rw (le-ltb c (len + 1) (omega (arith, less))) refl

  is-full : c ≤ len → roomy ≤ most_entries → grown_from roomy ≡ grown_from c
  is-full full limited =
      let made : roomy ≡ max (len + 1) (doubled_capacity most_entries c) = rw (lt-ltb c (len + 1) (omega (arith, within))) refl in
      let more : len < roomy = omega (arith, made) in
      let same : roomy ≡ doubled_capacity most_entries c = omega (arith, made, limited, full, within) in
      let here : grown_from roomy ≡ roomy = rw (lt-ltb len roomy more) refl in
      let there : grown_from c ≡ doubled_capacity most_entries c = rw (le-ltb len c full) refl in
      here ∙ same ∙ sym there

  grown : roomy ≤ most_entries → grown_from roomy ≡ grown_from c
  grown limited = go (nat_lt len c) refl
    where
      go : (b : Bool) → nat_lt len c ≡ b → grown_from roomy ≡ grown_from c
      go true less = ap grown_from (has-room (ltb-true len c less))
      go false full = is-full (ltb-false len c full) limited

module _ {T : Type 0} where
  same-queue : (p q : Queue T) → p.side ≡ q.side → p.orders ≡ q.orders → p.generation ≡ q.generation → p.capacity ≡ q.capacity → p ≡ q
  same-queue p q side orders generation capacity =
      ap (λ s. record { side = s; orders = p.orders; generation = p.generation; capacity = p.capacity }) side
      ∙ ap (λ xs. record { side = q.side; orders = xs; generation = p.generation; capacity = p.capacity }) orders
      ∙ ap (λ n. record { side = q.side; orders = q.orders; generation = n; capacity = p.capacity }) generation
      ∙ ap (λ n. record { side = q.side; orders = q.orders; generation = q.generation; capacity = n }) capacity

  -- what comes to rest in a queue with room rests in the queue as it was
  rests-roomy : (old : Queue T) (price rest : ℕ) (tag : T) (p : ℕ × ℕ) (new : Queue T) → length old.orders ≤ old.capacity
      → capacity_for most_entries old.capacity (length old.orders + 1) ≤ most_entries
      → Rests (record old { capacity = capacity_for most_entries old.capacity (length old.orders + 1) }) price rest tag p new → Rests old price rest tag p new
  rests-roomy old price rest tag p new within limited h = record {
    ahead = h.ahead;
    later = h.later;
    before = h.before;
    after = h.after;
    no_worse_ahead = h.no_worse_ahead;
    worse_behind = h.worse_behind;
    unused = h.unused;
    of_generation = h.of_generation;
    generation = h.generation;
    side = h.side;
    capacity = h.capacity ∙ grown (length old.orders) old.capacity within limited;
  }

  module _ (old book : Book T) (side : Side) (rest : ℕ) (makes : MakesRoom old book side rest) (lawful : IsBook old) (still : IsBook book) where
    same-side : (queue book side).side ≡ (queue old side).side
    same-side = (facing-side book side still).of_side ∙ sym (facing-side old side lawful).of_side

    -- where nothing rests, the book is as it was; otherwise the side has the capacity for one order more
    unroomy : rest ≡ 0 → queue book side ≡ queue old side
    unroomy none = same-queue (queue book side) (queue old side) same-side makes.orders makes.generation
        (makes.capacity ∙ ap (λ r. if nat_lt 0 r then capacity_for most_entries (queue old side).capacity (length (queue old side).orders + 1) else (queue old side).capacity) none)

    roomy-queue : 0 < rest → queue book side ≡ record (queue old side) { capacity = capacity_for most_entries (queue old side).capacity (length (queue old side).orders + 1) }
    roomy-queue some = same-queue (queue book side) (record (queue old side) { capacity = capacity_for most_entries (queue old side).capacity (length (queue old side).orders + 1) })
        same-side makes.orders makes.generation (makes.capacity
        ∙ ap (λ b. if b then capacity_for most_entries (queue old side).capacity (length (queue old side).orders + 1) else (queue old side).capacity) (lt-ltb 0 rest some))

    pub rests-unroomy : (price : ℕ) (tag : T) (id : Option Id) (new : Queue T) → RestsOrNot (queue book side) price rest tag id new → RestsOrNot (queue old side) price rest tag id new
    rests-unroomy price tag None new h = (h.0, h.1 ∙ unroomy h.0)
    rests-unroomy price tag (Some id) new h =
        let limited : capacity_for most_entries (queue old side).capacity (length (queue old side).orders + 1) ≤ most_entries =
        subst (λ (q : Queue T). q.capacity ≤ most_entries) (roomy-queue h.0) (facing-side book side still).sound.limited in (
          h.0,
          h.1 ∙ same-side,
          rests-roomy (queue old side) price rest tag id.pointer new (facing-side old side lawful).sound.within limited
              (subst (λ q. Rests q price rest tag id.pointer new) (roomy-queue h.0) h.2),
        )

  -- a book whose sides are those of another one, but for the room, in which an order is placed
  pub places-unroomy : (cleared book : Book T) (o : NewOrder T) (id : Option Id) (new : Book T) → queue book (opposite o.side) ≡ queue cleared (opposite o.side)
      → (RestsOrNot (queue book o.side) (limit_of o.side o.kind) (rest_of cleared o) o.tag id (queue new o.side)
      → RestsOrNot (queue cleared o.side) (limit_of o.side o.kind) (rest_of cleared o) o.tag id (queue new o.side))
      → Places book o id new → Places cleared o id new
  places-unroomy cleared book o id new same rests h = record {
    trades = h.trades ∙ ap (λ q. taken (traded q (limit_of o.side o.kind) o.quantity) q) same;
    rests = rests (subst (λ q. RestsOrNot (queue book o.side) (limit_of o.side o.kind) (remainder q o) o.tag id (queue new o.side)) same h.rests);
  }

  -- an order for nothing changes nothing
  module _ (b : Book T) (o : NewOrder T) (lawful : IsBook b) (nothing : o.quantity ≡ 0) where
    nothing-left : rest_of b o ≡ 0
    nothing-left = go (can_rest o.kind)
      where
        go : (c : Bool) → (if c then o.quantity - trades_for b o else 0) ≡ 0
        go true = omega (arith, nothing)
        go false = refl

    nothing-traded : trades_for b o ≡ 0
    nothing-traded = omega (arith, nothing)

    pub places-nothing : Places b o None b
    places-nothing = record {
      trades = sym (taken-none (trades_for b o) (queue b (opposite o.side)) (omega (arith, nothing-traded)) (facing-side b (opposite o.side) lawful).sound.some_left);
      rests = (nothing-left, refl);
    }

    pub trades-nothing : trades_of b o ≡ []
    trades-nothing = ap (λ n. trades_of_first n (queue b (opposite o.side)).orders) nothing-traded ∙ trades-none (queue b (opposite o.side)).orders
