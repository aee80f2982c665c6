use Rattle.std.proofs.Common.{◌≡◌, ◌∙◌, ◌∷◌, ℕ, [], length, map, Option, sym, ap, arith, Bor}
use Rattle.chain_base.specs.Link.{Link}
use Rattle.order_book.specs.{QueueLayout.order_in, Ladder.rows_left}
use Rattle.order_book.specs.declared.{order.Order.Order, ladder.Resting.Resting}
use Rattle.order_book.proofs.Places.{same-index}
use Rattle.order_book.proofs.Reading.{left-ended, left-step}
use Rattle.order_book.proofs.orders.OrdersIterator.next.Goals as goal

pub returns-in_err-generation-clause-steps : goal.returns-in_err-generation-clause-steps
returns-in_err-generation-clause-steps g c =
    let es = c.self.inside.orders.now.entries in
    let side = c.self.inside.side in
    let none : c.args.self.now ≡ [] = sym c.self.view_is ∙ ap (λ (o : Option ℕ). map (order_in side) (rows_left es o)) c.in_ok-index.was
    ∙ ap (map (order_in side)) (left-ended es c.in_ok-index.index c.in_err-generation.ensures) in
    rw c.from_residual-in_err-generation.ensures (none, none)

pub returns-clause-steps : goal.returns-clause-steps
returns-clause-steps g c =
    let es = c.self.inside.orders.now.entries in
    let side = c.self.inside.side in
    let i = c.in_ok-index.index in
    let generation = c.in_ok-generation.generation in
    let l = c.in_ok-generation.link in
    let item : c.link.inside.t.now ≡ l.item.now = ap (λ (k : Link (Bor (Resting g.row.T.Denot))). k.item.now) c.link.view_is in
    let step = left-step es c.self.invariant i generation (record { item = l.item.now; prev = l.prev; next = l.next }) c.in_ok-generation.ensures in
    sym c.self.view_is ∙ ap (λ (o : Option ℕ). map (order_in side) (rows_left es o)) c.in_ok-index.was ∙ ap (map (order_in side)) step
    ∙ ap (λ (r : Resting g.row.T.Denot). order_in side (record { index = i; generation = generation; item = (r.rank, r.lot) }) ∷ map (order_in side) (rows_left es l.next)) (sym item)
    ∙ ap (λ (o : Option ℕ). order_in side (record { index = i; generation = generation; item = (c.link.inside.t.now.rank, c.link.inside.t.now.lot) }) ∷ map (order_in side) (rows_left es o))
    (sym c.next-self-inside.ensures.value ∙ same-index c.next-self-inside.result)
    ∙ ap (λ (x : Order g.row.T.Denot). x ∷ map (order_in side) (rows_left es c.next-self-inside.result))
    (ap (λ (p : ℕ × ℕ). order_in side (record { index = p.0; generation = p.1; item = (c.link.inside.t.now.rank, c.link.inside.t.now.lot) })) (sym c._from_raw-pointer.ensures) ∙ sym c.order_at.ensures)

pub returns-clause-goes : goal.returns-clause-goes
returns-clause-goes g c = record { on = λ _. (tt, tt, omega (arith, ap length (returns-clause-steps g c))); keeps = tt; rests = λ _. tt }
