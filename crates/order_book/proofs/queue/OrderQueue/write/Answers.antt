use Rattle.std.proofs.Common.{ℕ, ◌∙◌, option_map, sym, ap, subst}
use Rattle.sorted_arena.specs.Sorted.{Sorted}
use Rattle.order_book.specs.QueueLayout.{queue_of}
use Rattle.order_book.specs.Queue.{Updates, order_of, with_rest}
use Rattle.order_book.specs.Ladder.{rows_of}
use Rattle.order_book.specs.declared.order.Lot.{Lot}
use Rattle.order_book.proofs.Naming.{item-tagged}
use Rattle.order_book.proofs.Reducing.{queue-reduced, updates-reduced}
use Rattle.order_book.proofs.queue.OrderQueue.write.Goals as goal

pub returns : goal.returns
returns g c =
    let a = rows_of c.self.inside.ladder.orders in
    let side = c.self.inside.side in
    let p = c.args.pointer in
    let found = item-tagged side a.entries c.self.invariant.distinct p c.args.tag (rw (← c.self.view_is) at c.requires.named) in
    rw (← c.self.view_is) (record {
      after = ap (queue_of side) c.set_lot.ensures.after
          ∙ queue-reduced side p (record { quantity = c.args.left; tag = c.args.tag }) a found.0 found.1 c.self.invariant.distinct found.2 c.requires.some;
      updates = subst (λ (b : Sorted ℕ (Lot g.row.T.Denot)). Updates (queue_of side a) (queue_of side b) p (option_map (λ x. with_rest x c.args.left) (order_of (queue_of side a).orders p))) (sym c.set_lot.ensures.after)
          (updates-reduced side p (record { quantity = c.args.left; tag = c.args.tag }) a found.0 found.1 c.self.invariant.distinct found.2);
    })
