use Rattle.std.proofs.Common.{◌∙◌, sym, ap, is_some, arith}
use Rattle.std.proofs.lemmas.List.{length-map}
use Rattle.std.specs.Option.{option_map}
use Rattle.sorted_arena.specs.PlainPointer.{greatest_generation}
use Rattle.sorted_arena.proofs.CallerLemmas.{capacity-without_entry}
use Rattle.order_book.specs.QueueLayout.{order_in, queue_of}
use Rattle.order_book.specs.Ladder.{rows_of}
use Rattle.order_book.proofs.Naming.{order_under, order_of-found, queue-without, updates-removed}
use Rattle.order_book.proofs.queue.OrderQueue.remove.Goals as goal

pub returns-in_err-rank-clause-value : goal.returns-in_err-rank-clause-value
returns-in_err-rank-clause-value g c =
    rw (← c.self.view_is) (c.from_residual.ensures ∙ sym (order_of-found c.self.inside.side (rows_of c.self.inside.ladder.orders).entries c.self.invariant.distinct c.args.pointer
    ∙ ap (option_map (order_under c.self.inside.side c.args.pointer)) (sym c.in_err-rank.ensures.value)))

pub returns-in_err-rank-clause-changes : goal.returns-in_err-rank-clause-changes
returns-in_err-rank-clause-changes g c =
    let call = c.in_err-rank.ensures in
    record {
      updates = rw (← c.self.view_is) (updates-removed c.self.inside.side (rows_of c.self.inside.ladder.orders) (rows_of c.remove.new.self.orders) c.args.pointer call.sound call.after);
      none = rw (c.from_residual.ensures, ← c.self.view_is) (ap (queue_of c.self.inside.side) call.none);
    }

pub returns-clause-value : goal.returns-clause-value
returns-clause-value g c =
    rw (← c.self.view_is, c.order_at.ensures) (sym (order_of-found c.self.inside.side (rows_of c.self.inside.ladder.orders).entries c.self.invariant.distinct c.args.pointer
    ∙ ap (option_map (order_under c.self.inside.side c.args.pointer)) (sym c.in_ok-rank.ensures.value)))

pub returns-clause-changes : goal.returns-clause-changes
returns-clause-changes g c =
    let call = c.in_ok-rank.ensures in
    record {
      updates = rw (← c.self.view_is) (updates-removed c.self.inside.side (rows_of c.self.inside.ladder.orders) (rows_of c.remove.new.self.orders) c.args.pointer call.sound call.after);
      none = tt;
    }

pub returns-clause-gone : goal.returns-clause-gone
returns-clause-gone g c =
    rw (← c.self.view_is) (ap (queue_of c.self.inside.side) c.in_ok-rank.ensures.after ∙ queue-without c.self.inside.side (rows_of c.self.inside.ladder.orders) c.args.pointer c.self.invariant.distinct (ap is_some (sym c.in_ok-rank.ensures.value)))

pub returns-clause-room : goal.returns-clause-room
returns-clause-room g c =
    let capacity = ap (λ a. a.capacity) c.in_ok-rank.ensures.after ∙ capacity-without_entry greatest_generation (rows_of c.self.inside.ladder.orders) c.args.pointer in
    omega (arith, capacity, c.in_ok-rank.ensures.count, c.in_ok-rank.ensures.sound.within, length-map (rows_of c.remove.new.self.orders).entries (order_in c.self.inside.side))
