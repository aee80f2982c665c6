use Rattle.std.proofs.Common.{◌∙◌, ap, sym}
use Rattle.order_book.specs.Queue.{Queue}
use Rattle.order_book.proofs.{Taking.taken-none, Taking.taken-empty, Lasting.taken-room}
use Rattle.order_book.proofs.queue.OrderQueue.take_volume.Goals as goal

pub returns-then-taken-eq0 : goal.returns-then-taken-eq0
returns-then-taken-eq0 g c =
    let none = c.take_first-taken.ensures.none c.if-taken-eq0.true in
    let after = none.1 ∙ sym (taken-empty c.loop-left.left c.loop-left.self none.0) ∙ sym c.loop-left.invariant in
    record { after = after; side = ap (λ (q : Queue g.row.T.Denot). q.side) after; room = taken-room c.args.quantity c.args.self.now c.take_first-taken.new.self after }

pub returns : goal.returns
returns g c =
    let after = sym (c.loop-left.invariant ∙ taken-none c.loop-left.left c.loop-left.self c.loop-left-test.false c.len.ensures.sound.some_left) in
    record { after = after; side = ap (λ (q : Queue g.row.T.Denot). q.side) after; room = taken-room c.args.quantity c.args.self.now c.loop-left.self after }
