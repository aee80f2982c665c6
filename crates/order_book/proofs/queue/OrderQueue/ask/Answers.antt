use Rattle.std.proofs.Common.{◌≡◌, ◌∙◌, List, true, false, Some, refl, sym, ap, subst, option_map}
use Rattle.std.specs.{Fn.Called}
use Rattle.sorted_arena.specs.Sorted.{next_of}
use Rattle.order_book.specs.Queue.{Queue, IsDistinct, first_of, order_of}
use Rattle.order_book.specs.{Ladder.rows_of, declared.order.Order.Order}
use Rattle.order_book.proofs.{Places.some-same, Naming.next-order, Naming.row-there, Retaining.found-among, Retaining.on-some}
use Rattle.order_book.proofs.queue.OrderQueue.ask.Goals.{then-f, else-f}
use Rattle.order_book.proofs.queue.OrderQueue.ask.Goals as goal

pub next-next-requires-clause-named : goal.next-next-requires-clause-named
next-next-requires-clause-named g c =
    row-there c.self.inside.side (rows_of c.self.inside.ladder.orders).entries c.self.invariant.distinct c.args.pointer (rw (← c.self.view_is) at c.requires.named)

pub returns-clause-asks : goal.returns-clause-asks
returns-clause-asks g c = λ at.
    let old : Queue g.row.T.Denot = c.args.self.now in
    let found : order_of old.orders c.args.pointer ≡ Some at.order = ap (order_of old.orders) at.named ∙ ap (λ (xs : List (Order g.row.T.Denot)). order_of xs at.order.id.pointer) at.cut
    ∙ found-among at.front at.order at.back (subst IsDistinct at.cut c.len.ensures.sound.distinct) in
    let same : c.unwrap-order.result ≡ at.order = some-same (sym c.unwrap-order.ensures ∙ c.get.ensures ∙ found) in
    let next : c.next-next.result ≡ option_map (λ (x : Order g.row.T.Denot). x.id.pointer) (first_of at.back) =
    c.next-next.ensures ∙ ap (next_of (rows_of c.self.inside.ladder.orders).entries) at.named
    ∙ next-order c.self.inside.side (rows_of c.self.inside.ladder.orders).entries c.self.invariant.distinct at.front at.order at.back (ap (λ (q : Queue g.row.T.Denot). q.orders) c.self.view_is ∙ at.cut) in
    elim c.if-f.branch [
      | then-f w ↦ rw w.self-is (record {
        answer = true;
        asked = subst (λ (x : Order g.row.T.Denot). Called g.F.FnMut c.args.f.now (x, tt) true c.f.new.self) same w.if-f.ensures;
        left = on-some w.remove.result at.order (w.remove.ensures.value ∙ found) w.remove.ensures.gone;
        next_is = next;
      })
      | else-f w ↦ rw w.self-is (record {
        answer = false;
        asked = subst (λ (x : Order g.row.T.Denot). Called g.F.FnMut c.args.f.now (x, tt) false c.f.new.self) same w.if-f.ensures;
        left = refl;
        next_is = next;
      })
    ]
