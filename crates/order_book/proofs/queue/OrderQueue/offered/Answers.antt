use Rattle.std.proofs.Common.{◌≡◌, ◌∙◌, min, false, sym, ap, subst, arith, rules}
use Rattle.order_book.specs.Queue.{Queue, levels_of, meets}
use Rattle.order_book.proofs.Levels.{AreInOrder, offers, offers-within, offers-missed, levels-in_order}
use Rattle.order_book.proofs.queue.OrderQueue.offered.Goals as goal
use Rattle.order_book.proofs.queue.OrderQueue.offered.Goals.{in-None, in-Some+then-left-eq0, in-Some+else-left-eq0+then-not-meets}

pub loop-level-init : goal.loop-level-init
loop-level-init g c =
    let q = c.args.self.now in
    let same : c.into_iter-level-iterator.result ≡ levels_of q.orders = search rules in
    record {
      owed = rw same (omega (arith, offers-within q.side c.args.limit q.orders));
      most = omega arith;
      sorted = rw same (levels-in_order q.side q.orders c.levels-level-items.ensures.sound.in_order);
    }

pub returns : goal.returns
returns g c =
    let side = c.args.self.now.side in
    let limit = c.args.limit in
    let coming = c.loop-level.level-iterator in
    let none : min c.loop-level.left (offers side limit coming) ≡ 0 = elim c.match-next.branch [
      | in-None w ↦ let ended = ap (offers side limit) w.in-None.ensures.steps.0 in omega (arith, ended)
      | in-Some+then-left-eq0 w ↦ omega (arith, w.if-left-eq0.true)
      | in-Some+else-left-eq0+then-not-meets w ↦
          let x = w.in-Some.level in
          let misses : meets side x.price limit ≡ false = subst (λ (q : Queue g.row.T.Denot). meets q.side x.price limit ≡ false) c.self.view_is (sym w.if-not-meets.ensures) in
          let missed = ap (offers side limit) w.in-Some.ensures.steps ∙ offers-missed side limit x c.next.new.self misses (subst (AreInOrder side) w.in-Some.ensures.steps c.loop-level.invariant.sorted) in
          omega (arith, missed)
    ] in
    omega (arith, c.loop-level.invariant.owed, none)
