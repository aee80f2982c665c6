use Rattle.std.proofs.Common.{◌≡◌, ◌+◌, ◌≤◌, ◌∙◌, ◌∷◌, true, false, sym, ap, subst, refl, arith, rules}
use Rattle.order_book.specs.Queue.{Queue, levels_of, meets, within}
use Rattle.order_book.proofs.Levels.{AreInOrder, offers, offers-within, offers-missed, levels-in_order, most_total, within-fits}
use Rattle.order_book.proofs.queue.OrderQueue.volume_within.Goals as goal

pub loop-level-init : goal.loop-level-init
loop-level-init g c =
    let q = c.args.self.now in
    let same : c.into_iter-level-iterator.result ≡ levels_of q.orders = search rules in
    record {
      sum = rw same (omega (arith, offers-within q.side c.args.limit q.orders));
      sorted = rw same (levels-in_order q.side q.orders c.levels-level-items.ensures.sound.in_order);
    }

pub overflow_add-volume : goal.overflow_add-volume
overflow_add-volume g c =
    let q : Queue g.row.T.Denot = c.args.self.now in
    let x = c.in-Some.level in
    let hits : meets q.side x.price c.args.limit ≡ true = subst (λ (p : Queue g.row.T.Denot). meets p.side x.price c.args.limit ≡ true) c.self.view_is (sym c.if-not-meets.ensures) in
    let here : offers q.side c.args.limit (x ∷ c.next.new.self) ≡ x.quantity + offers q.side c.args.limit c.next.new.self = rw hits refl in
    let coming = ap (offers q.side c.args.limit) c.in-Some.ensures.steps in
    let fits : within q.side c.args.limit q.orders ≤ most_total = within-fits q.side c.args.limit q.orders c.levels-level-items.ensures.sound.summable in
    omega (arith, c.loop-level.invariant.sum, coming, here, fits)

pub returns-then-not-meets : goal.returns-then-not-meets
returns-then-not-meets g c =
    let q : Queue g.row.T.Denot = c.args.self.now in
    let x = c.in-Some.level in
    let misses : meets q.side x.price c.args.limit ≡ false = subst (λ (p : Queue g.row.T.Denot). meets p.side x.price c.args.limit ≡ false) c.self.view_is (sym c.if-not-meets.ensures) in
    let missed = ap (offers q.side c.args.limit) c.in-Some.ensures.steps
    ∙ offers-missed q.side c.args.limit x c.next.new.self misses (subst (AreInOrder q.side) c.in-Some.ensures.steps c.loop-level.invariant.sorted) in
    omega (arith, c.loop-level.invariant.sum, missed)
