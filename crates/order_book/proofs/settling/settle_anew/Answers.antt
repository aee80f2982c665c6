use Rattle.std.proofs.{Common.◌≡◌, Common.◌≢◌, Common.◌-◌, Common.◌∙◌, Common.Some, Common.sym, Common.subst, Common.refl, Common.arith, lemmas.Grind.common_steps}
use Rattle.order_book.specs.declared.side.Side.{Side}
use Rattle.order_book.specs.Book.{dealt}
use Rattle.order_book.specs.Queue.{traded}
use Rattle.order_book.proofs.Deals.{id_of, side-left, rests-others, deals-settle, deals-none}
use Rattle.order_book.proofs.settling.settle_anew.Goals as goal

pub unreachable-requires : goal.unreachable-requires
unreachable-requires g c = grind (arith, common_steps)

pub returns-clause-rests : goal.returns-clause-rests
returns-clause-rests g c = grind (arith, common_steps)

pub returns-clause-own_others : goal.returns-clause-own_others
returns-clause-own_others g c = λ p other apart.
    let side = side-left c.remove.result c.args.own.now c.remove.new.self c.args.pointer c.remove.ensures.gone c.remove.ensures.changes.none in
    rests-others c.remove.new.self c.rest.new.own c.limit-price.result c.rest_of.result c.args.order.tag c.in-Ok.id c.in-Ok.ensures.rests p
    (subst (λ (s : Side). Some (id_of s p) ≢ c.in-Ok.id) (sym side) other)
    ∙ c.remove.ensures.changes.updates.others p apart

pub returns-clause-settles : goal.returns-clause-settles
returns-clause-settles g c =
    let q = c.args.other.now in
    let amount : c.args.order.quantity - c.in_ok-left.left ≡ dealt q c.args.order = omega (arith, rw c.limit-price.ensures at c.in_ok-left.ensures.left) in
    deals-settle c.args.own.now q _ _ c.args.order _ _ c.in-Ok.id c.offer.ensures.sound (grind (arith, common_steps)) (rw (c.take.ensures.after, amount) refl) (grind (arith, common_steps))

pub returns-clause-quiet : goal.returns-clause-quiet
returns-clause-quiet g c = λ none.
    let q = c.args.other.now in
    let amount : traded q c.limit-price.result c.args.order.quantity ≡ 0 = rw c.limit-price.ensures none in
    c.in_ok-left.ensures.trades ∙ deals-none c.args.trades.now.items (traded q c.limit-price.result c.args.order.quantity) q.orders amount
