use Rattle.std.proofs.{Common.◌≡◌, Common.◌-◌, Common.◌∙◌, Common.refl, Common.arith, lemmas.Grind.common_steps}
use Rattle.order_book.specs.Queue.{traded}
use Rattle.order_book.specs.Book.{dealt}
use Rattle.order_book.proofs.{Deals.rests-others, Deals.deals-settle, Deals.deals-none}
use Rattle.order_book.proofs.settling.settle.Goals as goal

pub returns-in_default-clause-memory : goal.returns-in_default-clause-memory
returns-in_default-clause-memory g c = grind (arith, common_steps)

pub returns-in-Ok-rest-clause-rests : goal.returns-in-Ok-rest-clause-rests
returns-in-Ok-rest-clause-rests g c = grind (arith, common_steps)

pub returns-in-Ok-rest-clause-settles : goal.returns-in-Ok-rest-clause-settles
returns-in-Ok-rest-clause-settles g c =
    let q = c.args.other.now in
    let amount : c.args.order.quantity - c.in-Ok.left ≡ dealt q c.args.order = omega (arith, rw c.limit-price.ensures at c.in-Ok.ensures.left) in
    deals-settle c.args.own.now q _ _ c.args.order _ _ c.in-Ok-rest.id c.offer.ensures.sound (grind (arith, common_steps)) (rw (c.take.ensures.after, amount) refl) (grind (arith, common_steps))

pub returns-in-Err-clause-full : goal.returns-in-Err-clause-full
returns-in-Err-clause-full g c = grind (arith, common_steps)

pub returns-in-Ok-rest-clause-own_others : goal.returns-in-Ok-rest-clause-own_others
returns-in-Ok-rest-clause-own_others g c =
    rests-others c.args.own.now c.rest.new.own c.limit-price.result c.rest_of-2.result c.args.order.tag c.in-Ok-rest.id c.in-Ok-rest.ensures.rests

pub returns-in-Ok-rest-clause-quiet : goal.returns-in-Ok-rest-clause-quiet
returns-in-Ok-rest-clause-quiet g c = λ none.
    let q = c.args.other.now in
    let amount : traded q c.limit-price.result c.args.order.quantity ≡ 0 = rw c.limit-price.ensures none in
    c.in-Ok.ensures.trades ∙ deals-none c.args.trades.now.items (traded q c.limit-price.result c.args.order.quantity) q.orders amount
