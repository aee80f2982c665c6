use Rattle.std.proofs.Common.{◌∙◌, length, sym, ap, arith}
use Rattle.chain_base.specs.Chain.{greatest_index}
use Rattle.order_book.proofs.Laying.{levels-fewer}
use Rattle.order_book.proofs.Growing.{ladder-grown, cloned-rows, clone-granted}
use Rattle.order_book.proofs.ladder.Ladder.try_clone.Goals as goal

pub returns-in_err-levels-clause-none : goal.returns-in_err-levels-clause-none
returns-in_err-levels-clause-none g c = λ empty.
    absurd (let granted = c.in_err-levels.ensures.none (omega (arith, levels-fewer c.args.self.now.levels.entries c.args.self.now.orders.entries c.requires.laid, ap length empty)) in cc)

pub overflow_sub-capacity : goal.overflow_sub-capacity
overflow_sub-capacity g c =
    let fewer = levels-fewer c.args.self.now.levels.entries c.args.self.now.orders.entries c.requires.laid in
    omega (arith, fewer, c.len.ensures.value, c.capacity.ensures, c.len-orders.ensures.sound.counted, ap length c.in_ok-orders.ensures.ok.entries, ap length c.in_ok-levels.ensures.entries)

pub returns-in-Err-clause-none : goal.returns-in-Err-clause-none
returns-in-Err-clause-none g c = λ empty.
    let fewer = levels-fewer c.args.self.now.levels.entries c.args.self.now.orders.entries c.requires.laid in
    absurd (clone-granted c.in-Err.field-0 _ _ _ c.in-Err.ensures.full.0 c.in-Err.ensures.memory
    (omega (arith, fewer, ap length empty, c.len.ensures.value, c.capacity.ensures, c.in_ok-orders.ensures.ok.capacity, ap greatest_index empty, ap length c.in_ok-levels.ensures.entries)))

pub returns-in-Ok-clause-ladder : goal.returns-in-Ok-clause-ladder
returns-in-Ok-clause-ladder g c =
    let clone = c.in_ok-orders.ensures.ok in
    let fewer = levels-fewer c.args.self.now.levels.entries c.args.self.now.orders.entries c.requires.laid in
    ladder-grown c.args.self.now.orders c.args.self.now.levels c.requires _ c.reserve.new.self clone.entries (clone.unlimited ∙ sym c.requires.unlimited)
    (c.in-Ok.ensures.kept.entries ∙ c.in_ok-levels.ensures.entries)
    (omega (arith, c.in-Ok.ensures.room, fewer, c.len.ensures.value, c.capacity.ensures, c.len-orders.ensures.sound.counted, ap length clone.entries, ap length c.in_ok-levels.ensures.entries))

pub returns-in-Ok-clause-ok : goal.returns-in-Ok-clause-ok
returns-in-Ok-clause-ok g c = cloned-rows c.args.self.now.orders _ c.in_ok-orders.ensures.ok
