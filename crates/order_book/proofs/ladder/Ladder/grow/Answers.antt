use Rattle.std.proofs.Common.{◌≤◌, arith}
use Rattle.std.proofs.lemmas.List.{length-map}
use Rattle.chain_base.proofs.CallerLemmas.{greatest-within}
use Rattle.sorted_arena.specs.PlainPointer.{greatest_generation}
use Rattle.order_book.specs.Queue.{most_entries}
use Rattle.order_book.specs.Ladder.{row_of}
use Rattle.order_book.proofs.Laying.{levels-fewer}
use Rattle.order_book.proofs.Growing.{reallocated-ladder, reallocated-capacity}
use Rattle.order_book.proofs.ladder.Ladder.grow.Goals as goal

pub overflow_sub-capacity : goal.overflow_sub-capacity
overflow_sub-capacity g c =
    let fewer = levels-fewer c.args.self.now.levels.entries c.args.self.now.orders.entries c.requires.ladder.laid in
    omega (arith, fewer, c.len-levels.ensures.value, c.len.ensures.sound.within, length-map c.args.self.now.orders.entries row_of, c.requires.more)

pub returns-clause-ladder : goal.returns-clause-ladder
returns-clause-ladder g c =
    let fewer = levels-fewer c.args.self.now.levels.entries c.args.self.now.orders.entries c.requires.ladder.laid in
    let room : c.args.capacity ≤ c.reserve.new.self.capacity =
    omega (arith, c.in_ok-reserve.ensures.room, fewer, c.len-levels.ensures.value, c.len.ensures.sound.within, length-map c.args.self.now.orders.entries row_of, c.requires.more) in
    reallocated-ladder c.args.self.now.orders c.args.self.now.levels c.requires.ladder c.args.capacity c.requires.more
    (greatest-within most_entries greatest_generation c.args.self.now.orders c.len-orders.ensures.sound) c.reallocate_min_capacity.result c.reallocate_min_capacity.new.self
    c.reallocate_min_capacity.ensures.ok c.reallocate_min_capacity.ensures.err c.reserve.new.self c.in_ok-reserve.ensures.kept.entries room

pub returns-clause-capacity : goal.returns-clause-capacity
returns-clause-capacity g c =
    reallocated-capacity c.args.self.now.orders c.args.self.now.levels c.requires.ladder c.args.capacity c.requires.more
    (greatest-within most_entries greatest_generation c.args.self.now.orders c.len-orders.ensures.sound) c.reallocate_min_capacity.result c.reallocate_min_capacity.new.self
    c.reallocate_min_capacity.ensures.ok c.reallocate_min_capacity.ensures.err
