use Rattle.std.proofs.Common.{ap, arith, rules}
use Rattle.chain_base.specs.Chain.{greatest_index}
use Rattle.chain_base.proofs.CallerLemmas.{clone-same}
use Rattle.sorted_arena.specs.PlainPointer.{greatest_generation}
use Rattle.order_book.specs.Queue.{most_entries}
use Rattle.order_book.proofs.Growing.{list-cloned, clone-granted}
use Rattle.order_book.proofs.ladder.clone.clone_of.Goals as goal

pub returns-in-Ok-clause-ok : goal.returns-in-Ok-clause-ok
returns-in-Ok-clause-ok g c =
    let made = c.in-Ok.ensures.ok in
    list-cloned greatest_generation c.args.orders.now c.new-clone.result c.clone_from_with.new.self c.new-clone.ensures
    (clone-same _ _ (λ f p u x h called. search rules) most_entries greatest_generation _ c.args.orders.now c.len.ensures.sound c.new-clone.result c.clone_from_with.new.self made.0 made.1)

pub returns-in-Err-clause-none : goal.returns-in-Err-clause-none
returns-in-Err-clause-none g c = λ empty.
    absurd (clone-granted c.in-Err.field-0 _ _ (greatest_index c.args.orders.now.entries) c.in-Err.ensures.beyond.0 c.in-Err.ensures.memory (let none = ap greatest_index empty in omega (arith, none)))
