use Rattle.std.proofs.Common.{◌≤◌, ◌<◌, ◌∙◌, length, arith, inl, inr}
use Rattle.std.proofs.lemmas.{List.length-map, Bool.Decides.leb_tells}
use Rattle.order_book.specs.Queue.{most_entries}
use Rattle.order_book.specs.Ladder.{row_of}
use Rattle.order_book.proofs.Growing.{capacity-one, refusal-retold, ok-not_err}
use Rattle.order_book.proofs.ladder.Ladder.insert.Goals as goal

pub returns-in-Err-clause-full : goal.returns-in-Err-clause-full
returns-in-Err-clause-full g c =
    let few : length c.args.self.now.orders.entries ≤ most_entries = omega (arith, c.len.ensures.sound.within, c.len.ensures.sound.limited, length-map c.args.self.now.orders.entries row_of) in (
      λ refused. let more = c.in-Err.ensures.full.0 (refusal-retold _ _ refused) in omega (arith, more, few),
      λ full. refusal-retold _ _ (c.in-Err.ensures.full.1 (omega (arith, full))),
    )

pub returns-in-Err-clause-memory : goal.returns-in-Err-clause-memory
returns-in-Err-clause-memory g c = λ refused.
    let more = c.in-Err.ensures.memory (refusal-retold _ _ refused) in
    omega (arith, more, c.len.ensures.sound.within, length-map c.args.self.now.orders.entries row_of)

pub returns-in-Ok-clause-capacity : goal.returns-in-Ok-clause-capacity
returns-in-Ok-clause-capacity g c =
    let count = length c.args.self.now.orders.entries in
    let within : count ≤ c.args.self.now.orders.capacity = omega (arith, c.len.ensures.sound.within, length-map c.args.self.now.orders.entries row_of) in
    let limited : count < most_entries = elim (leb_tells most_entries count) [
      | inl h ↦ absurd (ok-not_err _ _ (c.in-Ok.ensures.full.1 (omega (arith, h.1))))
      | inr h ↦ omega (arith, h.1)
    ] in
    c.put.ensures.capacity ∙ c.in-Ok.ensures.capacity ∙ capacity-one c.args.self.now.orders.capacity count within limited
