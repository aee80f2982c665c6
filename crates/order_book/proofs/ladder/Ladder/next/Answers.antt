use Rattle.std.proofs.Common.{◌∙◌, ℕ, Some, refl, sym, ap, option_map}
use Rattle.order_book.proofs.Rows.{rows-distinct}
use Rattle.order_book.specs.declared.ladder.Resting.{Resting}
use Rattle.order_book.proofs.Places.{some-same}
use Rattle.order_book.proofs.Reading.{named-occupied, next-row}
use Rattle.order_book.proofs.ladder.Ladder.next.Goals as goal

pub link-requires : goal.link-requires
link-requires g c =
    let es = c.args.self.now.orders.entries in
    rw c.inx.ensures (named-occupied es (rows-distinct es c.requires.ladder.distinct) c.args.pointer c.requires.named)

pub returns-in_err-index : goal.returns-in_err-index
returns-in_err-index g c =
    let next = next-row c.args.self.now.orders.entries (rows-distinct c.args.self.now.orders.entries c.requires.ladder.distinct) c.args.pointer c.requires.named c.link.result.now (rw c.inx.ensures at c.link.ensures) in
    c.from_residual.ensures ∙ sym (next.ended (sym c.next.ensures.value ∙ ap (option_map _) c.in_err-index.was))

pub entry-generation-requires : goal.entry-generation-requires
entry-generation-requires g c =
    let next = next-row c.args.self.now.orders.entries (rows-distinct c.args.self.now.orders.entries c.requires.ladder.distinct) c.args.pointer c.requires.named c.link.result.now (rw c.inx.ensures at c.link.ensures) in
    let goes = next.goes c.in_ok-index.index (sym c.next.ensures.value ∙ ap (option_map _) c.in_ok-index.was) in
    rw goes.1 refl

pub returns : goal.returns
returns g c =
    let next = next-row c.args.self.now.orders.entries (rows-distinct c.args.self.now.orders.entries c.requires.ladder.distinct) c.args.pointer c.requires.named c.link.result.now (rw c.inx.ensures at c.link.ensures) in
    let goes = next.goes c.in_ok-index.index (sym c.next.ensures.value ∙ ap (option_map _) c.in_ok-index.was) in
    let same = some-same (sym goes.1 ∙ c.entry-generation.ensures) in
    rw c._from_raw.ensures (ap (λ (h : ℕ). Some (c.in_ok-index.index, h)) (sym (ap (λ (e : ℕ × Resting g.row.T.Denot). e.0) same)) ∙ sym goes.2)
