use Rattle.std.proofs.Common.{◌≡◌, ◌≤◌, ◌<◌, ◌∙◌, ℕ, sym, ap, subst, option_map}
use Rattle.chain_base.specs.{Chain.removed, Link.Link}
use Rattle.sorted_arena.specs.Sorted.{get, with_value}
use Rattle.order_book.specs.Ladder.{without_order}
use Rattle.sorted_arena.specs.PlainPointer.{greatest_generation}
use Rattle.order_book.specs.declared.ladder.{Resting.Resting, Totals.Totals}
use Rattle.order_book.proofs.Rows.{row_item, item-rows}
use Rattle.order_book.proofs.Places.{same-index, some-same, some-mapped}
use Rattle.order_book.proofs.Leaving.{here, level-found, part, some, linked-left, removed-rows, level-left, level-shrunk, removed-count, stale-rows}
use Rattle.order_book.proofs.ladder.Ladder.remove.Goals.{then-totals-eq1, else-totals-eq1}
use Rattle.order_book.proofs.ladder.Ladder.remove.Goals as goal

pub returns-in_err-order-clause-value : goal.returns-in_err-order-clause-value
returns-in_err-order-clause-value g c = c.from_residual.ensures ∙ sym (item-rows c.args.self.now.orders.entries c.args.pointer ∙ ap (option_map row_item) (sym c.in_err-order.ensures))

pub returns-in_err-order-clause-after : goal.returns-in_err-order-clause-after
returns-in_err-order-clause-after g c = stale-rows c.args.self.now.orders c.args.pointer c.in_err-order.ensures

pub unwrap-requires : goal.unwrap-requires
unwrap-requires g c = some-mapped _ c.get-2.result _ (c.get-2.ensures ∙ level-found c.args.self.now.orders c.args.self.now.levels c.requires c.len-2.ensures.sound.distinct c.args.pointer c.in_ok-order.field-0.now (sym c.in_ok-order.ensures))

pub without_order-after-requires-clause-part : goal.without_order-after-requires-clause-part
without_order-after-requires-clause-part g c =
    let totals : (here c.args.self.now.orders c.args.self.now.levels c.requires c.len-2.ensures.sound.distinct c.args.pointer c.in_ok-order.field-0.now (sym c.in_ok-order.ensures)).level.item ≡ (c.unwrap.result.0.now, c.unwrap.result.1.now) =
    some-same (sym (level-found c.args.self.now.orders c.args.self.now.levels c.requires c.len-2.ensures.sound.distinct c.args.pointer c.in_ok-order.field-0.now (sym c.in_ok-order.ensures)) ∙ sym (ap (option_map _) (sym c.unwrap.ensures) ∙ c.get-2.ensures)) in
    subst (λ (x : ℕ × Totals). c.in_ok-order.field-0.now.lot.quantity ≤ x.1.quantity) totals (part c.args.self.now.orders c.args.self.now.levels c.requires c.len-2.ensures.sound.distinct c.args.pointer c.in_ok-order.field-0.now (sym c.in_ok-order.ensures))

pub without_order-after-requires-clause-some : goal.without_order-after-requires-clause-some
without_order-after-requires-clause-some g c =
    let totals : (here c.args.self.now.orders c.args.self.now.levels c.requires c.len-2.ensures.sound.distinct c.args.pointer c.in_ok-order.field-0.now (sym c.in_ok-order.ensures)).level.item ≡ (c.unwrap.result.0.now, c.unwrap.result.1.now) =
    some-same (sym (level-found c.args.self.now.orders c.args.self.now.levels c.requires c.len-2.ensures.sound.distinct c.args.pointer c.in_ok-order.field-0.now (sym c.in_ok-order.ensures)) ∙ sym (ap (option_map _) (sym c.unwrap.ensures) ∙ c.get-2.ensures)) in
    subst (λ (x : ℕ × Totals). 0 < x.1.count) totals (some c.args.self.now.orders c.args.self.now.levels c.requires c.len-2.ensures.sound.distinct c.args.pointer c.in_ok-order.field-0.now (sym c.in_ok-order.ensures))

pub returns-clause-ladder : goal.returns-clause-ladder
returns-clause-ladder g c =
    let totals : (here c.args.self.now.orders c.args.self.now.levels c.requires c.len-2.ensures.sound.distinct c.args.pointer c.in_ok-order.field-0.now (sym c.in_ok-order.ensures)).level.item ≡ (c.unwrap.result.0.now, c.unwrap.result.1.now) =
    some-same (sym (level-found c.args.self.now.orders c.args.self.now.levels c.requires c.len-2.ensures.sound.distinct c.args.pointer c.in_ok-order.field-0.now (sym c.in_ok-order.ensures)) ∙ sym (ap (option_map _) (sym c.unwrap.ensures) ∙ c.get-2.ensures)) in
    let is : c.remove_entry.new.self ≡ removed greatest_generation c.args.self.now.orders c.args.pointer.0 = rw c.inx.ensures at c.remove_entry.ensures.removed in
    elim c.if-totals-eq1.branch [
      | then-totals-eq1 w ↦ rw w.self-is (level-left c.args.self.now.orders c.args.self.now.levels c.requires c.len-2.ensures.sound.distinct c.args.pointer c.in_ok-order.field-0.now (sym c.in_ok-order.ensures) c.remove_entry.new.self is
          (ap (λ (x : ℕ × Totals). x.1.count) totals ∙ w.if-totals-eq1.true) w.remove.new.self w.remove.ensures.after)
      | else-totals-eq1 w ↦ rw w.self-is (level-shrunk c.args.self.now.orders c.args.self.now.levels c.requires c.len-2.ensures.sound.distinct c.args.pointer c.in_ok-order.field-0.now (sym c.in_ok-order.ensures) c.remove_entry.new.self is
          (λ one. w.if-totals-eq1.false (sym (ap (λ (x : ℕ × Totals). x.1.count) totals) ∙ one)) w.prev.result
          (sym (same-index w.prev.result) ∙ w.prev.ensures.value ∙ ap (λ (e : ℕ × Link (Resting g.row.T.Denot)). e.1.prev) c.allow-link.ensures
          ∙ linked-left c.args.self.now.orders c.args.self.now.levels c.requires c.len-2.ensures.sound.distinct c.args.pointer c.in_ok-order.field-0.now (sym c.in_ok-order.ensures) _ _ (rw c.inx.ensures at c.remove_entry.ensures.value)) w.set_value.new.self (w.set_value.ensures.after
          ∙ ap (λ (t : Totals). with_value c.args.self.now.levels c.in_ok-order.field-0.now.level (get c.args.self.now.levels c.in_ok-order.field-0.now.level) t)
          (w.without_order-after.ensures ∙ ap (λ (i : ℕ). without_order c.unwrap.result.1.now c.in_ok-order.field-0.now.lot.quantity i w.prev.result) w.inx-else-totals-eq1.ensures
          ∙ ap (λ (x : ℕ × Totals). without_order x.1 c.in_ok-order.field-0.now.lot.quantity c.args.pointer.0 w.prev.result) (sym totals))))
    ]

pub returns-clause-value : goal.returns-clause-value
returns-clause-value g c = ap (option_map row_item) c.in_ok-order.ensures ∙ sym (item-rows c.args.self.now.orders.entries c.args.pointer)

pub returns-clause-after : goal.returns-clause-after
returns-clause-after g c =
    let is : c.remove_entry.new.self ≡ removed greatest_generation c.args.self.now.orders c.args.pointer.0 = rw c.inx.ensures at c.remove_entry.ensures.removed in
    elim c.if-totals-eq1.branch [
      | then-totals-eq1 w ↦ rw w.self-is (removed-rows c.args.self.now.orders c.args.self.now.levels c.requires c.len-2.ensures.sound.distinct c.args.pointer c.in_ok-order.field-0.now (sym c.in_ok-order.ensures) c.remove_entry.new.self is)
      | else-totals-eq1 w ↦ rw w.self-is (removed-rows c.args.self.now.orders c.args.self.now.levels c.requires c.len-2.ensures.sound.distinct c.args.pointer c.in_ok-order.field-0.now (sym c.in_ok-order.ensures) c.remove_entry.new.self is)
    ]

pub returns-clause-count : goal.returns-clause-count
returns-clause-count g c = removed-count c.args.self.now.orders c.if-totals-eq1.self.orders c.args.pointer _ (returns-clause-value g c) (returns-clause-after g c)
