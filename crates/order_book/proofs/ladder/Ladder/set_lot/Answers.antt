use Rattle.std.proofs.Common.{◌≡◌, ◌≤◌, ◌∙◌, ℕ, length, Option, sym, ap, subst, option_map, arith}
use Rattle.std.proofs.lemmas.List.{length-map}
use Rattle.chain_base.specs.Chain.{with_item}
use Rattle.sorted_arena.specs.Sorted.{get, with_value}
use Rattle.order_book.specs.Ladder.{row_of, rows_of, with_other}
use Rattle.order_book.specs.declared.{order.Lot.Lot, ladder.Resting.Resting, ladder.Totals.Totals}
use Rattle.order_book.proofs.Rows.{row_item, item-rows}
use Rattle.order_book.proofs.Places.{some-same, some-mapped}
use Rattle.order_book.proofs.Leaving.{here, level-found, level-fits, part, entry-found, written-rows, written-ladder}
use Rattle.order_book.proofs.ladder.Ladder.set_lot.Goals as goal

pub returns-in_default-clause-after : goal.returns-in_default-clause-after
returns-in_default-clause-after g c =
    sym (ap (λ (o : Option (ℕ × Lot g.row.T.Denot)). with_value (rows_of c.args.self.now.orders) c.args.pointer o c.args.lot)
    (item-rows c.args.self.now.orders.entries c.args.pointer ∙ ap (option_map row_item) (sym c.in_default.ensures)))

pub unwrap-requires : goal.unwrap-requires
unwrap-requires g c = some-mapped _ c.get-2.result _ (c.get-2.ensures ∙ level-found c.args.self.now.orders c.args.self.now.levels c.requires.ladder c.len-2.ensures.sound.distinct c.args.pointer c.in-Some.order.now (sym c.in-Some.ensures))

pub with_other_lot-after-requires-clause-part : goal.with_other_lot-after-requires-clause-part
with_other_lot-after-requires-clause-part g c =
    let totals : (here c.args.self.now.orders c.args.self.now.levels c.requires.ladder c.len-2.ensures.sound.distinct c.args.pointer c.in-Some.order.now (sym c.in-Some.ensures)).level.item ≡ (c.unwrap.result.0.now, c.unwrap.result.1.now) =
    some-same (sym (level-found c.args.self.now.orders c.args.self.now.levels c.requires.ladder c.len-2.ensures.sound.distinct c.args.pointer c.in-Some.order.now (sym c.in-Some.ensures)) ∙ sym (ap (option_map _) (sym c.unwrap.ensures) ∙ c.get-2.ensures)) in
    subst (λ (x : ℕ × Totals). c.in-Some.order.now.lot.quantity ≤ x.1.quantity) totals (part c.args.self.now.orders c.args.self.now.levels c.requires.ladder c.len-2.ensures.sound.distinct c.args.pointer c.in-Some.order.now (sym c.in-Some.ensures))

pub with_other_lot-after-requires-clause-fits : goal.with_other_lot-after-requires-clause-fits
with_other_lot-after-requires-clause-fits g c =
    let totals : (here c.args.self.now.orders c.args.self.now.levels c.requires.ladder c.len-2.ensures.sound.distinct c.args.pointer c.in-Some.order.now (sym c.in-Some.ensures)).level.item ≡ (c.unwrap.result.0.now, c.unwrap.result.1.now) =
    some-same (sym (level-found c.args.self.now.orders c.args.self.now.levels c.requires.ladder c.len-2.ensures.sound.distinct c.args.pointer c.in-Some.order.now (sym c.in-Some.ensures)) ∙ sym (ap (option_map _) (sym c.unwrap.ensures) ∙ c.get-2.ensures)) in
    let few : length c.args.self.now.orders.entries ≤ 4294967294 = omega (arith, c.len.ensures.sound.within, c.len.ensures.sound.limited, length-map c.args.self.now.orders.entries row_of) in
    subst (λ (x : ℕ × Totals). x.1.quantity ≤ 79228162477370849441829879810) totals (level-fits c.args.self.now.orders c.args.self.now.levels c.requires.ladder c.len-2.ensures.sound.distinct c.args.pointer c.in-Some.order.now (sym c.in-Some.ensures) few).quantity

pub returns-clause-ladder : goal.returns-clause-ladder
returns-clause-ladder g c =
    let totals : (here c.args.self.now.orders c.args.self.now.levels c.requires.ladder c.len-2.ensures.sound.distinct c.args.pointer c.in-Some.order.now (sym c.in-Some.ensures)).level.item ≡ (c.unwrap.result.0.now, c.unwrap.result.1.now) =
    some-same (sym (level-found c.args.self.now.orders c.args.self.now.levels c.requires.ladder c.len-2.ensures.sound.distinct c.args.pointer c.in-Some.order.now (sym c.in-Some.ensures)) ∙ sym (ap (option_map _) (sym c.unwrap.ensures) ∙ c.get-2.ensures)) in
    let same : c.pair_mut-pair.result.1.now ≡ c.in-Some.order.now = entry-found c.args.self.now.orders c.args.self.now.levels c.requires.ladder c.len-2.ensures.sound.distinct c.args.pointer c.in-Some.order.now (sym c.in-Some.ensures) _ _ (rw c.inx.ensures at c.pair_mut-pair.ensures.value) in
    let is = ap (λ (i : ℕ). with_item c.args.self.now.orders i (record { rank = c.pair_mut-pair.result.1.now.rank; lot = c.args.lot; level = c.pair_mut-pair.result.1.now.level })) c.inx.ensures
    ∙ ap (λ (s : Resting g.row.T.Denot). with_item c.args.self.now.orders c.args.pointer.0 (record s { lot = c.args.lot })) same in
    written-ladder c.args.self.now.orders c.args.self.now.levels c.requires.ladder c.len-2.ensures.sound.distinct c.args.pointer c.in-Some.order.now (sym c.in-Some.ensures) c.args.lot c.requires.few c.requires.some _ is c.set_value.new.self
    (c.set_value.ensures.after ∙ ap (λ (t : Totals). with_value c.args.self.now.levels c.in-Some.order.now.level (get c.args.self.now.levels c.in-Some.order.now.level) t)
    (c.with_other_lot-after.ensures ∙ ap (λ (x : ℕ × Totals). with_other x.1 c.in-Some.order.now.lot.quantity c.args.lot.quantity) (sym totals)))

pub returns-clause-after : goal.returns-clause-after
returns-clause-after g c =
    let same : c.pair_mut-pair.result.1.now ≡ c.in-Some.order.now = entry-found c.args.self.now.orders c.args.self.now.levels c.requires.ladder c.len-2.ensures.sound.distinct c.args.pointer c.in-Some.order.now (sym c.in-Some.ensures) _ _ (rw c.inx.ensures at c.pair_mut-pair.ensures.value) in
    let is = ap (λ (i : ℕ). with_item c.args.self.now.orders i (record { rank = c.pair_mut-pair.result.1.now.rank; lot = c.args.lot; level = c.pair_mut-pair.result.1.now.level })) c.inx.ensures
    ∙ ap (λ (s : Resting g.row.T.Denot). with_item c.args.self.now.orders c.args.pointer.0 (record s { lot = c.args.lot })) same in
    written-rows c.args.self.now.orders c.args.self.now.levels c.requires.ladder c.len-2.ensures.sound.distinct c.args.pointer c.in-Some.order.now (sym c.in-Some.ensures) c.args.lot c.requires.few c.requires.some _ is
