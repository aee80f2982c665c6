use Rattle.std.proofs.Common.{◌≡◌, ◌≤◌, ◌∙◌, ℕ, length, Some, sym, ap, option_map, arith}
use Rattle.std.proofs.lemmas.List.{length-map}
use Rattle.sorted_arena.specs.Sorted.{get}
use Rattle.order_book.specs.declared.ladder.{Totals.Totals}
use Rattle.order_book.specs.Ladder.{row_of}
use Rattle.order_book.proofs.Rows.{rows-distinct}
use Rattle.order_book.proofs.Places.{Inserted, inserted-cut}
use Rattle.order_book.proofs.Joining.{behind_there, fits_there, joined-ladder, joined-put}
use Rattle.order_book.proofs.ladder.Ladder.join_level.Goals as goal

pub place_behind-kind-requires : goal.place_behind-kind-requires
place_behind-kind-requires g c =
    let found : get c.args.self.now.levels c.args.level ≡ Some (c.unwrap.result.0.now, c.unwrap.result.1.now) = sym (ap (option_map _) (sym c.unwrap.ensures) ∙ c.get.ensures) in
    behind_there c.args.self.now.orders c.args.self.now.levels c.requires.ladder c.len-2.ensures.sound.distinct c.args.level (c.unwrap.result.0.now, c.unwrap.result.1.now) found

pub overflow_add-after : goal.overflow_add-after
overflow_add-after g c =
    let found : get c.args.self.now.levels c.args.level ≡ Some (c.unwrap.result.0.now, c.unwrap.result.1.now) = sym (ap (option_map _) (sym c.unwrap.ensures) ∙ c.get.ensures) in
    let few : length c.args.self.now.orders.entries ≤ 4294967294 = omega (arith, c.len.ensures.sound.within, c.len.ensures.sound.limited, length-map c.args.self.now.orders.entries row_of) in
    let fits = fits_there c.args.self.now.orders c.args.self.now.levels c.requires.ladder c.len-2.ensures.sound.distinct c.args.level (c.unwrap.result.0.now, c.unwrap.result.1.now) found few in
    omega (arith, fits.quantity, c.from.ensures, c.requires.lawful.quantity)

pub overflow_add-after-2 : goal.overflow_add-after-2
overflow_add-after-2 g c =
    let found : get c.args.self.now.levels c.args.level ≡ Some (c.unwrap.result.0.now, c.unwrap.result.1.now) = sym (ap (option_map _) (sym c.unwrap.ensures) ∙ c.get.ensures) in
    let few : length c.args.self.now.orders.entries ≤ 4294967294 = omega (arith, c.len.ensures.sound.within, c.len.ensures.sound.limited, length-map c.args.self.now.orders.entries row_of) in
    let fits = fits_there c.args.self.now.orders c.args.self.now.levels c.requires.ladder c.len-2.ensures.sound.distinct c.args.level (c.unwrap.result.0.now, c.unwrap.result.1.now) found few in
    omega (arith, fits.count)

module _ (g : _) (c : goal.After-set_value g) where
  -- the level is found
  found : get c.args.self.now.levels c.args.level ≡ Some (c.unwrap.result.0.now, c.unwrap.result.1.now)
  found = sym (ap (option_map _) (sym c.unwrap.ensures) ∙ c.get.ensures)

  at_rank : c.unwrap.result.0.now ≡ c.args.rank
  at_rank = let both : Some c.unwrap.result.0.now ≡ Some c.args.rank = ap (option_map (λ (x : ℕ × Totals). x.0)) (sym found) ∙ c.requires.named in cc

  inserts : Inserted c.args.self.now.orders c.insert_reserved-pointer.new.self c.insert_reserved-pointer.result (record { rank = c.args.rank; lot = c.args.lot; level = c.args.level })
      (behind_there c.args.self.now.orders c.args.self.now.levels c.requires.ladder c.len-2.ensures.sound.distinct c.args.level (c.unwrap.result.0.now, c.unwrap.result.1.now) found).front
      (behind_there c.args.self.now.orders c.args.self.now.levels c.requires.ladder c.len-2.ensures.sound.distinct c.args.level (c.unwrap.result.0.now, c.unwrap.result.1.now) found).back
  inserts =
      let behind = behind_there c.args.self.now.orders c.args.self.now.levels c.requires.ladder c.len-2.ensures.sound.distinct c.args.level (c.unwrap.result.0.now, c.unwrap.result.1.now) found in
      inserted-cut c.args.self.now.orders c.insert_reserved-pointer.new.self _ _ c.insert_reserved-pointer.result behind.front behind.back c.insert_reserved-pointer.ensures.inserted behind.cut
      (c.place_behind-kind.ensures.placed behind (rows-distinct c.args.self.now.orders.entries c.requires.ladder.distinct))

pub returns-clause-ladder : goal.returns-clause-ladder
returns-clause-ladder g c =
    rw (c.set_value.ensures.after, c.from.ensures, c.inx.ensures)
    (joined-ladder c.args.self.now.orders c.args.self.now.levels c.requires.ladder c.len-2.ensures.sound.distinct c.args.level (c.unwrap.result.0.now, c.unwrap.result.1.now) (found g c)
    c.insert_reserved-pointer.new.self c.insert_reserved-pointer.result c.args.lot c.args.rank (at_rank g c) c.requires.lawful (inserts g c))

pub returns-clause-put : goal.returns-clause-put
returns-clause-put g c =
    joined-put c.args.self.now.orders c.args.self.now.levels c.requires.ladder c.len-2.ensures.sound.distinct c.args.level (c.unwrap.result.0.now, c.unwrap.result.1.now) (found g c)
    c.insert_reserved-pointer.new.self c.insert_reserved-pointer.result c.args.lot c.args.rank (at_rank g c) c.requires.lawful (inserts g c)
