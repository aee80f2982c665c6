use Rattle.std.proofs.Common.{◌≡◌, ◌≤◌, ◌∙◌, ℕ, length, slice_get, refl, sym, ap, option_map, arith, inl, inr}
use Rattle.std.specs.{Ordering.nat_cmp, Cmp.nat_cmp_total}
use Rattle.sorted_arena.proofs.CallerLemmas.{inserted-between, IsPutBetween}
use Rattle.order_book.specs.Queue.{most_entries}
use Rattle.order_book.specs.declared.ladder.{Totals.Totals}
use Rattle.order_book.proofs.Rows.{rows-distinct}
use Rattle.order_book.proofs.Laying.{levels-fewer}
use Rattle.order_book.proofs.Places.{Inserted, inserted-cut, next-some, some-same}
use Rattle.order_book.proofs.Beginning.{begun_behind, begun-ladder, begun-put, refused-by, roomier}
use Rattle.order_book.proofs.ladder.Ladder.begin_level.Goals as goal

pub unwrap-next-requires : goal.unwrap-next-requires
unwrap-next-requires g c = next-some c.args.self.now.orders.vacant c.next_insertion_ptr.result
    (omega (arith, c.len-2.ensures.sound.counted, c.requires.room)) (c.next_insertion_ptr.ensures.index ∙ ap (λ (v : _). slice_get v 0) c.arena.ensures.vacant)

pub unreachable-requires : goal.unreachable-requires
unreachable-requires g c =
    let fewer = levels-fewer c.args.self.now.levels.entries c.args.self.now.orders.entries c.requires.ladder.laid in
    elim (refused-by c.insert.result _ c.in-Err.field-0 c.in-Err.is c.in-Err.ensures.back c.insert.ensures.full.0 c.insert.ensures.memory) [
      | inl full ↦ omega (arith, full, fewer, c.requires.room, c.len.ensures.sound.limited)
      | inr memory ↦ omega (arith, memory, fewer, c.requires.room, c.requires.ladder.room)
    ]

pub place_behind-kind-requires : goal.place_behind-kind-requires
place_behind-kind-requires g c =
    let puts = inserted-between nat_cmp nat_cmp_total most_entries c.args.self.now.levels c.in-Ok.level (c.args.rank, record { quantity = c.from.result; count = 1; last = c.inx.result }) c.insert.new.self c.in-Ok.ensures.ok c.in-Ok.ensures.sound.sorted in
    begun_behind c.args.self.now.orders c.args.self.now.levels c.insert.new.self c.requires.ladder c.args.rank c.args.index c.requires.between c.in-Ok.level _ puts

module _ (g : _) (c : goal.After-insert_reserved g) where
  -- where the new level is put
  puts : IsPutBetween nat_cmp most_entries c.args.self.now.levels c.in-Ok.level (c.args.rank, record { quantity = c.from.result; count = 1; last = c.inx.result }) c.insert.new.self
  puts = inserted-between nat_cmp nat_cmp_total most_entries c.args.self.now.levels c.in-Ok.level (c.args.rank, record { quantity = c.from.result; count = 1; last = c.inx.result }) c.insert.new.self c.in-Ok.ensures.ok c.in-Ok.ensures.sound.sorted

  inserts : Inserted c.args.self.now.orders c.insert_reserved.new.self c.insert_reserved.result (record { rank = c.args.rank; lot = c.args.lot; level = c.in-Ok.level })
      (begun_behind c.args.self.now.orders c.args.self.now.levels c.insert.new.self c.requires.ladder c.args.rank c.args.index c.requires.between c.in-Ok.level _ puts).front
      (begun_behind c.args.self.now.orders c.args.self.now.levels c.insert.new.self c.requires.ladder c.args.rank c.args.index c.requires.between c.in-Ok.level _ puts).back
  inserts =
      let behind = begun_behind c.args.self.now.orders c.args.self.now.levels c.insert.new.self c.requires.ladder c.args.rank c.args.index c.requires.between c.in-Ok.level _ puts in
      inserted-cut c.args.self.now.orders c.insert_reserved.new.self _ _ c.insert_reserved.result behind.front behind.back c.insert_reserved.ensures.inserted behind.cut
      (c.place_behind-kind.ensures.placed behind (rows-distinct c.args.self.now.orders.entries c.requires.ladder.distinct))

  -- the pointer was foreseen
  foreseen : c.inx.result ≡ c.insert_reserved.result.0
  foreseen = c.inx.ensures ∙ some-same (ap (option_map (λ (q : ℕ × ℕ). q.0)) (sym c.unwrap-next.ensures) ∙ c.next_insertion_ptr.ensures.index ∙ ap (λ (v : _). slice_get v 0) c.arena.ensures.vacant
      ∙ c.insert_reserved.ensures.inserted.next)

  totals : ◌≡◌ {A = Totals} (record { quantity = c.from.result; count = 1; last = c.inx.result }) (record { quantity = c.args.lot.quantity; count = 1; last = c.insert_reserved.result.0 })
  totals = rw (c.from.ensures, foreseen) refl

  -- room for levels is never given back
  grown : c.args.self.now.levels.capacity ≤ c.insert.new.self.capacity
  grown = roomier c.args.self.now.levels.capacity c.insert.new.self.capacity (length c.args.self.now.levels.entries) puts.capacity
      (omega (arith, levels-fewer c.args.self.now.levels.entries c.args.self.now.orders.entries c.requires.ladder.laid, c.requires.room, c.requires.ladder.room))

pub returns-clause-ladder : goal.returns-clause-ladder
returns-clause-ladder g c =
    begun-ladder c.args.self.now.orders c.args.self.now.levels c.insert.new.self c.requires.ladder c.args.rank c.args.index c.requires.between c.in-Ok.level _ (puts g c)
    c.insert_reserved.new.self c.insert_reserved.result c.args.lot (totals g c) c.requires.lawful (grown g c) (inserts g c)

pub returns-clause-put : goal.returns-clause-put
returns-clause-put g c =
    begun-put c.args.self.now.orders c.args.self.now.levels c.insert.new.self c.requires.ladder c.args.rank c.args.index c.requires.between c.in-Ok.level _ (puts g c)
    c.insert_reserved.new.self c.insert_reserved.result c.args.lot (totals g c) c.requires.lawful (grown g c) (inserts g c)
