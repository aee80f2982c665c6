use Rattle.std.proofs.Common.{◌≡◌, ◌∙◌, ◌+◌, ℕ, List, Err, map, length, ap, subst, arith}
use Rattle.std.specs.declared.ops.Bound.TheVariants.{Included, Unbounded}
use Rattle.listing.specs.ReallocationError.{ReallocationError, TheVariants.BeyondMaxCapacity, TheVariants.AllocError as NoMemory}
use Rattle.listing.specs.{Chain.Entry, PlainArena.capacity_for}
use Rattle.sorted_arena.specs.{Range.entries_between, Sorted.pair_of, Sorted.count, Sorted.with_rest, Sorted.with_passing, Sorted.AreSorted}
use Rattle.sorted_arena.proofs.{Merging.moves-more, Merging.sorted-back, Merging.sorted-front, Outside.range-part, Outside.outside-before_key}
use Rattle.sorted_arena.proofs.Taking.{taking-none, cut-next, taking-more, taking-done}
use Rattle.sorted_arena.proofs.arena.SortedArena.split_off.Goals as goal

pub loop-init : goal.loop-init
loop-init g c =
    let empty = c.reserve.ensures.kept.entries ∙ c.new-moved.ensures.entries in
    record {
      taking = taking-none g.P.Gen.BasePtrGen.greatest c.args.self.now _ _ _ _ (range-part g.K.Ord.cmp g.met.K.Ord.total (Included c.args.from.now) Unbounded c.args.self.now.entries c.run_between-first.ensures.sound.sorted)
          c.run_between-first.ensures.first (ap (map pair_of) empty);
      moved = ap length empty;
      room = omega (arith, c.in-Ok.ensures.room);
      capacity = c.in-Ok.ensures.capacity ∙ ap (λ (n : ℕ). capacity_for g.P.Inx.BasePtrInx.most n (count c.new-moved.result + c.run_between-first.result.1)) c.new-moved.ensures.capacity
          ∙ ap (capacity_for g.P.Inx.BasePtrInx.most 0) (omega (arith, ap length c.new-moved.ensures.entries));
      generation = c.reserve.ensures.kept.generation ∙ c.new-moved.ensures.generation;
    }

pub take-k-requires : goal.take-k-requires
take-k-requires g c = cut-next _ _ _ _ _ _ _ _ c.loop.invariant.taking (omega (arith, c.loop-test.true, c.run_between-first.ensures.count))

-- the entries that move are in order
sorted : (g : _) (c : goal.After-insert_in_room g) → AreSorted g.K.Ord.cmp (entries_between g.K.Ord.cmp (Included c.args.from.now) Unbounded c.args.self.now.entries)
sorted g c =
    let p = range-part g.K.Ord.cmp g.met.K.Ord.total (Included c.args.from.now) Unbounded c.args.self.now.entries c.run_between-first.ensures.sound.sorted in
    sorted-front g.K.Ord.cmp _ p.back (sorted-back g.K.Ord.cmp p.front _ (subst (λ (es : List (Entry (g.row.K.Denot × g.row.V.Denot))). AreSorted g.K.Ord.cmp es) p.cut c.run_between-first.ensures.sound.sorted))

pub loop-preserved : goal.loop-preserved
loop-preserved g c =
    let put = c.insert_in_room.ensures in
    record {
      taking = taking-more _ _ _ _ _ _ _ _ c.loop.invariant.taking (omega (arith, c.loop-test.true, c.run_between-first.ensures.count)) c.take-k.result.0 c.take-k.new.self _ _ c.take-k.ensures.takes
          (λ taken later e cut at is was. moves-more g.K.Ord.cmp g.met.K.Ord.total g.P.Inx.BasePtrInx.most c.loop.moved c.insert_in_room.new.self (g.P.BasePtr.numbers c.insert_in_room.result)
          c.take-k.result.0.0 c.take-k.result.0.1 taken e later (subst (λ (es : List (Entry (g.row.K.Denot × g.row.V.Denot))). AreSorted g.K.Ord.cmp es) cut (sorted g c)) is was put.ok);
      moved = omega (arith, put.count, c.loop.invariant.moved);
      room = omega (arith, put.capacity, c.loop.invariant.room);
      capacity = put.capacity ∙ c.loop.invariant.capacity;
      generation = put.generation ∙ c.loop.invariant.generation;
    }

pub returns-clause-moved : goal.returns-clause-moved
returns-clause-moved g c = (taking-done _ _ _ _ _ _ _ _ c.loop.invariant.taking (omega (arith, c.run_between-first.ensures.count, c.loop.auto.counter-end, c.loop-test.false))).2

pub returns-clause-after : goal.returns-clause-after
unfolding with_passing
returns-clause-after g c =
    (taking-done _ _ _ _ _ _ _ _ c.loop.invariant.taking (omega (arith, c.run_between-first.ensures.count, c.loop.auto.counter-end, c.loop-test.false))).0
    ∙ ap (with_rest g.P.Gen.BasePtrGen.greatest c.args.self.now) (outside-before_key g.K.Ord.cmp c.args.from.now c.args.self.now.entries)

pub returns-clause-capacity : goal.returns-clause-capacity
returns-clause-capacity g c = c.loop.invariant.capacity ∙ ap (capacity_for g.P.Inx.BasePtrInx.most 0) c.run_between-first.ensures.count

pub returns-clause-count : goal.returns-clause-count
returns-clause-count g c =
    let done = taking-done _ _ _ _ _ _ _ _ c.loop.invariant.taking (omega (arith, c.run_between-first.ensures.count, c.loop.auto.counter-end, c.loop-test.false)) in
    omega (arith, done.1, c.loop.invariant.moved)

pub returns-in-Err-clause-none : goal.returns-in-Err-clause-none
returns-in-Err-clause-none g c none = absurd (refused c.in-Err.field-0 c.in-Err.is)
  where
    refused : (e : ReallocationError) → c.reserve.result ≡ Err e → ⊥
    refused BeyondMaxCapacity is = absurd (omega (arith, c.reserve.ensures.full.0 is, c.run_between-first.ensures.count, ap length none, ap length c.new-moved.ensures.entries))
    refused NoMemory is = absurd (omega (arith, c.reserve.ensures.memory is, c.run_between-first.ensures.count, ap length none, ap length c.new-moved.ensures.entries))
