use Rattle.std.proofs.Common.{◌≡◌, ◌∙◌, ◌+◌, [], List, length, map, ap, arith}
use Rattle.listing.specs.Chain.{Entry}
use Rattle.sorted_arena.specs.{Merge.merged, Sorted.Sorted, Sorted.pair_of, Sorted.behind_first, Sorted.count, Sorted.without_first}
use Rattle.sorted_arena.proofs.{Merging.keeps-more, Merging.steps-more, Merging.first-taken, Merging.merges-more, Removing.removes-more}
use Rattle.sorted_arena.proofs.arena.SortedArena.append.Goals as goal

pub loop-k-preserved : goal.loop-k-preserved
unfolding without_first
loop-k-preserved g c =
    let put = c.insert_in_room.ensures in
    let p = g.P.BasePtr.numbers c.insert_in_room.result in
    let first = first-taken c.loop-k.other.entries (c.in-Some.k, c.in-Some.v) c.in-Some.ensures.value in
    let gone = rw (← c.in-Some.ensures.value) at c.in-Some.ensures.after in
    let left : c.pop_first.new.self.entries ≡ behind_first c.loop-k.other.entries = ap (λ (a : Sorted g.row.K.Denot g.row.V.Denot). a.entries) gone in
    let fewer : count c.loop-k.other ≡ count c.pop_first.new.self + 1 = omega (arith, ap length first.1, ap length left) in
    let now = c.loop-k.invariant in
    record {
      merges = ap (λ (es : List (Entry (g.row.K.Denot × g.row.V.Denot))). merged g.K.Ord.cmp (map pair_of c.insert_in_room.new.self.entries) (map pair_of es)) left
          ∙ merges-more g.K.Ord.cmp g.P.Inx.BasePtrInx.most c.loop-k.self c.insert_in_room.new.self c.loop-k.other.entries p c.in-Some.k c.in-Some.v c.in-Some.ensures.value put.ok
          ∙ now.merges;
      room = omega (arith, put.count, put.capacity, fewer, now.room);
      counted = omega (arith, put.count, fewer, now.counted);
      keeps = keeps-more _ _ c.args.self.now c.loop-k.self _ _ _ put.free put.ok now.keeps;
      steps = steps-more _ _ c.args.self.now c.loop-k.self _ _ _ put.free put.ok now.generation now.steps;
      capacity = put.capacity ∙ now.capacity;
      generation = put.generation ∙ now.generation;
      removes = (
        now.removes.0 + 1,
        removes-more g.Q.Gen.BasePtrGen.greatest c.args.other.now c.loop-k.other c.pop_first.new.self now.removes.0 [] (behind_first c.loop-k.other.entries) first.0 now.removes.1 first.1 gone,
      );
    }
