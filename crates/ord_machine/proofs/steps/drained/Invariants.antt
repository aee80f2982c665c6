use Rattle.std.proofs.Common.{◌≡◌, ◌≤◌, ◌++◌, length, map, vec_len, vec_capacity}
use Rattle.triple_ord.specs.OrderedDrain.{ordered_drain_arena, ordered_drain_lender}
use Rattle.ord_machine.specs.Machine.{entry_of, removed_each}
use Rattle.ord_machine.proofs.steps.drained.Given as goal

-- the entries so far have been removed, and there is room for the others
abbrev pub invariant-loop : goal.invariant-loop
invariant-loop g l =
    let before = map (entry_of g.P.BasePtr.numbers) l.pairs.items in
    let now = (ordered_drain_arena l.drain).list in
    record {
      lender : ordered_drain_lender l.drain ≡ ordered_drain_lender l.initial.drain;
      cut : before ++ now.entries ≡ l.fn.arena.list.entries;
      taken : now ≡ removed_each g.P.Gen.BasePtrGen.greatest l.fn.arena.list before;
      count : length l.pairs.items ≡ l.counter;
      within : l.counter ≤ l.count;
      few : vec_len l.pairs ≡ l.counter;
      room : l.count ≤ vec_capacity l.pairs;
    }
