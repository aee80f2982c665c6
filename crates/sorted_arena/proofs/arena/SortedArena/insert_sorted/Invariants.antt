use Rattle.std.proofs.Common.{reverse, vec_len}
use Rattle.sorted_arena.proofs.Extending.{Inserting}
use Rattle.sorted_arena.proofs.arena.SortedArena.insert_sorted.Given as goal

-- the pairs so far stand behind what was there, which stays, and the others are to come, from the last one on
abbrev pub invariant-loop-next : goal.invariant-loop-next
invariant-loop-next g l = record {
  inserting : Inserting g.K.Ord.cmp g.P.Inx.BasePtrInx.most l.fn.self l.fn.pairs.items l.self (reverse l.pairs.items);
}

abbrev pub decreases-loop-next : goal.decreases-loop-next
decreases-loop-next g l = vec_len l.pairs
