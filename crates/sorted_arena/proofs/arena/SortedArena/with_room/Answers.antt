use Rattle.std.proofs.Common.{refl, true}
use Rattle.sorted_arena.proofs.Changing.{held-resized}
use Rattle.sorted_arena.proofs.arena.SortedArena.with_room.Goals as goal

pub invariant_of-result : goal.invariant_of-result
invariant_of-result g c =
    held-resized g.K.Ord.cmp true c.new-pairs.result c.reallocate_min_capacity.new.self c.args.n c.reallocate_min_capacity.result c.reallocate_min_capacity.ensures.reallocates.ok
    c.reallocate_min_capacity.ensures.reallocates.err (rw c.new-pairs.ensures (record { order = record { sorted = tt; unlimited = refl }; compact = λ _. record { numbered = tt; free = refl } }))
