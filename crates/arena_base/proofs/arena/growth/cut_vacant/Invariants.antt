use Rattle.arena_base.proofs.Words.{◌≡◌, ◌≤◌, take, vec_capacity, vec_len, min}
use Rattle.arena_base.proofs.arena.growth.cut_vacant.Given as goal

abbrev pub invariant-loop-slots : goal.invariant-loop-slots
invariant-loop-slots g l = record {
  items : l.slots.items ≡ take (vec_len l.slots) l.initial.slots.items;
  cut : vec_len l.slots ≤ vec_len l.initial.slots;
  within : min l.n (vec_len l.initial.slots) ≤ vec_len l.slots;
  capacity : vec_capacity l.slots ≡ vec_capacity l.initial.slots;
}

abbrev pub decreases-loop-slots : goal.decreases-loop-slots
decreases-loop-slots g l = vec_len l.slots
