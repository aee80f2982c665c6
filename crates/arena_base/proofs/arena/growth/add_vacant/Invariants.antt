use Rattle.arena_base.proofs.Words.{◌≡◌, ◌≤◌, ◌++◌, replicate, ◌-◌, vec_capacity, vec_len, Vacant}
use Rattle.arena_base.proofs.arena.growth.add_vacant.Given as goal

abbrev pub invariant-loop-slots : goal.invariant-loop-slots
invariant-loop-slots g l = record {
  items : l.slots.items ≡ l.initial.slots.items ++ replicate (vec_len l.slots - vec_len l.initial.slots) Vacant;
  grown : vec_len l.initial.slots ≤ vec_len l.slots;
  within : vec_len l.slots - vec_len l.initial.slots ≤ l.n - vec_len l.initial.slots;
  capacity : vec_capacity l.slots ≡ vec_capacity l.initial.slots;
}

abbrev pub decreases-loop-slots : goal.decreases-loop-slots
decreases-loop-slots g l = l.n - vec_len l.slots
