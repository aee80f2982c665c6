use Rattle.arena_base.proofs.Words.{◌≡◌, ◌+◌, drop, map, reverse, vec_capacity, vacant_slots}
use Rattle.arena_base.proofs.arena.growth.list_vacant.Given as goal

abbrev pub invariant-loop-position : goal.invariant-loop-position
invariant-loop-position g l = record {
  items : map g.I.BasePtrInx.number l.vacant.items ≡ reverse (vacant_slots (l.position + 1) (drop l.position l.slots));
  capacity : vec_capacity l.vacant ≡ vec_capacity l.initial.vacant;
}
