use Rattle.arena_base.proofs.{Words.◌≡◌, Words.◌+◌, Words.vec_capacity, Words.vec_len, Words.Grants, Clones.ClonedBelow}
use Rattle.arena_base.proofs.arena.clone.clone_slots.Given as goal

abbrev pub invariant-loop-position : goal.invariant-loop-position
invariant-loop-position g l = record {
  callable : g.M.CloneEntry.callable l.map;
  cloned : ClonedBelow g.P.BasePtr.numbers g.P.Gen.BasePtrGen.number (Grants g.P.BasePtr.numbers g.M.CloneEntry.step) l.fn.map (g.S.ArenaTrait.content l.fn.source).slots l.map l.slots.items (l.position + 1);
  count : vec_len l.slots ≡ l.position;
  capacity : vec_capacity l.slots ≡ vec_capacity l.fn.slots;
}
