use Rattle.triple_ord.proofs.Words.{◌↔◌, ◌∷◌, IsInOrder}
use Rattle.triple_ord.proofs.arena.SimpleOrdArena._check_invariants.Given as goal

abbrev pub invariant-loop-entry : goal.invariant-loop-entry
invariant-loop-entry g l = IsInOrder g.T.SimpleOrdItem.key_of g.T.Key.Ord.cmp l.fn.this.list.entries
    ↔ IsInOrder g.T.SimpleOrdItem.key_of g.T.Key.Ord.cmp (record { index = (g.P.BasePtr.numbers l.last.0).0; generation = (g.P.BasePtr.numbers l.last.0).1; item = l.last.1.now } ∷ l.entry-iterator)
