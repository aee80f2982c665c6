use Rattle.sorted_arena.proofs.Numbering.{vacant-numbered}
use Rattle.std.proofs.Common.{[]}
use Rattle.sorted_arena.proofs.arena.SortedArena.clear.Goals as goal

pub invariant_of-self : goal.invariant_of-self
invariant_of-self g c = rw c.clear.ensures.after (record {
  order = record { sorted = tt; unlimited = c.self.invariant.order.unlimited };
  compact = λ _. record { numbered = tt; free = vacant-numbered {T = g.row.K.Denot × g.row.V.Denot} [] tt c.self.inside.pairs.list.capacity };
})
