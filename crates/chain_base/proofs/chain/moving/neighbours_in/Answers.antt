use Rattle.chain_base.proofs.{Places.PutsBetween-after, Places.PutsBetween-before, Moving.held-listed, Moving.linked-listed}
use Rattle.chain_base.proofs.chain.moving.neighbours_in.Goals as goal

pub entry-requires : goal.entry-requires
entry-requires g c = held-listed c.args.arena.now c.requires.0.entries c.requires.1 _ (rw c.in-NextToInx.is at c.requires.2)

pub entry-requires-in-PrevToInx : goal.entry-requires-in-PrevToInx
entry-requires-in-PrevToInx g c = held-listed c.args.arena.now c.requires.0.entries c.requires.1 _ (rw c.in-PrevToInx.is at c.requires.2)

pub returns-in-NextToInx : goal.returns-in-NextToInx
returns-in-NextToInx g c = λ d holds can.
    let there = rw c.in-NextToInx.is at can in
    rw (c.in-NextToInx.is, c.next.ensures.value) (PutsBetween-after d.entries _ _ (linked-listed c.args.arena.now d.entries holds _ there _ c.entry.ensures.value))

pub returns-in-PrevToInx : goal.returns-in-PrevToInx
returns-in-PrevToInx g c = λ d holds can.
    let there = rw c.in-PrevToInx.is at can in
    rw (c.in-PrevToInx.is, c.prev.ensures.value) (PutsBetween-before d.entries _ _ (linked-listed c.args.arena.now d.entries holds _ there _ c.entry-in-PrevToInx.ensures.value))
