use Rattle.std.proofs.Common.{◌≡◌, length, option_map}
use Rattle.chain_base.specs.Transfer.{last_index_of, HasTaken}
use Rattle.chain_base.proofs.chain.transfer.take_all.Given as goal

-- the number of entries taken is the counter, and the last index is their number
abbrev pub invariant-loop : goal.invariant-loop
invariant-loop g l = g.M.MapTaken.callable l.map
    × (h : HasTaken g.Q.BasePtr.numbers g.P.BasePtr.numbers g.Q.Gen.BasePtrGen.greatest g.M.MapTaken.step l.fn.map l.fn.source l.source l.fn.chain l.chain l.map)
    × (length h.gone ≡ l.counter) × (option_map g.P.Inx.BasePtrInx.number l.last ≡ last_index_of (length h.items))
