use Rattle.std.proofs.Common.{◌+◌, option_map}
use Rattle.chain_base.proofs.Naming.{NamedBelow}
use Rattle.chain_base.proofs.chain.compress.name_compressed_indexes.Given as goal

abbrev pub invariant-loop-position : goal.invariant-loop-position
invariant-loop-position g l = NamedBelow l.side l.initial.arena l.arena l.count (option_map g.P.Inx.BasePtrInx.number l.end) (l.position + 1)
