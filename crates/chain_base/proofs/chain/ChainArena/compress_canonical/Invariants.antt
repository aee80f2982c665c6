use Rattle.std.proofs.Common.{length, map, option_map}
use Rattle.arena_base.specs.Compression.{compressed_generation}
use Rattle.chain_base.specs.Compression.{relocated}
use Rattle.chain_base.proofs.Canonical.{CanonicalBelow}
use Rattle.chain_base.proofs.chain.ChainArena.compress_canonical.Given as goal

abbrev pub invariant-loop-position : goal.invariant-loop-position
invariant-loop-position g l =
    let generation = compressed_generation g.P.Gen.BasePtrGen.greatest l.fn.reset l.fn.self.generation in
    CanonicalBelow (relocated l.fn.self generation) generation (length l.fn.self.entries) (map (λ e. e.item) l.fn.self.entries) l.self (option_map g.P.Inx.BasePtrInx.number l.at) l.position
