use Rattle.std.proofs.Common.{map}
use Rattle.serde.proofs.Events.{WritesUpTo}
use Rattle.sorted_arena.specs.Sorted.{pair_of}
use Rattle.sorted_serde.specs.Pairs.{WritesPair}
use Rattle.sorted_serde.proofs.write.serialize.Given as goal

abbrev pub invariant-loop-key : goal.invariant-loop-key
invariant-loop-key g l = WritesUpTo (WritesPair g.K.Described.writes g.V.Described.writes) (map pair_of l.arena.entries) (map pair_of l.key-iterator) (g.S.Serializer.written l.initial.out) (g.S.Serializer.written l.out)
