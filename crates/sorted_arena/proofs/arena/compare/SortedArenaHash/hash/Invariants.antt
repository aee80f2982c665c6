use Rattle.std.proofs.Common.{◌≡◌, ◌++◌, length}
use Rattle.std.specs.List.{flat_map, fold}
use Rattle.sorted_arena.proofs.arena.compare.SortedArenaHash.hash.Given as goal

-- what is fed so far makes with the others what all make
abbrev pub invariant-loop-k : goal.invariant-loop-k
invariant-loop-k g l =
    fold g.H.Hasher.write l.state (flat_map (λ p. g.K.Hash.hash_input p.0 ++ g.V.Hash.hash_input p.1) l.items)
    ≡ fold g.H.Hasher.write l.initial.state (flat_map (λ p. g.K.Hash.hash_input p.0 ++ g.V.Hash.hash_input p.1) l.initial.items)

abbrev pub decreases-loop-k : goal.decreases-loop-k
decreases-loop-k g l = length l.items
