use Rattle.std.proofs.Common.{◌≡◌, ◌++◌, string_bytes, take, flat_map, codes, decimal}
use Rattle.ord_script.proofs.text.push_ranks.Given as goal

-- the word, and the ranks so far
abbrev pub invariant-loop-rank : goal.invariant-loop-rank
invariant-loop-rank g l =
    string_bytes l.text ≡ string_bytes l.fn.text ++ (codes "ranks" ++ flat_map (λ k. codes " " ++ decimal k) (take l.rank-index l.ranks))
