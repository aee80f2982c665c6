use Rattle.std.proofs.Common.{◌≡◌, List, ◌++◌, map, length, take, string_bytes, All}
use Rattle.triple_ord.specs.Chain.{Entry}
use Rattle.triple_ord.specs.Search.{pointer}
use Rattle.tree_picture.specs.{Text.ShowEach, Framing.IsUnframed}
use Rattle.tree_picture.proofs.layout.nodes_at.Given as goal

-- the nodes so far are those of the entries before the ones that are left
abbrev pub invariant-loop-pointer : goal.invariant-loop-pointer
invariant-loop-pointer g l =
    (before : List (Entry _)) × (before ++ l.pointer-iterator ≡ l.arena.list.entries)
    × (map (λ n. n.place) l.nodes.items ≡ take (length l.nodes.items) l.places)
    × (map (λ n. g.P.BasePtr.numbers n.pointer) l.nodes.items ≡ map pointer before)
    × ShowEach g.T.Key.Display.output g.T.SimpleOrdItem.key_of before (map (λ n. string_bytes n.key) l.nodes.items)
    × All IsUnframed l.nodes.items
