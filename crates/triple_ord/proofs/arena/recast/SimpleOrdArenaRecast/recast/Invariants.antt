use Rattle.triple_ord.proofs.{Content.RecastBelow, Words.◌+◌}
use Rattle.triple_ord.proofs.arena.recast.SimpleOrdArenaRecast.recast.Given as goal

abbrev pub invariant-loop-position : goal.invariant-loop-position
invariant-loop-position g l = RecastBelow (g.T.Recast.recast_gives (g.R.Recaster.item_gives l.fn.recaster)) l.fn.self l.self (l.position + 1)
