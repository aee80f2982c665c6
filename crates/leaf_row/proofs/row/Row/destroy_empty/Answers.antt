use Rattle.std.proofs.Common.{arith, ap, length}
use Rattle.leaf_row.proofs.Zipping.{long}
use Rattle.leaf_row.proofs.row.Row.destroy_empty.Goals as goal

pub destroy_empty-requires : goal.destroy_empty-requires
destroy_empty-requires g c = omega (arith, long _ _ _ c.self.view_is c.self.invariant.0 c.self.invariant.2, c.self.inside.keys.ok.0, ap length c.requires)
