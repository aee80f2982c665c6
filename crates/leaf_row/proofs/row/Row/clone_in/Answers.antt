use Rattle.std.proofs.Common.{length, arith, ap, ◌∙◌}
use Rattle.std.proofs.lemmas.List.{take_all, length-take-le}
use Rattle.leaf_row.proofs.Zipping.{long, cloned_next}
use Rattle.leaf_row.proofs.row.Row.clone_in.Goals as goal

pub index-requires : goal.index-requires
index-requires g c = omega (arith, long _ _ _ c.self.view_is c.self.invariant.0 c.self.invariant.2, c.self.inside.keys.ok.0)

pub push-requires : goal.push-requires
push-requires g c = let size = ap length c.loop-i.invariant in omega (arith, length-take-le c.loop-i.i c.args.self.now (omega arith))

pub loop-i-preserved : goal.loop-i-preserved
loop-i-preserved g c =
    cloned_next c.self.inside.keys.items c.self.inside.names.items c.args.self.now c.loop-i.row c.push.new.self c.loop-i.i c.in_ok-clone.field-0 c.index.result.now c.index-in-loop-i.result.now c.self.view_is
    (omega (arith, long _ _ _ c.self.view_is c.self.invariant.0 c.self.invariant.2)) (omega (arith, c.self.invariant.2, long _ _ _ c.self.view_is c.self.invariant.0 c.self.invariant.2))
    (c.requires _ _ c.in_ok-clone.ensures.cases) c.index.ensures c.index-in-loop-i.ensures c.loop-i.invariant c.push.ensures

pub returns : goal.returns
returns g c = c.loop-i.invariant ∙ take_all c.loop-i.i c.args.self.now (omega arith)
