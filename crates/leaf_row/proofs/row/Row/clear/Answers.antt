use Rattle.std.proofs.Common.{[], ◌∷◌, ap, arith, length, length-append}
use Rattle.std.proofs.lemmas.List.{nil_from_length}
use Rattle.leaf_row.proofs.row.Row.clear.Goals as goal

pub loop-self-smaller : goal.loop-self-smaller
loop-self-smaller g c = let size = ap length c.pop.ensures in omega (arith, length-append c.pop.new.self (c.pop.result ∷ []))

pub loop-self-preserved : goal.loop-self-preserved
loop-self-preserved g c = let size = ap length c.pop.ensures in omega (arith, length-append c.pop.new.self (c.pop.result ∷ []))

pub returns : goal.returns
returns g c = nil_from_length c.loop-self.self (omega arith)
