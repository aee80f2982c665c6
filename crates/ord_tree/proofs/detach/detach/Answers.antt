use Rattle.std.proofs.Common.{◌+◌, [], refl, inr, arith}
use Rattle.ord_tree.specs.Potential.{potential}
use Rattle.ord_tree.proofs.{Views.MovesBacks-then, Steps.takes_out, RankChanges.IsWithin-before}
use Rattle.ord_tree.proofs.detach.detach.Goals as goal

pub returns-in-Some : goal.returns-in-Some
returns-in-Some g c =
    takes_out (cc) (λ order can.
    let at = g.N.Nodes.at in
    let up = c.in-Some.ensures.account order can in
    let repaired = c.demote_all.ensures.after _ (c.in-Some.ensures.after order can) in (
      repaired.built,
      IsWithin-before up.named up.names (omega (arith, up.within)) (c.demote_all.ensures.account _ up.state),
      MovesBacks-then (at c.args.nodes.now) (at c.displace.new.nodes) (at c.demote_all.new.nodes) 4 5 (c.displace.ensures.backs order can) repaired.backs,
    ))

pub returns-in_default : goal.returns-in_default
returns-in_default g c =
    takes_out (cc) (λ order can.
    let moved = c.displace.ensures.backs order can in (
      c.in_default.ensures.after order can,
      IsWithin-before [] (λ j. inr (inr refl)) {spent = potential can.built.shape + 2} (omega arith) (c.in_default.ensures.account order can),
      (moved.0, omega (arith, moved.1), moved.2),
    ))
