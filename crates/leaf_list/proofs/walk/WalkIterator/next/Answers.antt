use Rattle.std.proofs.Common.{◌≡◌, [], length, sym, ap, subst, arith, ◌∙◌}
use Rattle.std.specs.Option.{option_map}
use Rattle.leaf_list.specs.Place.{IsPlace}
use Rattle.leaf_list.proofs.Walking.{walk-done, first-there, walk-front, StepsFront}
use Rattle.leaf_list.proofs.walk.WalkIterator.next.Goals as goal

pub returns-then-are_same-clause-steps : goal.returns-then-are_same-clause-steps
returns-then-are_same-clause-steps g c =
    let none : c.args.self.now ≡ [] = sym c.self.view_is ∙ walk-done c.self.inside.list.now.leaves (option_map (λ p. (g.P.Inx.BasePtrInx.number p.leaf, p.at)) c.self.inside.first) (option_map (λ p. (g.P.Inx.BasePtrInx.number p.leaf, p.at)) c.self.inside.end) c.self.invariant (c.are_same.ensures.same c.if-are_same.true) in
    (none, none)

pub returns-in_err-p-clause-steps : goal.returns-in_err-p-clause-steps
returns-in_err-p-clause-steps g c =
    absurd (first-there c.self.inside.list.now.leaves (option_map (λ p. (g.P.Inx.BasePtrInx.number p.leaf, p.at)) c.self.inside.first) (option_map (λ p. (g.P.Inx.BasePtrInx.number p.leaf, p.at)) c.self.inside.end) c.self.invariant (c.are_same.ensures.apart c.if-are_same.false) (ap (option_map (λ p. (g.P.Inx.BasePtrInx.number p.leaf, p.at))) c.in_err-p.was))

pub after-next-requires : goal.after-next-requires
after-next-requires g c = subst (IsPlace c.self.inside.list.now.leaves) (ap (option_map (λ p. (g.P.Inx.BasePtrInx.number p.leaf, p.at))) c.in_ok-p.was) c.self.invariant.from

pub entry-requires : goal.entry-requires
entry-requires g c = subst (IsPlace c.self.inside.list.now.leaves) (ap (option_map (λ p. (g.P.Inx.BasePtrInx.number p.leaf, p.at))) c.in_ok-p.was) c.self.invariant.from

-- the step
stepped : (g : _) (c : goal.After-entry g) → StepsFront c.self.inside.list.now.leaves (option_map (λ p. (g.P.Inx.BasePtrInx.number p.leaf, p.at)) c.self.inside.first) (option_map (λ p. (g.P.Inx.BasePtrInx.number p.leaf, p.at)) c.self.inside.end) c.self.invariant (option_map (λ p. (g.P.Inx.BasePtrInx.number p.leaf, p.at)) c.after-next.result) (c.entry.result.0.now, g.P.Inx.BasePtrInx.number c.entry.result.1)
stepped g c =
    walk-front c.self.inside.list.now.leaves (option_map (λ p. (g.P.Inx.BasePtrInx.number p.leaf, p.at)) c.self.inside.first) (option_map (λ p. (g.P.Inx.BasePtrInx.number p.leaf, p.at)) c.self.inside.end) c.self.invariant (g.P.Inx.BasePtrInx.number c.in_ok-p.p.leaf, c.in_ok-p.p.at) _ _ (ap (option_map (λ p. (g.P.Inx.BasePtrInx.number p.leaf, p.at))) c.in_ok-p.was) (c.are_same.ensures.apart c.if-are_same.false) c.entry.ensures c.after-next.ensures

pub invariant_of-self : goal.invariant_of-self
invariant_of-self g c = (stepped g c).stretch_left

pub returns-clause-steps : goal.returns-clause-steps
returns-clause-steps g c = sym c.self.view_is ∙ (stepped g c).step

pub returns-clause-goes : goal.returns-clause-goes
returns-clause-goes g c = record { on = λ _. (tt, tt, omega (arith, ap length (returns-clause-steps g c))); keeps = tt; rests = λ _. tt }
