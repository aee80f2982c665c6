use Rattle.arena_base.proofs.{Words.ℕ, Words.arith, Words.common_steps, Words.sym, Words.ap, Steps.stack-top, Steps.top-vacant}
use Rattle.arena_base.proofs.arena.Arena.next_insertion_ptr.Goals as goal

pub returns-clause-vacant : goal.returns-clause-vacant
returns-clause-vacant g c =
    let last = rw c.deref.ensures.value at (sym c.in_ok-i.ensures.value) in
    rw (ap (λ (n : ℕ × ℕ). n.0) c._from_raw.ensures) (top-vacant g.P.Gen.BasePtrGen g.P.Inx.BasePtrInx c.self.inside _ c.self.view_is c.self.invariant.0 _ _ (stack-top _ _ last))

pub returns-clause-full : goal.returns-clause-full
returns-clause-full g c = grind (arith, common_steps)

pub returns-in_err-i-clause-full : goal.returns-in_err-i-clause-full
returns-in_err-i-clause-full g c = grind (arith, common_steps)
