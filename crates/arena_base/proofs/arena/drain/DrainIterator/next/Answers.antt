use Rattle.arena_base.proofs.{Words.◌+◌, Words.is_some, Words.length, Words.arith, Words.refl, Words.sym, Words.ap, Words.◌∙◌, Walks.entries_rising-removed}
use Rattle.arena_base.proofs.arena.drain.DrainIterator.next.Goals as goal

pub unwrap-requires : goal.unwrap-requires
unwrap-requires g c = ap is_some c.remove.ensures.value ∙ c.in_ok-at.ensures.finds.there

pub returns-in-Success : goal.returns-in-Success
returns-in-Success g c =
    let arm = c.in-Success.ensures in let gone = rw arm.value at c.remove.ensures.removed in
    let first = entries_rising-removed g.P.Gen.BasePtrGen.greatest c.args.self.now.arena.now (c.args.self.now.at + 1)
    c.in_ok-at.ensures.entries.1 c.in_ok-at.ensures.finds.next (sym c.remove.ensures.value ∙ arm.value) gone in
    record {
      steps = (refl, record { first = first; removed = gone; overflow = arm.overflow ∙ rw arm.value at c.remove.ensures.overflow });
      goes = record { on = λ h. (tt, tt, omega (arith, ap length first)); keeps = tt; rests = λ h. tt };
    }

pub returns-in-GenerationOverflow : goal.returns-in-GenerationOverflow
returns-in-GenerationOverflow g c =
    let arm = c.in-GenerationOverflow.ensures in let gone = rw arm.value at c.remove.ensures.removed in
    let first = entries_rising-removed g.P.Gen.BasePtrGen.greatest c.args.self.now.arena.now (c.args.self.now.at + 1)
    c.in_ok-at.ensures.entries.1 c.in_ok-at.ensures.finds.next (sym c.remove.ensures.value ∙ arm.value) gone in
    record {
      steps = (refl, record { first = first; removed = gone; overflow = arm.overflow ∙ rw arm.value at c.remove.ensures.overflow });
      goes = record { on = λ h. (tt, tt, omega (arith, ap length first)); keeps = tt; rests = λ h. tt };
    }

pub returns-in_err-at : goal.returns-in_err-at
returns-in_err-at g c =
    rw c.from_residual.ensures (record { steps = (refl, (c.in_err-at.ensures.entries, refl)); goes = record { on = λ h. tt; keeps = tt; rests = λ h. h } })
