use Rattle.triple_ord.proofs.{Words.◌≡◌, Words.[], Words.Bor, Words.arith, Words.length, Words.sym, Words.ap, Words.◌∙◌, Words.Link, Stepping.walk-step, Stepping.walk-left, Stepping.walk-goes, Stepping.walk-end}
use Rattle.triple_ord.proofs.arena.iter.IterIterator.next.Goals as goal

pub returns-in_err-entry-clause-steps : goal.returns-in_err-entry-clause-steps
returns-in_err-entry-clause-steps g c =
    let none : c.args.self.now ≡ [] = sym c.self.view_is ∙ rw c.in_ok-i.was (walk-end c.self.inside.arena.now.list.entries (g.P.Inx.BasePtrInx.number c.in_ok-i.i) c.in_err-entry.ensures.value) in
    rw c.from_residual-in_err-entry.ensures (none, none)

pub returns-clause-steps : goal.returns-clause-steps
returns-clause-steps g c =
    let item = ap (λ (l : Link (Bor g.row.T.Denot)). l.item) c.link.view_is in
    let next = c.next-self-inside.ensures.value in
    sym c.self.view_is ∙ rw (c.in_ok-i.was, c._from_raw.ensures, next, item) (walk-step _ _ _ _ c.self.invariant.distinct c.in_ok-entry.ensures.value)

pub returns-clause-goes : goal.returns-clause-goes
returns-clause-goes g c = record { on = λ _. (tt, tt, omega (arith, ap length (returns-clause-steps g c))); keeps = tt; rests = λ _. tt }

pub overflow_sub-self : goal.overflow_sub-self
overflow_sub-self g c = walk-left _ _ _ _ _ (rw c.in_ok-i.was at c.self.invariant) c.in_ok-entry.ensures.value

pub invariant_of-self : goal.invariant_of-self
invariant_of-self g c = walk-goes _ _ _ _ _ _ (rw c.in_ok-i.was at c.self.invariant) c.in_ok-entry.ensures.value c.next-self-inside.ensures.value
