use Rattle.std.proofs.Common.{◌≡◌, [], sym, ap, ◌∙◌, arith, length, Bor, ℕ}
use Rattle.listing.specs.Link.{Link}
use Rattle.agenda.proofs.Walking.{walk-step, walk-end, unmapped}
use Rattle.agenda.proofs.agenda.from.IterFromIterator.next.Goals as goal

pub returns-in_err-entry-clause-steps : goal.returns-in_err-entry-clause-steps
returns-in_err-entry-clause-steps g c =
    let none : c.args.self.now ≡ [] = sym c.self.view_is ∙ rw c.in_ok-i.was (walk-end c.self.inside.jobs.now.list.entries c.in_ok-i.i c.in_err-entry.ensures.value) in
    rw c.from_residual-in_err-entry.ensures (none, none)

pub returns-clause-steps : goal.returns-clause-steps
returns-clause-steps g c =
    let item : c.link.inside.t.now ≡ c.in_ok-entry.entry.1.item.now = ap (λ (l : Link (Bor (ℕ × g.row.J.Denot))). l.item.now) c.link.view_is in
    let parts : (c.k_v.result.0.now, c.k_v.result.1.now) ≡ c.link.inside.t.now = ap (λ (k : ℕ). (k, c.k_v.result.1.now)) c.k_v.ensures.key ∙ ap (λ (j : g.row.J.Denot). (c.link.inside.t.now.0, j)) c.k_v.ensures.value in
    sym c.self.view_is ∙ rw (c.in_ok-i.was, c.new.ensures, sym (unmapped c.next-self-inside.result) ∙ c.next-self-inside.ensures.value, parts ∙ item) (walk-step c.self.inside.jobs.now.list.entries c.self.invariant c.in_ok-i.i _ _ c.in_ok-entry.ensures.value)

pub returns-clause-goes : goal.returns-clause-goes
returns-clause-goes g c = record { on = λ _. (tt, tt, omega (arith, ap length (returns-clause-steps g c))); keeps = tt; rests = λ _. tt }
