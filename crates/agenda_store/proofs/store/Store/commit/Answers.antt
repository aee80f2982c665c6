use Rattle.agenda_store.specs.Planner.{plan_of}
use Rattle.agenda_store.proofs.store.Store.commit.Goals as goal

pub returns-in_err-commit-clause-crash : goal.returns-in_err-commit-clause-crash
returns-in_err-commit-clause-crash g c = rw (← c.self.view_is) (λ clean trees h.
    c.in_err-commit.ensures.crash clean (plan_of c.self.inside.planner) (c.self.invariant.kept c.if-not-self.false (c.commit.ensures.clean clean)) trees h)

pub returns-clause-crash : goal.returns-clause-crash
returns-clause-crash g c = rw (← c.self.view_is) (λ clean trees h.
    c.in_ok-commit.ensures.crash clean (plan_of c.self.inside.planner) (c.self.invariant.kept c.if-not-self.false (c.commit.ensures.clean clean)) trees h)

pub returns-clause-durable : goal.returns-clause-durable
returns-clause-durable g c clean trees h =
    c.in_ok-commit.ensures.durable clean (plan_of c.self.inside.planner) (c.self.invariant.kept c.if-not-self.false (c.commit.ensures.clean clean)) trees h

pub invariant_of-self-2 : goal.invariant_of-self-2
invariant_of-self-2 g c = record {
  linked = λ _. c.self.invariant.linked c.if-not-self.false;
  kept = λ open' clean. c.in_ok-commit.ensures.ok clean (plan_of c.self.inside.planner) (c.self.invariant.kept c.if-not-self.false (c.commit.ensures.clean clean));
}
