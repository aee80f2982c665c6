use Rattle.std.proofs.Common.{◌∙◌, sym, ap, subst, rules}
use Rattle.std.specs.Ordering.{nat_cmp}
use Rattle.listing.specs.Held.{Puts}
use Rattle.listing.proofs.CallerLemmas.{removed-held, removed-listing}
use Rattle.agenda.specs.{Agenda.Agenda, Agenda.greatest_generation, Agenda.most_entries, Agenda.with_entry, Agenda.IsFree, Agenda.Reschedules, Layout.agenda_of}
use Rattle.agenda.proofs.Stepping.{renews, stays}
use Rattle.agenda.proofs.agenda.Agenda.move_to.Given.{Over}
use Rattle.agenda.proofs.agenda.Agenda.move_to.Goals as goal
use Rattle.agenda.proofs.agenda.Agenda.move_to.Goals.{After-insert_behind_within-pointer}

-- the job comes again
puts : (g : Over) (c : After-insert_behind_within-pointer g)
    → Puts nat_cmp most_entries c.remove.new.self c.insert_behind_within-pointer.result (c.args.deadline, c.in_ok-moved.moved.1) c.insert_behind_within-pointer.new.pairs
puts g c =
    let some = sym c.allow.ensures ∙ c.in_ok-moved.was in
    rw c.into_k_v-job.ensures at
    (c.insert_behind_within-pointer.ensures.puts (removed-held nat_cmp greatest_generation c.self.inside.jobs c.remove.new.self c.ticket.inside.pointer (rw some at c.remove.ensures.removal.removed) c.self.invariant))

pub invariant_of-self-2 : goal.invariant_of-self-2
invariant_of-self-2 g c = (puts g c).held

moved : (g : Over) (c : After-insert_behind_within-pointer g)
    → Reschedules (agenda_of c.self.inside.jobs) c.ticket.inside.pointer c.insert_behind_within-pointer.result c.args.deadline (agenda_of c.insert_behind_within-pointer.new.pairs)
moved g c =
    let some = sym c.allow.ensures ∙ c.in_ok-moved.was in
    let named = sym c.remove.ensures.removal.value ∙ some in
    let gone = removed-listing nat_cmp greatest_generation c.self.inside.jobs c.remove.new.self c.ticket.inside.pointer _ named (rw some at c.remove.ensures.removal.removed) in
    let job = puts g c in
    record {
      left = c.in_ok-moved.moved;
      named = sym named;
      free = subst (λ (a : Agenda g.row.J.Denot). IsFree a c.insert_behind_within-pointer.result) gone job.free;
      after = job.equation ∙ ap (λ (a : Agenda g.row.J.Denot). with_entry nat_cmp most_entries a c.insert_behind_within-pointer.result (c.args.deadline, c.in_ok-moved.moved.1)) gone;
    }

pub returns-clause-moved : goal.returns-clause-moved
returns-clause-moved g c = rw (← c.self.view_is, ← c.ticket.view_is) (moved g c)

pub returns-clause-step : goal.returns-clause-step
returns-clause-step g c = rw (← c.self.view_is) (renews _ _ _ _ _ c.remove.ensures.takes.sound.distinct (moved g c))

pub returns-in_err-moved-clause-step : goal.returns-in_err-moved-clause-step
returns-in_err-moved-clause-step g c = stays _ _ (search rules)
