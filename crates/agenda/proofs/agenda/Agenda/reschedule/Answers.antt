use Rattle.std.specs.Ordering.{nat_cmp}
use Rattle.std.specs.Cmp.{nat_cmp_total}
use Rattle.listing.proofs.CallerLemmas.{held-sound, rekeyed}
use Rattle.listing.proofs.CallerLemmas.{key-updates}
use Rattle.agenda.proofs.Stepping.{moves}
use Rattle.agenda.proofs.agenda.Agenda.reschedule.Goals as goal

pub invariant_of-self : goal.invariant_of-self
invariant_of-self g c =
    let call = c.rekey_pair in
    (rekeyed nat_cmp nat_cmp_total _ _ c.ticket.inside.pointer c.args.deadline c.self.invariant call.result call.ensures.rekeys call.ensures.before call.ensures.otherwise.stale call.ensures.otherwise.refused).1

pub returns-clause-after : goal.returns-clause-after
returns-clause-after g c =
    let call = c.rekey_pair in
    rw (← c.self.view_is, ← c.ticket.view_is)
    (rekeyed nat_cmp nat_cmp_total _ _ c.ticket.inside.pointer c.args.deadline c.self.invariant call.result call.ensures.rekeys call.ensures.before call.ensures.otherwise.stale call.ensures.otherwise.refused).0

pub returns-clause-sound : goal.returns-clause-sound
returns-clause-sound g c = rw (← c.self.view_is) (held-sound _ _ _ c.self.inside.jobs c.rekey_pair.ensures.otherwise.sound c.self.invariant)

pub returns-clause-step : goal.returns-clause-step
returns-clause-step g c = moves _ _ _ _ (returns-clause-sound g c).distinct (returns-clause-after g c)

pub returns-clause-updates : goal.returns-clause-updates
returns-clause-updates g c = rw (returns-clause-after g c) (key-updates nat_cmp _ _ _ (returns-clause-sound g c).distinct)
