use Rattle.timeline.proofs.Around.{whole-span, none-held}
use Rattle.timeline.proofs.timeline.Timeline.span_at.Goals as goal

pub returns-in-Some-clause-span : goal.returns-in-Some-clause-span
returns-in-Some-clause-span g c =
    rw (← c.self.view_is) (whole-span c.self.inside.changes.entries c.args.time c.around-last.result c.around-last.ensures c.self.invariant c.around-last.ensures.distinct c.in-Some.from c.in-Some.value.now c.time_of.result c.in-Some.ensures c.time_of.ensures)

pub returns-in-None-clause-none : goal.returns-in-None-clause-none
returns-in-None-clause-none g c =
    rw (← c.self.view_is) (none-held c.self.inside.changes.entries c.args.time c.around-last.result c.around-last.ensures c.around-last.ensures.distinct c.in-None.ensures)
