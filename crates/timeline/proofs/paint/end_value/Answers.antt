use Rattle.std.proofs.Common.{◌∙◌}
use Rattle.timeline.proofs.{Places.value-there, Painting.cloned, Painting.refused}
use Rattle.timeline.proofs.paint.end_value.Goals as goal

pub returns-in-None-None-clause-ok : goal.returns-in-None-None-clause-ok
returns-in-None-None-clause-ok g c at =
    rw (c.in-None-None.is-0, c.in-None-None.is-1) (cloned c.clone_of.result _ _
    (c.value_of.ensures ∙ value-there c.args.changes.now.entries c.prev.ensures.sound.distinct c.args.p at c.prev.result c.prev.ensures.value) c.clone_of.ensures.same)

pub returns-in-None-None-clause-err : goal.returns-in-None-None-clause-err
returns-in-None-None-clause-err g c at =
    refused g.V.Clone.is_infallible at c.args.spare c.args.taken c.clone_of.result _
    (c.value_of.ensures ∙ value-there c.args.changes.now.entries c.prev.ensures.sound.distinct c.args.p at c.prev.result c.prev.ensures.value) c.in-None-None.is-0 c.in-None-None.is-1 c.clone_of.ensures.refused
