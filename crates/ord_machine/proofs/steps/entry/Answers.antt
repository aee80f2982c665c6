use Rattle.std.proofs.Common.{rules}
use Rattle.ord_machine.proofs.Insertions.{inserts_through}
use Rattle.ord_machine.proofs.steps.entry.Goals as goal

pub returns-in-Ok : goal.returns-in-Ok
returns-in-Ok g c =
    inserts_through _ _ _ _ _ _ c.in-Ok.ensures.request.distinct c.in-Ok.ensures.request.place c.as_ref.ensures c.ptr-shown.ensures c.insert-before.ensures.inserts (search rules)
