use Rattle.sorted_arena.proofs.Owned.{takes-first, fewer-first}
use Rattle.sorted_arena.proofs.into.IntoEntriesIterator.next.Goals as goal

pub returns-clause-steps : goal.returns-clause-steps
returns-clause-steps g c =
    rw (← c.self.view_is)
    (takes-first g.P.BasePtr.numbers g.P.Gen.BasePtrGen.greatest c.self.inside.arena c.pop_first_entry.new.self c.pop_first_entry.result c.pop_first_entry.ensures.value c.pop_first_entry.ensures.after)

pub returns-clause-goes : goal.returns-clause-goes
returns-clause-goes g c = fewer-first g.P.BasePtr.numbers g.P.Gen.BasePtrGen.greatest _ c.args.self.now c.pop_first_entry.new.self.entries c.pop_first_entry.result tt (returns-clause-steps g c)
