use Rattle.sorted_arena.proofs.Owned.{takes-last, fewer-last}
use Rattle.sorted_arena.proofs.into.IntoEntriesDoubleEndedIterator.next_back.Goals as goal

pub returns-clause-steps : goal.returns-clause-steps
returns-clause-steps g c =
    rw (← c.self.view_is)
    (takes-last g.P.BasePtr.numbers g.P.Gen.BasePtrGen.greatest c.self.inside.arena c.pop_last_entry.new.self c.pop_last_entry.result c.pop_last_entry.ensures.value c.pop_last_entry.ensures.after)

pub returns-clause-goes : goal.returns-clause-goes
returns-clause-goes g c = fewer-last g.P.BasePtr.numbers g.P.Gen.BasePtrGen.greatest _ c.args.self.now c.pop_last_entry.new.self.entries c.pop_last_entry.result tt (returns-clause-steps g c)
