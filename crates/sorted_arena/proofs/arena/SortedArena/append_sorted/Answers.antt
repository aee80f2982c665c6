use Rattle.std.proofs.Common.{◌∙◌, inl}
use Rattle.listing.proofs.TreeLemmas.{numbers-appended}
use Rattle.sorted_arena.proofs.{Changing.owed-appended, Extending.sorted-listed, Numbering.compact-appended}
use Rattle.sorted_arena.proofs.arena.SortedArena.append_sorted.Goals as goal

pub invariant_of-self : goal.invariant_of-self
invariant_of-self g c =
    let call = c.append_pairs_within_capacity in
    let room = rw (← c.self.view_is) at c.requires.room in
    let order = rw (← c.self.view_is) at c.requires.order in
    let appends = owed-appended _ _ _ call.result call.ensures.full room call.ensures.appends in
    let items = owed-appended _ _ _ call.result call.ensures.full room call.ensures.items in
    record {
      order = record {
        sorted = sorted-listed g.K.Ord.cmp g.met.K.Ord.total call.new.self.list.entries _ items order;
        unlimited = (numbers-appended c.self.inside.pairs.list call.new.self.list _ appends).2 ∙ c.self.invariant.order.unlimited;
      };
      compact = λ is. compact-appended c.self.inside.pairs.list call.new.self.list _ (c.self.invariant.compact is) appends;
    }

pub returns-clause-step : goal.returns-clause-step
returns-clause-step g c =
    let call = c.append_pairs_within_capacity in
    let room = rw (← c.self.view_is) at c.requires.room in
    let found = owed-appended _ _ _ call.result call.ensures.full room call.ensures.found in
    rw (← c.self.view_is) (record { comes = λ q none there. inl (found.added q none there) })
