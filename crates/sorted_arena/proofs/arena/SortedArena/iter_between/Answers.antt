use Rattle.std.proofs.Common.{◌∙◌, None, IsSome, refl, sym, rules}
use Rattle.sorted_arena.specs.Sorted.{get}
use Rattle.sorted_arena.proofs.Enclosing.{named-there, from-behind, in-order-stretch, up-to}
use Rattle.sorted_arena.proofs.arena.SortedArena.iter_between.Goals as goal

pub from_until-requires : goal.from_until-requires
from_until-requires g c sound =
    let first : IsSome (get c.args.self.now (g.P.BasePtr.numbers c.args.first)) = search rules in
    let last : IsSome (get c.args.self.now (g.P.BasePtr.numbers c.args.last)) = search rules in
    rw c.next.ensures.value
    (up-to c.args.self.now.entries sound.distinct (g.P.BasePtr.numbers c.args.first) (g.P.BasePtr.numbers c.args.last) first last (sym c.comes_to.ensures ∙ c.if-comes_to.true)).stands

pub from_until-requires-else-comes_to : goal.from_until-requires-else-comes_to
from_until-requires-else-comes_to g c sound = in-order-stretch c.args.self.now.entries sound.distinct None None tt refl

pub returns-then-comes_to-clause-entries : goal.returns-then-comes_to-clause-entries
returns-then-comes_to-clause-entries g c =
    let first : IsSome (get c.args.self.now (g.P.BasePtr.numbers c.args.first)) = search rules in
    let last : IsSome (get c.args.self.now (g.P.BasePtr.numbers c.args.last)) = search rules in
    let found = up-to c.args.self.now.entries c.next.ensures.sound.distinct (g.P.BasePtr.numbers c.args.first) (g.P.BasePtr.numbers c.args.last) first last (sym c.comes_to.ensures ∙ c.if-comes_to.true) in
    record {
      entries = (first, last, (rw c.next.ensures.value at c.from_until.ensures.entries) ∙ found.gives);
      sound = c.from_until.ensures.sound;
      chains = c.from_until.ensures.chains;
    }

pub returns-else-comes_to-clause-entries : goal.returns-else-comes_to-clause-entries
returns-else-comes_to-clause-entries g c =
    let first : IsSome (get c.args.self.now (g.P.BasePtr.numbers c.args.first)) = search rules in
    let last : IsSome (get c.args.self.now (g.P.BasePtr.numbers c.args.last)) = search rules in
    record {
      entries = (
        first,
        last,
        c.from_until-else-comes_to.ensures.entries ∙ sym (from-behind c.args.self.now.entries (g.P.BasePtr.numbers c.args.first).0 (g.P.BasePtr.numbers c.args.last).0
            (named-there c.args.self.now.entries (g.P.BasePtr.numbers c.args.last) last) (sym c.comes_to.ensures ∙ c.if-comes_to.false)),
      );
      sound = c.from_until-else-comes_to.ensures.sound;
      chains = c.from_until-else-comes_to.ensures.chains;
    }
