use Rattle.std.proofs.Common.{◌≡◌, ◌<◌, ◌++◌, ◌∷◌, [], length, min, map, take, refl, sym, ap, ◌∙◌, arith, rules}
use Rattle.std.proofs.{lemmas.Grind.common_steps, lemmas.List.length-map}
use Rattle.triple_ord.specs.Invalidation.{allowed_value}
use Rattle.triple_ord.specs.Chain.{cleared}
use Rattle.triple_ord.specs.Shape.{missing}
use Rattle.ord_machine.specs.Machine.{entry_of, removed_each}
use Rattle.ord_machine.proofs.Draining.{cut_drained, taken_drained, first_are, next_there}
use Rattle.ord_machine.proofs.steps.drained.Goals as goal

pub loop-init : goal.loop-init
loop-init g c =
    let none : c.in_ok-pairs.pairs.items ≡ [] = c.in_ok-pairs.ensures.items in
    record {
      lender = refl;
      cut = rw (none, c.drain_ordered-drain.ensures.arena) refl;
      taken = rw (none, c.drain_ordered-drain.ensures.arena) refl;
      count = rw none refl;
      within = omega arith;
      few = grind (arith, common_steps);
      room = grind (arith, common_steps);
    }

pub unwrap-taken-requires : goal.unwrap-taken-requires
unwrap-taken-requires g c =
    let all = c.args.arena.now.list.entries in
    let before = map (entry_of g.P.BasePtr.numbers) c.loop.pairs.items in
    let least : c.min-count.result ≡ min c.args.num (length all) = grind (arith, common_steps) in
    let so_far = c.loop.invariant in
    let short : length before < min c.args.num (length all) = omega (arith, least, so_far.count, c.loop-test.true, length-map c.loop.pairs.items (entry_of g.P.BasePtr.numbers)) in
    next_there c.next.result c.args.num all before c.loop.drain.arena.now.list.entries so_far.cut short (λ none. (rw none at c.next.ensures.steps.1).0)

pub loop-preserved : goal.loop-preserved
loop-preserved g c =
    let so_far = c.loop.invariant in
    let pushed : c.push.new.self.items ≡ c.loop.pairs.items ++ c.allow.result ∷ [] = grind (arith, common_steps) in
    let more : c.push.new.self.items ≡ c.loop.pairs.items ++ allowed_value c.unwrap-taken.result ∷ [] = pushed ∙ ap (λ x. c.loop.pairs.items ++ x ∷ []) c.allow.ensures in
    let drained = rw c.unwrap-taken.ensures at c.next.ensures.steps.1 in
    record {
      lender = c.next.ensures.steps.0 ∙ so_far.lender;
      cut = cut_drained g.P.Gen.BasePtrGen.greatest _ c.args.arena.now.list c.loop.drain.arena.now.list c.next.new.self.arena.now.list _ _ _ more so_far.cut drained.first;
      taken = taken_drained g.P.Gen.BasePtrGen.greatest _ c.args.arena.now.list c.loop.drain.arena.now.list c.next.new.self.arena.now.list _ _ _ more so_far.taken drained.removed_list;
      count = grind (arith, common_steps, so_far.count);
      within = omega arith;
      few = grind (arith, common_steps, so_far.few);
      room = grind (arith, common_steps, so_far.room);
    }

pub returns : goal.returns
returns g c =
    let whole = c.args.arena.now.list in
    let all = whole.entries in
    let before = map (entry_of g.P.BasePtr.numbers) c.loop.pairs.items in
    let least : c.min-count.result ≡ min c.args.num (length all) = grind (arith, common_steps) in
    let so_far = c.loop.invariant in
    let reached : length before ≡ min c.args.num (length all) = omega (arith, least, so_far.count, so_far.within, c.loop-test.false, length-map c.loop.pairs.items (entry_of g.P.BasePtr.numbers)) in
    let first : take c.args.num all ≡ before = first_are c.args.num all before c.loop.drain.arena.now.list.entries so_far.cut reached in
    let gone : c.drop.new.self.0
    ≡ record {
      list = cleared g.P.Gen.BasePtrGen.greatest (removed_each g.P.Gen.BasePtrGen.greatest whole (take c.args.num all));
      shape = missing;
    } =
    c.drop.ensures ∙ rw (so_far.taken, first) refl in
    let lender = so_far.lender in
    record { pairs = sym first; drained = search (rules, gone, lender); refused = tt; err = tt }
