use Rattle.std.proofs.Common.{subst, rules, arith, Option, ℕ, IfSome, ◌<◌}
use Rattle.std.specs.{Ordering.nat_cmp, Cmp.nat_cmp_total}
use Rattle.sorted_arena.proofs.CallerLemmas.{inserted-between}
use Rattle.timeline.specs.{Layout.changes_of, Timeline.most_entries}
use Rattle.timeline.proofs.Painting.{IsCleared, at_put, cleared, painted-none, painted-some, painted-refused, painted-kept, stands}
use Rattle.timeline.proofs.paint.paint.Given.{Over}
use Rattle.timeline.proofs.paint.paint.Goals.{After-take_over-taken}
use Rattle.timeline.proofs.paint.paint.Goals as goal

-- The change stands between those that were left.
cleared-put : (g : Over) (c : After-take_over-taken g)
    → IsCleared (changes_of c.args.changes.now) c.args.from c.args.until c.args.value c.take_over-taken.result c.take_over-taken.new.changes.entries c.insert_at-p.result
cleared-put g c =
    let inserted = inserted-between nat_cmp nat_cmp_total most_entries c.args.changes.now c.insert_at-p.result (c.args.from, c.args.value) c.insert_at-p.new.changes c.insert_at-p.ensures.inserted c.insert_at-p.ensures.keeps.sound.sorted in
    let over = c.take_over-taken.ensures.taken (at_put c.args.changes.now c.insert_at-p.new.changes c.insert_at-p.result c.args.from c.args.until c.args.value inserted c.requires.rising c.requires.later) in
    cleared c.args.changes.now c.insert_at-p.new.changes c.insert_at-p.result c.args.from c.args.until c.args.value inserted c.requires.rising c.requires.later
    c.take_over-taken.result c.take_over-taken.new.changes.entries over

pub returns-in-Some : goal.returns-in-Some
returns-in-Some g c =
    let clear = cleared-put g (goal.at.returns-in-Some g c).After-take_over-taken in
    let ordered = subst (λ (o : Option ℕ). IfSome o (λ u. c.args.from < u)) c.in-Some.is c.requires.later in
    record {
      painted = painted-some (changes_of c.args.changes.now) c.requires.rising c.args.from c.args.until c.args.value c.take_over-taken.result c.take_over-taken.new.changes.entries c.insert_at-p.result clear c.in-Some.until c.in-Some.is ordered c.args.spare c.requires.spare (changes_of c.finish.new.changes) c.finish.result
          (c.finish.ensures.finished (stands (changes_of c.args.changes.now) c.requires.rising c.args.from c.args.until c.args.value c.take_over-taken.result c.take_over-taken.new.changes.entries c.insert_at-p.result clear c.in-Some.until c.in-Some.is ordered));
      refused = painted-refused (changes_of c.args.changes.now) c.requires.rising c.args.from c.args.until c.args.value c.take_over-taken.result c.take_over-taken.new.changes.entries c.insert_at-p.result clear c.in-Some.until c.in-Some.is ordered g.V.Clone.is_infallible c.args.spare c.finish.result (c.finish.ensures.refused clear.at);
      err = painted-kept (changes_of c.args.changes.now) c.requires.rising c.args.from c.args.until c.args.value c.take_over-taken.result c.take_over-taken.new.changes.entries c.insert_at-p.result clear c.in-Some.until c.in-Some.is ordered g.V.Clone.is_infallible c.args.spare c.finish.new.changes.entries c.finish.result (c.finish.ensures.refused clear.at) (c.finish.ensures.err clear.at);
      keeps = record { capacity = search rules; sound = c.finish.ensures.keeps.sound };
      count = omega (arith, c.insert_at-p.ensures.count, c.take_over-taken.ensures.count, c.finish.ensures.count);
    }

pub returns-in-None-clause-painted : goal.returns-in-None-clause-painted
returns-in-None-clause-painted g c =
    let clear = cleared-put g (goal.at.returns-in-None-clause-painted g c).After-take_over-taken in
    painted-none (changes_of c.args.changes.now) c.requires.rising c.args.from c.args.until c.args.value c.take_over-taken.result c.take_over-taken.new.changes.entries c.insert_at-p.result clear c.in-None.is c.join_before.new.changes.entries (c.join_before.ensures.taken clear.at)
