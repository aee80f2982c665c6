use Rattle.triple_ord.proofs.Descending.{step-occupied, step-few, by_key-ended, by_key-step, found_where_ended-by, met_next-map}
use Rattle.triple_ord.proofs.Words.{ℕ, Some, arith, ap, ◌∙◌, option_map}
use Rattle.triple_ord.proofs.descent.descend_in_group.Goals as goal

pub compare-p-requires : goal.compare-p-requires
compare-p-requires g c =
    let d = rw c.in-Some.is at (c.loop-at.invariant.descended c.requires.descended.0 c.requires.descended.1) in
    record {
      occupied = rw c.loop-at.invariant.tree (step-occupied c.args.probe.now.tree.now c.args.probe.now.distinct _ _ d.descending);
      room = omega (arith, step-few c.args.probe.now.tree.now c.args.probe.now.distinct _ _ d.descending, d.count, c.requires.descended.1.count, c.requires.few, c.requires.room);
    }

pub loop-at-smaller : goal.loop-at-smaller
loop-at-smaller g c =
    let d = rw c.in-Some.is at (c.loop-at.invariant.descended c.requires.descended.0 c.requires.descended.1) in
    omega (arith, step-few c.args.probe.now.tree.now c.args.probe.now.distinct _ _ d.descending, d.count, c.requires.descended.1.count, c.compare-p.ensures.shows.counted)

pub loop-at-preserved : goal.loop-at-preserved
loop-at-preserved g c =
    let seen = rw c.loop-at.invariant.tree at c.compare-p.ensures.shows.shown in
    let met = ap (option_map g.P.BasePtr.numbers) c.met_behind-met.ensures ∙ met_next-map {Y = ℕ × ℕ} g.P.BasePtr.numbers c.loop-at.met c.compare-p.result.0 c.compare-p.result.1 in
    record {
      tree = c.compare-p.ensures.shows.tree ∙ c.loop-at.invariant.tree;
      more = omega (arith, c.loop-at.invariant.more, c.compare-p.ensures.shows.counted);
      descended = λ before start.
          let d = rw c.in-Some.is at (c.loop-at.invariant.descended before start) in
          rw (c.compare-p.ensures.shows.counted, met) (by_key-step _ _ c.args.probe.now.tree.now c.args.probe.now.distinct _ _ _ _ _ _ d _ _ _ seen);
    }

-- an end by a branch at an entry with two empty sides
pub returns-then-is_end-clause-ended : goal.returns-then-is_end-clause-ended
returns-then-is_end-clause-ended g c = λ before start.
    let d = rw c.in-Some.is at (c.loop-at.invariant.descended before start) in
    let seen = rw c.loop-at.invariant.tree at c.compare-p.ensures.shows.shown in
    let met = ap (option_map g.P.BasePtr.numbers) c.met_behind-met.ensures ∙ met_next-map {Y = ℕ × ℕ} g.P.BasePtr.numbers c.loop-at.met c.compare-p.result.0 c.compare-p.result.1 in
    let next = by_key-step _ _ c.args.probe.now.tree.now c.args.probe.now.distinct _ _ _ _ _ _ d _ _ _ seen in
    let end = rw (c.compare-p.ensures.end c.if-is_end.true) at next in
    let last = rw (← c.compare-p.ensures.shows.counted, ← met) at end in
    let found = found_where_ended-by {Y = ℕ × ℕ} g.P.BasePtr.numbers c.met_behind-met.result (Some (c.compare-p.result.0, c.compare-p.result.1)) c.found_at_end.result c.found_at_end.ensures in
    let ended = by_key-ended _ _ c.args.probe.now.tree.now c.args.probe.now.distinct _ _ _ (Some (g.P.BasePtr.numbers c.compare-p.result.0, c.compare-p.result.1)) (option_map g.P.BasePtr.numbers c.met_behind-met.result) last in
    rw found ended

pub returns-clause-ended : goal.returns-clause-ended
returns-clause-ended g c = λ before start.
    let d = rw c.in_default.is at (c.loop-at.invariant.descended before start) in
    let found = found_where_ended-by {Y = ℕ × ℕ} g.P.BasePtr.numbers c.loop-at.met c.loop-at.last c.found_at_end-2.result c.found_at_end-2.ensures in
    rw found (by_key-ended _ _ c.args.probe.now.tree.now c.args.probe.now.distinct _ _ _ _ _ d)
