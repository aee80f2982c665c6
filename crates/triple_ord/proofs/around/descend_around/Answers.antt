use Rattle.triple_ord.proofs.Descending.{descent-begins, step-occupied, step-few, step-on, within_bounds}
use Rattle.triple_ord.proofs.{OtherEntries.descent-around, Words.arith, Words.refl, Words.sym, Words.◌∙◌}
use Rattle.triple_ord.proofs.around.descend_around.Goals as goal

pub loop-at-init : goal.loop-at-init
loop-at-init g c = record {
  tree = refl;
  descended = rw c.root-at.ensures.root (descent-begins _ c.args.probe.now.tree.now c.args.probe.now.distinct _ _ (sym c.root-at.ensures.sound.listed));
}

pub compare_around-p-requires : goal.compare_around-p-requires
compare_around-p-requires g c =
    let d = rw c.in-Some.is at c.loop-at.invariant.descended in
    record {
      occupied = rw c.loop-at.invariant.tree (step-occupied c.args.probe.now.tree.now c.args.probe.now.distinct _ _ d.descending);
      room = omega (arith, step-few c.args.probe.now.tree.now c.args.probe.now.distinct _ _ d.descending, d.count, c.root-at.ensures.few, c.requires);
    }

pub loop-at-preserved : goal.loop-at-preserved
loop-at-preserved g c =
    let d = rw c.in-Some.is at c.loop-at.invariant.descended in
    let seen = rw c.loop-at.invariant.tree at c.compare_around-p.ensures.shows.shown in
    record {
      tree = c.compare_around-p.ensures.shows.tree ∙ c.loop-at.invariant.tree;
      descended = rw (seen.next_is, seen.pointer_is, c.compare_around-p.ensures.shows.counted)
          (step-on _ c.args.probe.now.tree.now c.args.probe.now.distinct _ _ _ _ _ _ d _ _ _ _ seen.there c.compare_around-p.result.1 tt seen.answered seen.unequal);
    }

pub returns : goal.returns
returns g c =
    let d = c.loop-at.invariant.descended in
    record {
      found = descent-around _ _ _ c.args.probe.now.distinct _ _ _ _ _ _ (rw c.in_default.is at d);
      visits = within_bounds _ c.root-at.ensures.sound c.visits_law.ensures _ (omega (arith, d.descending.few, d.count));
      distinct = c.args.probe.now.distinct;
    }

pub returns-then-is_end : goal.returns-then-is_end
returns-then-is_end g c =
    let d = rw c.in-Some.is at c.loop-at.invariant.descended in
    let seen = rw c.loop-at.invariant.tree at c.compare_around-p.ensures.shows.shown in
    let next = step-on _ c.args.probe.now.tree.now c.args.probe.now.distinct _ _ _ _ _ _ d _ _ _ _ seen.there c.compare_around-p.result.1 tt seen.answered seen.unequal in
    let last = rw (← seen.next_is, c.compare_around-p.ensures.end c.if-is_end.true, ← seen.pointer_is, ← c.compare_around-p.ensures.shows.counted) at next in
    record {
      found = descent-around _ _ _ c.args.probe.now.distinct _ _ _ _ _ _ last;
      visits = within_bounds _ c.root-at.ensures.sound c.visits_law.ensures _ (omega (arith, last.descending.few, last.count));
      distinct = c.args.probe.now.distinct;
    }
