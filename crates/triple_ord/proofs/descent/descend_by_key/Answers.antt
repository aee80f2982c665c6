use Rattle.triple_ord.proofs.Descending.{step-occupied, step-few, by_key-begins, by_key-step, by_key-other, unmet, within_bounds}
use Rattle.triple_ord.proofs.{Inserting.equal_by, Words.◌≡◌, Words.◌≤◌, Words.◌+◌, Words.◌-◌, Words.ℕ, Words.arith, Words.refl, Words.sym, Words.◌∙◌}
use Rattle.triple_ord.proofs.descent.descend_by_key.Goals as goal

few-visits : (visits before shown part all : ℕ) → shown + part ≤ all → visits ≡ before + shown → visits - before ≤ all
few-visits visits before shown part all h e = omega arith

more-visits : (visits before shown : ℕ) → visits ≡ before + shown → before ≤ visits
more-visits visits before shown e = omega arith

pub loop-at-init : goal.loop-at-init
loop-at-init g c = record {
  tree = refl;
  descended = rw c.root-at.ensures.root (by_key-begins _ _ c.args.probe.now.tree.now c.args.probe.now.distinct _ _ (sym c.root-at.ensures.sound.listed));
}

pub compare-p-requires : goal.compare-p-requires
compare-p-requires g c =
    let d = rw c.in-Some.is at c.loop-at.invariant.descended in
    record {
      occupied = rw c.loop-at.invariant.tree (step-occupied c.args.probe.now.tree.now c.args.probe.now.distinct _ _ d.descending);
      room = omega (arith, step-few c.args.probe.now.tree.now c.args.probe.now.distinct _ _ d.descending, d.count, c.root-at.ensures.few, c.requires);
    }

pub descend_in_group-requires-clause-descended : goal.descend_in_group-requires-clause-descended
descend_in_group-requires-clause-descended g c =
    let d = rw c.in-Some.is at c.loop-at.invariant.descended in
    let seen = rw c.loop-at.invariant.tree at c.compare-p.ensures.shows.shown in
    let next = by_key-step _ _ c.args.probe.now.tree.now c.args.probe.now.distinct _ _ _ _ _ _ d _ _ _ seen in
    let equal = equal_by c.compare-p.result.1 (sym c.is_eq.ensures ∙ c.if-is_eq.true) in
    (c.args.probe.now.visits, rw (c.compare-p.ensures.shows.tree ∙ c.loop-at.invariant.tree, c.compare-p.ensures.shows.counted) (rw equal at next))

pub returns-then-is_eq : goal.returns-then-is_eq
returns-then-is_eq g c =
    let d = rw c.in-Some.is at c.loop-at.invariant.descended in
    let seen = rw c.loop-at.invariant.tree at c.compare-p.ensures.shows.shown in
    let next = by_key-step _ _ c.args.probe.now.tree.now c.args.probe.now.distinct _ _ _ _ _ _ d _ _ _ seen in
    let equal = equal_by c.compare-p.result.1 (sym c.is_eq.ensures ∙ c.if-is_eq.true) in
    let tree = c.compare-p.ensures.shows.tree ∙ c.loop-at.invariant.tree in
    let ended = rw tree at (c.descend_in_group.ensures.ended c.args.probe.now.visits (rw (tree, c.compare-p.ensures.shows.counted) (rw equal at next))) in
    record {
      found = ended.similar;
      visits = within_bounds _ c.root-at.ensures.sound c.visits_law.ensures _ (omega (arith, ended.few));
      counted = omega (arith, d.count);
    }

pub returns-then-is_end : goal.returns-then-is_end
returns-then-is_end g c =
    let d = rw c.in-Some.is at c.loop-at.invariant.descended in
    let seen = rw c.loop-at.invariant.tree at c.compare-p.ensures.shows.shown in
    let next = by_key-step _ _ c.args.probe.now.tree.now c.args.probe.now.distinct _ _ _ _ _ _ d _ _ _ seen in
    let end = rw (unmet _ _ (sym c.is_eq.ensures ∙ c.if-is_eq.false), c.compare-p.ensures.end c.if-is_end.true) at next in
    let last = rw (← c.compare-p.ensures.shows.counted) at end in
    record {
      found = by_key-other _ _ c.args.probe.now.tree.now c.args.probe.now.distinct _ _ _ _ _ last refl;
      visits = within_bounds _ c.root-at.ensures.sound c.visits_law.ensures _ (few-visits _ _ _ _ _ last.descending.few last.count);
      counted = more-visits _ _ _ last.count;
    }

pub loop-at-preserved : goal.loop-at-preserved
loop-at-preserved g c =
    let d = rw c.in-Some.is at c.loop-at.invariant.descended in
    let seen = rw c.loop-at.invariant.tree at c.compare-p.ensures.shows.shown in
    let next = by_key-step _ _ c.args.probe.now.tree.now c.args.probe.now.distinct _ _ _ _ _ _ d _ _ _ seen in
    record {
      tree = c.compare-p.ensures.shows.tree ∙ c.loop-at.invariant.tree;
      descended = rw c.compare-p.ensures.shows.counted (rw (unmet _ _ (sym c.is_eq.ensures ∙ c.if-is_eq.false)) at next);
    }

pub returns : goal.returns
returns g c =
    let d = c.loop-at.invariant.descended in
    record {
      found = by_key-other _ _ c.args.probe.now.tree.now c.args.probe.now.distinct _ _ _ _ _ (rw c.in_default.is at d) refl;
      visits = within_bounds _ c.root-at.ensures.sound c.visits_law.ensures _ (omega (arith, d.descending.few, d.count));
      counted = omega (arith, d.count);
    }
