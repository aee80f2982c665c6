use Rattle.triple_ord.proofs.Descending.{descent-begins, descent-ends, step-occupied, step-few, step-equal, step-on, within_bounds}
use Rattle.triple_ord.proofs.{Inserting.equal_by, Words.arith, Words.refl, Words.sym, Words.◌∙◌, Words.of_calls}
use Rattle.triple_ord.proofs.descent.descend.Goals as goal

pub loop-at-init : goal.loop-at-init
loop-at-init g c = record {
  callable = c.requires.callable;
  tree = refl;
  descended = rw c.root-at.ensures.root (descent-begins _ c.args.probe.now.tree.now c.args.probe.now.distinct _ _ (sym c.root-at.ensures.sound.listed));
}

pub show-generation-requires : goal.show-generation-requires
show-generation-requires g c =
    let d = rw c.in-Some.is at c.loop-at.invariant.descended in
    record {
      occupied = rw c.loop-at.invariant.tree (step-occupied c.args.probe.now.tree.now c.args.probe.now.distinct _ _ d.descending);
      room = omega (arith, step-few c.args.probe.now.tree.now c.args.probe.now.distinct _ _ d.descending, d.count, c.root-at.ensures.few, c.requires.room);
    }

pub returns-then-is_eq-clause-descends : goal.returns-then-is_eq-clause-descends
returns-then-is_eq-clause-descends g c =
    let d = rw c.in-Some.is at c.loop-at.invariant.descended in
    let shown = rw c.loop-at.invariant.tree at c.show-generation.ensures.shown in
    let equal = equal_by c.f-order.result (sym c.is_eq.ensures ∙ c.if-is_eq.true) in
    let few = step-few c.args.probe.now.tree.now c.args.probe.now.distinct _ _ d.descending in
    record {
      found = rw (c.show-generation.ensures.counted, c._from_raw-p.ensures)
          (step-equal _ c.args.probe.now.tree.now c.args.probe.now.distinct _ _ _ _ _ _ d _ _ _ _ shown c.f-order.result c.f-order.new.self
          (λ e is item. record { named = c._from_raw-p.result; item = _; names = c._from_raw-p.ensures ∙ sym is; shows = sym item; called = c.f-order.ensures }) equal);
      visits = within_bounds _ c.root-at.ensures.sound c.visits_law.ensures _ (omega (arith, few, d.count, c.show-generation.ensures.counted));
      counted = omega (arith, d.count, c.show-generation.ensures.counted);
    }

pub loop-at-preserved : goal.loop-at-preserved
loop-at-preserved g c =
    let d = rw c.in-Some.is at c.loop-at.invariant.descended in
    let shown = rw c.loop-at.invariant.tree at c.show-generation.ensures.shown in
    record {
      callable = search of_calls;
      tree = c.show-generation.ensures.tree ∙ c.loop-at.invariant.tree;
      descended = rw (c.side_or_end-next.ensures.side, c.get-in-Some.ensures.value, c.get.ensures.value, c.show-generation.ensures.counted, c._from_raw-p.ensures)
          (step-on _ c.args.probe.now.tree.now c.args.probe.now.distinct _ _ _ _ _ _ d _ _ _ _ shown c.f-order.result c.f-order.new.self
          (λ e is item. record { named = c._from_raw-p.result; item = _; names = c._from_raw-p.ensures ∙ sym is; shows = sym item; called = c.f-order.ensures })
          (sym c.is_eq.ensures ∙ c.if-is_eq.false));
    }

pub returns-then-is_end-clause-descends : goal.returns-then-is_end-clause-descends
returns-then-is_end-clause-descends g c =
    let d = rw c.in-Some.is at c.loop-at.invariant.descended in
    let shown = rw c.loop-at.invariant.tree at c.show-generation.ensures.shown in
    let end = sym c.side_or_end-next.ensures.side ∙ c.side_or_end-next.ensures.end c.if-is_end.true in
    let next = step-on _ c.args.probe.now.tree.now c.args.probe.now.distinct _ _ _ _ _ _ d _ _ _ _ shown c.f-order.result c.f-order.new.self
    (λ e is item. record { named = c._from_raw-p.result; item = _; names = c._from_raw-p.ensures ∙ sym is; shows = sym item; called = c.f-order.ensures })
    (sym c.is_eq.ensures ∙ c.if-is_eq.false) in
    let last = rw (rw (c.get-in-Some.ensures.value, c.get.ensures.value) at end) at next in
    record {
      found = rw (c.show-generation.ensures.counted, c._from_raw-p.ensures) (descent-ends _ c.args.probe.now.tree.now c.args.probe.now.distinct _ _ _ _ _ last);
      visits = within_bounds _ c.root-at.ensures.sound c.visits_law.ensures _ (omega (arith, last.descending.few, last.count, c.show-generation.ensures.counted));
      counted = omega (arith, last.count, c.show-generation.ensures.counted);
    }

pub returns-clause-descends : goal.returns-clause-descends
returns-clause-descends g c =
    let d = c.loop-at.invariant.descended in
    record {
      found = descent-ends _ c.args.probe.now.tree.now c.args.probe.now.distinct _ _ _ _ _ (rw c.in_default.is at d);
      visits = within_bounds _ c.root-at.ensures.sound c.visits_law.ensures _ (omega (arith, d.descending.few, d.count));
      counted = omega (arith, d.count);
    }
