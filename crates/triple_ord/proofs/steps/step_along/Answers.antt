use Rattle.triple_ord.proofs.Stepping.{stepping-begins, stepping-occupied, stepping-goes, stepping-order, stepping-settles, stepping-unequal, stepping-near, apart, alike}
use Rattle.triple_ord.proofs.NearEnds.{stepping-ends}
use Rattle.triple_ord.proofs.{Words.◌≡◌, Words.ℕ, Words.refl, Words.sym, Words.ap, Words.◌∙◌, Words.arith, Words.common_steps, Words.option_map, Words.taken, OrderLaws.taken-less, OrderLaws.taken-greater, OrderLaws.taken-equal, Inserting.equal_by}
use Rattle.triple_ord.proofs.steps.step_along.Goals.{in_default-via-in-Some+else-ne, in_default-via-in_default}
use Rattle.triple_ord.proofs.steps.step_along.Goals as goal

pub loop-step-init : goal.loop-step-init
loop-step-init g c = record {
  tree = refl;
  counted = c.requires.fresh;
  stepping = rw c.requires.fresh (stepping-begins _ _ _ _ c.args.probe.now.distinct _ c.requires.occupied);
}

pub show_link-generation-requires : goal.show_link-generation-requires
show_link-generation-requires g c = record {
  occupied = rw c.loop-step.invariant.tree (stepping-occupied _ _ _ _ c.args.probe.now.distinct _ _ _ _ c.loop-step.invariant.stepping);
  room = grind (arith, common_steps);
}

pub returns-in_default-clause-settled : goal.returns-in_default-clause-settled
returns-in_default-clause-settled g c =
    let linked = rw c.loop-step.invariant.tree at c.show_link-generation.ensures.shown.linked in
    let order = c.order-order.ensures ∙ ap (taken c.args.ties g.T.Key.Ord.cmp c.args.k.now) (c.key.ensures ∙ ap (λ l. g.T.SimpleOrdItem.key_of l.item.t) c.link.view_is) in
    let named : ◌≡◌ {A = ℕ × ℕ} (g.P.BasePtr.numbers c._from_raw.result) (g.P.Inx.BasePtrInx.number c.loop-step.at, g.P.Gen.BasePtrGen.number c.show_link-generation.result.0) = (cc) in
    rw (c.show_link-generation.ensures.counted, named)
    (stepping-settles _ _ _ _ c.args.probe.now.distinct _ _ _ _ c.loop-step.invariant.stepping _ _ linked _ order (sym c.is_eq.ensures ∙ c.if-is_eq.false)
    (rw (← c.towards.ensures)
    (elim c.in_default.branch [
      | in_default-via-in-Some+else-ne w ↦ rw w.in-Some.is (alike _ _ (rw w.reverse.ensures at (sym w.ne.ensures ∙ w.if-ne.false)))
      | in_default-via-in_default w ↦ rw w.in_default.is tt
    ])))

pub returns-in_default-clause-near : goal.returns-in_default-clause-near
returns-in_default-clause-near g c = λ ordered gap fits. rw c.show_link-generation.ensures.counted
    (stepping-near _ _ _ _ c.args.probe.now.distinct _ _ _ _ c.loop-step.invariant.stepping _ g.met.T.Key.Ord.total ordered gap fits
    (λ o. taken-less _ _ o c.args.ties) (λ o. taken-greater _ _ o c.args.ties))

pub returns-in_default-clause-ends : goal.returns-in_default-clause-ends
returns-in_default-clause-ends g c = λ ordered gap fits.
    let linked = rw c.loop-step.invariant.tree at c.show_link-generation.ensures.shown.linked in
    let order = c.order-order.ensures ∙ ap (taken c.args.ties g.T.Key.Ord.cmp c.args.k.now) (c.key.ensures ∙ ap (λ l. g.T.SimpleOrdItem.key_of l.item.t) c.link.view_is) in
    let named : ◌≡◌ {A = ℕ × ℕ} (g.P.BasePtr.numbers c._from_raw.result) (g.P.Inx.BasePtrInx.number c.loop-step.at, g.P.Gen.BasePtrGen.number c.show_link-generation.result.0) = (cc) in
    rw named
    (stepping-ends _ _ _ _ c.args.probe.now.distinct _ _ _ _ c.loop-step.invariant.stepping _ _ linked _ g.met.T.Key.Ord.total ordered gap fits
    (λ o. taken-less _ _ o c.args.ties) (λ o. taken-greater _ _ o c.args.ties) _ order (sym c.is_eq.ensures ∙ c.if-is_eq.false)
    (rw (← c.towards.ensures)
    (elim c.in_default.branch [
      | in_default-via-in-Some+else-ne w ↦ rw w.in-Some.is (alike _ _ (rw w.reverse.ensures at (sym w.ne.ensures ∙ w.if-ne.false)))
      | in_default-via-in_default w ↦ rw w.in_default.is tt
    ])))

pub loop-step-preserved : goal.loop-step-preserved
loop-step-preserved g c =
    let linked = rw c.loop-step.invariant.tree at c.show_link-generation.ensures.shown.linked in
    let order = c.order-order.ensures ∙ ap (taken c.args.ties g.T.Key.Ord.cmp c.args.k.now) (c.key.ensures ∙ ap (λ l. g.T.SimpleOrdItem.key_of l.item.t) c.link.view_is) in
    record {
      tree = c.show_link-generation.ensures.tree ∙ c.loop-step.invariant.tree;
      counted = omega (arith, c.show_link-generation.ensures.counted, c.loop-step.invariant.counted);
      stepping = rw c.show_link-generation.ensures.counted
          (stepping-goes _ _ _ _ c.args.probe.now.distinct _ _ _ _ c.loop-step.invariant.stepping _ _ linked _ order _
          (sym c.towards.ensures ∙ ap (option_map g.P.Inx.BasePtrInx.number) c.in-Some.is) (apart _ _ (rw c.reverse.ensures at (sym c.ne.ensures ∙ c.if-ne.true))));
    }

pub returns-clause-near : goal.returns-clause-near
returns-clause-near g c = λ ordered gap fits.
    let near = stepping-near _ _ _ _ c.args.probe.now.distinct _ _ _ _ c.loop-step.invariant.stepping _ g.met.T.Key.Ord.total ordered gap fits
    (λ o. taken-less _ _ o c.args.ties) (λ o. taken-greater _ _ o c.args.ties) in
    omega (arith, near, c.loop-step-test.false, c.loop-step.invariant.counted)

pub returns-then-is_eq-clause-near : goal.returns-then-is_eq-clause-near
returns-then-is_eq-clause-near g c = λ ordered gap fits.
    let linked = rw c.loop-step.invariant.tree at c.show_link-generation.ensures.shown.linked in
    let order = c.order-order.ensures ∙ ap (taken c.args.ties g.T.Key.Ord.cmp c.args.k.now) (c.key.ensures ∙ ap (λ l. g.T.SimpleOrdItem.key_of l.item.t) c.link.view_is) in
    let equal = stepping-order _ _ _ _ c.args.probe.now.distinct _ _ _ _ c.loop-step.invariant.stepping _ _ linked _ order ∙ equal_by _ (sym c.is_eq.ensures ∙ c.if-is_eq.true) in
    absurd (stepping-unequal _ _ _ _ c.args.probe.now.distinct _ _ _ _ c.loop-step.invariant.stepping _ g.met.T.Key.Ord.total ordered gap fits (taken-equal _ _ _ c.args.ties equal))
