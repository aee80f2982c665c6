use Rattle.triple_ord.proofs.Stepping.{FindsSimilar-more, settled-similar, settled-near, open-near, unvisited, hinted-whole, named-unhinted}
use Rattle.triple_ord.proofs.NearEnds.{settled-answers, open-answers, missing-answers}
use Rattle.triple_ord.specs.Hint.{AnswersNear}
use Rattle.triple_ord.proofs.Words.{◌-◌, option_map, sym, subst, ◌∙◌, arith, rules, Tree, IsNearHint, taken}
use Rattle.triple_ord.proofs.arena.SimpleOrdArena.search_from.Goals as goal

pub returns-then-not-contains_inx : goal.returns-then-not-contains_inx
returns-then-not-contains_inx g c =
    record {
      found = c.search.ensures.found;
      visits = record { steps = 0; search = _; sum = omega arith; few = omega arith; within = omega arith; bounded = c.search.ensures.visits };
      distinct = c.search.ensures.distinct;
      unhinted = search rules;
      near = search rules;
      answers = missing-answers g.T.SimpleOrdItem.key_of g.T.Key.Ord.cmp _ _ _ _ _ g.P.BasePtr.numbers _ (sym (rw c.self.view_is at c.if-not-contains_inx.ensures));
    }

pub returns-then-is_some : goal.returns-then-is_some
returns-then-is_some g c =
    let near = c.step_along-near.ensures in
    let settled = sym c.is_some.ensures ∙ c.if-is_some.true in
    record {
      found = rw (← c.self.view_is, ← c.new-probe.ensures.tree, c.visits.ensures)
          (settled-similar g.T.SimpleOrdItem.key_of (taken c.args.ties g.T.Key.Ord.cmp) _ _ _ _ _ near.settled settled);
      visits = rw (← c.self.view_is, ← c.new-probe.ensures.tree, c.visits.ensures)
          (record { steps = c.step_along-near.new.probe.visits; search = 0; sum = omega arith; few = near.few; within = near.within; bounded = unvisited _ _ });
      distinct = rw (← c.self.view_is, ← c.new-probe.ensures.tree) c.new-probe.result.distinct;
      unhinted = named-unhinted _ _ (rw c.self.view_is at c.if-not-contains_inx.ensures);
      near = subst (λ (t : Tree g.row.T.Denot). IsNearHint g.T.SimpleOrdItem.key_of g.T.Key.Ord.cmp t.list.entries c.args.k.now (g.P.Inx.BasePtrInx.number c.args.p_init) c.args.num c.visits.result)
          (c.new-probe.ensures.tree ∙ c.self.view_is) (rw c.visits.ensures (settled-near _ _ _ _ _ _ _ _ near.near settled));
      answers = subst (λ (t : Tree g.row.T.Denot). AnswersNear g.T.SimpleOrdItem.key_of g.T.Key.Ord.cmp t.list.entries c.args.k.now (g.P.Inx.BasePtrInx.number c.args.p_init) c.args.num
          (option_map (λ a. (g.P.BasePtr.numbers a.0, a.1)) c.step_along-near.result)) (c.new-probe.ensures.tree ∙ c.self.view_is)
          (settled-answers g.T.SimpleOrdItem.key_of g.T.Key.Ord.cmp _ _ _ _ _ g.P.BasePtr.numbers _ near.ends settled);
    }

pub returns : goal.returns
returns g c =
    let near = c.step_along-near.ensures in
    let goes_on = sym c.is_some.ensures ∙ c.if-is_some.false in
    let found = rw near.tree at c.descend_by_key-found.ensures.found in
    let bounded = rw near.tree at c.descend_by_key-found.ensures.visits in
    record {
      found = rw (← c.self.view_is, ← c.new-probe.ensures.tree, c.visits-2.ensures)
          (FindsSimilar-more g.T.SimpleOrdItem.key_of (taken c.args.ties g.T.Key.Ord.cmp) _ _ _
          (c.descend_by_key-found.new.probe.visits - c.step_along-near.new.probe.visits) _ (omega arith) found);
      visits = rw (← c.self.view_is, ← c.new-probe.ensures.tree, c.visits-2.ensures) (hinted-whole _ _ _ _ _ near.few near.within c.descend_by_key-found.ensures.counted bounded);
      distinct = rw (← c.self.view_is, ← c.new-probe.ensures.tree) c.new-probe.result.distinct;
      unhinted = named-unhinted _ _ (rw c.self.view_is at c.if-not-contains_inx.ensures);
      near = subst (λ (t : Tree g.row.T.Denot). IsNearHint g.T.SimpleOrdItem.key_of g.T.Key.Ord.cmp t.list.entries c.args.k.now (g.P.Inx.BasePtrInx.number c.args.p_init) c.args.num c.visits-2.result)
          (c.new-probe.ensures.tree ∙ c.self.view_is) (open-near _ _ _ _ _ _ _ _ _ near.near goes_on);
      answers = subst (λ (t : Tree g.row.T.Denot). AnswersNear g.T.SimpleOrdItem.key_of g.T.Key.Ord.cmp t.list.entries c.args.k.now (g.P.Inx.BasePtrInx.number c.args.p_init) c.args.num
          (option_map (λ a. (g.P.BasePtr.numbers a.0, a.1)) c.descend_by_key-found.result)) (c.new-probe.ensures.tree ∙ c.self.view_is)
          (open-answers g.T.SimpleOrdItem.key_of g.T.Key.Ord.cmp _ _ _ _ _ g.P.BasePtr.numbers _ _ _ near.near goes_on);
    }
