use Rattle.std.proofs.Common.{◌≡◌, [], true, false, length, IfSome, IfNone, arith, ap, subst}
use Rattle.leaf_list.specs.{Before.is_passed, Parts.LeadsTo}
use Rattle.leaf_list.proofs.Bounding.{lead-has, gap-first, gap-in, index-visits, row-visits, none-visited}
use Rattle.leaf_list.proofs.list.LeafList.gap.Goals as goal

pub returns-in_default-clause-empty : goal.returns-in_default-clause-empty
returns-in_default-clause-empty g c =
    rw (← c.self.view_is) (subst (λ o. IfNone o (c.self.inside.store.leaves ≡ [])) c.in_default.is c.find-found.ensures.empty)

pub returns-in_default-clause-visits : goal.returns-in_default-clause-visits
returns-in_default-clause-visits g c =
    rw (← c.self.view_is) (index-visits c.self.inside.store.leaves c.find-found.result.1 c.room.ensures.apart c.find-found.ensures.visits)

pub returns-in_default-clause-none : goal.returns-in_default-clause-none
returns-in_default-clause-none g c =
    λ _. c.find-found.ensures.none (ap length (subst (λ o. IfNone o (c.self.inside.store.leaves ≡ [])) c.in_default.is c.find-found.ensures.empty))

pub returns-then-is_behind-clause-leaf : goal.returns-then-is_behind-clause-leaf
returns-then-is_behind-clause-leaf g c =
    let leads = subst (λ o. IfSome o (λ f. LeadsTo (λ key. is_passed c.args.with_equals (g.K.Ord.cmp c.args.k.now key)) c.self.inside.store.leaves (g.P.Inx.BasePtrInx.number f.0) f.1)) c.in-Some.is c.find-found.ensures.leads in
    rw (← c.self.view_is) (lead-has (λ key. is_passed c.args.with_equals (g.K.Ord.cmp c.args.k.now key)) c.self.inside.store.leaves (g.P.Inx.BasePtrInx.number c.in-Some.lead.0) c.in-Some.lead.1 c.room.ensures.apart leads)

pub returns-then-is_behind-clause-point : goal.returns-then-is_behind-clause-point
returns-then-is_behind-clause-point g c =
    let leads = subst (λ o. IfSome o (λ f. LeadsTo (λ key. is_passed c.args.with_equals (g.K.Ord.cmp c.args.k.now key)) c.self.inside.store.leaves (g.P.Inx.BasePtrInx.number f.0) f.1)) c.in-Some.is c.find-found.ensures.leads in
    let leads_is : LeadsTo (λ key. is_passed c.args.with_equals (g.K.Ord.cmp c.args.k.now key)) c.self.inside.store.leaves (g.P.Inx.BasePtrInx.number c.in-Some.lead.0) true = subst (λ b. LeadsTo (λ key. is_passed c.args.with_equals (g.K.Ord.cmp c.args.k.now key)) c.self.inside.store.leaves (g.P.Inx.BasePtrInx.number c.in-Some.lead.0) b) c.if-is_behind.true leads in
    rw (← c.self.view_is) (gap-first g.K.Ord.cmp g.met.K.Ord.total c.args.with_equals c.args.k.now c.self.inside.store.leaves c.self.invariant c.room.ensures.apart (g.P.Inx.BasePtrInx.number c.in-Some.lead.0) leads_is)

pub returns-then-is_behind-clause-visits : goal.returns-then-is_behind-clause-visits
returns-then-is_behind-clause-visits g c =
    rw (← c.self.view_is) (index-visits c.self.inside.store.leaves c.find-found.result.1 c.room.ensures.apart c.find-found.ensures.visits)

pub returns-then-is_behind-clause-none : goal.returns-then-is_behind-clause-none
returns-then-is_behind-clause-none g c =
    let leads = subst (λ o. IfSome o (λ f. LeadsTo (λ key. is_passed c.args.with_equals (g.K.Ord.cmp c.args.k.now key)) c.self.inside.store.leaves (g.P.Inx.BasePtrInx.number f.0) f.1)) c.in-Some.is c.find-found.ensures.leads in
    rw (← c.self.view_is) (none-visited c.self.inside.store.leaves (g.P.Inx.BasePtrInx.number c.in-Some.lead.0) (lead-has (λ key. is_passed c.args.with_equals (g.K.Ord.cmp c.args.k.now key)) c.self.inside.store.leaves (g.P.Inx.BasePtrInx.number c.in-Some.lead.0) c.in-Some.lead.1 c.room.ensures.apart leads))

pub count_before-n-requires : goal.count_before-n-requires
count_before-n-requires g c =
    let leads = subst (λ o. IfSome o (λ f. LeadsTo (λ key. is_passed c.args.with_equals (g.K.Ord.cmp c.args.k.now key)) c.self.inside.store.leaves (g.P.Inx.BasePtrInx.number f.0) f.1)) c.in-Some.is c.find-found.ensures.leads in
    lead-has (λ key. is_passed c.args.with_equals (g.K.Ord.cmp c.args.k.now key)) c.self.inside.store.leaves (g.P.Inx.BasePtrInx.number c.in-Some.lead.0) c.in-Some.lead.1 c.room.ensures.apart leads

pub overflow_add-gap : goal.overflow_add-gap
overflow_add-gap g c =
    omega (arith, c.count_before-n.ensures.within, c.count_before-n.ensures.few)

pub overflow_add-result : goal.overflow_add-result
overflow_add-result g c =
    omega (arith, c.count_before-n.ensures.within, c.count_before-n.ensures.few, c.find-found.ensures.few)

pub returns-clause-leaf : goal.returns-clause-leaf
returns-clause-leaf g c =
    let leads = subst (λ o. IfSome o (λ f. LeadsTo (λ key. is_passed c.args.with_equals (g.K.Ord.cmp c.args.k.now key)) c.self.inside.store.leaves (g.P.Inx.BasePtrInx.number f.0) f.1)) c.in-Some.is c.find-found.ensures.leads in
    rw (← c.self.view_is) (lead-has (λ key. is_passed c.args.with_equals (g.K.Ord.cmp c.args.k.now key)) c.self.inside.store.leaves (g.P.Inx.BasePtrInx.number c.in-Some.lead.0) c.in-Some.lead.1 c.room.ensures.apart leads)

pub returns-clause-within : goal.returns-clause-within
returns-clause-within g c =
    rw (← c.self.view_is) c.count_before-n.ensures.within

pub returns-clause-point : goal.returns-clause-point
returns-clause-point g c =
    let leads = subst (λ o. IfSome o (λ f. LeadsTo (λ key. is_passed c.args.with_equals (g.K.Ord.cmp c.args.k.now key)) c.self.inside.store.leaves (g.P.Inx.BasePtrInx.number f.0) f.1)) c.in-Some.is c.find-found.ensures.leads in
    let leads_is : LeadsTo (λ key. is_passed c.args.with_equals (g.K.Ord.cmp c.args.k.now key)) c.self.inside.store.leaves (g.P.Inx.BasePtrInx.number c.in-Some.lead.0) false = subst (λ b. LeadsTo (λ key. is_passed c.args.with_equals (g.K.Ord.cmp c.args.k.now key)) c.self.inside.store.leaves (g.P.Inx.BasePtrInx.number c.in-Some.lead.0) b) c.if-is_behind.false leads in
    rw (← c.self.view_is) (gap-in g.K.Ord.cmp g.met.K.Ord.total c.args.with_equals c.args.k.now c.self.inside.store.leaves c.self.invariant c.room.ensures.apart (g.P.Inx.BasePtrInx.number c.in-Some.lead.0) leads_is c.count_before-n.result.0 c.count_before-n.ensures.point)

pub returns-clause-visits : goal.returns-clause-visits
returns-clause-visits g c =
    let leads = subst (λ o. IfSome o (λ f. LeadsTo (λ key. is_passed c.args.with_equals (g.K.Ord.cmp c.args.k.now key)) c.self.inside.store.leaves (g.P.Inx.BasePtrInx.number f.0) f.1)) c.in-Some.is c.find-found.ensures.leads in
    rw (← c.self.view_is) (λ _. row-visits c.self.inside.store.leaves (g.P.Inx.BasePtrInx.number c.in-Some.lead.0) c.find-found.result.1 c.count_before-n.result.1 c.room.ensures.apart c.self.invariant.filled (lead-has (λ key. is_passed c.args.with_equals (g.K.Ord.cmp c.args.k.now key)) c.self.inside.store.leaves (g.P.Inx.BasePtrInx.number c.in-Some.lead.0) c.in-Some.lead.1 c.room.ensures.apart leads) c.find-found.ensures.visits c.count_before-n.ensures.visits c.count_before-n.ensures.few)

pub returns-clause-none : goal.returns-clause-none
returns-clause-none g c =
    let leads = subst (λ o. IfSome o (λ f. LeadsTo (λ key. is_passed c.args.with_equals (g.K.Ord.cmp c.args.k.now key)) c.self.inside.store.leaves (g.P.Inx.BasePtrInx.number f.0) f.1)) c.in-Some.is c.find-found.ensures.leads in
    rw (← c.self.view_is) (none-visited c.self.inside.store.leaves (g.P.Inx.BasePtrInx.number c.in-Some.lead.0) (lead-has (λ key. is_passed c.args.with_equals (g.K.Ord.cmp c.args.k.now key)) c.self.inside.store.leaves (g.P.Inx.BasePtrInx.number c.in-Some.lead.0) c.in-Some.lead.1 c.room.ensures.apart leads))
