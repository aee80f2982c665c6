use Rattle.std.proofs.Common.{◌≡◌, [], IfSome, IfNone, subst}
use Rattle.leaf_list.specs.{Before.is_passed, Parts.StopsBeside}
use Rattle.leaf_list.proofs.Searching.{stops-has, leads-of}
use Rattle.leaf_list.proofs.store.LeafStore.find.Goals as goal

pub returns-in_default-clause-empty : goal.returns-in_default-clause-empty
returns-in_default-clause-empty g c =
    subst (λ o. IfNone o (c.args.self.now.leaves ≡ [])) c.in_default.is c.nearest-visits.ensures.empty

pub returns-in_default-clause-visits : goal.returns-in_default-clause-visits
returns-in_default-clause-visits g c =
    c.nearest-visits.ensures.visits

pub returns-in_default-clause-none : goal.returns-in_default-clause-none
returns-in_default-clause-none g c =
    c.nearest-visits.ensures.none

pub returns-in_default-clause-few : goal.returns-in_default-clause-few
returns-in_default-clause-few g c =
    c.nearest-visits.ensures.few

pub before-before-requires : goal.before-before-requires
before-before-requires g c =
    let stops = subst (λ o. IfSome o (λ f. StopsBeside (λ key. is_passed c.args.with_equals (g.K.Ord.cmp c.args.k.now key)) c.args.self.now.leaves (g.P.Inx.BasePtrInx.number f.0) f.1)) c.in-Some.is c.nearest-visits.ensures.stops in
    stops-has (λ key. is_passed c.args.with_equals (g.K.Ord.cmp c.args.k.now key)) c.args.self.now.leaves c.room.ensures.apart _ _ stops

pub returns-clause-leads : goal.returns-clause-leads
returns-clause-leads g c =
    let stops = subst (λ o. IfSome o (λ f. StopsBeside (λ key. is_passed c.args.with_equals (g.K.Ord.cmp c.args.k.now key)) c.args.self.now.leaves (g.P.Inx.BasePtrInx.number f.0) f.1)) c.in-Some.is c.nearest-visits.ensures.stops in
    rw c.lead_from.ensures (leads-of (λ key. is_passed c.args.with_equals (g.K.Ord.cmp c.args.k.now key)) c.args.self.now.leaves c.room.ensures.apart g.P.Inx.BasePtrInx.number c.in-Some.end.0 c.in-Some.end.1 c.before-before.result c.before-before.ensures.value stops)

pub returns-clause-visits : goal.returns-clause-visits
returns-clause-visits g c =
    c.nearest-visits.ensures.visits

pub returns-clause-none : goal.returns-clause-none
returns-clause-none g c =
    c.nearest-visits.ensures.none

pub returns-clause-few : goal.returns-clause-few
returns-clause-few g c =
    c.nearest-visits.ensures.few
