use Rattle.std.proofs.Common.{◌≡◌, [], length, IfSome, IfNone, arith, ap, sym, subst, ◌∙◌}
use Rattle.triple_ord.specs.PastEquals.{order_past_equals}
use Rattle.leaf_list.specs.{Before.is_passed, Parts.StopsBeside}
use Rattle.leaf_list.proofs.{Storing.length-stored, Visiting.few-visits}
use Rattle.leaf_list.proofs.Searching.{stops-found, none-found, less-fails, greater-passes, equal-fails, past-less, past-greater, past-equal}
use Rattle.leaf_list.proofs.store.LeafStore.nearest.Goals as goal

pub returns-then-with_equals-clause-empty : goal.returns-then-with_equals-clause-empty
returns-then-with_equals-clause-empty g c =
    subst (λ ls. IfNone c.end_of.result (ls ≡ [])) (ap (λ a. a.leaves) c.self.view_is) (none-found g.P.Inx.BasePtrInx.number c.self.inside.rows.items (order_past_equals g.K.Ord.cmp) (λ key. is_passed c.args.with_equals (g.K.Ord.cmp c.args.k.now key)) c.args.k.now (λ x is. rw c.if-with_equals.true (past-less g.K.Ord.cmp c.args.k.now x is)) (λ x is. rw c.if-with_equals.true (past-greater g.K.Ord.cmp c.args.k.now x is)) (λ x is. rw c.if-with_equals.true (past-equal g.K.Ord.cmp c.args.k.now x is)) c.self.inside.index.list.entries g.P.BasePtr.numbers g.P.Inx.BasePtrInx.number c.find_behind_key_counted-found.result.0 c.end_of.result c.find_behind_key_counted-found.result.1 c.end_of.ensures c.find_behind_key_counted-found.ensures.found)

pub returns-then-with_equals-clause-stops : goal.returns-then-with_equals-clause-stops
returns-then-with_equals-clause-stops g c =
    subst (λ ls. IfSome c.end_of.result (λ f. StopsBeside (λ key. is_passed c.args.with_equals (g.K.Ord.cmp c.args.k.now key)) ls (g.P.Inx.BasePtrInx.number f.0) f.1)) (ap (λ a. a.leaves) c.self.view_is) (stops-found g.P.Inx.BasePtrInx.number c.self.inside.rows.items (order_past_equals g.K.Ord.cmp) (λ key. is_passed c.args.with_equals (g.K.Ord.cmp c.args.k.now key)) c.args.k.now (λ x is. rw c.if-with_equals.true (past-less g.K.Ord.cmp c.args.k.now x is)) (λ x is. rw c.if-with_equals.true (past-greater g.K.Ord.cmp c.args.k.now x is)) (λ x is. rw c.if-with_equals.true (past-equal g.K.Ord.cmp c.args.k.now x is)) c.self.inside.index.list.entries g.P.BasePtr.numbers g.P.Inx.BasePtrInx.number c.find_behind_key_counted-found.result.0 c.end_of.result c.find_behind_key_counted-found.result.1 c.end_of.ensures c.find_behind_key_counted-found.ensures.found)

pub returns-then-with_equals-clause-visits : goal.returns-then-with_equals-clause-visits
returns-then-with_equals-clause-visits g c =
    let size : length c.args.self.now.leaves ≡ length c.self.inside.index.list.entries = ap length (sym (ap (λ a. a.leaves) c.self.view_is)) ∙ length-stored g.P.Inx.BasePtrInx.number c.self.inside.index.list.entries c.self.inside.rows.items in
    rw (size, c.count.ensures) c.find_behind_key_counted-found.ensures.visits.ranked

pub returns-then-with_equals-clause-none : goal.returns-then-with_equals-clause-none
returns-then-with_equals-clause-none g c =
    let size : length c.args.self.now.leaves ≡ length c.self.inside.index.list.entries = ap length (sym (ap (λ a. a.leaves) c.self.view_is)) ∙ length-stored g.P.Inx.BasePtrInx.number c.self.inside.index.list.entries c.self.inside.rows.items in
    rw (size, c.count.ensures) c.find_behind_key_counted-found.ensures.visits.empty

pub returns-then-with_equals-clause-few : goal.returns-then-with_equals-clause-few
returns-then-with_equals-clause-few g c =
    rw c.count.ensures (few-visits c.find_behind_key_counted-found.result.1 (length c.self.inside.index.list.entries) c.find_behind_key_counted-found.ensures.visits.ranked c.find_behind_key_counted-found.ensures.visits.empty (omega (arith, c.len.ensures.sound.counted, c.self.invariant.fits)))

pub returns-else-with_equals-clause-empty : goal.returns-else-with_equals-clause-empty
returns-else-with_equals-clause-empty g c =
    subst (λ ls. IfNone c.end_of-else-with_equals.result (ls ≡ [])) (ap (λ a. a.leaves) c.self.view_is) (none-found g.P.Inx.BasePtrInx.number c.self.inside.rows.items g.K.Ord.cmp (λ key. is_passed c.args.with_equals (g.K.Ord.cmp c.args.k.now key)) c.args.k.now (λ x is. less-fails c.args.with_equals (g.K.Ord.cmp c.args.k.now x) is) (λ x is. greater-passes c.args.with_equals (g.K.Ord.cmp c.args.k.now x) is) (λ x is. rw c.if-with_equals.false (equal-fails (g.K.Ord.cmp c.args.k.now x) is)) c.self.inside.index.list.entries g.P.BasePtr.numbers g.P.Inx.BasePtrInx.number c.find_similar_key_counted-found.result.0 c.end_of-else-with_equals.result c.find_similar_key_counted-found.result.1 c.end_of-else-with_equals.ensures c.find_similar_key_counted-found.ensures.found)

pub returns-else-with_equals-clause-stops : goal.returns-else-with_equals-clause-stops
returns-else-with_equals-clause-stops g c =
    subst (λ ls. IfSome c.end_of-else-with_equals.result (λ f. StopsBeside (λ key. is_passed c.args.with_equals (g.K.Ord.cmp c.args.k.now key)) ls (g.P.Inx.BasePtrInx.number f.0) f.1)) (ap (λ a. a.leaves) c.self.view_is) (stops-found g.P.Inx.BasePtrInx.number c.self.inside.rows.items g.K.Ord.cmp (λ key. is_passed c.args.with_equals (g.K.Ord.cmp c.args.k.now key)) c.args.k.now (λ x is. less-fails c.args.with_equals (g.K.Ord.cmp c.args.k.now x) is) (λ x is. greater-passes c.args.with_equals (g.K.Ord.cmp c.args.k.now x) is) (λ x is. rw c.if-with_equals.false (equal-fails (g.K.Ord.cmp c.args.k.now x) is)) c.self.inside.index.list.entries g.P.BasePtr.numbers g.P.Inx.BasePtrInx.number c.find_similar_key_counted-found.result.0 c.end_of-else-with_equals.result c.find_similar_key_counted-found.result.1 c.end_of-else-with_equals.ensures c.find_similar_key_counted-found.ensures.found)

pub returns-else-with_equals-clause-visits : goal.returns-else-with_equals-clause-visits
returns-else-with_equals-clause-visits g c =
    let size : length c.args.self.now.leaves ≡ length c.self.inside.index.list.entries = ap length (sym (ap (λ a. a.leaves) c.self.view_is)) ∙ length-stored g.P.Inx.BasePtrInx.number c.self.inside.index.list.entries c.self.inside.rows.items in
    rw (size, c.count-else-with_equals.ensures) c.find_similar_key_counted-found.ensures.visits.ranked

pub returns-else-with_equals-clause-none : goal.returns-else-with_equals-clause-none
returns-else-with_equals-clause-none g c =
    let size : length c.args.self.now.leaves ≡ length c.self.inside.index.list.entries = ap length (sym (ap (λ a. a.leaves) c.self.view_is)) ∙ length-stored g.P.Inx.BasePtrInx.number c.self.inside.index.list.entries c.self.inside.rows.items in
    rw (size, c.count-else-with_equals.ensures) c.find_similar_key_counted-found.ensures.visits.empty

pub returns-else-with_equals-clause-few : goal.returns-else-with_equals-clause-few
returns-else-with_equals-clause-few g c =
    rw c.count-else-with_equals.ensures (few-visits c.find_similar_key_counted-found.result.1 (length c.self.inside.index.list.entries) c.find_similar_key_counted-found.ensures.visits.ranked c.find_similar_key_counted-found.ensures.visits.empty (omega (arith, c.len.ensures.sound.counted, c.self.invariant.fits)))
