use Rattle.std.proofs.Common.{◌≡◌, ◌∙◌, ◌+◌, ◌++◌, ◌∷◌, [], inl, inr, ℕ, List, take, length, length-append, sym, subst, ap}
use Rattle.job_table.specs.Plan.{Plan}
use Rattle.job_table.specs.Table.{TreesStandFor}
use Rattle.agenda_store.specs.declared.requests.Request.{Request}
use Rattle.agenda_store.specs.Requests.{answered_all, after, AllReply}
use Rattle.agenda_store.specs.History.{Replies, AreAnswered}
use Rattle.agenda_store.proofs.Answered.{answered_more}
use Rattle.agenda_store.proofs.Batches.{after_next}
use Rattle.agenda_store.proofs.Replying.{kept_on_err, grown_on_ok}
use Rattle.agenda_store.proofs.store.Store.session.Goals as goal

pub returns-in-Err-clause-crash : goal.returns-in-Err-clause-crash
returns-in-Err-clause-crash g c clean settled trees h =
    let mid = c.loop-batch.self in
    let xs = c.args.batches.now in
    let p = c.args.self.now.plan in
    let i = c.loop-batch.batch-index in
    let count = c.loop-batch.invariant.count in
    let plan = c.loop-batch.invariant.plan in
    let was = c.loop-batch.invariant.settled (c.run.ensures.clean clean) settled in
    let more : answered_all c.deref.result.now mid.plan ≡ after (take (i + 1) xs) p =
    ap (λ (l : List Request). answered_all l mid.plan) c.deref.ensures.value ∙ ap (λ (q : Plan). answered_all c.batch-item.result.items q) plan
    ∙ sym (after_next xs i c.batch-item.result c.loop-batch-test.true c.batch-item.is p) in
    elim (c.run.ensures.crash clean trees h) [
      | inl new ↦ record { count = i + 1; answered_or_one_more = inr (ap (λ (k : ℕ). k + 1) (sym count)); stands = subst (TreesStandFor trees) more new }
      | inr old ↦ record { count = i; answered_or_one_more = inl (sym count); stands = subst (TreesStandFor trees) plan (was trees old) }
    ]

pub returns-then-is_err-clause-crash : goal.returns-then-is_err-clause-crash
returns-then-is_err-clause-crash g c clean settled trees h =
    let mid = c.loop-batch.self in
    let xs = c.args.batches.now in
    let p = c.args.self.now.plan in
    let i = c.loop-batch.batch-index in
    let items = c.push.ensures.items ∙ kept_on_err c.push.result _ _ (sym c.is_err.ensures.value ∙ c.if-is_err.true) in
    let more : answered_all c.deref.result.now mid.plan ≡ after (take (i + 1) xs) p =
    ap (λ (l : List Request). answered_all l mid.plan) c.deref.ensures.value ∙ ap (λ (q : Plan). answered_all c.batch-item.result.items q) c.loop-batch.invariant.plan
    ∙ sym (after_next xs i c.batch-item.result c.loop-batch-test.true c.batch-item.is p) in
    record {
      count = i + 1;
      answered_or_one_more = inr (ap (λ (k : ℕ). k + 1) (sym (ap (λ (l : List Replies). length l) items ∙ c.loop-batch.invariant.count)));
      stands = subst (TreesStandFor trees) more (c.in-Ok.ensures.durable clean trees h);
    }

pub loop-batch-preserved : goal.loop-batch-preserved
loop-batch-preserved g c =
    let mid = c.loop-batch.self in
    let xs = c.args.batches.now in
    let p = c.args.self.now.plan in
    let i = c.loop-batch.batch-index in
    let told = c.loop-batch.replies.items in
    let replies = c.in-Ok.answers in
    let count = c.loop-batch.invariant.count in
    let plan = c.loop-batch.invariant.plan in
    let items : c.push.new.self.items ≡ told ++ replies ∷ [] = c.push.ensures.items ∙ grown_on_ok c.push.result _ _ (sym c.is_err.ensures.value ∙ c.if-is_err.false) in
    let now : c.run.new.self.plan ≡ answered_all c.deref.result.now mid.plan = c.in-Ok.ensures.plan in
    let more : answered_all c.deref.result.now mid.plan ≡ after (take (i + 1) xs) p =
    ap (λ (l : List Request). answered_all l mid.plan) c.deref.ensures.value ∙ ap (λ (q : Plan). answered_all c.batch-item.result.items q) plan
    ∙ sym (after_next xs i c.batch-item.result c.loop-batch-test.true c.batch-item.is p) in
    let one : AllReply c.batch-item.result.items (after (take i xs) p) replies.items =
    subst (λ (l : List Request). AllReply l (after (take i xs) p) replies.items) c.deref.ensures.value
    (subst (λ (q : Plan). AllReply c.deref.result.now q replies.items) plan c.in-Ok.ensures.replies) in
    record {
      count = ap (λ (l : List Replies). length l) items ∙ length-append told (replies ∷ []) ∙ ap (λ (k : ℕ). k + 1) count;
      replies = subst (AreAnswered xs p) (sym items)
          (answered_more xs p told i c.batch-item.result replies c.loop-batch-test.true c.batch-item.is count c.loop-batch.invariant.replies one);
      plan = now ∙ more;
      clean = λ clean. c.loop-batch.invariant.clean (c.run.ensures.clean clean);
      settled = λ clean settled trees h. subst (TreesStandFor trees) (sym now) (c.in-Ok.ensures.durable clean trees h);
    }
