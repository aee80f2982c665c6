use Rattle.std.proofs.Common.{◌≡◌, ◌∙◌, ◌+◌, ◌++◌, ◌∷◌, [], inl, List, drop, sym, ap, subst, rules}
use Rattle.job_table.specs.Table.{TreesStandFor}
use Rattle.agenda_store.specs.Requests.{answered_all, AllReply}
use Rattle.agenda_store.specs.declared.requests.Request.{Request}
use Rattle.agenda_store.specs.declared.requests.Reply.{Reply}
use Rattle.agenda_store.proofs.Replying.{plus_none, nothing_left, next_left, reply_more}
use Rattle.agenda_store.proofs.store.Store.answer_all.Goals as goal

pub loop-request-preserved : goal.loop-request-preserved
loop-request-preserved g c =
    let xs = c.args.requests.now in
    let i = c.loop-request.request-index in
    let x = c.request-item.result in
    let mid = c.loop-request.self.plan in
    let new = c.answer.new.self.plan in
    let reply = c.in_ok-reply.reply in
    let items : c.push.new.self.items ≡ c.loop-request.replies.items ++ reply ∷ [] = search rules in
    record {
      replies = subst (λ (l : List Reply). (more : List Reply) → AllReply (drop (i + 1) xs) new more → AllReply xs c.args.self.now.plan (l ++ more)) (sym items)
          (reply_more xs i x c.args.self.now.plan mid new c.loop-request.replies.items reply c.loop-request-test.true c.request-item.is c.loop-request.invariant.replies
          c.in_ok-reply.ensures.reply c.in_ok-reply.ensures.plan);
      plan = ap (answered_all (drop (i + 1) xs)) c.in_ok-reply.ensures.plan
          ∙ ap (λ (l : List Request). answered_all l mid) (sym (next_left xs i x c.loop-request-test.true c.request-item.is)) ∙ c.loop-request.invariant.plan;
      clean = λ clean. c.loop-request.invariant.clean (c.answer.ensures.clean clean);
      crash = λ trees h. c.loop-request.invariant.crash trees (c.answer.ensures.crash trees h);
    }

pub returns-clause-replies : goal.returns-clause-replies
returns-clause-replies g c =
    let xs = c.args.requests.now in
    let i = c.loop-request.request-index in
    let ended : drop i xs ≡ [] = nothing_left xs i c.loop-request-test.false in
    let mid = c.loop-request.self.plan in
    let all = c.loop-request.invariant.replies [] (subst (λ (l : List Request). AllReply l mid []) (sym ended) tt) in
    subst (AllReply xs c.args.self.now.plan) (plus_none c.loop-request.replies.items) all

pub returns-clause-durable : goal.returns-clause-durable
returns-clause-durable g c clean trees h =
    let xs = c.args.requests.now in
    let ended : drop c.loop-request.request-index xs ≡ [] = nothing_left xs c.loop-request.request-index c.loop-request-test.false in
    let plan = c.commit.ensures.plan ∙ sym (ap (λ (l : List Request). answered_all l c.loop-request.self.plan) ended) ∙ c.loop-request.invariant.plan in
    subst (TreesStandFor trees) plan (c.in_ok-commit.ensures.durable clean trees h)

pub returns-clause-crash : goal.returns-clause-crash
returns-clause-crash g c clean trees h = inl (returns-clause-durable g c clean trees h)
