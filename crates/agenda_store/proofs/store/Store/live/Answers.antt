use Rattle.std.proofs.Common.{◌≡◌, ◌∙◌, ◌+◌, ◌++◌, ◌∷◌, [], List, Vec, take, sym, subst, ap, rules}
use Rattle.std.specs.declared.alloc.Global.{Global}
use Rattle.sqlite_trees.specs.View.{IsClean}
use Rattle.job_table.specs.Plan.{Plan}
use Rattle.job_table.specs.Table.{rows_of}
use Rattle.job_table.proofs.CallerLemmas.{one_plan}
use Rattle.agenda_store.specs.declared.requests.Request.{Request}
use Rattle.agenda_store.specs.Requests.{after}
use Rattle.agenda_store.specs.History.{Batch, Replies, AreAnswered, IsHistory}
use Rattle.agenda_store.proofs.Histories.{history_more}
use Rattle.agenda_store.proofs.store.Store.live.Goals as goal

pub loop-session-preserved : goal.loop-session-preserved
loop-session-preserved g c =
    let i = c.loop-session.session-index in
    let ss = c.args.sessions.now in
    let first = c.args.self.now.plan in
    let mid = c.loop-session.self.plan in
    let new = c.reopen.new.self.plan in
    record {
      settled = λ clean settled. c.in_ok-reopen.ensures.settled clean;
      history = λ clean settled.
          let ended : IsClean (g.S.Store.view (rows_of c.session-replies.new.self.table)) = c.reopen.ensures.clean clean in
          let begun : IsClean (g.S.Store.view (rows_of c.loop-session.self.table)) = c.session-replies.ensures.clean ended in
          let before = c.loop-session.invariant.history begun settled in
          let left = c.in_ok-reopen.ensures.found clean in
          let some = c.session-replies.ensures.crash ended (c.loop-session.invariant.settled begun settled) left.trees left.left in
          let s = c.session-item.result in
          let told = c.session-replies.result.replies in
          let stood : new ≡ after (take some.count c.deref.result.now) mid = one_plan (left.trees 0) new (after (take some.count c.deref.result.now) mid) left.stands some.stands in
          let same : after (take some.count s.items) mid ≡ new = ap (λ (l : List (Vec Request Global)). after (take some.count l) mid) (sym c.deref.ensures.value) ∙ sym stood in
          let all_told = subst (λ (l : List Batch). AreAnswered l mid told.items) c.deref.ensures.value c.session-replies.ensures.replies in
          let items : c.push.new.self.items ≡ c.loop-session.told.items ++ told ∷ [] = search rules in
          let all = history_more ss i c.loop-session.told.items first mid s told some.count c.loop-session-test.true c.session-item.is all_told some.answered_or_one_more before in
          subst (λ (ns : List (Vec Replies Global)). IsHistory (take (i + 1) ss) ns first new) (sym items) (subst (λ (q : Plan). IsHistory (take (i + 1) ss) (c.loop-session.told.items ++ told ∷ []) first q) same all);
    }
