use Rattle.std.proofs.Common.{◌≡◌, ◌++◌, ◌∷◌, [], List, Some, rules, refl}
use Rattle.agenda_store.specs.Plan.{Job, first_due, without_due}
use Rattle.agenda_store.specs.Store.{owned}
use Rattle.jobs.specs.Showing.{HasShown}
use Rattle.jobs.proofs.Popping.{popped_more}
use Rattle.jobs.proofs.answer.pop_due.Goals as goal

pub jobs-init : goal.jobs-init
jobs-init g c = record {
  popped = record { jobs = []; pops = refl; shows = c.new-shown.ensures c.args.style };
  clean = λ clean. clean;
  crash = λ trees h. h;
}

pub jobs-preserved : goal.jobs-preserved
jobs-preserved g c =
    let now = c.args.now in
    let style = c.args.style in
    let mid = c.jobs.store.plan in
    let new = c.pop_due.new.self.plan in
    let job = owned c.in-Ok-Some.job in
    let due : first_due now mid.jobs ≡ Some job = search rules in
    let left : new ≡ without_due now mid = search rules in
    let more : (jobs : List Job) → HasShown style c.jobs.shown jobs → HasShown style c.push.new.self (jobs ++ job ∷ []) = search rules in
    record {
      popped = popped_more style now c.args.store.now.plan mid new job c.jobs.shown c.push.new.self c.jobs.invariant.popped due left more;
      clean = search rules;
      crash = search rules;
    }
