use Rattle.std.proofs.Common.{◌≡◌, ◌∙◌, ℕ, List, ap, rules}
use Rattle.job_table.specs.Plan.{Job, Plan, kept}
use Rattle.job_table.specs.Entries.{job_of}
use Rattle.agenda_store.specs.Planner.{plan_of}
use Rattle.agenda_store.proofs.Building.{put_next}
use Rattle.agenda_store.proofs.store.build.Goals as goal

abbrev with_bytes : ℕ → ℕ → ℕ → List ℕ → Job
with_bytes id deadline attempts bytes = record { id = id; deadline = deadline; attempts = attempts; bytes = bytes }

abbrev plan_with : ℕ → List Job → Plan
plan_with next jobs = record { jobs = jobs; next = next }

pub loop-entry-preserved : goal.loop-entry-preserved
loop-entry-preserved c =
    let e = c.entry-item.result in
    let i = c.loop-entry.entry-index in
    let xs = c.args.entries.now in
    let has = c.in_ok-keep.ensures.plan in
    record {
      linked = has.linked;
      plan = λ lawful.
          let before = c.loop-entry.invariant.plan lawful in
          let bytes : c.in_ok-bytes.bytes.items ≡ e.bytes.items = search rules in
          has.plan_is ∙ ap (λ (l : List ℕ). kept (with_bytes e.id e.deadline e.attempts l) (plan_of c.loop-entry.planner)) bytes
          ∙ ap (λ (p : Plan). kept (job_of e) p) before
          ∙ ap (λ (l : List Job). plan_with c.args.next l) (put_next xs i e c.loop-entry-test.true c.entry-item.is lawful.in_order);
    }
