use Rattle.std.proofs.Common.{◌≡◌, take}
use Rattle.job_table.specs.Plan.{IsLawful}
use Rattle.job_table.specs.Entries.{plan_of as read_plan}
use Rattle.agenda_store.specs.Planner.{plan_of, IsLinked}
use Rattle.agenda_store.proofs.store.build.Given as goal

abbrev pub invariant-loop-entry : goal.invariant-loop-entry
invariant-loop-entry l = record {
  linked : IsLinked l.planner;
  plan : IsLawful (read_plan l.entries l.next) → plan_of l.planner ≡ read_plan (take l.entry-index l.entries) l.next;
}
