use Rattle.std.proofs.Common.{◌≡◌, ◌∙◌, ◌<◌, ◌≤◌, sym, ap, subst, cond, ℕ, Bool, List, length, None, is_some, map}
use Rattle.std.specs.Option.{option_map}
use Rattle.std.specs.BTreeMap as tree
use Rattle.std.specs.Ordering.{nat_cmp}
use Rattle.job_table.specs.Plan.{Job, job_at, without}
use Rattle.job_table.specs.declared.rows.TheConstants.{MAX_BYTES}
use Rattle.std.proofs.lemmas.Option.{same_Some}
use Rattle.agenda.specs.Agenda.{greatest_generation}
use Rattle.agenda.proofs.CallerLemmas.{entries-without_entry}
use Rattle.agenda_store.specs.Store.{owned}
use Rattle.agenda_store.specs.Planner.{Entry, ticket_at, job_in}
use Rattle.agenda_store.proofs.Entries.{Entries}
use Rattle.agenda_store.proofs.Jobs.{with_jobs}
use Rattle.agenda_store.proofs.Links.{absent, found, here as entry_here, left_admitted, left_short, without_is, removed, alike, told_entry}
use Rattle.agenda_store.proofs.planner.Planner.cancel.Goals as goal

pub returns-in_err-ticket : goal.returns-in_err-ticket
returns-in_err-ticket c =
    let old = c.args.self.now in
    let none = absent old c.requires c.args.id (sym c.in_err-ticket.ensures.value) in
    record {
      value = ap (λ o. option_map owned o) c.from_residual.ensures ∙ sym none.0;
      plan = record { linked = c.requires; plan_is = ap (with_jobs old.next) (sym none.1) };
      left = rw c.from_residual.ensures tt;
    }

pub returns-in_err-deadline : goal.returns-in_err-deadline
returns-in_err-deadline c =
    let ticket = c.in_ok-ticket.ticket in
    let here = found c.args.self.now c.requires c.args.id ticket c.ticket_at.ensures.distinct (sym c.in_ok-ticket.ensures.value) in
    let e = c.in_err-deadline.ensures.value ∙ here.job in absurd (cc)

pub returns : goal.returns
returns c =
    let old = c.args.self.now in
    let ticket = c.in_ok-ticket.ticket in
    let some = sym c.in_ok-ticket.ensures.value in
    let here = found old c.requires c.args.id ticket c.ticket_at.ensures.distinct some in
    let others = without_is old c.requires c.args.id ticket c.ticket_at.ensures.distinct some in
    let gone = ap (λ a. a.entries) c.in_ok-deadline.ensures.after ∙ entries-without_entry greatest_generation old.agenda ticket (ap is_some here.job) in
    let new = c.cancel.new.self in
    let at = entry_here old c.requires c.args.id ticket c.ticket_at.ensures.distinct some in
    let pair : (c.in_ok-deadline.deadline, c.in_ok-deadline.task) ≡ at.entry.item = same_Some _ _ (c.in_ok-deadline.ensures.value ∙ at.job) in
    let task : c.in_ok-deadline.task ≡ at.entry.item.1 = ap (λ (x : ℕ × Entry). x.1) pair in
    let jobs : map job_in new.entries ≡ without c.args.id (map job_in old.agenda.entries) = ap (λ (l : Entries). map job_in l) gone ∙ sym others in
    let admitted = left_admitted old c.requires c.args.id ticket c.ticket_at.ensures.distinct some in
    let linked = removed old c.requires c.args.id ticket c.ticket_at.ensures.distinct some (tree.get nat_cmp c.remove.new.self) new.entries gone
    (λ n. c.remove.ensures.updates.0 n ∙ ap (λ (b : Bool). cond b None (ticket_at old n)) (alike c.args.id n)) in
    record {
      left = record {
        takes = record {
          linked = linked;
          short = subst (λ (x : Entry). length x.bytes.items ≤ MAX_BYTES) (sym task) (left_short old c.requires c.args.id ticket c.ticket_at.ensures.distinct some);
        };
        admitted = subst (λ (x : Entry). (x.id < old.next) × (job_at x.id (map job_in new.entries) ≡ None)) (sym task)
            (admitted.0, ap (λ (l : List Job). job_at at.entry.item.1.id l) jobs ∙ admitted.1);
      };
      value = ap (λ o. option_map told_entry o) (c.in_ok-deadline.ensures.value ∙ here.job)
          ∙ sym here.at;
      plan = record {
        linked = linked;
        plan_is = ap (with_jobs old.next) (ap (λ (l : Entries). map job_in l) gone ∙ sym others);
      };
    }
