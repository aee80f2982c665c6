use Rattle.std.proofs.Common.{◌∙◌, sym, ap, Option, Some}
use Rattle.std.specs.Option.{option_map}
use Rattle.job_table.specs.Plan.{Job}
use Rattle.agenda_store.specs.Store.{lent}
use Rattle.agenda_store.proofs.Links.{absent, found, told_entry}
use Rattle.agenda_store.proofs.planner.Planner.get.Goals as goal

abbrev some_job : Job → Option Job
some_job job = Some job

pub returns-in_err-ticket : goal.returns-in_err-ticket
returns-in_err-ticket c =
    let none = absent c.args.self.now c.requires c.args.id (sym c.in_err-ticket.ensures.value) in
    ap (λ o. option_map lent o) c.from_residual.ensures ∙ sym none.0

pub returns-in_err-deadline : goal.returns-in_err-deadline
returns-in_err-deadline c =
    let ticket = c.in_ok-ticket.ticket in
    let here = found c.args.self.now c.requires c.args.id ticket c.ticket_at.ensures.distinct (sym c.in_ok-ticket.ensures.value) in
    let e = c.in_err-deadline.ensures ∙ here.job in absurd (cc)

pub returns : goal.returns
returns c =
    let ticket = c.in_ok-ticket.ticket in
    let here = found c.args.self.now c.requires c.args.id ticket c.ticket_at.ensures.distinct (sym c.in_ok-ticket.ensures.value) in
    ap some_job c.lend.ensures
    ∙ ap (λ o. option_map told_entry o) (c.in_ok-deadline.ensures ∙ here.job)
    ∙ sym here.at
