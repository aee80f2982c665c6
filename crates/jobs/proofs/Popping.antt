-- Jobs that are taken off one after the other.
use Rattle.std.proofs.Common.{◌≡◌, ℕ, List, [], ◌∷◌, ◌++◌, Some, ap, ◌∙◌, subst}
use Rattle.line_service.specs.declared.style.Style.{Style}
use Rattle.agenda_store.specs.Plan.{Job, Plan, first_due, without_due}
use Rattle.jobs.specs.Answer.{Pops}
use Rattle.jobs.specs.Showing.{HasShown}
use Rattle.jobs.specs.declared.shown.Shown.{Shown}

-- Some jobs that were due were taken off, and these are shown.
pub record HasPopped (style : Style) (now : ℕ) (old new : Plan) (shown : Shown) : Type 0 where
  pub jobs : List Job
  pub pops : Pops now old jobs new
  pub shows : HasShown style shown jobs

pub pops_more : (now : ℕ) (old : Plan) (jobs : List Job) (mid new : Plan) (job : Job) → Pops now old jobs mid → first_due now mid.jobs ≡ Some job → new ≡ without_due now mid
    → Pops now old (jobs ++ job ∷ []) new
pops_more now old [] mid new job pops due after =
    (subst (λ (p : Plan). first_due now p.jobs ≡ Some job) pops due, after ∙ ap (λ (p : Plan). without_due now p) pops)
pops_more now old (one ∷ jobs) mid new job pops due after = (pops.0, pops_more now (without_due now old) jobs mid new job pops.1 due after)

pub popped_more : (style : Style) (now : ℕ) (old mid new : Plan) (job : Job) (before after : Shown) → HasPopped style now old mid before
    → first_due now mid.jobs ≡ Some job → new ≡ without_due now mid → ((jobs : List Job) → HasShown style before jobs → HasShown style after (jobs ++ job ∷ []))
    → HasPopped style now old new after
popped_more style now old mid new job before after was due left more = record {
  jobs = was.jobs ++ job ∷ [];
  pops = pops_more now old was.jobs mid new job was.pops due left;
  shows = more was.jobs was.shows;
}
