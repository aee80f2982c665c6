-- What requests make of a plan.
use Rattle.std.specs.Prelude.{◌≡◌, ◌⊎◌, ◌+◌, ℕ, List, [], ◌∷◌, take, Vec, is_some}
use Rattle.std.specs.Option.{option_map}
use Rattle.std.specs.declared.alloc.Global.{Global}
use Rattle.sqlite_trees.specs.Tree.{Trees}
use Rattle.sqlite_trees.specs.declared.store.Store as trees
use Rattle.job_table.specs.Plan.{Plan, scheduled, cancelled, moved, claimed, attempted, without_due, first_due, job_at}
use Rattle.job_table.specs.Table.{TreesStandFor, rows_of}
use Rattle.agenda_store.specs.Store.{Store, owned}
use Rattle.agenda_store.specs.declared.requests.Request.{Request}
use Rattle.agenda_store.specs.declared.requests.Request.TheVariants.{Schedule, Cancel, Reschedule, PopDue, ClaimDue}
use Rattle.agenda_store.specs.declared.requests.Reply.{Reply}
use Rattle.agenda_store.specs.declared.requests.Reply.TheVariants.{Scheduled, Cancelled, Rescheduled, Popped, Claimed}

-- the plan after a request
abbrev pub answered : Request → Plan → Plan
answered (Schedule deadline bytes) plan = scheduled deadline bytes.items plan
answered (Cancel id) plan = cancelled id.0 plan
answered (Reschedule id deadline) plan = moved id.0 deadline plan
answered (PopDue now) plan = without_due now plan
answered (ClaimDue now until) plan = claimed now until plan

-- This is the reply to a request, where the plan is as it was before.
abbrev pub IsReply : Request → Plan → Reply → Type 0
IsReply (Schedule deadline bytes) plan (Scheduled id) = id.0 ≡ plan.next
IsReply (Cancel id) plan (Cancelled job) = option_map owned job ≡ job_at id.0 plan.jobs
IsReply (Reschedule id deadline) plan (Rescheduled is_found) = is_found ≡ is_some (job_at id.0 plan.jobs)
IsReply (PopDue now) plan (Popped job) = option_map owned job ≡ first_due now plan.jobs
IsReply (ClaimDue now until) plan (Claimed job) = option_map owned job ≡ option_map (attempted until) (first_due now plan.jobs)
IsReply request plan reply = ⊥

-- the plan after these requests, the first of them first
abbrev pub answered_all : List Request → Plan → Plan
answered_all [] plan = plan
answered_all (request ∷ requests) plan = answered_all requests (answered request plan)

-- These are the replies to the requests, one to each, in order.
abbrev pub AllReply : List Request → Plan → List Reply → Type 0
AllReply [] plan [] = Unit {0}
AllReply (request ∷ requests) plan (reply ∷ replies) = IsReply request plan reply × AllReply requests (answered request plan) replies
AllReply requests plan replies = ⊥

-- the plan after these batches, the first of them first
abbrev pub after : List (Vec Request Global) → Plan → Plan
after [] plan = plan
after (batch ∷ batches) plan = after batches (answered_all batch.items plan)

-- Every crash leaves the plan of the store.
abbrev pub IsSettled : {S : Type 0} → trees.Ghosts S → Store S → Type 0
IsSettled g store = (trees : Trees) → g.recovers (rows_of store.table) trees → TreesStandFor trees store.plan

-- What is left stands for the plan after n of the batches, or after one more.
pub record StandsAfterSome (left : Trees) (n : ℕ) (batches : List (Vec Request Global)) (plan : Plan) : Type 0 where
  pub count : ℕ
  pub answered_or_one_more : (count ≡ n) ⊎ (count ≡ n + 1)
  pub stands : TreesStandFor left (after (take count batches) plan)
