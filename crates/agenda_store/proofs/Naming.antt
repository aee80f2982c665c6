-- A number names the job that it was given for.
use Rattle.std.proofs.Common.{◌≡◌, ◌⊎◌, inl, inr, ◌+◌, ◌<◌, ◌≤◌, ℕ, zero, suc, leb, eqb, cond, true, false, List, [], ◌∷◌, length, take, Vec, refl, sym, subst, arith, Option, Some, None}
use Rattle.std.specs.List.{AllByRecursion}
use Rattle.std.specs.declared.alloc.Global.{Global}
use Rattle.job_table.specs.Plan.{Job, Plan, put, put_at, job_at, without, first_due, claimed_if, cancelled_if, IsLawful}
use Rattle.agenda_store.specs.Requests.{answered, answered_all, after, IsReply, AllReply}
use Rattle.agenda_store.specs.History.{Batch, Replies, AreAnswered, IsHistory, Names, IsNamed, AreNamed, AreNamedBy, NamesItsJobs}
use Rattle.agenda_store.proofs.Numbers.{next_answered}
use Rattle.agenda_store.specs.declared.requests.Request.{Request}
use Rattle.agenda_store.specs.declared.requests.Request.TheVariants.{Schedule, Cancel, Reschedule, PopDue, ClaimDue}
use Rattle.agenda_store.specs.declared.requests.Reply.{Reply}
use Rattle.agenda_store.specs.declared.requests.Reply.TheVariants.{Scheduled, Cancelled, Rescheduled, Popped, Claimed}

module _ (P : Job → Type 0) where
  abbrev Each : List Job → Type 0
  Each jobs = AllByRecursion P jobs

  each_put : (job : Job) (jobs : List Job) → P job → Each jobs → Each (put job jobs)
  each_put job [] h all = (h, tt)
  each_put job (first ∷ jobs) h all =
      elim (leb first.deadline job.deadline) as (λ b. Each (cond b (first ∷ put job jobs) (job ∷ first ∷ jobs))) [ true ↦ (all.0, each_put job jobs h all.1) | false ↦ (h, all) ]

  each_without : (id : ℕ) (jobs : List Job) → Each jobs → Each (without id jobs)
  each_without id [] all = tt
  each_without id (first ∷ jobs) all =
      elim (eqb first.id id) as (λ b. Each (cond b jobs (first ∷ without id jobs))) [ true ↦ all.1 | false ↦ (all.0, each_without id jobs all.1) ]

  -- what is said of an optional job, if there is one
  abbrev OfSome : Option Job → Type 0
  OfSome None = Unit {0}
  OfSome (Some job) = P job

  at_each : (id : ℕ) (jobs : List Job) → Each jobs → OfSome (job_at id jobs)
  at_each id [] all = tt
  at_each id (first ∷ jobs) all = elim (eqb first.id id) as (λ b. OfSome (cond b (Some first) (job_at id jobs))) [ true ↦ all.0 | false ↦ at_each id jobs all.1 ]

  due_each : (now : ℕ) (jobs : List Job) → Each jobs → OfSome (first_due now jobs)
  due_each now [] all = tt
  due_each now (first ∷ jobs) all = elim (leb first.deadline now) as (λ b. OfSome (cond b (Some first) None)) [ true ↦ all.0 | false ↦ tt ]

  module _ (same : (job : Job) (deadline attempts : ℕ) → P job → P (record { id = job.id; deadline = deadline; attempts = attempts; bytes = job.bytes })) where
    each_put_at : (deadline : ℕ) (o : Option Job) (jobs : List Job) → OfSome o → Each jobs → Each (put_at deadline o jobs)
    each_put_at deadline None jobs h all = all
    each_put_at deadline (Some job) jobs h all = each_put (record { id = job.id; deadline = deadline; attempts = job.attempts; bytes = job.bytes }) jobs (same job deadline job.attempts h) all

    each_popped : (o : Option Job) (plan : Plan) → Each plan.jobs → Each (cancelled_if o plan).jobs
    each_popped None plan all = all
    each_popped (Some job) plan all = each_without job.id plan.jobs all

    each_claimed : (until : ℕ) (o : Option Job) (plan : Plan) → OfSome o → Each plan.jobs → Each (claimed_if until o plan).jobs
    each_claimed until None plan h all = all
    each_claimed until (Some job) plan h all =
        each_put (record { id = job.id; deadline = until; attempts = job.attempts + 1; bytes = job.bytes }) (without job.id plan.jobs) (same job until (job.attempts + 1) h)
        (each_without job.id plan.jobs all)

    -- what is said of the job that a request schedules, if it does
    abbrev OfNew : Request → Plan → Type 0
    OfNew (Schedule deadline bytes) plan = P (record { id = plan.next; deadline = deadline; attempts = 0; bytes = bytes.items })
    OfNew request plan = Unit {0}

    each_answered : (request : Request) (plan : Plan) → OfNew request plan → Each plan.jobs → Each (answered request plan).jobs
    each_answered (Schedule deadline bytes) plan new all = each_put (record { id = plan.next; deadline = deadline; attempts = 0; bytes = bytes.items }) plan.jobs new all
    each_answered (Cancel id) plan new all = each_without id.0 plan.jobs all
    each_answered (Reschedule id deadline) plan new all = each_put_at deadline (job_at id.0 plan.jobs) (without id.0 plan.jobs) (at_each id.0 plan.jobs all) (each_without id.0 plan.jobs all)
    each_answered (PopDue now) plan new all = each_popped (first_due now plan.jobs) plan all
    each_answered (ClaimDue now until) plan new all = each_claimed until (first_due now plan.jobs) plan (due_each now plan.jobs all) all

each_weaker : (P Q : Job → Type 0) → ((x : Job) → P x → Q x) → (jobs : List Job) → AllByRecursion P jobs → AllByRecursion Q jobs
each_weaker P Q f [] all = tt
each_weaker P Q f (x ∷ jobs) all = (f x all.0, each_weaker P Q f jobs all.1)

-- All numbers are below the next one.
abbrev IsBelow : Plan → Type 0
IsBelow plan = AllByRecursion (λ job. job.id < plan.next) plan.jobs

below_next : (request : Request) (plan : Plan) → OfNew (λ job. job.id < (answered request plan).next) (λ job deadline attempts h. h) request plan
below_next (Schedule deadline bytes) plan = omega arith
below_next (Cancel id) plan = tt
below_next (Reschedule id deadline) plan = tt
below_next (PopDue now) plan = tt
below_next (ClaimDue now until) plan = tt

below_answered : (request : Request) (plan : Plan) → IsBelow plan → IsBelow (answered request plan)
below_answered request plan below =
    let up = next_answered request plan in
    each_answered (λ job. job.id < (answered request plan).next) (λ job deadline attempts h. h) request plan (below_next request plan)
    (each_weaker (λ job. job.id < plan.next) (λ job. job.id < (answered request plan).next) (λ job h. omega (arith, h, up)) plan.jobs below)

below_all : (requests : List Request) (plan : Plan) → IsBelow plan → IsBelow (answered_all requests plan)
below_all [] plan below = below
below_all (request ∷ requests) plan below = below_all requests (answered request plan) (below_answered request plan below)

below_after : (batches : List Batch) (plan : Plan) → IsBelow plan → IsBelow (after batches plan)
below_after [] plan below = below
below_after (batch ∷ batches) plan below = below_after batches (answered_all batch.items plan) (below_all batch.items plan below)

-- Whatever a number names in one plan, it names in a later one.
abbrev Carries : Plan → Plan → Type 0
Carries plan last = (id : ℕ) (bytes : List ℕ) → Names id bytes plan → Names id bytes last

other_next : (id : ℕ) (bytes : List ℕ) (request : Request) (plan : Plan) → id < plan.next
    → OfNew (λ job. job.id ≡ id → job.bytes ≡ bytes) (λ job deadline attempts h. h) request plan
other_next id bytes (Schedule deadline given) plan below = λ same. absurd (omega (arith, below, same))
other_next id bytes (Cancel other) plan below = tt
other_next id bytes (Reschedule other deadline) plan below = tt
other_next id bytes (PopDue now) plan below = tt
other_next id bytes (ClaimDue now until) plan below = tt

carries_answered : (request : Request) (plan : Plan) → Carries plan (answered request plan)
carries_answered request plan id bytes names =
    let up = next_answered request plan in
    let given = names.given in
    record {
      given = omega (arith, given, up);
      each = each_answered (λ job. job.id ≡ id → job.bytes ≡ bytes) (λ job deadline attempts h. h) request plan (other_next id bytes request plan given) names.each;
    }

carries_all : (requests : List Request) (plan : Plan) → Carries plan (answered_all requests plan)
carries_all [] plan id bytes names = names
carries_all (request ∷ requests) plan id bytes names = carries_all requests (answered request plan) id bytes (carries_answered request plan id bytes names)

carries_after : (batches : List Batch) (plan : Plan) → Carries plan (after batches plan)
carries_after [] plan id bytes names = names
carries_after (batch ∷ batches) plan id bytes names = carries_after batches (answered_all batch.items plan) id bytes (carries_all batch.items plan id bytes names)

carries_history : (sessions : List (Vec Batch Global)) (told : List (Vec Replies Global)) (first last : Plan) → IsHistory sessions told first last → Carries first last
carries_history [] [] first last same id bytes names = subst (Names id bytes) (sym same) names
carries_history [] (answered ∷ told) first last h id bytes names = absurd h
carries_history (session ∷ sessions) [] first last h id bytes names = absurd h
carries_history (session ∷ sessions) (answered ∷ told) first last h id bytes names =
    let mid = after (take h.1.0 session.items) first in
    carries_history sessions told mid last h.1.2 id bytes (carries_after (take h.1.0 session.items) first id bytes names)

-- the jobs below a number don't have it
others : (n : ℕ) (bytes : List ℕ) (jobs : List Job) → AllByRecursion (λ job. job.id < n) jobs → AllByRecursion (λ job. job.id ≡ n → job.bytes ≡ bytes) jobs
others n bytes jobs below = each_weaker (λ job. job.id < n) (λ job. job.id ≡ n → job.bytes ≡ bytes) (λ job h same. absurd (omega (arith, h, same))) jobs below

named_now : (request : Request) (plan : Plan) (reply : Reply) → IsBelow plan → IsReply request plan reply → IsNamed request reply (answered request plan)
named_now (Schedule deadline bytes) plan (Scheduled id) below is = record {
  given = omega (arith, is);
  each = subst (λ (n : ℕ). AllByRecursion (λ job. job.id ≡ n → job.bytes ≡ bytes.items) (put (record { id = plan.next; deadline = deadline; attempts = 0; bytes = bytes.items }) plan.jobs)) (sym is)
      (each_put (λ job. job.id ≡ plan.next → job.bytes ≡ bytes.items) (record { id = plan.next; deadline = deadline; attempts = 0; bytes = bytes.items }) plan.jobs (λ same. refl)
      (others plan.next bytes.items plan.jobs below));
}
named_now (Schedule deadline bytes) plan (Cancelled job) below is = absurd is
named_now (Schedule deadline bytes) plan (Rescheduled found) below is = absurd is
named_now (Schedule deadline bytes) plan (Popped job) below is = absurd is
named_now (Schedule deadline bytes) plan (Claimed job) below is = absurd is
named_now (Cancel id) plan reply below is = tt
named_now (Reschedule id deadline) plan reply below is = tt
named_now (PopDue now) plan reply below is = tt
named_now (ClaimDue now until) plan reply below is = tt

named_later : (request : Request) (reply : Reply) (plan last : Plan) → Carries plan last → IsNamed request reply plan → IsNamed request reply last
named_later (Schedule deadline bytes) (Scheduled id) plan last carries named = carries id.0 bytes.items named
named_later (Schedule deadline bytes) (Cancelled job) plan last carries named = tt
named_later (Schedule deadline bytes) (Rescheduled found) plan last carries named = tt
named_later (Schedule deadline bytes) (Popped job) plan last carries named = tt
named_later (Schedule deadline bytes) (Claimed job) plan last carries named = tt
named_later (Cancel id) reply plan last carries named = tt
named_later (Reschedule id deadline) reply plan last carries named = tt
named_later (PopDue now) reply plan last carries named = tt
named_later (ClaimDue now until) reply plan last carries named = tt

named_all : (requests : List Request) (plan last : Plan) (replies : List Reply) → IsBelow plan → AllReply requests plan replies → Carries (answered_all requests plan) last
    → AreNamed requests replies last
named_all [] plan last replies below all carries = tt
named_all (request ∷ requests) plan last [] below all carries = tt
named_all (request ∷ requests) plan last (reply ∷ replies) below all carries =
    let mid = answered request plan in (
      named_later request reply mid last (λ id bytes names. carries id bytes (carries_all requests mid id bytes names)) (named_now request plan reply below all.0),
      named_all requests mid last replies (below_answered request plan below) all.1 carries,
    )

-- The answered batches of a session are among those that its crash leaves.
named_batches : (batches : List Batch) (plan last : Plan) (told : List Replies) (count : ℕ) → length told ≤ count → IsBelow plan → AreAnswered batches plan told
    → Carries (after (take count batches) plan) last → AreNamedBy batches told last
named_batches [] plan last told count enough below all carries = tt
named_batches (batch ∷ batches) plan last [] count enough below all carries = tt
named_batches (batch ∷ batches) plan last (replies ∷ told) zero enough below all carries = absurd (omega (arith, enough))
named_batches (batch ∷ batches) plan last (replies ∷ told) (suc count) enough below all carries =
    let mid = answered_all batch.items plan in (
      named_all batch.items plan last replies.items below all.0 (λ id bytes names. carries id bytes (carries_after (take count batches) mid id bytes names)),
      named_batches batches mid last told count (omega (arith, enough)) (below_all batch.items plan below) all.1 carries,
    )

enough_of : (count n : ℕ) → (count ≡ n) ⊎ (count ≡ n + 1) → n ≤ count
enough_of count n which = elim which [ inl e ↦ omega (arith, e) | inr e ↦ omega (arith, e) ]

from_below : (sessions : List (Vec Batch Global)) (told : List (Vec Replies Global)) (first last : Plan) → IsBelow first → IsHistory sessions told first last
    → NamesItsJobs sessions told last
from_below [] told first last below h = tt
from_below (session ∷ sessions) [] first last below h = tt
from_below (session ∷ sessions) (answered ∷ told) first last below h =
    let count = h.1.0 in
    let mid = after (take count session.items) first in (
      named_batches session.items first last answered.items count (enough_of count (length answered.items) h.1.1) below h.0 (carries_history sessions told mid last h.1.2),
      from_below sessions told mid last (below_after (take count session.items) first below) h.1.2,
    )

pub numbers_name_their_jobs : (sessions : List (Vec Batch Global)) (told : List (Vec Replies Global)) (first last : Plan) → IsLawful first → IsHistory sessions told first last
    → NamesItsJobs sessions told last
numbers_name_their_jobs sessions told first last lawful h = from_below sessions told first last lawful.below h
