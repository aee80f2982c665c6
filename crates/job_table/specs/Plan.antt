-- A list of jobs by deadline, and what changes it.
use Rattle.std.specs.Prelude.{◌≡◌, ℕ, ◌+◌, ◌<◌, ◌≤◌, ◌==◌, leb, if◌then◌else◌, List, [], ◌∷◌, length, Option, Some, None}
use Rattle.std.specs.List.{AllByRecursion}
use Rattle.job_table.specs.declared.rows.TheConstants.{MAX_BYTES}

-- a job: its number, its deadline, how often it was claimed, and its bytes
pub record Job : Type 0 where
  pub id : ℕ
  pub deadline : ℕ
  pub attempts : ℕ
  pub bytes : List ℕ

-- the jobs in the order in which they leave, and the number of the next one
pub record Plan : Type 0 where
  pub jobs : List Job
  pub next : ℕ

-- no jobs, and numbers from 1 on
abbrev pub empty : Plan
empty = record { jobs = []; next = 1 }

-- the jobs with one more, behind those that aren't due later
abbrev pub put : Job → List Job → List Job
put job [] = job ∷ []
put job (first ∷ jobs) = if leb first.deadline job.deadline then first ∷ put job jobs else job ∷ first ∷ jobs

-- the job of a number
abbrev pub job_at : ℕ → List Job → Option Job
job_at id [] = None
job_at id (first ∷ jobs) = if first.id == id then Some first else job_at id jobs

-- the jobs without that of a number
abbrev pub without : ℕ → List Job → List Job
without id [] = []
without id (first ∷ jobs) = if first.id == id then jobs else first ∷ without id jobs

-- the jobs with a job that has another deadline, behind those that aren't due later
abbrev pub put_at : ℕ → Option Job → List Job → List Job
put_at deadline None jobs = jobs
put_at deadline (Some job) jobs = put (record { id = job.id; deadline = deadline; attempts = job.attempts; bytes = job.bytes }) jobs

-- the plan with a new job, which gets the next number
abbrev pub scheduled : ℕ → List ℕ → Plan → Plan
scheduled deadline bytes plan = record {
  jobs = put (record { id = plan.next; deadline = deadline; attempts = 0; bytes = bytes }) plan.jobs;
  next = plan.next + 1;
}

-- the plan without the job of a number
abbrev pub cancelled : ℕ → Plan → Plan
cancelled id plan = record { jobs = without id plan.jobs; next = plan.next }

-- the plan with another deadline for the job of a number
abbrev pub moved : ℕ → ℕ → Plan → Plan
moved id deadline plan = record { jobs = put_at deadline (job_at id plan.jobs) (without id plan.jobs); next = plan.next }

-- the plan with a job in place of the one of its number, behind those that aren't due later
abbrev pub replaced : Job → Plan → Plan
replaced job plan = record { jobs = put job (without job.id plan.jobs); next = plan.next }

-- the first job, if its deadline is at most now
abbrev pub first_due : ℕ → List Job → Option Job
first_due now [] = None
first_due now (first ∷ jobs) = if leb first.deadline now then Some first else None

-- the first job, if there is one
abbrev pub first_job : List Job → Option Job
first_job [] = None
first_job (first ∷ jobs) = Some first

-- a job after one more attempt, which is due again at a deadline
abbrev pub attempted : ℕ → Job → Job
attempted until job = record { id = job.id; deadline = until; attempts = job.attempts + 1; bytes = job.bytes }

-- the plan after one more attempt at this job, if there is one
abbrev pub claimed_if : ℕ → Option Job → Plan → Plan
claimed_if until None plan = plan
claimed_if until (Some job) plan = replaced (attempted until job) plan

-- the plan after one more attempt at its first job, if that is due
abbrev pub claimed : ℕ → ℕ → Plan → Plan
claimed now until plan = claimed_if until (first_due now plan.jobs) plan

-- the plan whose numbers go on from this one
abbrev pub counted : ℕ → Plan → Plan
counted next plan = record { jobs = plan.jobs; next = next }

-- the plan with a job that comes back under its number, behind those that aren't due later
abbrev pub kept : Job → Plan → Plan
kept job plan = record { jobs = put job plan.jobs; next = plan.next }

-- the deadline of the first job
abbrev pub first_deadline : List Job → Option ℕ
first_deadline [] = None
first_deadline (first ∷ jobs) = Some first.deadline

-- the plan without this job, if there is one
abbrev pub cancelled_if : Option Job → Plan → Plan
cancelled_if None plan = plan
cancelled_if (Some job) plan = cancelled job.id plan

-- the plan without its first job, if that is due
abbrev pub without_due : ℕ → Plan → Plan
without_due now plan = cancelled_if (first_due now plan.jobs) plan

-- No job is due before one in front of it.
abbrev pub IsInOrder : List Job → Type 0
IsInOrder [] = Unit {0}
IsInOrder (first ∷ jobs) = AllByRecursion (λ job. first.deadline ≤ job.deadline) jobs × IsInOrder jobs

-- No number names two jobs.
abbrev pub HasDistinctNumbers : List Job → Type 0
HasDistinctNumbers [] = Unit {0}
HasDistinctNumbers (first ∷ jobs) = (job_at first.id jobs ≡ None) × HasDistinctNumbers jobs

-- What holds of the plan of each store.
pub record IsLawful (plan : Plan) : Type 0 where
  pub in_order : IsInOrder plan.jobs
  pub distinct : HasDistinctNumbers plan.jobs
  pub below : AllByRecursion (λ job. job.id < plan.next) plan.jobs
  pub short : AllByRecursion (λ job. length job.bytes ≤ MAX_BYTES) plan.jobs
  pub from_one : 1 ≤ plan.next

-- A job that comes back has a number that was given and names no other job.
abbrev pub Admits : Plan → Job → Type 0
Admits plan job = (job.id < plan.next) × (job_at job.id plan.jobs ≡ None)
