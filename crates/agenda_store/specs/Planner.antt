-- How a plan lies in memory.
use Rattle.std.specs.Prelude.{◌≡◌, ◌<◌, ◌≤◌, ℕ, ◌==◌, if◌then◌else◌, List, [], ◌∷◌, length, map, Option, Some, None}
use Rattle.std.specs.List.{AllByRecursion}
use Rattle.std.specs.BTreeMap as tree
use Rattle.std.specs.Ordering.{nat_cmp}
use Rattle.agenda.specs.Agenda.{Entry as Listed, pointer_of}
use Rattle.job_table.specs.Plan.{Job, Plan, Admits}
use Rattle.agenda_store.specs.declared.planner.Planner.{Planner}
use Rattle.agenda_store.specs.declared.planner.Task.{Task}
use Rattle.job_table.specs.declared.rows.TheConstants.{MAX_BYTES}

-- what the agenda keeps for a job: its number, its attempts and its bytes
abbrev pub Entry : Type 0
Entry = Task

-- an entry of the agenda as a job
abbrev pub job_in : Listed (ℕ × Entry) → Job
job_in x = record { id = x.item.1.id; deadline = x.item.0; attempts = x.item.1.attempts; bytes = x.item.1.bytes.items }

abbrev pub plan_of : Planner → Plan
plan_of planner = record { jobs = map job_in planner.agenda.entries; next = planner.next }

-- the ticket of the job with this number
abbrev pub ticket_of : ℕ → List (Listed (ℕ × Entry)) → Option (ℕ × ℕ)
ticket_of id [] = None
ticket_of id (x ∷ xs) = if x.item.1.id == id then Some (pointer_of x) else ticket_of id xs

-- No number names two jobs.
abbrev pub IsApart : List (Listed (ℕ × Entry)) → Type 0
IsApart [] = Unit {0}
IsApart (x ∷ xs) = (ticket_of x.item.1.id xs ≡ None) × IsApart xs

-- Each of the entries keeps what has this property.
abbrev pub Each : (Entry → Type 0) → List (Listed (ℕ × Entry)) → Type 0
Each P entries = AllByRecursion (λ x. P x.item.1) entries

-- Each number finds the ticket of its job, the next number is above all, and no job is too long.
pub record IsLinkedBy (ticket_at : ℕ → Option (ℕ × ℕ)) (next : ℕ) (entries : List (Listed (ℕ × Entry))) : Type 0 where
  pub tickets : (id : ℕ) → ticket_at id ≡ ticket_of id entries
  pub apart : IsApart entries
  pub below : Each (λ job. job.id < next) entries
  pub short : Each (λ job. length job.bytes.items ≤ MAX_BYTES) entries
  pub from_one : 1 ≤ next

-- the ticket under a number
abbrev pub ticket_at : Planner → ℕ → Option (ℕ × ℕ)
ticket_at planner id = tree.get nat_cmp planner.tickets id

-- The map of a planner has the tickets.
abbrev pub IsLinked : Planner → Type 0
IsLinked planner = IsLinkedBy (ticket_at planner) planner.next planner.agenda.entries

-- The jobs of the planner are linked, and this is its plan.
pub record HasPlan (planner : Planner) (plan : Plan) : Type 0 where
  pub linked : IsLinked planner
  pub plan_is : plan_of planner ≡ plan

-- The jobs of the planner are linked, and a job of these bytes isn't too long.
pub record Takes (planner : Planner) (bytes : List ℕ) : Type 0 where
  pub linked : IsLinked planner
  pub short : length bytes ≤ MAX_BYTES

-- A job of the planner was taken off, and can be put back.
pub record CanReturn (planner : Planner) (job : Job) : Type 0 where
  pub takes : Takes planner job.bytes
  pub admitted : Admits (plan_of planner) job
