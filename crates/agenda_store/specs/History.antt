-- Whole histories: sessions of batches, each ended by a crash.
use Rattle.std.specs.Prelude.{◌≡◌, ◌⊎◌, ◌+◌, ◌<◌, ◌≤◌, ℕ, List, [], ◌∷◌, ◌++◌, length, take, Vec}
use Rattle.std.specs.List.{AllByRecursion}
use Rattle.std.specs.declared.alloc.Global.{Global}
use Rattle.job_table.specs.Plan.{Plan}
use Rattle.agenda_store.specs.Requests.{answered_all, after, AllReply}
use Rattle.agenda_store.specs.declared.requests.Request.{Request}
use Rattle.agenda_store.specs.declared.requests.Request.TheVariants.{Schedule}
use Rattle.agenda_store.specs.declared.requests.Reply.{Reply}
use Rattle.agenda_store.specs.declared.requests.Reply.TheVariants.{Scheduled}

abbrev pub Batch : Type 0
Batch = Vec Request Global

abbrev pub Replies : Type 0
Replies = Vec Reply Global

-- The first of these batches were answered, from a plan on, each with the replies to its requests.
abbrev pub AreAnswered : List Batch → Plan → List Replies → Type 0
AreAnswered batches plan [] = Unit {0}
AreAnswered [] plan (replies ∷ more) = ⊥
AreAnswered (batch ∷ batches) plan (replies ∷ more) = AllReply batch.items plan replies.items × AreAnswered batches (answered_all batch.items plan) more

-- From the first plan, each session answers some of its batches, and leaves the plan after these, or after one more, which was in flight at
-- its crash. The next session begins with that plan.
abbrev pub IsHistory : List (Vec Batch Global) → List (Vec Replies Global) → Plan → Plan → Type 0
IsHistory [] [] first last = last ≡ first
IsHistory [] (answered ∷ more) first last = ⊥
IsHistory (session ∷ sessions) [] first last = ⊥
IsHistory (session ∷ sessions) (answered ∷ more) first last =
    AreAnswered session.items first answered.items
    × ((count : ℕ) × ((count ≡ length answered.items) ⊎ (count ≡ length answered.items + 1))
    × IsHistory sessions more (after (take count session.items) first) last)

-- the numbers that replies give
abbrev pub numbers_in : List Reply → List ℕ
numbers_in [] = []
numbers_in (Scheduled id ∷ replies) = id.0 ∷ numbers_in replies
numbers_in (reply ∷ replies) = numbers_in replies

abbrev pub numbers_of : List Replies → List ℕ
numbers_of [] = []
numbers_of (replies ∷ more) = numbers_in replies.items ++ numbers_of more

-- the numbers that all replies of a history give
abbrev pub numbers_told : List (Vec Replies Global) → List ℕ
numbers_told [] = []
numbers_told (answered ∷ more) = numbers_of answered.items ++ numbers_told more

-- Each number is above those before it, the first is at least `low`, and `high` is above all.
abbrev pub IsRising : ℕ → ℕ → List ℕ → Type 0
IsRising low high [] = low ≤ high
IsRising low high (n ∷ numbers) = (low ≤ n) × IsRising (n + 1) high numbers

-- The number was given, and each job under it has these bytes.
pub record Names (id : ℕ) (bytes : List ℕ) (plan : Plan) : Type 0 where
  pub given : id < plan.next
  pub each : AllByRecursion (λ job. job.id ≡ id → job.bytes ≡ bytes) plan.jobs

-- A number that a reply gives names the bytes of its request.
abbrev pub IsNamed : Request → Reply → Plan → Type 0
IsNamed (Schedule deadline bytes) (Scheduled id) last = Names id.0 bytes.items last
IsNamed request reply last = Unit {0}

abbrev pub AreNamed : List Request → List Reply → Plan → Type 0
AreNamed [] replies last = Unit {0}
AreNamed (request ∷ requests) [] last = Unit {0}
AreNamed (request ∷ requests) (reply ∷ replies) last = IsNamed request reply last × AreNamed requests replies last

abbrev pub AreNamedBy : List Batch → List Replies → Plan → Type 0
AreNamedBy [] told last = Unit {0}
AreNamedBy (batch ∷ batches) [] last = Unit {0}
AreNamedBy (batch ∷ batches) (replies ∷ told) last = AreNamed batch.items replies.items last × AreNamedBy batches told last

-- All numbers that the replies of a history give name the bytes of their requests in the last plan.
abbrev pub NamesItsJobs : List (Vec Batch Global) → List (Vec Replies Global) → Plan → Type 0
NamesItsJobs [] told last = Unit {0}
NamesItsJobs (session ∷ sessions) [] last = Unit {0}
NamesItsJobs (session ∷ sessions) (answered ∷ told) last = AreNamedBy session.items answered.items last × NamesItsJobs sessions told last
