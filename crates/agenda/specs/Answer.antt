-- What a closure answers for a job.
use Rattle.std.specs.Prelude.{◌≡◌, ℕ, Bool}
use Rattle.std.specs.{Fn.Called, Borrow.Bor}
use denote.Param.Members.{Mut}
use Rattle.agenda.specs.Agenda.{Entry, key_of, value_of, pointer_of}

-- a call of the closure for the ticket, the deadline and the job of this entry may answer so and leave it in the state f'
pub record AnswersForJob {F J : Type 0} (g : Mut F ((ℕ × ℕ) × (ℕ × (Bor J × Unit {0}))) Bool) (f : F) (e : Entry (ℕ × J)) (answer : Bool) (f' : F) : Type 0 where
  pub job : Bor J
  pub shows_job : job.now ≡ value_of e
  pub called : Called g f (pointer_of e, (key_of e, (job, tt))) answer f'
