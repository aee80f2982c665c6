-- What a command makes of a plan, and how it is answered.
use Rattle.std.specs.Prelude.{◌≡◌, ◌⊎◌, ℕ, List, [], ◌∷◌, ◌++◌, ⊤, Bool, true, false, Option, Some, None, codes, decimal}
use Rattle.std.specs.Option.{option_map}
use Rattle.serde_json.specs.Data.{Data, null, boolean, number, unsigned, string, array, object, member, no_members}
use Rattle.serde_json.specs.View.{items_of}
use Rattle.serde_json.specs.Written.{compact_text}
use Rattle.line_service.specs.Times.{IsTimeText, IsTimeData}
use Rattle.line_service.specs.declared.style.Style.{Style}
use Rattle.agenda_store.specs.Plan.{Job, Plan, scheduled, cancelled, moved, claimed, attempted, without_due, first_due, first_deadline, job_at}
use Rattle.jobs.specs.declared.command.Command.{Command}
use Rattle.jobs.specs.declared.command.Command.TheVariants as commands

-- a text as a line
abbrev pub line : List ℕ → List ℕ
line text = text ++ 10 ∷ []

-- texts, one after the other
abbrev pub joined : List (List ℕ) → List ℕ
joined [] = []
joined (text ∷ texts) = text ++ joined texts

-- a value of JSON without spaces, as a line
abbrev pub json_line : Data → List ℕ
json_line value = line (compact_text value)

-- the value that has one member
abbrev pub only : List ℕ → Data → Data
only name value = object (member name value no_members)

-- The bytes of a payload as text: themselves, or ? if they are no text.
abbrev pub IsPayload : List ℕ → List ℕ → Type 0
IsPayload bytes text = (text ≡ bytes) ⊎ (text ≡ codes "?")

-- The line of a job: its number, its deadline, with or without dates, and its payload.
pub record IsJobLine (has_dates : Bool) (job : Job) (text : List ℕ) : Type 0 where
  pub deadline : List ℕ
  pub payload : List ℕ
  pub due : IsTimeText has_dates job.deadline deadline
  pub from : IsPayload job.bytes payload
  pub is : text ≡ decimal job.id ++ (codes " " ++ (deadline ++ (codes " " ++ (payload ++ 10 ∷ []))))

-- A job in JSON.
pub record IsJobData (has_dates : Bool) (job : Job) (value : Data) : Type 0 where
  pub deadline : Data
  pub payload : List ℕ
  pub due : IsTimeData has_dates job.deadline deadline
  pub from : IsPayload job.bytes payload
  pub is : value ≡ object (member (codes "deadline") deadline
      (member (codes "number") (number (unsigned job.id)) (member (codes "payload") (string payload) no_members)))

-- the lines of jobs
abbrev pub AreLines : Bool → List Job → List (List ℕ) → Type 0
AreLines has_dates [] [] = ⊤
AreLines has_dates [] (text ∷ texts) = ⊥
AreLines has_dates (job ∷ jobs) [] = ⊥
AreLines has_dates (job ∷ jobs) (text ∷ texts) = IsJobLine has_dates job text × AreLines has_dates jobs texts

-- jobs in JSON
abbrev pub AreData : Bool → List Job → List Data → Type 0
AreData has_dates [] [] = ⊤
AreData has_dates [] (value ∷ values) = ⊥
AreData has_dates (job ∷ jobs) [] = ⊥
AreData has_dates (job ∷ jobs) (value ∷ values) = IsJobData has_dates job value × AreData has_dates jobs values

-- The text is the lines of jobs.
abbrev pub IsLines : Bool → List Job → List ℕ → Type 0
IsLines has_dates jobs text = (texts : List (List ℕ)) × (AreLines has_dates jobs texts × (text ≡ joined texts))

-- The answer that shows jobs: a line for each, or that there is none; or all of them in a line of JSON.
abbrev pub ShowsAll : Bool → Bool → List Job → List ℕ → Type 0
ShowsAll false has_dates [] text = text ≡ line (codes "no job")
ShowsAll false has_dates (job ∷ jobs) text = IsLines has_dates (job ∷ jobs) text
ShowsAll true has_dates jobs text =
    (values : List Data) × (AreData has_dates jobs values × (text ≡ json_line (only (codes "jobs") (array (items_of values)))))

-- The answer that shows a job, if there is one.
abbrev pub Shows : Bool → Bool → Option Job → List ℕ → Type 0
Shows false has_dates None text = text ≡ line (codes "no job")
Shows false has_dates (Some job) text = IsJobLine has_dates job text
Shows true has_dates None text = text ≡ json_line (only (codes "job") null)
Shows true has_dates (Some job) text = (value : Data) × (IsJobData has_dates job value × (text ≡ json_line (only (codes "job") value)))

-- The answer that tells a deadline, if there is one.
abbrev pub TellsDeadline : Bool → Bool → Option ℕ → List ℕ → Type 0
TellsDeadline false has_dates None text = text ≡ line (codes "no job")
TellsDeadline false has_dates (Some deadline) text = (told : List ℕ) × (IsTimeText has_dates deadline told × (text ≡ line told))
TellsDeadline true has_dates None text = text ≡ json_line (only (codes "deadline") null)
TellsDeadline true has_dates (Some deadline) text =
    (told : Data) × (IsTimeData has_dates deadline told × (text ≡ json_line (only (codes "deadline") told)))

-- the answer that tells a job's number
abbrev pub number_text : Bool → ℕ → List ℕ
number_text false id = line (decimal id)
number_text true id = json_line (only (codes "number") (number (unsigned id)))

-- the answer that something was done
abbrev pub done_text : Bool → List ℕ
done_text false = line (codes "done")
done_text true = json_line (only (codes "done") (boolean true))

-- the answer to a line that says nothing
abbrev pub blank_text : Bool → List ℕ
blank_text false = []
blank_text true = json_line (object no_members)

-- The text begins as that of a line that was not obeyed does, with its number.
pub record IsComplaintLine (text : List ℕ) : Type 0 where
  pub rest : List ℕ
  pub is : text ≡ codes "line " ++ rest

-- The same in JSON: the number and the reason.
pub record IsComplaintData (text : List ℕ) : Type 0 where
  pub place : ℕ
  pub reason : List ℕ
  pub is : text ≡ json_line (object (member (codes "error") (string reason) (member (codes "line") (number (unsigned place)) no_members)))

-- The text says that a line was not obeyed.
abbrev pub IsComplaint : Bool → List ℕ → Type 0
IsComplaint false text = IsComplaintLine text
IsComplaint true text = IsComplaintData text

-- Nothing was done, and the text says so.
pub record IsRefused (is_json : Bool) (old new : Plan) (text : List ℕ) : Type 0 where
  pub same : new ≡ old
  pub says : IsComplaint is_json text

-- What was done to a job is confirmed, if there was such a job.
abbrev pub Confirms : Bool → Option Job → List ℕ → Type 0
Confirms is_json None text = IsComplaint is_json text
Confirms is_json (Some job) text = text ≡ done_text is_json

-- Jobs that were due at `now` were taken off, the first of them first.
abbrev pub Pops : ℕ → Plan → List Job → Plan → Type 0
Pops now old [] new = new ≡ old
Pops now old (job ∷ jobs) new = (first_due now old.jobs ≡ Some job) × Pops now (without_due now old) jobs new

-- All jobs that were due at `now` were taken off, and the answer shows them.
pub record PopsAll (style : Style) (now : ℕ) (old new : Plan) (text : List ℕ) : Type 0 where
  pub jobs : List Job
  pub pops : Pops now old jobs new
  pub none_left : first_due now new.jobs ≡ None
  pub shows : ShowsAll style.is_json style.has_dates jobs text

-- What an obeyed command makes of the plan, and its answer.
abbrev pub Obeys : Style → Command → Plan → Plan → List ℕ → Type 0
Obeys style (commands.At deadline payload) old new text =
    (new ≡ scheduled deadline payload.now old) × (text ≡ number_text style.is_json old.next)
Obeys style (commands.Cancel id) old new text = (new ≡ cancelled id old) × Confirms style.is_json (job_at id old.jobs) text
Obeys style (commands.Move id deadline) old new text = (new ≡ moved id deadline old) × Confirms style.is_json (job_at id old.jobs) text
Obeys style (commands.Due now) old new text = PopsAll style now old new text
Obeys style (commands.Claim now until) old new text =
    (new ≡ claimed now until old) × Shows style.is_json style.has_dates (option_map (attempted until) (first_due now old.jobs)) text
Obeys style commands.Next old new text = (new ≡ old) × TellsDeadline style.is_json style.has_dates (first_deadline old.jobs) text
Obeys style commands.List old new text = new ≡ old
Obeys style commands.Compact old new text = (new ≡ old) × (text ≡ done_text style.is_json)
Obeys style commands.Help old new text = new ≡ old
Obeys style commands.Blank old new text = (new ≡ old) × (text ≡ blank_text style.is_json)

-- A command was obeyed, or refused.
abbrev pub Answers : Style → Command → Plan → Plan → List ℕ → Type 0
Answers style command old new text = Obeys style command old new text ⊎ IsRefused style.is_json old new text
