-- Jobs that are shown one after the other, and values of JSON that have no float.
use Rattle.std.proofs.Common.{◌≡◌, inl, inr, ℕ, List, [], ◌∷◌, ◌++◌, length, ◌==◌, Result, Ok, Err, IfOk, Bool, true, false, ◌||◌, refl, sym, ap, ◌∙◌, subst, append_assoc, codes, decimal, arith, length-append}
use Rattle.std.proofs.lemmas.List.{append-nil}
use borrow.Author.Tests.{eqb-true}
use Rattle.line_service.specs.Times.{IsTimeData}
use Rattle.serde_json.specs.Data.{Data}
use Rattle.serde_json.specs.View.{items_of}
use Rattle.serde_json.specs.Written.{has_float, items_have_float}
use Rattle.agenda_store.specs.Plan.{Job}
use Rattle.jobs.specs.Answer.{AreLines, AreData, IsJobLine, IsJobData, IsLines, ShowsAll, joined, line}

pub ok_by : {A E : Type 0} (P Q : A → Type 0) (r : Result A E) → IfOk r P → ((x : A) → P x → Q x) → IfOk r Q
ok_by P Q (Ok x) ok more = more x ok
ok_by P Q (Err e) ok more = tt

pub lines_more : (has_dates : Bool) (jobs : List Job) (texts : List (List ℕ)) (job : Job) (text : List ℕ) → AreLines has_dates jobs texts → IsJobLine has_dates job text
    → AreLines has_dates (jobs ++ job ∷ []) (texts ++ text ∷ [])
lines_more has_dates [] [] job text are is = (is, tt)
lines_more has_dates [] (one ∷ texts) job text are is = absurd are
lines_more has_dates (first ∷ jobs) [] job text are is = absurd are
lines_more has_dates (first ∷ jobs) (one ∷ texts) job text are is = (are.0, lines_more has_dates jobs texts job text are.1 is)

pub data_more : (has_dates : Bool) (jobs : List Job) (values : List Data) (job : Job) (value : Data) → AreData has_dates jobs values → IsJobData has_dates job value
    → AreData has_dates (jobs ++ job ∷ []) (values ++ value ∷ [])
data_more has_dates [] [] job value are is = (is, tt)
data_more has_dates [] (one ∷ values) job value are is = absurd are
data_more has_dates (first ∷ jobs) [] job value are is = absurd are
data_more has_dates (first ∷ jobs) (one ∷ values) job value are is = (are.0, data_more has_dates jobs values job value are.1 is)

pub joined_more : (texts : List (List ℕ)) (text : List ℕ) → joined (texts ++ text ∷ []) ≡ joined texts ++ text
joined_more [] text = append-nil text
joined_more (one ∷ texts) text = ap (λ (l : List ℕ). one ++ l) (joined_more texts text) ∙ sym (append_assoc one (joined texts) text)

pub time_no_float : (has_dates : Bool) (seconds : ℕ) (value : Data) → IsTimeData has_dates seconds value → has_float value ≡ false
time_no_float false seconds value is = ap has_float is
time_no_float true seconds value (inl date) = ap has_float date.1.1.1
time_no_float true seconds value (inr digits) = ap has_float digits.1

pub job_no_float : (has_dates : Bool) (job : Job) (value : Data) → IsJobData has_dates job value → has_float value ≡ false
job_no_float has_dates job value is =
    ap has_float is.is ∙ ap (λ (b : Bool). b || false) (time_no_float has_dates job.deadline is.deadline is.due)

pub jobs_no_float : (has_dates : Bool) (jobs : List Job) (values : List Data) → AreData has_dates jobs values → items_have_float (items_of values) ≡ false
jobs_no_float has_dates [] [] are = refl
jobs_no_float has_dates [] (one ∷ values) are = absurd are
jobs_no_float has_dates (job ∷ jobs) [] are = absurd are
jobs_no_float has_dates (job ∷ jobs) (value ∷ values) are =
    ap (λ (b : Bool). b || items_have_float (items_of values)) (job_no_float has_dates job value are.0) ∙ jobs_no_float has_dates jobs values are.1

-- A job has a line, which isn't empty.
pub lines_none : (has_dates : Bool) (jobs : List Job) (texts : List (List ℕ)) → AreLines has_dates jobs texts → joined texts ≡ [] → jobs ≡ []
lines_none has_dates [] texts are none = refl
lines_none has_dates (job ∷ jobs) [] are none = absurd are
lines_none has_dates (job ∷ jobs) (text ∷ texts) are none =
    let all = ap length none in
    let one = ap length are.0.is in
    absurd (omega (arith, simp length-append at all, simp length-append at one))

empty_is : (lines : List ℕ) → (length lines == 0) ≡ true → lines ≡ []
empty_is [] is = refl
empty_is (x ∷ lines) is = absurd (omega (arith, eqb-true (length (x ∷ lines)) 0 is))

pub shows_none : (has_dates : Bool) (jobs : List Job) (lines text : List ℕ) → IsLines has_dates jobs lines → (length lines == 0) ≡ true → text ≡ line (codes "no job")
    → ShowsAll false has_dates jobs text
shows_none has_dates jobs lines text are none is =
    subst (λ (l : List Job). ShowsAll false has_dates l text) (sym (lines_none has_dates jobs are.0 are.1.0 (sym are.1.1 ∙ empty_is lines none))) is

pub shows_some : (has_dates : Bool) (jobs : List Job) (lines : List ℕ) → IsLines has_dates jobs lines → (length lines == 0) ≡ false → ShowsAll false has_dates jobs lines
shows_some has_dates [] lines ([], are) some =
    let wrong : true ≡ false = ap (λ (l : List ℕ). length l == 0) (sym are.1) ∙ some in
    cc
shows_some has_dates [] lines (text ∷ texts, are) some = absurd are.0
shows_some has_dates (job ∷ jobs) lines are some = are
