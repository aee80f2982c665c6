-- The numbers that are given rise.
use Rattle.std.proofs.Common.{◌≡◌, ◌⊎◌, inl, inr, ◌+◌, ◌≤◌, ℕ, zero, suc, List, [], ◌∷◌, ◌++◌, length, take, Vec, refl, sym, ap, subst, arith, Option, Some, None}
use Rattle.std.specs.declared.alloc.Global.{Global}
use Rattle.job_table.specs.Plan.{Job, Plan, claimed_if, cancelled_if, first_due}
use Rattle.agenda_store.specs.Requests.{answered, answered_all, after, IsReply, AllReply}
use Rattle.agenda_store.specs.History.{Batch, Replies, AreAnswered, IsHistory, numbers_in, numbers_of, numbers_told, IsRising}
use Rattle.agenda_store.specs.declared.requests.Request.{Request}
use Rattle.agenda_store.specs.declared.requests.Request.TheVariants.{Schedule, Cancel, Reschedule, PopDue, ClaimDue}
use Rattle.agenda_store.specs.declared.requests.Reply.{Reply}
use Rattle.agenda_store.specs.declared.requests.Reply.TheVariants.{Scheduled, Cancelled, Rescheduled, Popped, Claimed}

abbrev Batches : Type 0
Batches = List Batch

rising_from : (low lower high : ℕ) (ns : List ℕ) → lower ≤ low → IsRising low high ns → IsRising lower high ns
rising_from low lower high [] le h = omega (arith, le, h)
rising_from low lower high (n ∷ ns) le h = let first = h.0 in (omega (arith, le, first), h.1)

rising_to : (low high higher : ℕ) (ns : List ℕ) → high ≤ higher → IsRising low high ns → IsRising low higher ns
rising_to low high higher [] le h = omega (arith, le, h)
rising_to low high higher (n ∷ ns) le h = (h.0, rising_to (n + 1) high higher ns le h.1)

rising_then : (low mid high : ℕ) (ns ms : List ℕ) → IsRising low mid ns → IsRising mid high ms → IsRising low high (ns ++ ms)
rising_then low mid high [] ms one two = rising_from mid low high ms one two
rising_then low mid high (n ∷ ns) ms one two = (one.0, rising_then (n + 1) mid high ns ms one.1 two)

popped_next : (o : Option Job) (plan : Plan) → (cancelled_if o plan).next ≡ plan.next
popped_next None plan = refl
popped_next (Some job) plan = refl

claimed_next : (until : ℕ) (o : Option Job) (plan : Plan) → (claimed_if until o plan).next ≡ plan.next
claimed_next until None plan = refl
claimed_next until (Some job) plan = refl

pub next_answered : (request : Request) (plan : Plan) → plan.next ≤ (answered request plan).next
next_answered (Schedule deadline bytes) plan = omega arith
next_answered (Cancel id) plan = omega arith
next_answered (Reschedule id deadline) plan = omega arith
next_answered (PopDue now) plan = let e = popped_next (first_due now plan.jobs) plan in omega (arith, e)
next_answered (ClaimDue now until) plan = let e = claimed_next until (first_due now plan.jobs) plan in omega (arith, e)

next_all : (requests : List Request) (plan : Plan) → plan.next ≤ (answered_all requests plan).next
next_all [] plan = omega arith
next_all (request ∷ requests) plan =
    let one = next_answered request plan in
    let more = next_all requests (answered request plan) in
    omega (arith, one, more)

next_after : (batches : Batches) (plan : Plan) → plan.next ≤ (after batches plan).next
next_after [] plan = omega arith
next_after (batch ∷ batches) plan =
    let one = next_all batch.items plan in
    let more = next_after batches (answered_all batch.items plan) in
    omega (arith, one, more)

one_reply : (request : Request) (plan : Plan) (reply : Reply) → IsReply request plan reply → IsRising plan.next (answered request plan).next (numbers_in (reply ∷ []))
one_reply (Schedule deadline bytes) plan (Scheduled id) is = (omega (arith, is), omega (arith, is))
one_reply (Schedule deadline bytes) plan (Cancelled job) is = absurd is
one_reply (Schedule deadline bytes) plan (Rescheduled found) is = absurd is
one_reply (Schedule deadline bytes) plan (Popped job) is = absurd is
one_reply (Schedule deadline bytes) plan (Claimed job) is = absurd is
one_reply (Cancel id) plan (Scheduled new) is = absurd is
one_reply (Cancel id) plan (Cancelled job) is = next_answered (Cancel id) plan
one_reply (Cancel id) plan (Rescheduled found) is = absurd is
one_reply (Cancel id) plan (Popped job) is = absurd is
one_reply (Cancel id) plan (Claimed job) is = absurd is
one_reply (Reschedule id deadline) plan (Scheduled new) is = absurd is
one_reply (Reschedule id deadline) plan (Cancelled job) is = absurd is
one_reply (Reschedule id deadline) plan (Rescheduled found) is = next_answered (Reschedule id deadline) plan
one_reply (Reschedule id deadline) plan (Popped job) is = absurd is
one_reply (Reschedule id deadline) plan (Claimed job) is = absurd is
one_reply (PopDue now) plan (Scheduled new) is = absurd is
one_reply (PopDue now) plan (Cancelled job) is = absurd is
one_reply (PopDue now) plan (Rescheduled found) is = absurd is
one_reply (PopDue now) plan (Popped job) is = next_answered (PopDue now) plan
one_reply (PopDue now) plan (Claimed job) is = absurd is
one_reply (ClaimDue now until) plan (Scheduled new) is = absurd is
one_reply (ClaimDue now until) plan (Cancelled job) is = absurd is
one_reply (ClaimDue now until) plan (Rescheduled found) is = absurd is
one_reply (ClaimDue now until) plan (Popped job) is = absurd is
one_reply (ClaimDue now until) plan (Claimed job) is = next_answered (ClaimDue now until) plan

split_first : (reply : Reply) (replies : List Reply) → numbers_in (reply ∷ replies) ≡ numbers_in (reply ∷ []) ++ numbers_in replies
split_first (Scheduled id) replies = refl
split_first (Cancelled job) replies = refl
split_first (Rescheduled found) replies = refl
split_first (Popped job) replies = refl
split_first (Claimed job) replies = refl

of_batch : (requests : List Request) (plan : Plan) (replies : List Reply) → AllReply requests plan replies → IsRising plan.next (answered_all requests plan).next (numbers_in replies)
of_batch [] plan [] all = omega arith
of_batch [] plan (reply ∷ replies) all = absurd all
of_batch (request ∷ requests) plan [] all = absurd all
of_batch (request ∷ requests) plan (reply ∷ replies) all =
    let mid = answered request plan in
    let high = (answered_all requests mid).next in
    subst (IsRising plan.next high) (sym (split_first reply replies))
    (rising_then plan.next mid.next high (numbers_in (reply ∷ [])) (numbers_in replies) (one_reply request plan reply all.0) (of_batch requests mid replies all.1))

-- The numbers that the answered batches give are below the next one, also after one more batch.
of_session : (batches : Batches) (plan : Plan) (told : List Replies) (count : ℕ) → (count ≡ length told) ⊎ (count ≡ length told + 1) → AreAnswered batches plan told
    → IsRising plan.next (after (take count batches) plan).next (numbers_of told)
of_session batches plan [] count which all = next_after (take count batches) plan
of_session [] plan (replies ∷ told) count which all = absurd all
of_session (batch ∷ batches) plan (replies ∷ told) zero which all = absurd (elim which [ inl e ↦ omega (arith, e) | inr e ↦ omega (arith, e) ])
of_session (batch ∷ batches) plan (replies ∷ told) (suc count) which all =
    let mid = answered_all batch.items plan in
    let high = (after (take count batches) mid).next in
    rising_then plan.next mid.next high (numbers_in replies.items) (numbers_of told) (of_batch batch.items plan replies.items all.0)
    (of_session batches mid told count (elim which [ inl e ↦ inl (omega (arith, e)) | inr e ↦ inr (omega (arith, e)) ]) all.1)

pub numbers_are_new : (sessions : List (Vec Batch Global)) (told : List (Vec Replies Global)) (first last : Plan) → IsHistory sessions told first last
    → IsRising first.next last.next (numbers_told told)
numbers_are_new [] [] first last same = let e = ap (λ (p : Plan). p.next) same in omega (arith, e)
numbers_are_new [] (answered ∷ told) first last h = absurd h
numbers_are_new (session ∷ sessions) [] first last h = absurd h
numbers_are_new (session ∷ sessions) (answered ∷ told) first last h =
    let count = h.1.0 in
    let mid = after (take count session.items) first in
    rising_then first.next mid.next last.next (numbers_of answered.items) (numbers_told told)
    (of_session session.items first answered.items count h.1.1 h.0) (numbers_are_new sessions told mid last h.1.2)
