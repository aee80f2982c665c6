-- One more batch is answered.
use Rattle.std.proofs.Common.{◌≡◌, ◌<◌, ℕ, zero, suc, List, [], ◌∷◌, ◌++◌, length, take, get_or, subst, arith}
use Rattle.job_table.specs.Plan.{Plan}
use Rattle.agenda_store.specs.Requests.{answered_all, after, AllReply}
use Rattle.agenda_store.specs.History.{Batch, Replies, AreAnswered}

pub answered_more : (batches : List Batch) (p : Plan) (told : List Replies) (i : ℕ) (batch : Batch) (replies : Replies) → i < length batches → batch ≡ get_or batches i batch
    → length told ≡ i → AreAnswered batches p told → AllReply batch.items (after (take i batches) p) replies.items → AreAnswered batches p (told ++ replies ∷ [])
answered_more [] p told i batch replies less is count all one = absurd (omega arith)
answered_more (b ∷ batches) p [] zero batch replies less is count all one = (subst (λ (x : Batch). AllReply x.items p replies.items) is one, tt)
answered_more (b ∷ batches) p [] (suc i) batch replies less is count all one = absurd (omega arith)
answered_more (b ∷ batches) p (r ∷ told) zero batch replies less is count all one = absurd (omega arith)
answered_more (b ∷ batches) p (r ∷ told) (suc i) batch replies less is count all one =
    (all.0, answered_more batches (answered_all b.items p) told i batch replies (omega (arith, less)) is (omega (arith, count)) all.1 one)
