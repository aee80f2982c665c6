-- A history goes on by one session.
use Rattle.std.proofs.Common.{◌≡◌, ◌⊎◌, ◌<◌, ◌+◌, ℕ, zero, suc, List, [], ◌∷◌, ◌++◌, length, take, get_or, Vec, sym, ap, ◌∙◌, subst, arith, add-one}
use Rattle.std.specs.declared.alloc.Global.{Global}
use Rattle.job_table.specs.Plan.{Plan}
use Rattle.agenda_store.specs.Requests.{after}
use Rattle.agenda_store.specs.History.{Batch, Replies, AreAnswered, IsHistory}

abbrev Sessions : Type 0
Sessions = List (Vec Batch Global)

abbrev Told : Type 0
Told = List (Vec Replies Global)

more : (ss : Sessions) (ns : Told) (p q : Plan) (s : Vec Batch Global) (n : Vec Replies Global) (count : ℕ) → AreAnswered s.items q n.items
    → (count ≡ length n.items) ⊎ (count ≡ length n.items + 1)
    → IsHistory ss ns p q → IsHistory (ss ++ s ∷ []) (ns ++ n ∷ []) p (after (take count s.items) q)
more [] [] p q s n count all which h =
    (subst (λ (x : Plan). AreAnswered s.items x n.items) h all, (count, which, ap (after (take count s.items)) h))
more [] (m ∷ ns) p q s n count all which h = absurd h
more (t ∷ ss) [] p q s n count all which h = absurd h
more (t ∷ ss) (m ∷ ns) p q s n count all which h = (h.0, (h.1.0, h.1.1, more ss ns (after (take h.1.0 t.items) p) q s n count all which h.1.2))

taken : (ss : Sessions) (i : ℕ) (s : Vec Batch Global) → i < length ss → s ≡ get_or ss i s → take (suc i) ss ≡ take i ss ++ s ∷ []
taken [] i s less is = absurd (omega arith)
taken (t ∷ ss) zero s less is = ap (λ (v : Vec Batch Global). v ∷ []) (sym is)
taken (t ∷ ss) (suc i) s less is = ap (λ (l : Sessions). t ∷ l) (taken ss i s (omega (arith, less)) is)

pub history_more : (ss : Sessions) (i : ℕ) (ns : Told) (p q : Plan) (s : Vec Batch Global) (n : Vec Replies Global) (count : ℕ) → i < length ss → s ≡ get_or ss i s
    → AreAnswered s.items q n.items → (count ≡ length n.items) ⊎ (count ≡ length n.items + 1) → IsHistory (take i ss) ns p q
    → IsHistory (take (i + 1) ss) (ns ++ n ∷ []) p (after (take count s.items) q)
history_more ss i ns p q s n count less is all which h =
    subst (λ (l : Sessions). IsHistory l (ns ++ n ∷ []) p (after (take count s.items) q)) (sym (ap (λ (k : ℕ). take k ss) (add-one i) ∙ taken ss i s less is))
    (more (take i ss) ns p q s n count all which h)
