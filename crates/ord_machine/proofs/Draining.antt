-- Entries removed from the front of a list, one after another.
use Rattle.std.proofs.Common.{◌≡◌, ℕ, ◌<◌, min, List, [], ◌∷◌, ◌++◌, length, map, take, Option, Some, None, IsSome, refl, sym, ap, ◌∙◌, arith, length-append}
use Rattle.std.proofs.{lemmas.List.take_min, lemmas.List.map-append, Math.Seq.take-append_seam}
use Rattle.triple_ord.specs.Chain.{Entry, Chain, removed}
use Rattle.ord_machine.specs.Machine.{removed_each, entry_of}
use Rattle.ord_machine.proofs.Lists.{cut_more}

-- one more entry
module _ {T : Type 0} (greatest : Option ℕ) where
  removed_each-more : (c : Chain T) (es : List (Entry T)) (e : Entry T)
      → removed_each greatest c (es ++ e ∷ []) ≡ removed greatest (removed_each greatest c es) e.index
  removed_each-more c [] e = refl
  removed_each-more c (f ∷ es) e = removed_each-more (removed greatest c f.index) es e

-- the entries so far, in front of those of the chain as it is now; and then one more
module _ {P T : Type 0} (greatest : Option ℕ) (pointer : P → ℕ × ℕ) (c now next : Chain T) (pairs : List (P × T)) (x : P × T)
    (after : List (P × T)) (more : after ≡ pairs ++ x ∷ []) where
  entries_more : map (entry_of pointer) after ≡ map (entry_of pointer) pairs ++ entry_of pointer x ∷ []
  entries_more = ap (map (entry_of pointer)) more ∙ map-append (entry_of pointer) pairs (x ∷ [])

  pub cut_drained : map (entry_of pointer) pairs ++ now.entries ≡ c.entries → now.entries ≡ entry_of pointer x ∷ next.entries → map (entry_of pointer) after ++ next.entries ≡ c.entries
  cut_drained cut first =
      ap (λ es. es ++ next.entries) entries_more ∙ cut_more c.entries (map (entry_of pointer) pairs) now.entries next.entries (entry_of pointer x) cut first

  pub taken_drained : now ≡ removed_each greatest c (map (entry_of pointer) pairs) → next ≡ removed greatest now (pointer x.0).0
      → next ≡ removed_each greatest c (map (entry_of pointer) after)
  taken_drained taken out =
      out ∙ ap (λ d. removed greatest d (pointer x.0).0) taken ∙ sym (removed_each-more greatest c (map (entry_of pointer) pairs) (entry_of pointer x)) ∙ ap (removed_each greatest c) (sym entries_more)

module _ {X : Type 0} where
  -- as many elements as this, in front of a rest, are the first ones
  pub first_are : (num : ℕ) (all done rest : List X) → done ++ rest ≡ all → length done ≡ min num (length all) → take num all ≡ done
  first_are num all done rest cut count =
      sym (take_min num all) ∙ ap (λ n. take n all) (sym count) ∙ ap (take (length done)) (sym cut) ∙ take-append_seam done rest

  -- before the last of them there is a next one
  pub next_there : {N : Type 0} (o : Option N) (num : ℕ) (all done rest : List X) → done ++ rest ≡ all → length done < min num (length all) → (o ≡ None → rest ≡ []) → IsSome o
  next_there None num all done rest cut before ended = absurd (omega (arith, before, ap length cut, length-append done rest, ap length (ended refl)))
  next_there (Some x) num all done rest cut before ended = refl
