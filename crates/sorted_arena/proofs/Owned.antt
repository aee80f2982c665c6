-- Entries that are taken out of an arena one after another, from both ends.
use Rattle.std.proofs.Common.{◌≡◌, ◌∙◌, ◌++◌, ℕ, arith, length, length-append, List, [], ◌∷◌, Option, Some, None, refl, sym, ap}
use Rattle.std.specs.{Iterator.YieldsFirstBy, Iterator.YieldsLastBy, Iterator.MakesProgress, Iterator.item_count, Option.MatchOption, Option.option_map}
use Rattle.listing.specs.{Chain.Entry, Gap.first_of, Gap.last_of}
use Rattle.listing.proofs.CallerLemmas.{entries-without_first, entries-without_last}
use Rattle.sorted_arena.specs.{Given.given_entry, Sorted.Sorted, Sorted.behind_first, Sorted.before_last, Sorted.without_first, Sorted.without_last}
use Rattle.sorted_arena.proofs.Cutting.{some-same}

module _ {P K V : Type 0} (numbers : P → ℕ × ℕ) (greatest : Option ℕ) where
  abbrev given : P × K × V → Entry (K × V)
  given x = given_entry numbers x

  pub takes-first : (old new : Sorted K V) (r : Option (P × K × V)) → option_map given r ≡ first_of old.entries → new ≡ without_first greatest old
      → YieldsFirstBy given (λ (es : List (Entry (K × V))). es) old.entries r new.entries
  takes-first old new r value after = go old.entries new.entries r value (ap (λ (a : Sorted K V). a.entries) after ∙ entries-without_first greatest old)
    where
      go : (es ns : List (Entry (K × V))) (r : Option (P × K × V)) → option_map given r ≡ first_of es → ns ≡ behind_first es
          → MatchOption r ((es ≡ []) × (ns ≡ [])) (λ x. es ≡ given x ∷ ns)
      go [] ns None value left = (refl, left)
      go [] ns (Some x) value left = absurd (cc)
      go (e ∷ es) ns None value left = absurd (cc)
      go (e ∷ es) ns (Some x) value left =
          let same : given x ≡ e = some-same value in
          ap (λ y. y ∷ es) (sym same) ∙ ap (λ (zs : List (Entry (K × V))). given x ∷ zs) (sym left)

  last-cut : (e : Entry (K × V)) (es : List (Entry (K × V))) (x : Entry (K × V)) → Some x ≡ last_of None (e ∷ es) → e ∷ es ≡ before_last (e ∷ es) ++ x ∷ []
  last-cut e [] x is = let same : x ≡ e = some-same is in ap (λ (y : Entry (K × V)). y ∷ []) (sym same)
  last-cut e (f ∷ es) x is = ap (λ (ys : List (Entry (K × V))). e ∷ ys) (last-cut f es x is)

  last-some : (e : Entry (K × V)) (es : List (Entry (K × V))) → None ≡ last_of None (e ∷ es) → ⊥
  last-some e [] is = absurd (cc)
  last-some e (f ∷ es) is = last-some f es is

  pub takes-last : (old new : Sorted K V) (r : Option (P × K × V)) → option_map given r ≡ last_of None old.entries → new ≡ without_last greatest old
      → YieldsLastBy given (λ (es : List (Entry (K × V))). es) old.entries r new.entries
  takes-last old new r value after = go old.entries new.entries r value (ap (λ (a : Sorted K V). a.entries) after ∙ entries-without_last greatest old)
    where
      go : (es ns : List (Entry (K × V))) (r : Option (P × K × V)) → option_map given r ≡ last_of None es → ns ≡ before_last es
          → MatchOption r ((es ≡ []) × (ns ≡ [])) (λ x. es ≡ ns ++ given x ∷ [])
      go [] ns None value left = (refl, left)
      go [] ns (Some x) value left = absurd (cc)
      go (e ∷ es) ns None value left = absurd (last-some e es value)
      go (e ∷ es) ns (Some x) value left = last-cut e es (given x) value ∙ ap (λ (zs : List (Entry (K × V))). zs ++ given x ∷ []) (sym left)

  -- each step leaves one entry less
  pub fewer-first : (can : List (Entry (K × V)) → Type 0) (es ns : List (Entry (K × V))) (r : Option (P × K × V)) → can ns → YieldsFirstBy given (λ (es : List (Entry (K × V))). es) es r ns
      → MakesProgress can (item_count (λ (es : List (Entry (K × V))). es)) es r ns
  fewer-first can es ns None able is = record { on = λ _. tt; keeps = tt; rests = λ _. tt }
  fewer-first can es ns (Some x) able is = record { on = λ _. (able, tt, omega (arith, ap length is)); keeps = able; rests = λ _. tt }

  pub fewer-last : (can : List (Entry (K × V)) → Type 0) (es ns : List (Entry (K × V))) (r : Option (P × K × V)) → can ns → YieldsLastBy given (λ (es : List (Entry (K × V))). es) es r ns
      → MakesProgress can (item_count (λ (es : List (Entry (K × V))). es)) es r ns
  fewer-last can es ns None able is = record { on = λ _. tt; keeps = tt; rests = λ _. tt }
  fewer-last can es ns (Some x) able is = record { on = λ _. (able, tt, omega (arith, simp length-append at (ap length is))); keeps = able; rests = λ _. tt }
