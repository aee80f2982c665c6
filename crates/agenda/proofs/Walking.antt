-- Walking along the jobs of an agenda by index.
use Rattle.std.proofs.Common.{◌≡◌, ℕ, List, [], ◌∷◌, ◌++◌, append_assoc, Option, Some, None, refl, sym, ap, ◌∙◌, arith}
use Rattle.std.proofs.lemmas.{Grind.common_steps}
use Rattle.std.specs.Option.{option_map}
use Rattle.listing.specs.{Chain.Entry, Chain.IsDistinct, Chain.entry_at, Chain.link_at, Chain.from_index, Walk.entries_left, Gap.first_of, Link.Link}
use Rattle.listing.proofs.{ChainLemmas.entry_at-link, OrdLemmas.stands, OrdLemmas.link-read, OrdLemmas.from_index-here}

-- an index read as itself
pub unmapped : (o : Option ℕ) → option_map (λ i. i) o ≡ o
unmapped None = refl
unmapped (Some i) = refl

module _ {T : Type 0} (es : List (Entry T)) where
  -- the entries from that behind one on
  follows : IsDistinct es → (front : List (Entry T)) (e : Entry T) (back : List (Entry T)) → es ≡ front ++ e ∷ back → entries_left es (option_map (λ f. f.index) (first_of back)) ≡ back
  follows distinct front e [] cut = refl
  follows distinct front e (f ∷ back) cut = from_index-here es distinct (front ++ e ∷ []) f back (cut ∙ sym (append_assoc front (e ∷ []) (f ∷ back)))

  -- the entry at an index, and those from the one behind it on
  pub walk-step : IsDistinct es → (i g : ℕ) (l : Link T) → Some (g, l) ≡ link_at es i → entries_left es (Some i) ≡ record { index = i; generation = g; item = l.item } ∷ entries_left es l.next
  walk-step distinct i g l found =
      let s = stands es i (rw (entry_at-link None None es i, ← found) refl) in
      let linked = link-read es distinct s.front s.entry s.back s.cut g l (ap (link_at es) s.here ∙ sym found) in
      rw (← s.here, ← linked.generation, ← linked.item, ← linked.next, follows distinct s.front s.entry s.back s.cut) (from_index-here es distinct s.front s.entry s.back s.cut)

  -- from an index without an entry nothing is left
  pub walk-end : (i : ℕ) → None ≡ link_at es i → entries_left es (Some i) ≡ []
  walk-end i missing = go es (entry_at-link None None es i ∙ ap (option_map (λ (e : ℕ × Link T). (e.0, e.1.item))) (sym missing))
    where
      go : (xs : List (Entry T)) → entry_at xs i ≡ None → from_index xs i ≡ []
      go [] none = refl
      go (x ∷ xs) none = grind (arith, common_steps, go xs)
