-- One step along a chain.
use Rattle.std.proofs.Common.{◌≡◌, ℕ, List, [], ◌∷◌, ◌++◌, Option, Some, None, refl, sym, ap, ◌∙◌, arith, inl, inr, option_and_then}
use Rattle.std.proofs.{lemmas.Bool.Decides.eqb_tells, lemmas.Grind.common_steps, lemmas.Option.same_Some}
use Rattle.chain_base.specs.{Chain.Entry, Chain.Chain, Chain.times, Chain.IsDistinct, Chain.link_at, Chain.first_or, Chain.from_index, Walk.pointers, Walk.pointers_left, Walk.GivesEntry, Link.Link}
use Rattle.chain_base.proofs.{Lists.linked-occurs, Lists.times-unlinked, Lists.times-append, Lists.times-here, Lists.Stands-occurs, Renumbering.link_at-split}

module _ {T : Type 0} where
  from_index-split : (front : List (Entry T)) (e : Entry T) (back : List (Entry T)) (i : ℕ) → e.index ≡ i → times i front ≡ 0 → from_index (front ++ e ∷ back) i ≡ e ∷ back
  from_index-split [] e back i here unmet = elim (eqb_tells e.index i) [ inl h ↦ rw h.0 refl | inr h ↦ absurd (h.1 here) ]
  from_index-split (f ∷ front) e back i here unmet = grind (arith, common_steps, from_index-split front e back i here)

  from_index-absent : (es : List (Entry T)) (i : ℕ) → times i es ≡ 0 → from_index es i ≡ []
  from_index-absent [] i absent = refl
  from_index-absent (e ∷ es) i absent = grind (arith, common_steps, from_index-absent es i)

  -- no entry has the index
  pub pointers_left-none : (es : List (Entry T)) (i : ℕ) → None ≡ link_at es i → pointers (from_index es i) ≡ []
  pointers_left-none es i none = ap pointers (from_index-absent es i (times-unlinked None None es i (sym none)))

  -- the entries behind an entry are those that its link leads to
  behind : (c : Chain T) (front : List (Entry T)) (e : Entry T) (back : List (Entry T)) → IsDistinct c.entries
      → c.entries ≡ front ++ e ∷ back → pointers_left (first_or None back) c ≡ pointers back
  behind c front e [] distinct split = refl
  behind c front e (f ∷ back) distinct split =
      grind (arith, common_steps, times-append f.index (front ++ e ∷ []) (f ∷ back), times-here f.index f back refl, from_index-split (front ++ e ∷ []) f back f.index refl)

  -- a walk at the index of an entry returns it, and follows its link
  pub gives-from_link : (c : Chain T) (i g : ℕ) (l : Link T) → IsDistinct c.entries → ◌≡◌ {A = Option (ℕ × Link T)} (Some (g, l)) (link_at c.entries i) → GivesEntry (Some i) l.next c i g
  gives-from_link c i g l distinct held =
      let s = Stands-occurs c.entries i (linked-occurs c.entries i (g, l) (sym held)) in
      let pair = same_Some (g, l) _ (held ∙ link_at-split c.entries s.front s.entry s.back s.split distinct i s.here) in
      let here : pointers_left (Some i) c ≡ (s.entry.index, s.entry.generation) ∷ pointers s.back =
      ap pointers (ap (λ es. from_index es i) s.split ∙ from_index-split s.front s.entry s.back i s.here s.unmet) in
      let era : g ≡ s.entry.generation = ap (λ x. x.0) pair in
      let next : l.next ≡ first_or None s.back = ap (λ x. x.1.next) pair in
      record {
        stood = refl;
        first = here ∙ (let on = behind c s.front s.entry s.back distinct s.split in cc);
        stands = ap (option_and_then (λ (e : ℕ × Link T). e.1.next)) held;
      }
