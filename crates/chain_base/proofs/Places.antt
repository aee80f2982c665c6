-- Where a new entry goes: the two stretches of the list on its sides.
use Rattle.std.proofs.Common.{◌≡◌, ℕ, List, [], ◌∷◌, ◌++◌, Some, None, sym, ap, ◌∙◌, arith, append_assoc, option_map}
use Rattle.std.proofs.lemmas.Grind.{common_steps}
use Rattle.chain_base.specs.{Chain.Entry, Chain.link_at, Chain.first_or, Chain.last_or, Chain.insert_after, Chain.insert_before, Link.Link, Insert.PutsBetween}
use Rattle.chain_base.proofs.Lists.{link_between-append, link_between-absent, last_or-append, same_index, Stands, Stands-occurs}

module _ {T : Type 0} where
  -- the neighbours of the entry at an index, if the list is split there
  link_at-ends : (es : List (Entry T)) (i : ℕ) (l : Link T) → option_map (λ e. e.1) (link_at es i) ≡ Some l → (s : Stands es i)
      → (l.prev ≡ last_or None s.front) × (l.next ≡ first_or None s.back)
  link_at-ends es i l linked s = grind (arith, common_steps, s.here, s.unmet, i, s.split, linked, link_between-absent, link_between-append, same_index)

  -- directly after an entry
  pub PutsBetween-after : (es : List (Entry T)) (i : ℕ) (l : Link T) → option_map (λ e. e.1) (link_at es i) ≡ Some l → PutsBetween es (λ new. insert_after i new es) (Some i) l.next
  PutsBetween-after es i l linked =
      let s = Stands-occurs es i (grind (arith, common_steps, link_between-absent None None es i)) in
      record {
        front = s.front ++ s.entry ∷ [];
        back = s.back;
        split = s.split ∙ sym (append_assoc s.front (s.entry ∷ []) s.back);
        prev_is = ap Some (sym s.here) ∙ sym (last_or-append None s.front (s.entry ∷ []));
        next_is = (link_at-ends es i l linked s).1;
        puts = λ new. s.after new ∙ sym (append_assoc s.front (s.entry ∷ []) (new ∷ s.back));
      }

  -- directly before an entry
  pub PutsBetween-before : (es : List (Entry T)) (i : ℕ) (l : Link T) → option_map (λ e. e.1) (link_at es i) ≡ Some l → PutsBetween es (λ new. insert_before i new es) l.prev (Some i)
  PutsBetween-before es i l linked = grind (arith, common_steps, Stands-occurs es i, link_between-absent None None es i, link_at-ends es i l linked)
