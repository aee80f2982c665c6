-- What each call of a clone keeps of its item is found at the index of its entry.
use Rattle.std.proofs.Common.{◌≡◌, ℕ, zero, suc, ◌+◌, ◌<◌, List, [], ◌∷◌, ◌++◌, length, map, slice_get, Option, Some, None, is_some, Result, refl, sym, ap, ◌∙◌, arith, option_map}
use Rattle.std.proofs.{lemmas.Option.slice_get-map, lemmas.Grind.common_steps, lemmas.Bool.eq-eqb, Common.cond}
use Rattle.arena_base.specs.Arena.{item_if}
use Rattle.std.specs.declared.alloc.AllocError.{AllocError}
use Rattle.arena_base.proofs.CallerLemmas.{clones-keep}
use Rattle.chain_base.specs.{Clone.links_among, Clone.links_rising, Clone.taken_over, Clone.IsClone, Clone.IsRefusedClone, Walk.pointers}
use Rattle.chain_base.specs.{Chain.Entry, Chain.Chain, Chain.IsDistinct, Chain.IsSound, Chain.entry_at, Link.Link, Compression.lesser, Compression.rising_among, Compression.entries_rising, Compression.entry_before, Chain.item_of, Chain.link_at}
use Rattle.chain_base.proofs.{Canonical.entry-absent, Canonical.entry-occurs, Canonical.rising-entry, Cloning.alike-pointers, Lists.entry_at-link, Lists.entry_at-absent}

-- the links by rising index are the entries by rising index
module _ {U K : Type 0} (see : U → K) where
  links-entries : (es : List (Entry U)) (from count : ℕ)
      → map (λ (e : ℕ × ℕ × Link U). see e.2.item) (links_among es from count) ≡ map (λ (e : ℕ × ℕ × U). see e.2) (rising_among es from count)
  links-entries es from zero = refl
  links-entries es from (suc count) = grind (arith, common_steps, entry_at-link None None es from, links-entries es (from + 1) count)

module _ {P T U F K : Type 0} (numbers : P → ℕ × ℕ) (step : F → P → Link U → T → F → Type 0) (see : U → K) (keep : T → K)
    (keeps : (f : F) (p : P) (u : Link U) (x : T) (g : F) → step f p u x g → keep x ≡ see u.item) (most : ℕ) (greatest : Option ℕ) (f : F)
    (source : Chain U) (sound : IsSound most greatest source) (old new : Chain T) (last : F) (c : IsClone numbers step f source old new last) where
  pub clone-kept : (i : ℕ) → option_map (λ e. keep e.1) (entry_at new.entries i) ≡ option_map (λ e. see e.1) (entry_at source.entries i)
  clone-kept i = by (entry_at source.entries i) refl
    where
      items : map keep c.items ≡ map (λ (e : ℕ × ℕ × U). see e.2) (entries_rising source)
      items = clones-keep numbers step (λ (u : Link U). see u.item) keep keeps (links_rising source) f last [] c.items c.calls ∙ links-entries see source.entries 1 source.capacity

      by : (o : Option (ℕ × U)) → entry_at source.entries i ≡ o → option_map (λ e. keep e.1) (entry_at new.entries i) ≡ option_map (λ e. see e.1) o
      by None is =
          let count = (alike-pointers new.entries source.entries c.entries.order).count i in
          ap (option_map (λ (e : ℕ × T). keep e.1)) (entry_at-absent new.entries i (count ∙ entry-absent source.entries i is))
      by (Some e) is =
          let place = lesser source.entries i in
          let made = c.entries.made i (entry-occurs source.entries i (ap is_some is)) in
          let kept = sym (slice_get-map keep c.items place) ∙ ap (λ ks. slice_get ks place) items ∙ slice_get-map (λ (e : ℕ × ℕ × U). see e.2) (entries_rising source) place in
          let rises = rising-entry most greatest source sound i e is in
          grind (arith, common_steps, made, kept, rises)

-- lists of the same pointers whose indexes find the same items
module _ {T : Type 0} where
  pub same_entries : (es fs : List (Entry T)) → IsDistinct es → pointers fs ≡ pointers es
      → ((i : ℕ) → option_map (λ e. e.1) (entry_at fs i) ≡ option_map (λ e. e.1) (entry_at es i)) → fs ≡ es
  same_entries [] [] distinct order items = refl
  same_entries (e ∷ es) (f ∷ fs) distinct order items =
      let rest : pointers fs ≡ pointers es = cc in
      let alike = alike-pointers fs es rest in
      let here = items e.index in
      let more = same_entries es fs (λ i. omega (arith, distinct i)) rest
      (λ i. grind (arith, common_steps, items i, distinct i, alike.count i, entry_at-absent fs i, entry_at-absent es i)) in
      grind (arith, common_steps)
  same_entries es fs distinct order items = absurd cc

-- a clone by calls that return the item that they are shown
module _ {P U F : Type 0} (numbers : P → ℕ × ℕ) (step : F → P → Link U → U → F → Type 0)
    (answers : (f : F) (p : P) (u : Link U) (x : U) (g : F) → step f p u x g → x ≡ u.item) (most : ℕ) (greatest : Option ℕ) (f : F)
    (source : Chain U) (sound : IsSound most greatest source) where
  pub clone-same : (old new : Chain U) (last : F) → IsClone numbers step f source old new last → new ≡ taken_over source old source.entries
  clone-same old new last c = c.after
      ∙ ap (taken_over source old) (same_entries source.entries new.entries sound.distinct c.entries.order (clone-kept numbers step (λ (u : U). u) (λ (u : U). u) answers most greatest f source sound old new last c))

-- the links shown are those of the list
module _ {U : Type 0} (es : List (Entry U)) (e : ℕ × ℕ × Link U) (behind : List (ℕ × ℕ × Link U)) where
  shown-link : (from count : ℕ) (before : List (ℕ × ℕ × Link U)) → links_among es from count ≡ before ++ e ∷ behind → link_at es e.0 ≡ Some (e.1, e.2)
  shown-link from zero [] is = absurd cc
  shown-link from zero (b ∷ before) is = absurd cc
  shown-link from (suc count) before is = by (link_at es from) refl before is (shown-link (from + 1) count)
    where
      by : (o : Option (ℕ × Link U)) → link_at es from ≡ o → (before : List (ℕ × ℕ × Link U))
          → entry_before from o (links_among es (from + 1) count) ≡ before ++ e ∷ behind
          → ((rest : List (ℕ × ℕ × Link U)) → links_among es (from + 1) count ≡ rest ++ e ∷ behind → link_at es e.0 ≡ Some (e.1, e.2))
          → link_at es e.0 ≡ Some (e.1, e.2)
      by None at before is later = later before is
      by (Some x) at [] is later = let same : (from, x.0, x.1) ≡ e = cc in rw (← same) at
      by (Some x) at (b ∷ before) is later = later before (cc)

-- a refused item is one of the source's, and was shown with its pointer
module _ {P T U F : Type 0} (numbers : P → ℕ × ℕ) (step : F → P → Link U → Result T AllocError → F → Type 0) (f : F) (source : Chain U) (old new : Chain T) (last : F)
    (c : IsRefusedClone numbers step f source old new last) where
  abbrev refused : ℕ × ℕ × Link U
  refused = c.stops.refused

  pub refused-found : item_of source.entries (refused.0, refused.1) ≡ Some refused.2.item
  refused-found =
      let at = entry_at-link None None source.entries refused.0 ∙ ap (option_map (λ e. (e.0, e.1.item))) (shown-link source.entries refused c.stops.behind 1 source.capacity c.stops.before c.stops.split) in
      ap (item_if refused.1) at ∙ ap (λ b. cond b (Some refused.2.item) None) (eq-eqb refused.1 refused.1 refl)

  -- so there are entries
  pub refused-some : 0 < length source.entries
  refused-some = by source.entries refused-found
    where
      by : (es : List (Entry U)) → item_of es (refused.0, refused.1) ≡ Some refused.2.item → 0 < length es
      by [] found = absurd cc
      by (e ∷ es) found = omega arith
