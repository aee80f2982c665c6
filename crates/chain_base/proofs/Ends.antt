-- What the calls that look up an entry find, in terms of the list.
use Rattle.std.proofs.Common.{◌≡◌, ℕ, ◌≤◌, List, ◌∷◌, Option, Some, None, IsSome, is_some, false, sym, ap, ◌∙◌, arith, option_map}
use Rattle.std.proofs.lemmas.Grind.{common_steps}
use Rattle.arena_base.specs.Arena.{Arena, slot, item_of as slot_item, IsFirstEntry, IsLastEntry}
use Rattle.chain_base.specs.Chain.{Entry, times, entry_at, link_at, last_or, last_pointer, pointed, item_of, generation_at, IsFirstIndex, IsLastIndex}
use Rattle.chain_base.specs.{Layout.chain_of, Link.Link}
use Rattle.chain_base.proofs.{Lists.times-here, Lists.times-there, Lists.times-last, Lists.times-unlinked, Lists.entry_at-link, Lists.entry_at-some, LaidOut.IsChainIn}

-- an option is some if the option it is mapped to is
pub some-of : {A B : Type 0} (f : A → B) (o : Option A) (p : Option B) → option_map f o ≡ p → IsSome p → IsSome o
some-of f o p same some = grind (arith, common_steps)

module _ {T : Type 0} where
  -- the pointer at the last index is the last pointer
  pub pointed-last : (es : List (Entry T)) (i : ℕ) → times i es ≤ 1 → last_or None es ≡ Some i → pointed i (entry_at es i) ≡ last_pointer es
  pointed-last (e ∷ f ∷ es) i once last = grind (arith, common_steps, pointed-last (f ∷ es) i, i, times-here, times-last, times-there)
  pointed-last es i once last = grind (arith, common_steps)

  pub last_pointer-none : (es : List (Entry T)) → last_or None es ≡ None → last_pointer es ≡ None
  last_pointer-none (e ∷ f ∷ es) none = last_pointer-none (f ∷ es) none
  last_pointer-none es none = grind (arith, common_steps)

  -- without an entry there is no link
  pub link_at-none : (es : List (Entry T)) (i : ℕ) → is_some (entry_at es i) ≡ false → None ≡ link_at es i
  link_at-none es i none = grind (arith, common_steps, i, entry_at-link None None es i)

  -- an entry has the generation of its slot
  pub generation_at-link : (es : List (Entry T)) (i : ℕ) (o : Option (ℕ × Link T)) → o ≡ link_at es i → generation_at es i ≡ option_map (λ e. e.0) o
  generation_at-link es i o links = grind (arith, common_steps, entry_at-link None None es i, i)

  pub IsFirstIndex-slot : (a : Arena (Link T)) (es : List (Entry T)) (i g : ℕ) → ((k : ℕ) → slot a k ≡ link_at es k) → IsFirstEntry a i g → IsFirstIndex es i g
  IsFirstIndex-slot a es i g links first =
      record { entry = generation_at-link es i (slot a i) (links i) ∙ first.entry; least = λ k below. times-unlinked None None es k (sym (links k) ∙ first.least k below) }

  pub IsLastIndex-slot : (a : Arena (Link T)) (es : List (Entry T)) (i g : ℕ) → ((k : ℕ) → slot a k ≡ link_at es k) → IsLastEntry a i g → IsLastIndex es i g
  IsLastIndex-slot a es i g links last =
      record { entry = generation_at-link es i (slot a i) (links i) ∙ last.entry; greatest = λ k above. times-unlinked None None es k (sym (links k) ∙ last.greatest k above) }

  -- The slots of an arena in terms of the chain in it.
  module _ (a : Arena (Link T)) (first last : Option ℕ) (laid : IsChainIn a first last) where
    pub entry_at-laid_out : (i : ℕ) → entry_at (chain_of a first).entries i ≡ option_map (λ e. (e.0, e.1.item)) (slot a i)
    entry_at-laid_out i = entry_at-link None None (chain_of a first).entries i ∙ ap (option_map (λ e. (e.0, e.1.item))) (sym (laid.links i))

    pub item_of-laid_out : (p : ℕ × ℕ) → item_of (chain_of a first).entries p ≡ option_map (λ l. l.item) (slot_item a p)
    item_of-laid_out p = grind (arith, common_steps, entry_at-laid_out p.0)

    pub contains-laid_out : (p : ℕ × ℕ) → is_some (slot_item a p) ≡ is_some (item_of (chain_of a first).entries p)
    contains-laid_out p = grind (arith, common_steps, item_of-laid_out p)

    -- an occupied index of the chain has a link in its slot
    pub occupied-laid_out : (i : ℕ) → IsSome (entry_at (chain_of a first).entries i) → IsSome (slot a i)
    occupied-laid_out i some = ap is_some (laid.links i) ∙ sym (entry_at-some (chain_of a first).entries i) ∙ some

  -- the pointer at the last index of a chain in an arena
  module _ {I : Type 0} (number : I → ℕ) (a : Arena (Link T)) (first : Option ℕ) (last : Option I) (laid : IsChainIn a first (option_map number last)) where
    pub last-found : (i : I) → last ≡ Some i → pointed (number i) (entry_at (chain_of a first).entries (number i)) ≡ last_pointer (chain_of a first).entries
    last-found i is = pointed-last (chain_of a first).entries (number i) (laid.distinct (number i)) (sym laid.last_is ∙ ap (option_map number) is)

    pub last-missing : last ≡ None → None ≡ last_pointer (chain_of a first).entries
    last-missing is = sym (last_pointer-none (chain_of a first).entries (sym laid.last_is ∙ ap (option_map number) is))
