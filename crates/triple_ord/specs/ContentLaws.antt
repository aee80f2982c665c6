-- How the calls of an ordered arena change its finite map. The impl of `ArenaTrait` cites these laws; no public clause does.
use Rattle.std.proofs.Common.{◌≡◌, ◌≢◌, ℕ, zero, suc, ◌+◌, ◌<◌, ◌≤◌, length, count_by, is_some, cond, replicate, Option, None, List, [], ◌∷◌, get_or, set, refl, sym, ap, ◌∙◌, arith, inl, inr}
use Rattle.std.proofs.{lemmas.Bool.Decides.eqb_tells, lemmas.Bool.Decides.leb_tells, lemmas.List.Sums.sum_by-cons}
use Rattle.std.specs.Option.{option_map}
use Rattle.arena_base.proofs.CallerLemmas.{limit_of-below}
use Rattle.ord_tree.specs.{Generation.next_generation, PlainArena.cleared as arena_cleared, PlainArena.with_item as arena_with_item, PlainArena.slot}
use Rattle.ord_tree.specs.PlainArena.{item_of, item_if, IsLawful, HoldsSame, arena_len, arena_capacity, removed as arena_removed, renewed as arena_renewed}
use Rattle.ord_tree.specs.Chain.{Entry, entry_at, times, IsSound, IsDistinct, without, with_generation, removed, renewed, cleared, item_of as item_among}
use Rattle.ord_tree.specs.{Chain.with_item_among, ChainCompression.lesser, Tree.Tree, Tree.with_item}
use Rattle.chain_base.proofs.CallerLemmas.{entry_at-absent, entry_at-with_item_among, entry_at-with_item_among_other, entry_at-without, entry_at-without_other}
use Rattle.chain_base.proofs.CallerLemmas.{entry_at-with_generation, entry_at-with_generation_other, lesser-zero, lesser-next, lesser-all}
use Rattle.triple_ord.specs.Content.{slots_from, content_of}

module _ {T : Type 0} where
  pub length-slots : (es : List (Entry T)) (from n : ℕ) → length (slots_from es from n) ≡ n
  length-slots es from zero = refl
  length-slots es from (suc n) = ap suc (length-slots es (from + 1) n)

  -- a slot holds the entry of its index
  pub slots-within : (es : List (Entry T)) (from n k : ℕ) → k < n → get_or (slots_from es from n) k None ≡ entry_at es (from + k)
  slots-within es from (suc n) zero h = ap (entry_at es) (let e : from ≡ from + 0 = omega arith in e)
  slots-within es from (suc n) (suc k) h =
      slots-within es (from + 1) n k (omega (arith, h)) ∙ ap (entry_at es) (let e : from + 1 + k ≡ from + suc k = omega arith in e)
  slots-within es from n k h = absurd (omega (arith, h))

  pub slots-beyond : (es : List (Entry T)) (from n k : ℕ) → n ≤ k → get_or (slots_from es from n) k None ≡ None
  slots-beyond es from zero k h = refl
  slots-beyond es from (suc n) zero h = absurd (omega (arith, h))
  slots-beyond es from (suc n) (suc k) h = slots-beyond es (from + 1) n k (omega (arith, h))

  -- lists with the same entries at these indexes have the same slots
  pub slots-alike : (es fs : List (Entry T)) (from n : ℕ) → ((i : ℕ) → from ≤ i → i < from + n → entry_at fs i ≡ entry_at es i)
      → slots_from fs from n ≡ slots_from es from n
  slots-alike es fs from zero same = refl
  slots-alike es fs from (suc n) same = ap (λ s. s ∷ slots_from fs (from + 1) n) (same from (omega arith) (omega arith))
      ∙ ap (λ ss. entry_at es from ∷ ss) (slots-alike es fs (from + 1) n (λ i least most. same i (omega (arith, least)) (omega (arith, most))))

  -- the slots of fs, which equals es except that `h` was applied at index i, and only to an entry
  module _ (h : Option (ℕ × T) → Option (ℕ × T)) (i : ℕ) (es fs : List (Entry T)) (here : entry_at fs i ≡ h (entry_at es i))
      (others : (k : ℕ) → k ≢ i → entry_at fs k ≡ entry_at es k) where
    slots-changed_from : (from n k : ℕ) → i ≡ from + k → slots_from fs from n ≡ set (slots_from es from n) k (h (get_or (slots_from es from n) k None))
    slots-changed_from from zero k is = refl
    slots-changed_from from (suc n) zero is =
        let at : i ≡ from = omega (arith, is) in
        ap (λ s. s ∷ slots_from fs (from + 1) n) (rw at at here)
        ∙ ap (λ ss. h (entry_at es from) ∷ ss) (slots-alike es fs (from + 1) n (λ j least most. others j (omega (arith, least, at))))
    slots-changed_from from (suc n) (suc k) is = ap (λ s. s ∷ slots_from fs (from + 1) n) (others from (omega (arith, is)))
        ∙ ap (λ ss. entry_at es from ∷ ss) (slots-changed_from (from + 1) n k (omega (arith, is)))

    slots-changed : h None ≡ None → (n : ℕ)
        → ◌≡◌ {A = List (Option (ℕ × T))} (None ∷ slots_from fs 1 n) (set (None ∷ slots_from es 1 n) i (h (get_or (None ∷ slots_from es 1 n) i None)))
    slots-changed none n = go i refl
      where
        go : (j : ℕ) → i ≡ j → None ∷ slots_from fs 1 n ≡ set (None ∷ slots_from es 1 n) j (h (get_or (None ∷ slots_from es 1 n) j None))
        go zero is = ap (λ ss. None ∷ ss) (slots-alike es fs 1 n (λ j least most. others j (omega (arith, least, is)))) ∙ ap (λ s. s ∷ slots_from es 1 n) (sym none)
        go (suc k) is = ap (λ ss. None ∷ ss) (slots-changed_from 1 n k (omega (arith, is)))

  pub content-written : (t : Tree T) (i : ℕ) (item : T) → content_of (with_item t i item) ≡ arena_with_item (content_of t) i item
  content-written t i item =
      let es = t.list.entries in
      ap (λ slots. record { slots = slots; vacant = t.list.vacant; generation = t.list.generation; maximum = t.list.maximum })
      (slots-changed (option_map (λ (e : ℕ × T). (e.0, item))) i es (with_item_among es i item) (entry_at-with_item_among es i item)
      (λ k other. entry_at-with_item_among_other es i k item other) refl t.list.capacity)

  pub capacity_is : (t : Tree T) → arena_capacity (content_of t) ≡ t.list.capacity
  capacity_is t = omega (arith, length-slots t.list.entries 1 t.list.capacity)

  -- neither index 0 nor an index beyond the capacity has an entry
  pub outside : (most : ℕ) (greatest : Option ℕ) (t : Tree T) → IsSound most greatest t.list → (i : ℕ)
      → ((0 < i) → (i ≤ t.list.capacity) → ⊥) → entry_at t.list.entries i ≡ None
  outside most greatest t sound i out = elim (eqb_tells (times i t.list.entries) 0) [
    | inl z ↦ entry_at-absent t.list.entries i z.1
    | inr z ↦ absurd (let inside = sound.within i (omega (arith, z.1)) in out inside.0 inside.1)
  ]

  -- each index has its entry
  pub slot_is : (most : ℕ) (greatest : Option ℕ) (t : Tree T) → IsSound most greatest t.list → (i : ℕ) → slot (content_of t) i ≡ entry_at t.list.entries i
  slot_is most greatest t sound zero = sym (outside most greatest t sound 0 (λ above within. omega (arith, above)))
  slot_is most greatest t sound (suc k) = elim (leb_tells (suc k) t.list.capacity) [
    | inl h ↦ slots-within t.list.entries 1 t.list.capacity k (omega (arith, h.1)) ∙ ap (entry_at t.list.entries) (let e : 1 + k ≡ suc k = omega arith in e)
    | inr h ↦ slots-beyond t.list.entries 1 t.list.capacity k (omega (arith, h.1)) ∙ sym (outside most greatest t sound (suc k) (λ above within. omega (arith, h.1, within)))
  ]

  pub item_is : (most : ℕ) (greatest : Option ℕ) (t : Tree T) → IsSound most greatest t.list → (p : ℕ × ℕ) → item_of (content_of t) p ≡ item_among t.list.entries p
  item_is most greatest t sound p = ap (item_if p.1) (slot_is most greatest t sound p.0)

  pub content_renewed : (greatest : Option ℕ) (t u : Tree T) (i : ℕ) → u ≡ record t { list = renewed greatest t.list i } → HoldsSame (content_of u) (arena_renewed greatest (content_of t) i)
  content_renewed greatest t u i is =
      let next = next_generation greatest t.list.generation in
      let es = t.list.entries in
      let slots = slots-changed (option_map (λ (e : ℕ × T). (next, e.1))) i es (with_generation es i next) (entry_at-with_generation es i next)
      (λ k other. entry_at-with_generation_other es i k next other) refl t.list.capacity in
      rw is (record { slots = slots; generation = refl; maximum = refl })

  module _ (most : ℕ) (greatest : Option ℕ) (t u : Tree T) (i : ℕ) (sound : IsSound most greatest t.list) where
    pub content_removed : u.list ≡ removed greatest t.list i → HoldsSame (content_of u) (arena_removed greatest (content_of t) i)
    content_removed is =
        let es = t.list.entries in
        let slots = slots-changed (λ s. None) i es (without i es) (entry_at-without es i sound.distinct) (λ k other. entry_at-without_other es i k other) refl t.list.capacity in
        rw is (record { slots = slots; generation = refl; maximum = refl })

  -- an empty list has no slot with an entry
  slots-empty : (from n : ℕ) → slots_from {T = T} [] from n ≡ replicate {A = Option (ℕ × T)} n None
  slots-empty from zero = refl
  slots-empty from (suc n) = ap (λ ss. None ∷ ss) (slots-empty (from + 1) n)

  pub content_cleared : (greatest : Option ℕ) (t u : Tree T) → u.list ≡ cleared greatest t.list → HoldsSame (content_of u) (arena_cleared greatest (content_of t))
  content_cleared greatest t u is =
      let count : suc t.list.capacity ≡ length (content_of t).slots = ap suc (sym (length-slots t.list.entries 1 t.list.capacity)) in
      rw is (record { slots = ap (λ ss. None ∷ ss) (slots-empty 1 t.list.capacity) ∙ ap (λ n. replicate n None) count; generation = refl; maximum = refl })

  -- an index has as many entries as its slot shows, one or none
  times-shown : (es : List (Entry T)) (i : ℕ) → IsDistinct es → cond (is_some (entry_at es i)) 1 0 ≡ times i es
  times-shown [] i distinct = refl
  times-shown (e ∷ es) i distinct = elim (eqb_tells e.index i) [
    | inl h ↦ let once : 1 + times i es ≤ 1 = rw h.0 at (distinct i) in rw h.0 (omega (arith, once))
    | inr h ↦ rw h.0 (omega (arith, times-shown es i (λ k. omega (arith, distinct k))))
  ]

  -- so the slots up to an index have as many entries as there are smaller indexes
  pub slots-counted : (es : List (Entry T)) → IsDistinct es → (from n : ℕ) → lesser es from + count_by is_some (slots_from es from n) ≡ lesser es (from + n)
  slots-counted es distinct from zero = let at : from + 0 ≡ from = omega arith in rw at (omega arith)
  slots-counted es distinct from (suc n) =
      let at : from + 1 + n ≡ from + suc n = omega arith in
      let met = sum_by-cons (λ (o : Option (ℕ × T)). cond (is_some o) 1 0) (entry_at es from) (slots_from es (from + 1) n) in
      omega (arith, slots-counted es distinct (from + 1) n, met, ap (lesser es) at, lesser-next es from, times-shown es from distinct)

  pub len_is : (most : ℕ) (greatest : Option ℕ) (t : Tree T) → IsSound most greatest t.list → arena_len (content_of t) ≡ length t.list.entries
  len_is most greatest t sound =
      let es = t.list.entries in
      let first = sum_by-cons (λ (o : Option (ℕ × T)). cond (is_some o) 1 0) None (slots_from es 1 t.list.capacity) in
      let counted = slots-counted es sound.distinct 1 t.list.capacity in
      let none : lesser es 1 ≡ 0 = lesser-next es 0 ∙ omega (arith, lesser-zero es, unnamed) in
      omega (arith, first, counted, none, lesser-all es (1 + t.list.capacity) (λ i there. let inside = sound.within i there in let most : i ≤ t.list.capacity = inside.1 in omega (arith, most)))
    where
      unnamed : times 0 t.list.entries ≡ 0
      unnamed = elim (eqb_tells (times 0 t.list.entries) 0) [
        | inl z ↦ z.1
        | inr z ↦ absurd (let inside = sound.within 0 (omega (arith, z.1)) in let above : 0 < 0 = inside.0 in omega (arith, above))
      ]

  -- true of every arena
  pub lawful_is : (most : ℕ) (greatest : Option ℕ) (t : Tree T) → IsSound most greatest t.list → IsLawful most greatest (content_of t)
  lawful_is most greatest t sound =
      record {
        begins = refl;
        within_capacity = rw (len_is most greatest t sound, capacity_is t) (omega (arith, sound.counted));
        within_limit = rw (capacity_is t) sound.within_limit;
        generation_lawful = sound.generation_lawful;
        entries_lawful = λ i. rw (slot_is most greatest t sound i) (sound.entries_lawful i);
      }

  -- the capacity is at most the greatest index
  pub capacity-within : (most : ℕ) (greatest : Option ℕ) (t : Tree T) → IsSound most greatest t.list → arena_capacity (content_of t) ≤ most
  capacity-within most greatest t sound = rw (capacity_is t) (omega (arith, sound.within_limit, limit_of-below most t.list.maximum))
