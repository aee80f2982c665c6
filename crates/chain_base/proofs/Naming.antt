-- The state while the entries get the compressed indexes of their neighbours.
use Rattle.std.proofs.Common.{◌≡◌, ◌≢◌, ℕ, ◌+◌, ◌<◌, ◌≤◌, true, false, List, [], ◌∷◌, length, Option, Some, cond, None, IsSome, IfSome, ◌↔◌, is_some, count_by, take, get_or, refl, sym, ap, ◌∙◌, arith, if◌then◌else◌, inl, inr, option_map, option_and_then}
use Rattle.std.proofs.{lemmas.List.Sums.count_by_more_no, lemmas.List.Sums.count_by_more_yes, lemmas.Bool.Decides.eqb_tells}
use Rattle.std.proofs.{lemmas.Option.none-some, lemmas.Option.same_Some, lemmas.Grind.common_steps, lemmas.Bool.false≢true}
use Rattle.arena_base.specs.{Arena.Arena, Arena.slot, Pointer.named_of}
use Rattle.chain_base.specs.Naming.{neighbour_on, with_facing, linked_facing, named_neighbour, compressed_index_in, IsPaired, NamesCompressedIndexes}
use Rattle.chain_base.specs.{Chain.Entry, Chain.IsDistinct, Chain.times, declared.chain.compress.Side.Side, Layout.names, Link.Link}
use Rattle.chain_base.proofs.Renumbering.{opposite, beside, end_on, beside-occurs, facing, facing-back, end-is, end-occurs, end-none}
use Rattle.chain_base.proofs.{Vacancy.HoldIndexes, Vacancy.held-is, Vacancy.held-occurs, Lists.names_tells, LaidOut.Alike, LaidOut.alike-next, LaidOut.alike-prev}

module _ {T : Type 0} where
  -- the entries at indexes below c have passed on their compressed indexes; `count` is their number
  pub record NamedBelow (side : Side) (old now : Arena (Link T)) (count : ℕ) (end : Option ℕ) (c : ℕ) : Type 0 where
    pub met : (i k : ℕ) → i < c → named_neighbour side old i ≡ Some k → slot now k ≡ option_map (with_facing side (Some (compressed_index_in old i))) (slot old k)
    pub unmet : (k : ℕ) → ((i : ℕ) → i < c → named_neighbour side old i ≢ Some k) → slot now k ≡ slot old k
    pub end_is : (i : ℕ) → i < c → IsSome (slot old i) → named_neighbour side old i ≡ None → end ≡ Some (compressed_index_in old i)
    pub no_end : ((i : ℕ) → i < c → IsSome (slot old i) → named_neighbour side old i ≢ None) → end ≡ None
    pub counted : count ≡ count_by is_some (take c old.slots)
    pub fewer : count < c
    pub names_same : (i : ℕ) → named_neighbour side now i ≡ named_neighbour side old i
    pub alike : Alike now old

  -- at the beginning: slot 0 is vacant
  pub named_neighbour-begins : (side : Side) (a : Arena (Link T)) → take 1 a.slots ≡ None ∷ [] → NamedBelow side a a 0 None 1
  named_neighbour-begins side a begins = grind (arith, common_steps)

  -- a slot after the entry at an index, if one is given, got another neighbour
  module _ (side : Side) (a : Arena (Link T)) (at other : Option ℕ) (j : ℕ) where
    slot-facing : slot (linked_facing side a at other) j ≡ (if names at j then option_map (with_facing side other) (slot a j) else slot a j)
    slot-facing = grind (arith, common_steps)

  -- the arena has entries at the same indexes, with the same neighbours on the side itself
  alike-facing : (side : Side) (a b : Arena (Link T)) (at other : Option ℕ) → Alike a b → Alike (linked_facing side a at other) b
  alike-facing side a b at other same = grind (arith, common_steps, alike-next, alike-prev)

  names-facing : (side : Side) (a : Arena (Link T)) (at other : Option ℕ) (j : ℕ) → named_neighbour side (linked_facing side a at other) j ≡ named_neighbour side a j
  names-facing side a at other j = grind (arith, common_steps)

  module _ (side : Side) (old now : Arena (Link T)) (count : ℕ) (end : Option ℕ) (c : ℕ) (b : NamedBelow side old now count end c) (inside : c < length old.slots)
      (paired : IsPaired side old) where
    -- index c has passed on its compressed index: to the neighbour that it names, or as the end if it has an entry and names none
    module _ (next : Arena (Link T)) (more : ℕ) (last : Option ℕ)
        (slots : (j : ℕ) → slot next j ≡ (if names (named_neighbour side old c) j then option_map (with_facing side (Some (compressed_index_in old c))) (slot now j) else slot now j))
        (counted : more ≡ count_by is_some (take (c + 1) old.slots)) (fewer : more < c + 1)
        (same : (i : ℕ) → named_neighbour side next i ≡ named_neighbour side old i) (alike : Alike next old)
        (ends : IsSome (slot old c) → named_neighbour side old c ≡ None → last ≡ Some (compressed_index_in old c)) where
      told : ((IsSome (slot old c) → named_neighbour side old c ≢ None) → last ≡ end) → NamedBelow side old next more last (c + 1)
      told goes =
          record {
            met = λ i j within is. elim (eqb_tells i c) [
              | inl h ↦
                  let here : named_neighbour side old c ≡ Some j = cc in
                  let fresh : slot now j ≡ slot old j = b.unmet j (λ k less is'. let clash = paired.once k c j is' here in absurd (omega arith)) in
                  grind (arith, common_steps, slots j)
              | inr h ↦ grind (arith, common_steps, slots j, b.met i j, paired.once i c j, names_tells (named_neighbour side old c) j)
            ];
            unmet = λ j no. grind (arith, common_steps, slots j, no c, b.unmet j (λ i less. no i (omega arith)), names_tells (named_neighbour side old c) j);
            end_is = λ i within there is. elim (eqb_tells i c) [
              | inl h ↦ grind (arith, common_steps)
              | inr h ↦ goes (λ some none. h.1 (paired.alone i c there some is none)) ∙ b.end_is i (omega arith) there is
            ];
            no_end = λ no. goes (no c (omega arith)) ∙ b.no_end (λ i less. no i (omega arith));
            counted = counted;
            fewer = fewer;
            names_same = same;
            alike = alike;
          }

    -- the slot at c is vacant
    pub named_neighbour-vacant : slot now c ≡ None → NamedBelow side old now count end (c + 1)
    named_neighbour-vacant vacant =
        let empty : is_some (slot old c) ≡ false = sym (b.alike.held c) ∙ ap is_some vacant in
        let unnamed : named_neighbour side old c ≡ None = sym (b.names_same c) ∙ ap (option_and_then (λ e. neighbour_on side e.1)) vacant in
        told now count end (λ j. rw unnamed refl) (b.counted ∙ sym (count_by_more_no is_some old.slots c None inside empty)) (let f = b.fewer in omega arith)
        b.names_same b.alike (λ some. absurd (false≢true (sym empty ∙ some))) (λ some. refl)

    module _ (e : ℕ × Link T) (held : slot now c ≡ Some e) where
      is_held : is_some (slot old c) ≡ true
      is_held = sym (b.alike.held c) ∙ ap is_some held

      name : named_neighbour side old c ≡ neighbour_on side e.1
      name = sym (b.names_same c) ∙ ap (option_and_then (λ e. neighbour_on side e.1)) held

      -- the neighbour of the entry at c is an entry
      pub named_neighbour-target : (k : ℕ) → neighbour_on side e.1 ≡ Some k → IsSome (slot now k)
      named_neighbour-target k is = let there : is_some (slot old k) ≡ true = paired.there c k (name ∙ is) in b.alike.held k ∙ there

      -- its neighbour, if any, gets the compressed index
      module _ (o : Option ℕ) (is : o ≡ neighbour_on side e.1) (last : Option ℕ) (ends : is_some o ≡ false → last ≡ Some (count + 1))
          (goes : is_some o ≡ true → last ≡ end) (next : Arena (Link T)) where
        pub named_neighbour-step : next ≡ linked_facing side now o (Some (count + 1)) → NamedBelow side old next (count + 1) last (c + 1)
        named_neighbour-step linked =
            let here : named_neighbour side old c ≡ o = name ∙ sym is in
            let place : Some (count + 1) ≡ Some (compressed_index_in old c) = ap (λ n. Some (n + 1)) b.counted in
            told next (count + 1) last (λ j. rw (linked, here, ← place) (slot-facing side now o (Some (count + 1)) j))
            (ap (λ n. n + 1) b.counted ∙ sym (count_by_more_yes is_some old.slots c None inside is_held)) (let f = b.fewer in omega arith)
            (λ i. rw linked (names-facing side now o (Some (count + 1)) i ∙ b.names_same i)) (rw linked (alike-facing side now old o (Some (count + 1)) b.alike))
            (λ some none. ends (ap is_some (sym here ∙ none)) ∙ place) (λ some. goes (grind (arith, common_steps, some is_held)))

  -- an occupied index is within the slots
  held-inside : (slots : List (Option (ℕ × Link T))) (i : ℕ) → is_some (get_or slots i None) ≡ true → i < length slots
  held-inside slots i held = grind (arith, common_steps)

  -- an index that names a neighbour is within the slots
  named_neighbour-within : (side : Side) (a : Arena (Link T)) (i k : ℕ) → named_neighbour side a i ≡ Some k → i < length a.slots
  named_neighbour-within side a i k is = grind (arith, common_steps)

  -- in the end all have passed theirs on
  module _ (side : Side) (old now : Arena (Link T)) (count : ℕ) (end : Option ℕ) (c : ℕ) (b : NamedBelow side old now count end c) where
    pub named_neighbour-ends : length old.slots ≤ c → take 1 old.slots ≡ None ∷ [] → NamesCompressedIndexes side old now end
    named_neighbour-ends past begins =
        record {
          met = λ i k is. let within = named_neighbour-within side old i k is in b.met i k (omega arith) is;
          unmet = λ k no. b.unmet k (λ i less. no i);
          end_is = λ i held is. let within = held-inside old.slots i held in b.end_is i (omega arith) held is;
          no_end = λ no. b.no_end (λ i less. no i);
          kept = b.alike.kept;
          begins = begins;
          held = b.alike.held;
          within = b.alike.long;
        }

-- The result if an arena's links name the neighbours of a list on this side; `place` is the list's compressed index.
module _ {T : Type 0} (side : Side) (old : Arena (Link T)) (es : List (Entry T)) (distinct : IsDistinct es) (held : HoldIndexes old.slots es)
    (names : (i : ℕ) → named_neighbour side old i ≡ beside side es i) where
  pub paired : IsPaired side old
  paired = record {
    there = λ i k is. held-is old.slots es k held (beside-occurs (opposite side) es k i (facing side es distinct i k (sym (names i) ∙ is)));
    once = λ i j k is js. same_Some i j (sym (facing side es distinct i k (sym (names i) ∙ is)) ∙ facing side es distinct j k (sym (names j) ∙ js));
    alone = λ i j at_i at_j is js. same_Some i j (sym ((end-is side es i (held i ∙ ap (λ b. cond b 1 0) at_i)).0 (sym (names i) ∙ is))
        ∙ (end-is side es j (held j ∙ ap (λ b. cond b 1 0) at_j)).0 (sym (names j) ∙ js));
  }

  module _ (new : Arena (Link T)) (end : Option ℕ) (n : NamesCompressedIndexes side old new end) (place : ℕ → ℕ) (placed : (i : ℕ) → 1 ≤ times i es → compressed_index_in old i ≡ place i) where
    -- each entry has the compressed index of its neighbour on the other side
    module _ (k : ℕ) (ends : beside (opposite side) es k ≡ None → option_map (with_facing side None) (slot old k) ≡ slot old k) where
      pub learnt : slot new k ≡ option_map (with_facing side (option_map place (beside (opposite side) es k))) (slot old k)
      learnt = by (beside (opposite side) es k) refl
        where
          by : (o : Option ℕ) → beside (opposite side) es k ≡ o → slot new k ≡ option_map (with_facing side (option_map place o)) (slot old k)
          by None none = n.unmet k (λ i is. none-some i (sym none ∙ facing side es distinct i k (sym (names i) ∙ is))) ∙ sym (ends none)
          by (Some i) is =
              let back = facing-back side es distinct k i is in
              rw (← placed i (beside-occurs side es i k back)) (n.met i k (names i ∙ back))

    pub end-learnt : end ≡ option_map place (end_on side es)
    end-learnt = by (end_on side es) refl
      where
        by : (o : Option ℕ) → end_on side es ≡ o → end ≡ option_map place o
        by None none = n.no_end (λ i at is. let occurs = held-occurs old.slots es i held at in absurd (omega (arith, end-none side es i none)))
        by (Some x) is =
            let occurs = end-occurs side es x is in
            rw (← placed x occurs) (n.end_is x (held-is old.slots es x held occurs) (names x ∙ (end-is side es x (omega (arith, distinct x, occurs))).1 is))

-- the index made from a number within the limit
pub index-made : {I : Type 0} (number : I → ℕ) (most n : ℕ) (r : Option I) → (IsSome r ↔ ((0 < n) × (n ≤ most))) → IfSome r (λ i. number i ≡ n) → 0 < n → n ≤ most → option_map number r ≡ Some n
index-made number most n o made value above within = grind (arith, common_steps)

-- it can be named in a link
pub neighbour-above : (n : ℕ) → 0 < n → named_of (Some n) ≡ Some n
neighbour-above n above = elim (eqb_tells n 0) [ inl h ↦ absurd (omega arith) | inr h ↦ rw h.0 refl ]
